use Rattle.std.proofs.Common.{◌≡◌, take, map, ◌++◌, ◌∷◌}
use Rattle.json.specs.Token.{begin_array}
use Rattle.dom_model.specs.Definitions.{attribute_json}
use Rattle.dom_wire.specs.Prints.{tokens_of_all}
use Rattle.dom_wire.proofs.rows.write_attributes.Given as goal

abbrev pub invariant-loop-index : goal.invariant-loop-index
invariant-loop-index l = record {
  before : l.writer.before ≡ l.fn.writer.before;
  tokens : l.writer.tokens ≡ l.fn.writer.tokens ++ begin_array ∷ tokens_of_all (map attribute_json (take l.index l.body.attributes));
}
