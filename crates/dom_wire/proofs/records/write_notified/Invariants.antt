use Rattle.std.proofs.Common.{◌≡◌, take, map, ◌++◌, ◌∷◌}
use Rattle.json.specs.Token.{begin_array}
use Rattle.dom_model.specs.Definitions.{told_json}
use Rattle.dom_wire.specs.Prints.{tokens_of_all}
use Rattle.dom_wire.proofs.records.write_notified.Given as goal

abbrev pub invariant-loop-one : goal.invariant-loop-one
invariant-loop-one l = record {
  before : l.writer.before ≡ l.fn.writer.before;
  tokens : l.writer.tokens ≡ l.fn.writer.tokens ++ begin_array ∷ tokens_of_all (map told_json (take l.one-index l.told));
}
