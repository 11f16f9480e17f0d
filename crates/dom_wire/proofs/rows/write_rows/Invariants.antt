use Rattle.std.proofs.Common.{◌≡◌, take, map, ◌++◌, ◌∷◌}
use Rattle.json.specs.Token.{begin_array}
use Rattle.dom_model.specs.Definitions.{row_json}
use Rattle.dom_wire.specs.Prints.{tokens_of_all}
use Rattle.dom_wire.proofs.rows.write_rows.Given as goal

abbrev pub invariant-loop-row : goal.invariant-loop-row
invariant-loop-row l = record {
  before : l.writer.before ≡ l.fn.writer.before;
  tokens : l.writer.tokens ≡ l.fn.writer.tokens ++ begin_array ∷ tokens_of_all (map row_json (take l.row-index l.rows));
}
