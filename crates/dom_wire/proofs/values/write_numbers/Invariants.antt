use Rattle.std.proofs.Common.{◌≡◌, take, map, ◌++◌, ◌∷◌}
use Rattle.json.specs.Token.{begin_array}
use Rattle.dom_model.specs.Definitions.{number_json}
use Rattle.dom_wire.specs.Prints.{tokens_of_all}
use Rattle.dom_wire.proofs.values.write_numbers.Given as goal

abbrev pub invariant-loop-number : goal.invariant-loop-number
invariant-loop-number l = record {
  before : l.writer.before ≡ l.fn.writer.before;
  tokens : l.writer.tokens ≡ l.fn.writer.tokens ++ begin_array ∷ tokens_of_all (map number_json (take l.number-index l.numbers));
}
