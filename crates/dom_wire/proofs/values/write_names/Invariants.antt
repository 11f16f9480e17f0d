use Rattle.std.proofs.Common.{◌≡◌, take, map, ◌++◌, ◌∷◌, string_bytes}
use Rattle.json.specs.Token.{begin_array}
use Rattle.serde_json.specs.Data.{string}
use Rattle.dom_wire.specs.Prints.{tokens_of_all}
use Rattle.dom_wire.proofs.values.write_names.Given as goal

abbrev pub invariant-loop-name : goal.invariant-loop-name
invariant-loop-name l = record {
  before : l.writer.before ≡ l.fn.writer.before;
  tokens : l.writer.tokens ≡ l.fn.writer.tokens ++ begin_array ∷ tokens_of_all (map (λ name. string (string_bytes name)) (take l.name-index l.names));
}
