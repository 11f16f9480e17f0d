use Rattle.std.proofs.Common.{◌≡◌, take, map, ◌++◌, ◌∷◌}
use Rattle.json.specs.Token.{begin_array}
use Rattle.dom_model.specs.Definitions.{record_json}
use Rattle.dom_wire.specs.Prints.{tokens_of_all}
use Rattle.dom_wire.proofs.records.write_records.Given as goal

abbrev pub invariant-loop-record : goal.invariant-loop-record
invariant-loop-record l = record {
  before : l.writer.before ≡ l.fn.writer.before;
  tokens : l.writer.tokens ≡ l.fn.writer.tokens ++ begin_array ∷ tokens_of_all (map record_json (take l.record-index l.records));
}
