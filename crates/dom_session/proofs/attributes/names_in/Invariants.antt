use Rattle.std.proofs.Common.{◌≡◌, take, map, string_bytes}
use Rattle.dom_model.specs.Definitions.{attribute_names}
use Rattle.dom_session.proofs.attributes.names_in.Given as goal

abbrev pub invariant-loop-index : goal.invariant-loop-index
invariant-loop-index l = map string_bytes l.names.items ≡ attribute_names (take l.index l.content.attributes)
