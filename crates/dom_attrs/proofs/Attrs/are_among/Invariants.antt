use Rattle.std.proofs.Common.{◌≡◌, true, take}
use Rattle.dom_model.specs.Definitions.{are_among}
use Rattle.dom_attrs.proofs.Attrs.are_among.Given as goal

abbrev pub invariant-loop-index : goal.invariant-loop-index
invariant-loop-index l = are_among (take l.index l.self) l.other ≡ true
