use Rattle.std.proofs.Common.{◌≡◌, take}
use Rattle.dom_attrs.proofs.Attrs.is_in_order_of.Given as goal

abbrev pub invariant-loop-index : goal.invariant-loop-index
invariant-loop-index l = take l.index l.self ≡ take l.index l.other
