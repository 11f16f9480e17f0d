-- As many places ahead as steps were made.
use Rattle.dom_links.specs.Placed.{slot_of, IsPlaced}
use Rattle.dom_tree.proofs.WrittenIndicesLemmas.{IsAhead}
use Rattle.dom_tree.proofs.index_updates.child_ahead.Given as goal

abbrev pub invariant-loop-passed : goal.invariant-loop-passed
invariant-loop-passed g l = record {
  ahead : IsAhead l.fn.links.arena (slot_of l.fn.links l.fn.parent) (slot_of l.fn.links l.fn.child) (slot_of l.fn.links l.here) l._passed l.fn.steps;
  placed : IsPlaced l.fn.links l.here;
}
