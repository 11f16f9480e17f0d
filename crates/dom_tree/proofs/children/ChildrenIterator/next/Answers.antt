-- What is left begins with the number of the node at the place, and goes on from the sibling after it.
use Rattle.std.proofs.Common.{length, sym, ap, ◌∙◌, rules}
use Rattle.dom_links.specs.Placed.{slot_of, slots_of}
use Rattle.dom_tree.specs.ChildrenFrom.{numbers_from}
use Rattle.dom_tree.proofs.ChildrenFromLemmas.{next-placed, numbers-next}
use Rattle.dom_tree.proofs.children.ChildrenIterator.next.Goals as goal

pub next-self-inside-requires : goal.next-self-inside-requires
next-self-inside-requires g c = c.self.invariant.placed c.in_ok-place.place (sym c.get.ensures ∙ c.in_ok-place.was)

pub number_of-requires : goal.number_of-requires
number_of-requires g c = c.self.invariant.placed c.in_ok-place.place (sym c.get.ensures ∙ c.in_ok-place.was)

pub invariant_of-self : goal.invariant_of-self
invariant_of-self g c = next-placed c.state_law.ensures c.in_ok-place.place c.next-self-inside.result c.next-self-inside.ensures.placed c.next-self-inside.ensures.slot

pub returns : goal.returns
returns g c =
    let s = c.self.inside.links.now in
    let is = sym c.get.ensures ∙ c.in_ok-place.was in
    let steps =
    sym c.self.view_is
    ∙ ap (numbers_from s) is
    ∙ numbers-next c.state_law.ensures (slot_of s c.in_ok-place.place) (c.self.invariant.child (slot_of s c.in_ok-place.place) (ap (slots_of s) is)) (slots_of s c.next-self-inside.result) c.number_of.result c.next-self-inside.ensures.slot c.number_of.ensures in
    let shorter = ap length steps in
    record { steps = steps; goes = search rules }
