-- The root's slot is emptied, and its place in the table.
use Rattle.std.proofs.Common.{Some, None, slice_set, refl, sym, ap, ◌∙◌, subst, arith}
use Rattle.dom_model.specs.Definitions.{Arena, entry_at, Grove, parent_of, children_of}
use Rattle.dom_tree.specs.{Blocks.AreBlocked, Slots.Kept, NodeDocuments.document_in, Places.slots_in, Tallies.tally_but}
use Rattle.dom_tree.proofs.{BlocksKept.blocked-taken, TalliesSoundLemmas.tallied-take, SlotStepLemmas.held-slot, SlotStepLemmas.parent-none, SlotStepLemmas.children-none, SlotStepLemmas.take-live, SlotStepLemmas.take-done, SlotStepLemmas.take-shown, DocumentsKept.document-HasNode, OwnedSteps.taken-known, OwnedSteps.taken-tree, PlaceTableLemmas.place-held, PlaceTableLemmas.slot-led, PlaceTableLemmas.slots-taken, PlaceTableLemmas.placed-taken, PlaceTableLemmas.within}
use Rattle.dom_tree.proofs.tree.Tree.take_alone.Goals as goal

pub place_of-place-requires : goal.place_of-place-requires
place_of-place-requires g c =
    place-held c.self.invariant c.self.view_is c.args.id (document-HasNode c.args.self.now.forest c.args.id (rw c.requires.itself refl))

pub slot-slot-requires : goal.slot-slot-requires
slot-slot-requires g c = c.place_of-place.ensures.placed c.place_of-place.result refl

pub tallied_take-requires-clause-placed : goal.tallied_take-requires-clause-placed
tallied_take-requires-clause-placed g c = c.place_of-place.ensures.placed c.place_of-place.result refl

pub tallied_take-requires-clause-tallied : goal.tallied_take-requires-clause-tallied
tallied_take-requires-clause-tallied g c = c.self.invariant.tallied

pub take-item-requires-clause-held : goal.take-item-requires-clause-held
take-item-requires-clause-held g c = held-slot c.self.invariant.tree c.self.view_is c.args.id c.slot-slot.result (slot-led c.place_of-place.ensures ∙ ap Some (sym c.slot-slot.ensures))

pub take-item-requires-clause-no_parent : goal.take-item-requires-clause-no_parent
take-item-requires-clause-no_parent g c = parent-none c.self.invariant.tree c.self.view_is c.args.id c.slot-slot.result (slot-led c.place_of-place.ensures ∙ ap Some (sym c.slot-slot.ensures)) c.requires.no_parent

pub take-item-requires-clause-no_child : goal.take-item-requires-clause-no_child
take-item-requires-clause-no_child g c = children-none c.self.invariant.tree c.self.view_is c.args.id c.slot-slot.result (slot-led c.place_of-place.ensures ∙ ap Some (sym c.slot-slot.ensures)) c.requires.no_child

pub clear-requires : goal.clear-requires
clear-requires g c =
    let listed = place-held c.self.invariant c.self.view_is c.args.id (document-HasNode c.args.self.now.forest c.args.id (rw c.requires.itself refl)) in
    omega (arith, within c.self.inside.table.items c.args.id listed.there, c.number.ensures)

pub overflow_sub-self : goal.overflow_sub-self
overflow_sub-self g c = take-live c.self.invariant.tree c.self.view_is c.state_law.ensures c.args.id c.slot-slot.result (slot-led c.place_of-place.ensures ∙ ap Some (sym c.slot-slot.ensures)) c.requires.no_parent c.requires.no_child c.take-item.new.self.arena c.take-item.ensures.taken c.state_law-2.ensures

pub invariant_of-self : goal.invariant_of-self
invariant_of-self g c = record {
  tree =
      taken-tree c.self.invariant.tree c.args.id c.slot-slot.result (slot-led c.place_of-place.ensures ∙ ap Some (sym c.slot-slot.ensures))
      (ap (λ (q : Grove g.row.X.Denot). document_in q.forest c.args.id) c.self.view_is ∙ c.requires.itself)
      (ap (λ (q : Grove g.row.X.Denot). parent_of q.forest c.args.id) c.self.view_is ∙ c.requires.no_parent)
      (ap (λ (q : Grove g.row.X.Denot). children_of q.forest c.args.id) c.self.view_is ∙ c.requires.no_child)
      c.take-item.new.self.arena c.take-item.ensures.taken c.state_law-2.ensures (slots_in c.take-item.new.self c.clear.new.self.items) (slots-taken c.self.invariant c.take-item.new.self c.args.id c.slot-slot.result (slot-led c.place_of-place.ensures ∙ ap Some (sym c.slot-slot.ensures)) c.take-item.ensures.kept c.number.result c.number.ensures c.clear.new.self.items c.clear.ensures.items ∙ ap (λ n. slice_set (slots_in c.self.inside.links c.self.inside.table.items) n None) c.number.ensures) _
      (taken-known c.self.inside.strays _ (held-slot c.self.invariant.tree c.self.view_is c.args.id c.slot-slot.result (slot-led c.place_of-place.ensures ∙ ap Some (sym c.slot-slot.ensures))) c.take-item.result _ c.item.view_is c.take-item.ensures.value)
      (take-done c.self.invariant.tree c.self.view_is c.state_law.ensures c.args.id c.slot-slot.result (slot-led c.place_of-place.ensures ∙ ap Some (sym c.slot-slot.ensures)) c.requires.no_parent c.requires.no_child c.take-item.new.self.arena c.take-item.ensures.taken c.state_law-2.ensures c.number.result (slots_in c.take-item.new.self c.clear.new.self.items) c.number.ensures (slots-taken c.self.invariant c.take-item.new.self c.args.id c.slot-slot.result (slot-led c.place_of-place.ensures ∙ ap Some (sym c.slot-slot.ensures)) c.take-item.ensures.kept c.number.result c.number.ensures c.clear.new.self.items c.clear.ensures.items));
  placed = placed-taken c.self.invariant c.take-item.new.self c.args.id c.slot-slot.result (slot-led c.place_of-place.ensures ∙ ap Some (sym c.slot-slot.ensures)) c.take-item.ensures.kept c.number.result c.number.ensures c.clear.new.self.items c.clear.ensures.items;
  blocked =
      subst (λ (a : Arena (Kept g.row.X.Denot)). AreBlocked (entry_at a) c.remove.new.self) (sym c.take-item.ensures.taken)
      (blocked-taken c.state_law.ensures c.self.inside.blocks c.self.invariant.blocked c.slot-slot.result
      (parent-none c.self.invariant.tree c.self.view_is c.args.id c.slot-slot.result (slot-led c.place_of-place.ensures ∙ ap Some (sym c.slot-slot.ensures)) c.requires.no_parent)
      c.remove.new.self c.remove.ensures);
  tallied =
      tallied-take c.self.inside.links.arena c.self.inside.tallies c.self.invariant.tallied c.state_law.ensures c.slot-slot.result
      (parent-none c.self.invariant.tree c.self.view_is c.args.id c.slot-slot.result (slot-led c.place_of-place.ensures ∙ ap Some (sym c.slot-slot.ensures)) c.requires.no_parent)
      c.tallied_take.new.tallies (λ q. c.tallied_take.ensures q ∙ ap (λ n. tally_but n None c.self.inside.tallies q) (sym c.slot-slot.ensures)) c.take-item.new.self.arena c.take-item.ensures.taken;
}

pub returns : goal.returns
returns g c = take-shown c.self.invariant.tree c.self.view_is c.state_law.ensures c.args.id c.slot-slot.result (slot-led c.place_of-place.ensures ∙ ap Some (sym c.slot-slot.ensures)) c.requires.no_parent c.requires.no_child c.take-item.new.self.arena c.take-item.ensures.taken c.state_law-2.ensures c.number.result (slots_in c.take-item.new.self c.clear.new.self.items) c.number.ensures (slots-taken c.self.invariant c.take-item.new.self c.args.id c.slot-slot.result (slot-led c.place_of-place.ensures ∙ ap Some (sym c.slot-slot.ensures)) c.take-item.ensures.kept c.number.result c.number.ensures c.clear.new.self.items c.clear.ensures.items)
