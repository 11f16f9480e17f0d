-- A child cut by place is cut by number.
use Rattle.std.proofs.Common.{IsSome, refl, sym, ap, ◌∙◌, subst}
use Rattle.dom_model.specs.Definitions.{Arena, entry_at, parent_in, unlinked, cut}
use Rattle.dom_links.specs.Placed.{Placed, index_of, slot_of}
use Rattle.dom_tree.specs.{Slots.Kept, Blocks.AreBlocked}
use Rattle.dom_tree.proofs.{SlotStepLemmas.parent-there, SlotStepLemmas.parent-still, SlotStepLemmas.cut-done, SlotStepLemmas.changed-shown, OwnedTrees.cut-tree, PutCutLemmas.cut-blocked, TalliesSoundLemmas.tallied-cut, PlaceTableLemmas.place-of_child, PlaceTableLemmas.slot-led, PlaceTableLemmas.placed-still, PlaceTableLemmas.parent-held, PlaceTableLemmas.unlinked-from, PlaceTableLemmas.seated, PlaceTableLemmas.same-places}
use Rattle.dom_tree.proofs.tree.Tree.cut.Goals as goal

pub place_of-place-requires : goal.place_of-place-requires
place_of-place-requires g c = place-of_child c.self.invariant c.self.view_is c.args.child c.requires

pub blocked_cut-requires-clause-placed : goal.blocked_cut-requires-clause-placed
blocked_cut-requires-clause-placed g c = c.place_of-place.ensures.placed c.place_of-place.result refl

pub blocked_cut-requires-clause-has_parent : goal.blocked_cut-requires-clause-has_parent
blocked_cut-requires-clause-has_parent g c = parent-there c.self.invariant.tree c.self.view_is c.args.child (slot_of c.self.inside.links c.place_of-place.result) (slot-led c.place_of-place.ensures) c.requires

pub blocked_cut-requires-clause-blocked : goal.blocked_cut-requires-clause-blocked
blocked_cut-requires-clause-blocked g c = c.self.invariant.blocked

pub tallied_cut-requires-clause-placed : goal.tallied_cut-requires-clause-placed
tallied_cut-requires-clause-placed g c = c.place_of-place.ensures.placed c.place_of-place.result refl

pub tallied_cut-requires-clause-has_parent : goal.tallied_cut-requires-clause-has_parent
tallied_cut-requires-clause-has_parent g c = parent-there c.self.invariant.tree c.self.view_is c.args.child (slot_of c.self.inside.links c.place_of-place.result) (slot-led c.place_of-place.ensures) c.requires

pub tallied_cut-requires-clause-tallied : goal.tallied_cut-requires-clause-tallied
tallied_cut-requires-clause-tallied g c = c.self.invariant.tallied

pub number_cut-requires-clause-placed : goal.number_cut-requires-clause-placed
number_cut-requires-clause-placed g c = c.place_of-place.ensures.placed c.place_of-place.result refl

pub number_cut-requires-clause-has_parent : goal.number_cut-requires-clause-has_parent
number_cut-requires-clause-has_parent g c = parent-there c.self.invariant.tree c.self.view_is c.args.child (slot_of c.self.inside.links c.place_of-place.result) (slot-led c.place_of-place.ensures) c.requires

pub unlink-requires-clause-has_parent : goal.unlink-requires-clause-has_parent
unlink-requires-clause-has_parent g c =
    let first = ap (λ (q : Placed (Kept g.row.X.Denot)). q.arena) c.number_cut.ensures in
    let places = ap (λ (q : Placed (Kept g.row.X.Denot)). q.places) c.number_cut.ensures in
    subst (λ ps. IsSome (parent_in (entry_at c.number_cut.new.links.arena (index_of ps c.place_of-place.result)))) (sym places)
    (parent-still c.self.invariant.tree c.self.view_is (slot_of c.self.inside.links c.place_of-place.result) c.number_cut.new.links.arena first (parent-there c.self.invariant.tree c.self.view_is c.args.child (slot_of c.self.inside.links c.place_of-place.result) (slot-led c.place_of-place.ensures) c.requires))

pub unlink-requires-clause-placed : goal.unlink-requires-clause-placed
unlink-requires-clause-placed g c =
    let first = ap (λ (q : Placed (Kept g.row.X.Denot)). q.arena) c.number_cut.ensures in
    let places = ap (λ (q : Placed (Kept g.row.X.Denot)). q.places) c.number_cut.ensures in
    let there = parent-still c.self.invariant.tree c.self.view_is (slot_of c.self.inside.links c.place_of-place.result) c.number_cut.new.links.arena first (parent-there c.self.invariant.tree c.self.view_is c.args.child (slot_of c.self.inside.links c.place_of-place.result) (slot-led c.place_of-place.ensures) c.requires) in
    placed-still c.number_cut.new.links places c.place_of-place.result (c.place_of-place.ensures.placed c.place_of-place.result refl) (parent-held (entry_at c.number_cut.new.links.arena (slot_of c.self.inside.links c.place_of-place.result)) there)

pub invariant_of-self : goal.invariant_of-self
invariant_of-self g c =
    let first = ap (λ (q : Placed (Kept g.row.X.Denot)). q.arena) c.number_cut.ensures in
    let places = ap (λ (q : Placed (Kept g.row.X.Denot)). q.places) c.number_cut.ensures in
    seated c.self.invariant c.unlink.new.self (c.unlink.ensures.places ∙ places)
    (cut-tree c.self.invariant.tree c.args.child (slot_of c.self.inside.links c.place_of-place.result) c.number_cut.new.links.arena c.unlink.new.self.arena first (unlinked-from c.self.inside.links c.number_cut.new.links places c.unlink.new.self c.place_of-place.result c.unlink.ensures.unlinked)
    (cut-done c.self.invariant.tree c.self.view_is c.state_law.ensures c.args.child (slot_of c.self.inside.links c.place_of-place.result) (slot-led c.place_of-place.ensures) c.requires c.number_cut.new.links.arena c.unlink.new.self.arena first (unlinked-from c.self.inside.links c.number_cut.new.links places c.unlink.new.self c.place_of-place.result c.unlink.ensures.unlinked)))
    (subst (λ (a : Arena (Kept g.row.X.Denot)). AreBlocked (entry_at a) c.blocked_cut.new.blocks)
    (sym (unlinked-from c.self.inside.links c.number_cut.new.links places c.unlink.new.self c.place_of-place.result c.unlink.ensures.unlinked ∙ ap (λ (a : Arena (Kept g.row.X.Denot)). unlinked a (slot_of c.self.inside.links c.place_of-place.result)) first))
    (cut-blocked c.self.invariant c.self.view_is c.state_law.ensures (slot_of c.self.inside.links c.place_of-place.result)
    (parent-there c.self.invariant.tree c.self.view_is c.args.child (slot_of c.self.inside.links c.place_of-place.result) (slot-led c.place_of-place.ensures) c.requires) c.blocked_cut.new.blocks c.blocked_cut.ensures))
    (tallied-cut c.self.inside.links.arena c.self.inside.tallies c.self.invariant.tallied c.state_law.ensures (slot_of c.self.inside.links c.place_of-place.result)
    (parent-there c.self.invariant.tree c.self.view_is c.args.child (slot_of c.self.inside.links c.place_of-place.result) (slot-led c.place_of-place.ensures) c.requires) c.tallied_cut.new.tallies c.tallied_cut.ensures c.unlink.new.self.arena
    (unlinked-from c.self.inside.links c.number_cut.new.links places c.unlink.new.self c.place_of-place.result c.unlink.ensures.unlinked ∙ ap (λ (a : Arena (Kept g.row.X.Denot)). unlinked a (slot_of c.self.inside.links c.place_of-place.result)) first))

pub returns : goal.returns
returns g c =
    let first = ap (λ (q : Placed (Kept g.row.X.Denot)). q.arena) c.number_cut.ensures in
    let places = ap (λ (q : Placed (Kept g.row.X.Denot)). q.places) c.number_cut.ensures in
    same-places c.self.inside.links c.unlink.new.self c.self.inside.table.items (c.unlink.ensures.places ∙ places)
    (changed-shown c.self.invariant.tree c.self.view_is c.unlink.new.self.arena (cut c.args.child)
    (cut-done c.self.invariant.tree c.self.view_is c.state_law.ensures c.args.child (slot_of c.self.inside.links c.place_of-place.result) (slot-led c.place_of-place.ensures) c.requires c.number_cut.new.links.arena c.unlink.new.self.arena first (unlinked-from c.self.inside.links c.number_cut.new.links places c.unlink.new.self c.place_of-place.result c.unlink.ensures.unlinked)).same)
