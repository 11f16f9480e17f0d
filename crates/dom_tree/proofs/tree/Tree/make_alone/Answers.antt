-- A node stored and named in the table is one more root.
use Rattle.std.proofs.Common.{◌≡◌, ℕ, List, [], ◌∷◌, ◌++◌, length, Option, Some, None, ap, sym, ◌∙◌, refl, subst, tests, rules, arith}
use Rattle.std.proofs.lemmas.List.{length-map}
use denote.RawPtr.{Ptr}
use Rattle.dom_model.specs.Definitions.{Arena, added, next_slot, entry_at, Label as PlainLabel}
use Rattle.dom_links.specs.Placed.{slots_of}
use Rattle.dom_tree.specs.{Places.slots_in, Blocks.AreBlocked, Slots.Kept, declared.tallies.Tally.Tally, Tallies.AreStarted}
use Rattle.dom_tree.proofs.{BlocksKept.blocked-added, TalliesSoundLemmas.tallied-make, StoreEntryLemmas.added-new, PlaceTableLemmas.made-read, PlaceTableLemmas.slots-made, PlaceTableLemmas.placed-made, SlotStepLemmas.made-is, SlotStepLemmas.made-keeps, SlotStepLemmas.made-shown, OwnedSteps.made-tree}
use Rattle.dom_tree.proofs.tree.Tree.make_alone.Goals as goal

pub invariant_of-self-2 : goal.invariant_of-self-2
invariant_of-self-2 g c =
    let x : Kept g.row.X.Denot = record { node = record { number = c.new-id.result; document = c.new-id.result; label = c.args.label; body = c.args.body }; index = 0; sure = 0; reach = 0; owned = 1 } in
    let added_is : c.add.new.self.arena ≡ added c.self.inside.links.arena x = c.in-Ok.ensures.added in
    let fresh : entry_at c.self.inside.links.arena c.in-Ok.slot ≡ None = c.in-Ok.ensures.fresh in
    let slot_is : c.in-Ok.slot ≡ next_slot c.self.inside.links.arena = c.in-Ok.ensures.slot in
    let pushed : c.push_reserved.new.self.items ≡ c.self.inside.table.items ++ Some c.place-place.result ∷ [] = c.push_reserved.ensures.items ∙ ap (λ (l : List (Option Ptr)). l ++ Some c.place-place.result ∷ []) c.reserve.ensures.items in
    let table_is : slots_in c.add.new.self c.push_reserved.new.self.items ≡ slots_in c.self.inside.links c.self.inside.table.items ++ Some c.in-Ok.slot ∷ [] = slots-made c.self.invariant c.add.new.self c.in-Ok.ensures.kept c.place-place.result c.push_reserved.new.self.items pushed ∙ ap (λ n. slots_in c.self.inside.links c.self.inside.table.items ++ Some n ∷ []) c.place-place.ensures.slot in
    let number_is : c.new-id.result ≡ length (slots_in c.self.inside.links c.self.inside.table.items) = c.new-id.ensures ∙ c.len.ensures ∙ ap length c.reserve.ensures.items ∙ sym (length-map c.self.inside.table.items (slots_of c.self.inside.links)) in
    let done = made-keeps c.self.invariant.tree c.self.view_is c.state_law.ensures x c.add.new.self.arena (slots_in c.add.new.self c.push_reserved.new.self.items) c.in-Ok.slot number_is fresh c.requires.room added_is slot_is table_is in
    let tree = made-tree c.self.invariant.tree c.state_law.ensures x c.add.new.self.arena (slots_in c.add.new.self c.push_reserved.new.self.items) c.in-Ok.slot number_is number_is refl fresh added_is slot_is table_is done in
    let began : AreStarted c.in-Ok.slot c.label.inside.kind c.self.inside.tallies c.start.new.self = subst (λ (t : List (ℕ × Tally)). AreStarted c.in-Ok.slot c.label.inside.kind t c.start.new.self) c.reserve-2.ensures c.start.ensures in
    let started : AreStarted c.in-Ok.slot c.args.label.kind c.self.inside.tallies c.start.new.self = subst (λ k. AreStarted c.in-Ok.slot k c.self.inside.tallies c.start.new.self) (ap (λ (l : PlainLabel). l.kind) c.label.view_is) began in
    record {
      tree = tree;
      placed = placed-made c.self.invariant c.add.new.self c.in-Ok.ensures.kept c.place-place.result c.push_reserved.new.self.items pushed c.place-place.ensures.placed;
      blocked = subst (λ (a : Arena (Kept g.row.X.Denot)). AreBlocked (entry_at a) c.self.inside.blocks) (sym added_is) (blocked-added c.state_law.ensures c.self.inside.blocks c.self.invariant.blocked x (ap (entry_at c.self.inside.links.arena) (sym slot_is) ∙ fresh));
      tallied = tallied-make c.self.inside.links.arena c.self.inside.tallies c.self.invariant.tallied c.state_law.ensures x c.in-Ok.slot fresh slot_is c.start.new.self started c.add.new.self.arena added_is;
    }

pub returns-clause-made : goal.returns-clause-made
returns-clause-made g c =
    let x : Kept g.row.X.Denot = record { node = record { number = c.new-id.result; document = c.new-id.result; label = c.args.label; body = c.args.body }; index = 0; sure = 0; reach = 0; owned = 1 } in
    let added_is : c.add.new.self.arena ≡ added c.self.inside.links.arena x = c.in-Ok.ensures.added in
    let fresh : entry_at c.self.inside.links.arena c.in-Ok.slot ≡ None = c.in-Ok.ensures.fresh in
    let slot_is : c.in-Ok.slot ≡ next_slot c.self.inside.links.arena = c.in-Ok.ensures.slot in
    let pushed : c.push_reserved.new.self.items ≡ c.self.inside.table.items ++ Some c.place-place.result ∷ [] = c.push_reserved.ensures.items ∙ ap (λ (l : List (Option Ptr)). l ++ Some c.place-place.result ∷ []) c.reserve.ensures.items in
    let table_is : slots_in c.add.new.self c.push_reserved.new.self.items ≡ slots_in c.self.inside.links c.self.inside.table.items ++ Some c.in-Ok.slot ∷ [] = slots-made c.self.invariant c.add.new.self c.in-Ok.ensures.kept c.place-place.result c.push_reserved.new.self.items pushed ∙ ap (λ n. slots_in c.self.inside.links c.self.inside.table.items ++ Some n ∷ []) c.place-place.ensures.slot in
    let number_is : c.new-id.result ≡ length (slots_in c.self.inside.links c.self.inside.table.items) = c.new-id.ensures ∙ c.len.ensures ∙ ap length c.reserve.ensures.items ∙ sym (length-map c.self.inside.table.items (slots_of c.self.inside.links)) in
    let done = made-keeps c.self.invariant.tree c.self.view_is c.state_law.ensures x c.add.new.self.arena (slots_in c.add.new.self c.push_reserved.new.self.items) c.in-Ok.slot number_is fresh c.requires.room added_is slot_is table_is in
    let m = number_is ∙ made-is c.self.invariant.tree c.self.view_is in
    let y : Kept g.row.X.Denot = record { node = record { number = c.args.self.now.made; document = c.args.self.now.made; label = c.args.label; body = c.args.body }; index = 0; sure = 0; reach = 0; owned = 1 } in
    made-shown c.self.invariant.tree c.self.view_is x y c.add.new.self.arena (slots_in c.add.new.self c.push_reserved.new.self.items) c.in-Ok.slot
    (λ i. record { number = m i; document = m i; label = c.args.label; body = c.args.body }) table_is done

pub reserve-requires : goal.reserve-requires
reserve-requires g c = omega (arith, c.requires.room, made-read c.self.invariant c.self.view_is)

pub place-place-requires : goal.place-place-requires
place-place-requires g c =
    let x : Kept g.row.X.Denot = record { node = record { number = c.new-id.result; document = c.new-id.result; label = c.args.label; body = c.args.body }; index = 0; sure = 0; reach = 0; owned = 1 } in
    let there = added-new c.self.inside.links.arena x c.state_law.ensures in
    let at = ap (λ (a : Arena (Kept g.row.X.Denot)). entry_at a c.in-Ok.slot) c.in-Ok.ensures.added ∙ ap (entry_at (added c.self.inside.links.arena x)) c.in-Ok.ensures.slot ∙ there in
    rw at refl

pub returns-in_default-clause-number : goal.returns-in_default-clause-number
returns-in_default-clause-number g c = search (tests, rules)

pub returns-in_default-clause-made : goal.returns-in_default-clause-made
returns-in_default-clause-made g c = search (tests, rules)

pub returns-in_default-clause-unchanged : goal.returns-in_default-clause-unchanged
returns-in_default-clause-unchanged g c = search (tests, rules)

pub returns-clause-number : goal.returns-clause-number
returns-clause-number g c = c.new-id.ensures ∙ c.len.ensures ∙ ap length c.reserve.ensures.items ∙ made-read c.self.invariant c.self.view_is

pub returns-clause-unchanged : goal.returns-clause-unchanged
returns-clause-unchanged g c = search (tests, rules)
