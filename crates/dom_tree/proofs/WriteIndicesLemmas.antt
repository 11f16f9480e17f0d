-- The indices of children written one after another, from place to place.
use Rattle.std.proofs.Common.{◌≡◌, ℕ, ◌+◌, ◌<◌, Option, Some, option_map, ap, sym, ◌∙◌, subst}
use Rattle.std.specs.Option.{ForSome}
use denote.RawPtr.{Ptr}
use Rattle.dom_model.specs.Definitions.{entry_at, next_in, IsHeld}
use Rattle.dom_model.specs.Forests.Arena.{IsSound}
use Rattle.dom_links.specs.Placed.{Placed, index_of, slot_of, slots_of, IsPlaced}
use Rattle.dom_tree.specs.{Places.with_arena, Slots.Kept, Slots.indexed}
use Rattle.dom_tree.proofs.{WrittenIndicesLemmas.IsWriting, WrittenIndicesLemmas.writing-still, WrittenIndicesLemmas.writing-next, PlaceTableLemmas.placed-still}

module _ {X : Type 0} {start now : Placed (Kept X)} (l : IsSound start.arena) (parent : Ptr) {from place until : ℕ} {tell : ℕ → ℕ} {next : Option Ptr} (w : IsWriting start.arena now.arena (slot_of start parent) from place until tell (slots_of start next)) (e : now.places ≡ start.places) (h : ForSome next (IsPlaced now)) (c : Ptr) (ec : next ≡ Some c) (t : Placed (Kept X)) (i : ℕ) (et : t ≡ with_arena (indexed now.arena (slot_of now c) i) now) where
  arena_t : t.arena ≡ indexed now.arena (slot_of start c) i
  arena_t = ap (λ (q : Placed (Kept X)). q.arena) et ∙ ap (λ ps. indexed now.arena (index_of ps c) i) e

  since : t.places ≡ now.places
  since = ap (λ (q : Placed (Kept X)). q.places) et

  pub written-places : t.places ≡ start.places
  written-places = since ∙ e

  pub written-placed : IsPlaced t c
  written-placed =
      placed-still t since c (h c ec)
      (subst (λ ps. IsHeld t.arena (index_of ps c)) (sym e) (writing-still l (slot_of start parent) w (slot_of start c) (ap (slots_of start) ec) t.arena i arena_t))

  pub written-next : place < until → i ≡ tell place → (next' : Option Ptr) → slots_of t next' ≡ next_in (entry_at t.arena) (slot_of t c) → IsWriting start.arena t.arena (slot_of start parent) from (place + 1) until tell (slots_of start next')
  written-next lt ei next' en =
      writing-next l (slot_of start parent) w (slot_of start c) (ap (slots_of start) ec) lt i ei t.arena arena_t (slots_of start next')
      (subst (λ ps. option_map (index_of ps) next' ≡ next_in (entry_at t.arena) (index_of ps c)) written-places en)
