-- A node goes into another document: the steps of that by place.
use Rattle.std.proofs.Common.{◌≡◌, ℕ, ◌+◌, ◌-◌, ◌<◌, ◌^◌, Bool, false, List, length, Option, Some, refl, ap, sym, ◌∙◌, subst}
use denote.RawPtr.{Ptr}
use Rattle.dom_model.specs.Definitions.{entry_at, IsHeld, Grove, with_node, in_document}
use Rattle.dom_links.specs.Placed.{Placed, index_of, slot_of, IsPlaced}
use Rattle.dom_tree.specs.{Places.slots_in, Places.with_arena, Places.Leads, Places.ArePlaced, Places.IsListed, Places.IsSeated, SpelledForest.slot_in, SpelledForest.shown, Blocks.AreBlocked, declared.tallies.Tally.Tally, Tallies.AreTallied, Slots.Kept, Slots.nodes_alone, Slots.with_owned, Slots.with_document, Slots.document_in_slot, Slots.owned_in, Slots.homed, Slots.one_more, Slots.one_less}
use Rattle.dom_tree.proofs.{SlotStepLemmas.changed-shown, BlocksKept.blocked-altered, OwnedTrees.owning-nodes, TalliesSoundLemmas.tallied-kept, PlaceTableLemmas.slot-led, PlaceTableLemmas.slot-back, PlaceTableLemmas.placed-still, PlaceTableLemmas.still-placed, PlaceTableLemmas.listed-still, PlaceTableLemmas.seated, PlaceTableLemmas.same-places}
use Rattle.dom_tree.proofs.OwnedSteps as owned

module _ {X : Type 0} {s : Placed (Kept X)} {table : List (Option Ptr)} {live : ℕ} {strays : Bool} {blocks : List (ℕ × List ℕ)} {tallies : List (ℕ × Tally)} (k : IsSeated s table live strays blocks tallies) (n : ℕ) {p : Ptr} (lp : Leads s (Some p) (slot_in (slots_in s table) n)) (former d : ℕ) (was : document_in_slot (entry_at s.arena (slot_of s p)) ≡ Some former) (t : Placed (Kept X)) (et : t ≡ with_arena (homed s.arena (slot_of s p) d) s) where
  places_t : t.places ≡ s.places
  places_t = ap (λ (q : Placed (Kept X)). q.places) et

  arena_t : t.arena ≡ homed s.arena (slot_of s p) d
  arena_t = ap (λ (q : Placed (Kept X)). q.arena) et

  pub moved-placed : ArePlaced t table
  moved-placed = still-placed k t places_t (owned.moved-stays k.tree n (slot_of s p) (slot-led lp) former d was t.arena arena_t).kept

  blocked_t : AreBlocked (entry_at t.arena) blocks
  blocked_t = subst (λ a. AreBlocked (entry_at a) blocks) (sym arena_t) (blocked-altered (with_document d) (λ q. refl) (λ q. refl) s.arena (slot_of s p) blocks k.blocked)

  tallied_t : AreTallied (entry_at (nodes_alone t.arena)) tallies
  tallied_t = subst (λ a. AreTallied (entry_at (nodes_alone a)) tallies) (sym arena_t) (tallied-kept (with_document d) (in_document d) (λ q. refl) (λ q. refl) s.arena (slot_of s p) tallies k.tallied)

  -- where it may be in none, there is no count
  pub strayed-seated : (strays' : Bool) → (strays' ≡ false → ⊥) → IsSeated t table live strays' blocks tallies
  strayed-seated strays' never = seated k t places_t (owned.strayed-tree k.tree n (slot_of s p) (slot-led lp) former d was t.arena arena_t strays' never) blocked_t tallied_t

  pub moved-shown : {w : Grove X} → record { forest = shown (nodes_alone s.arena) (slots_in s table); made = length (slots_in s table) } ≡ w → ◌≡◌ {A = Grove X} (record { forest = shown (nodes_alone t.arena) (slots_in t table); made = length (slots_in t table) }) (record { forest = with_node n (in_document d) w.forest; made = w.made })
  moved-shown v =
      same-places s t table places_t (changed-shown k.tree v t.arena (with_node n (in_document d)) (owned.moved-stays k.tree n (slot_of s p) (slot-led lp) former d was t.arena arena_t).same)

  module _ (none : strays ≡ false) where
    pub former-listed : IsListed t table former
    former-listed =
        listed-still k t places_t (owned.moved-stays k.tree n (slot_of s p) (slot-led lp) former d was t.arena arena_t).kept former (owned.former-slot k.tree n (slot_of s p) (slot-led lp) former d was t.arena arena_t none)

    module _ (from to : Ptr) (lf : Leads t (Some from) (slot_in (slots_in t table) former)) (lt : Leads t (Some to) (slot_in (slots_in t table) d)) where
      from_slot : slot_in (slots_in s table) former ≡ Some (slot_of s from)
      from_slot = slot-back s t places_t table former from lf

      to_slot : slot_in (slots_in s table) d ≡ Some (slot_of s to)
      to_slot = slot-back s t places_t table d to lt

      pub from-some : 0 < owned_in (entry_at t.arena (slot_of t from))
      from-some =
          subst (λ ps. 0 < owned_in (entry_at t.arena (index_of ps from))) (sym places_t) (owned.from-some k.tree n (slot_of s p) (slot-led lp) former d was t.arena arena_t none (slot_of s from) (slot_of s to) from_slot to_slot)

      module _ (u : Placed (Kept X)) (eu : u ≡ with_arena (one_less t.arena (slot_of t from)) t) where
        places_ut : u.places ≡ t.places
        places_ut = ap (λ (q : Placed (Kept X)). q.places) eu

        places_u : u.places ≡ s.places
        places_u = places_ut ∙ places_t

        arena_u : u.arena ≡ one_less t.arena (slot_of s from)
        arena_u = ap (λ (q : Placed (Kept X)). q.arena) eu ∙ ap (λ ps. one_less t.arena (index_of ps from)) places_t

        blocked_u : AreBlocked (entry_at u.arena) blocks
        blocked_u = subst (λ a. AreBlocked (entry_at a) blocks) (sym arena_u) (blocked-altered (with_owned (owned_in (entry_at t.arena (slot_of s from)) - 1)) (λ q. refl) (λ q. refl) t.arena (slot_of s from) blocks blocked_t)

        tallied_u : AreTallied (entry_at (nodes_alone u.arena)) tallies
        tallied_u = subst (λ a. AreTallied (entry_at a) tallies) (sym (ap nodes_alone arena_u ∙ owning-nodes t.arena (slot_of s from) (owned_in (entry_at t.arena (slot_of s from)) - 1))) tallied_t

        pub to-placed : IsPlaced u to
        to-placed =
            placed-still u places_ut to (lt.placed to refl)
            (subst (λ ps. IsHeld u.arena (index_of ps to)) (sym places_t) (owned.to-held k.tree n (slot_of s p) (slot-led lp) former d was t.arena arena_t none (slot_of s from) (slot_of s to) from_slot to_slot u.arena arena_u))

        pub to-few : owned_in (entry_at u.arena (slot_of u to)) + 1 < 2 ^ 32
        to-few =
            subst (λ ps. owned_in (entry_at u.arena (index_of ps to)) + 1 < 2 ^ 32) (sym places_u) (owned.to-few k.tree n (slot_of s p) (slot-led lp) former d was t.arena arena_t none (slot_of s from) (slot_of s to) from_slot to_slot u.arena arena_u)

        module _ (x : Placed (Kept X)) (ex : x ≡ with_arena (one_more u.arena (slot_of u to)) u) where
          places_x : x.places ≡ s.places
          places_x = ap (λ (q : Placed (Kept X)). q.places) ex ∙ places_u

          arena_x : x.arena ≡ one_more u.arena (slot_of s to)
          arena_x = ap (λ (q : Placed (Kept X)). q.arena) ex ∙ ap (λ ps. one_more u.arena (index_of ps to)) places_u

          blocked_x : AreBlocked (entry_at x.arena) blocks
          blocked_x = subst (λ a. AreBlocked (entry_at a) blocks) (sym arena_x) (blocked-altered (with_owned (owned_in (entry_at u.arena (slot_of s to)) + 1)) (λ q. refl) (λ q. refl) u.arena (slot_of s to) blocks blocked_u)

          tallied_x : AreTallied (entry_at (nodes_alone x.arena)) tallies
          tallied_x = subst (λ a. AreTallied (entry_at a) tallies) (sym (ap nodes_alone arena_x ∙ owning-nodes u.arena (slot_of s to) (owned_in (entry_at u.arena (slot_of s to)) + 1))) tallied_u

          pub counted-seated : IsSeated x table live strays blocks tallies
          counted-seated =
              seated k x places_x (owned.moved-tree k.tree n (slot_of s p) (slot-led lp) former d was t.arena arena_t none (slot_of s from) (slot_of s to) from_slot to_slot u.arena arena_u x.arena arena_x) blocked_x tallied_x

          pub counted-shown : {w : Grove X} → record { forest = shown (nodes_alone s.arena) (slots_in s table); made = length (slots_in s table) } ≡ w → ◌≡◌ {A = Grove X} (record { forest = shown (nodes_alone x.arena) (slots_in x table); made = length (slots_in x table) }) (record { forest = with_node n (in_document d) w.forest; made = w.made })
          counted-shown v =
              same-places s x table places_x (changed-shown k.tree v x.arena (with_node n (in_document d)) (owned.moved-same k.tree n (slot_of s p) (slot-led lp) former d was t.arena arena_t none (slot_of s from) (slot_of s to) from_slot to_slot u.arena arena_u x.arena arena_x))
