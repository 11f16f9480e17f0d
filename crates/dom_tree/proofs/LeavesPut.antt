-- A leaf that a parent takes, put by place.
use Rattle.std.proofs.Common.{◌≡◌, ℕ, Bool, true, false, ◌&&◌, List, length, Option, Some, None, IfSome, is_some, ap, sym, ◌∙◌, refl, subst}
use Rattle.std.proofs.lemmas.Bool.{false≢true}
use denote.RawPtr.{Ptr}
use Rattle.dom_model.specs.Definitions.{among, head_of, Entry, Node, Grove, HasNode, entry_in, ancestors, IsForest, may_stand_in, entry_has}
use Rattle.dom_model.proofs.Forests.ToTheRoot.{inside-same}
use Rattle.dom_links.specs.Placed.{Placed}
use Rattle.dom_tree.specs.{Slots.Kept, Slots.nodes_alone, SpelledForest.slot_in, SpelledForest.shown, PutConditions.takes_leaf, PutConditions.MayStand, PutConditions.IsLeafFor, declared.tallies.Tally.Tally, Places.slots_in, Places.called, Places.Leads, Places.IsSeated}
use Rattle.dom_tree.proofs.{RefersLemmas.inside-alone, PlaceWalkLemmas.led, PlaceWalkLemmas.begins, SlotStepLemmas.holds-read}

first_of : (a b : Bool) → (a && b) ≡ true → a ≡ true
first_of true b e = refl
first_of false b e = e

-- no link leads nowhere
pub led-nowhere : {X : Type 0} {s : Placed (Kept X)} (link : Option Ptr) → link ≡ None → Leads s link None
led-nowhere None e = record { slot = refl; placed = λ p d. absurd (cc d) }
led-nowhere (Some p) e = absurd (cc e)

module _ {X : Type 0} {g : Grove X} (s : IsForest g) {parent leaf : ℕ} (i : IsLeafFor g.forest parent leaf) where
  -- the parent is not inside it
  pub leaf-outside : among leaf (ancestors parent g.forest) ≡ false
  leaf-outside = inside-same s leaf parent ∙ inside-alone s leaf i.leaf_there (ap head_of i.childless) parent ∙ i.apart

  pub leaf-may : MayStand g.forest parent leaf
  leaf-may = go (entry_in g.forest parent) (entry_in g.forest leaf) i.kinds
    where
      go : (p l : Option (Entry (Node X))) → entry_has (λ k. entry_has (takes_leaf k) l) p ≡ true → IfSome p (λ a. IfSome l (λ b. may_stand_in a.value.label.kind b.value.label.kind ≡ true))
      go None l e = tt
      go (Some a) None e = tt
      go (Some a) (Some b) e = first_of _ _ e

module _ {X : Type 0} {s : Placed (Kept X)} {table : List (Option Ptr)} {live : ℕ} {strays : Bool} {blocks : List (ℕ × List ℕ)} {tallies : List (ℕ × Tally)} (k : IsSeated s table live strays blocks tallies) {w : Grove X} (v : record { forest = shown (nodes_alone s.arena) (slots_in s table); made = length (slots_in s table) } ≡ w) where
  -- what was asked of places holds of their numbers
  pub leaf-led : (parent leaf : ℕ) {above below : Ptr} → Leads s (Some above) (slot_in (slots_in s table) parent) → Leads s (Some below) (slot_in (slots_in s table) leaf) → IsLeafFor (shown (nodes_alone s.arena) (slots_in s table)) (called s above) (called s below) → IsLeafFor w.forest parent leaf
  leaf-led parent leaf {above} {below} la lb i =
      subst (λ (h : Grove X). IsLeafFor h.forest parent leaf) v
      (subst (λ m. IsLeafFor (shown (nodes_alone s.arena) (slots_in s table)) m leaf) (begins k.tree v parent above la).1
      (subst (IsLeafFor (shown (nodes_alone s.arena) (slots_in s table)) (called s above)) (begins k.tree v leaf below lb).1 i))

  pub leaf-back : (parent leaf : ℕ) {above below : Ptr} → Leads s (Some above) (slot_in (slots_in s table) parent) → Leads s (Some below) (slot_in (slots_in s table) leaf) → IsLeafFor w.forest parent leaf → IsLeafFor (shown (nodes_alone s.arena) (slots_in s table)) (called s above) (called s below)
  leaf-back parent leaf {above} {below} la lb i =
      subst (IsLeafFor (shown (nodes_alone s.arena) (slots_in s table)) (called s above)) (sym (begins k.tree v leaf below lb).1)
      (subst (λ m. IsLeafFor (shown (nodes_alone s.arena) (slots_in s table)) m leaf) (sym (begins k.tree v parent above la).1)
      (subst (λ (h : Grove X). IsLeafFor h.forest parent leaf) (sym v) i))

  -- no node has a number whose place leads nowhere
  pub nowhere-held : (n : ℕ) (o : Option Ptr) → o ≡ None → Leads s o (slot_in (slots_in s table) n) → ¬ HasNode w.forest n
  nowhere-held n o e l h = absurd (false≢true (ap is_some (led e l).slot ∙ holds-read k.tree v n ∙ h))
