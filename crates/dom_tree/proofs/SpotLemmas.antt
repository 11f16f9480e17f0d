-- What the links say at a place, told of the node that stands there.
use Rattle.std.proofs.Common.{◌≡◌, List, length, Option, option_map, IfSome, refl, ap, ◌∙◌, subst}
use denote.RawPtr.{Ptr}
use Rattle.dom_model.specs.Definitions.{head_of, last_of, entry_at, parent_in, children_in, next_in, previous_in, Node, Grove, HasNode, entry_in, parent_of, children_of, next_of, previous_of}
use Rattle.dom_model.specs.Forests.Arena.{IsSound}
use Rattle.dom_links.specs.Placed.{Placed, slot_of, slots_of}
use Rattle.dom_tree.specs.{SpelledForest.shown, Slots.Kept, Slots.nodes_alone, Places.slots_in, Places.called, Places.Leads, Spots.Spot, Spots.IsSpot}
use Rattle.dom_tree.proofs.{PlaceTableLemmas.numbers-led, PlaceWalkLemmas.listed, PlaceWalkLemmas.stands, SlotStepLemmas.value-read, SlotStepLemmas.parent-read, SlotStepLemmas.first-read, SlotStepLemmas.last-read, SlotStepLemmas.next-read, SlotStepLemmas.previous-read}

module _ {X : Type 0} {s : Placed (Kept X)} {table : List (Option Ptr)} {p : Ptr} (k : IsSpot s table p) {spot : Spot X} (v : ◌≡◌ {A = Spot X} (record { tree = record { forest = shown (nodes_alone s.arena) (slots_in s table); made = length (slots_in s table) }; node = called s p }) spot) where
  pub tree-is : ◌≡◌ {A = Grove X} (record { forest = shown (nodes_alone s.arena) (slots_in s table); made = length (slots_in s table) }) spot.tree
  tree-is = ap (λ (a : Spot X). a.tree) v

  pub node-is : called s p ≡ spot.node
  node-is = ap (λ (a : Spot X). a.node) v

  pub spot-there : HasNode spot.tree.forest spot.node
  spot-there = subst (HasNode spot.tree.forest) node-is (stands k.seated.tree tree-is p k.placed)

  pub value-spot : {B : Type 0} (part : Node X → B) (x y : Kept X) → y ≡ x → IfSome (entry_at s.arena (slot_of s p)) (λ e. x ≡ e.value) → IfSome (entry_in spot.tree.forest spot.node) (λ e. part y.node ≡ part e.value)
  value-spot part x y e h =
      subst (λ n. IfSome (entry_in spot.tree.forest n) (λ e. part y.node ≡ part e.value)) node-is
      (value-read k.seated.tree tree-is part (called s p) (slot_of s p) (listed k.seated.tree tree-is p k.placed) x y e h)

  pub parent-spot : (r : Option Ptr) → Leads s r (parent_in (entry_at s.arena (slot_of s p))) → option_map (called s) r ≡ parent_of spot.tree.forest spot.node
  parent-spot r e =
      parent-read k.seated.tree tree-is (called s p) (slot_of s p) (slots_of s r) (option_map (called s) r) (listed k.seated.tree tree-is p k.placed) e.slot (numbers-led s r _ refl)
      ∙ ap (parent_of spot.tree.forest) node-is

  pub first-spot : (r : Option Ptr) → Leads s r (head_of (children_in (entry_at s.arena (slot_of s p)))) → option_map (called s) r ≡ head_of (children_of spot.tree.forest spot.node)
  first-spot r e =
      first-read k.seated.tree tree-is (called s p) (slot_of s p) (slots_of s r) (option_map (called s) r) (listed k.seated.tree tree-is p k.placed) e.slot (numbers-led s r _ refl)
      ∙ ap (λ n. head_of (children_of spot.tree.forest n)) node-is

  pub last-spot : (r : Option Ptr) → Leads s r (last_of (children_in (entry_at s.arena (slot_of s p)))) → option_map (called s) r ≡ last_of (children_of spot.tree.forest spot.node)
  last-spot r e =
      last-read k.seated.tree tree-is (called s p) (slot_of s p) (slots_of s r) (option_map (called s) r) (listed k.seated.tree tree-is p k.placed) e.slot (numbers-led s r _ refl)
      ∙ ap (λ n. last_of (children_of spot.tree.forest n)) node-is

  pub next-spot : IsSound s.arena → (r : Option Ptr) → Leads s r (next_in (entry_at s.arena) (slot_of s p)) → option_map (called s) r ≡ next_of spot.tree.forest spot.node
  next-spot l r e =
      next-read k.seated.tree tree-is l (called s p) (slot_of s p) (slots_of s r) (option_map (called s) r) (listed k.seated.tree tree-is p k.placed) e.slot (numbers-led s r _ refl)
      ∙ ap (next_of spot.tree.forest) node-is

  pub previous-spot : IsSound s.arena → (r : Option Ptr) → Leads s r (previous_in (entry_at s.arena) (slot_of s p)) → option_map (called s) r ≡ previous_of spot.tree.forest spot.node
  previous-spot l r e =
      previous-read k.seated.tree tree-is l (called s p) (slot_of s p) (slots_of s r) (option_map (called s) r) (listed k.seated.tree tree-is p k.placed) e.slot (numbers-led s r _ refl)
      ∙ ap (previous_of spot.tree.forest) node-is
