-- A node of a tree, as a handle at its place stands for it.
use Rattle.std.specs.Prelude.{ℕ, Bool, List, Option, option_map, refl}
use Rattle.std.specs.Coded.{Coded, code_by, coded×, coded_ℕ}
use denote.RawPtr.{Ptr}
use Rattle.dom_model.specs.Forests.Forest.{Grove}
use Rattle.dom_model.specs.Forests.ForestCode.{grove_code}
use Rattle.dom_links.specs.Placed.{Placed, IsPlaced}
use Rattle.dom_tree.specs.Slots.{Kept}
use Rattle.dom_tree.specs.Places.{IsSeated}
use Rattle.dom_tree.specs.declared.tallies.Tally.{Tally}

-- a node of a tree, by its number
pub record Spot (X : Type 0) : Type 0 where
  pub tree : Grove X
  pub node : ℕ

abbrev pub spot_code : {X : Type 0} → Coded X → Coded (Spot X)
spot_code {X} c = code_by (Grove X × ℕ) (coded× (grove_code c) coded_ℕ) (λ s. (s.tree, s.node)) (λ p. record { tree = p.0; node = p.1 }) (λ _. refl)

module _ {X : Type 0} where
  -- the number of the node, where there is one
  abbrev pub node_at : Option (Spot X) → Option ℕ
  node_at spot = option_map (λ (s : Spot X). s.node) spot

  -- a place of the store's, whose table is that of a tree
  pub record IsSpot (s : Placed (Kept X)) (table : List (Option Ptr)) (p : Ptr) : Type 0 where
    pub live : ℕ
    pub strays : Bool
    pub blocks : List (ℕ × List ℕ)
    pub tallies : List (ℕ × Tally)
    pub seated : IsSeated s table live strays blocks tallies
    pub placed : IsPlaced s p
