-- A climb by handles: what is told of a node where it stands, told of the tree that is climbed.
use Rattle.std.proofs.Common.{◌≡◌, ℕ, List, ◌∷◌, [], Option, None, Some, refl, ap, sym, ◌∙◌}
use Rattle.dom_model.specs.Definitions.{Grove, HasNode, IsForest, parent_of, ancestors}
use Rattle.dom_model.proofs.Forests.{Entries.occurs-HasNode, Paths.root-path, Above.above}
use Rattle.dom_tree.specs.Spots.{Spot, node_at}

pub parent-told : {X : Type 0} (s : Spot X) (t : Grove X) → s.tree ≡ t → (above : Option (Spot X)) → node_at above ≡ parent_of s.tree.forest s.node → parent_of t.forest s.node ≡ node_at above
parent-told {X} s t e above h = ap (λ (u : Grove X). parent_of u.forest s.node) (sym e) ∙ sym h

-- the inclusive ancestors begin with the node itself
pub begins : {X : Type 0} {g : Grove X} → IsForest g → (n : ℕ) → HasNode g.forest n → (ms : List ℕ) × (ancestors n g.forest ≡ n ∷ ms)
begins {X} {g} s n h = go (parent_of g.forest n) refl
  where
    go : (o : Option ℕ) → parent_of g.forest n ≡ o → (ms : List ℕ) × (ancestors n g.forest ≡ n ∷ ms)
    go None up = ([], root-path g.forest s.once n (occurs-HasNode g.forest n h) up)
    go (Some q) up = let a = above s n q h up in (ancestors q g.forest, a.path)
