-- Weights and counts of numbers over a changed forest.
use Rattle.std.proofs.Common.{◌≡◌, ℕ, ◌+◌, ◌*◌, Option, refl, arith, ◌≤◌}
use Rattle.std.proofs.lemmas.Bool.Decides.{nat_tests}
use Rattle.dom_model.specs.Definitions.{Node, Forest, empty, node, total, occurs, beside, tree_at, without, placed_before, placed_under, placed_root, cut, put, one_at}

-- a number stands in a forest at most once
abbrev pub IsOnce : {X : Type 0} → Forest X → Type 0
IsOnce f = (n : ℕ) → occurs n f ≤ 1

module _ {X : Type 0} where
  pub total-beside : (w : ℕ → ℕ) (f g : Forest X) → total w (beside f g) ≡ total w f + total w g
  total-beside w empty g = omega arith
  total-beside w (node x kids rest) g = omega (arith, total-beside w rest g)

  pub total-tree_at : (w : ℕ → ℕ) (n : ℕ) (f : Forest X) → total w (tree_at n f) + total w (without n f) ≡ total w f
  total-tree_at w n empty = refl
  total-tree_at w n (node x kids rest) = grind (arith, total-tree_at w n rest, total-beside w (tree_at n kids) (tree_at n rest), total-tree_at w n kids)

  pub total-placed_before : (w : ℕ → ℕ) (b : Option ℕ) (t f : Forest X) → total w (placed_before b t f) ≡ total w f + total w t
  total-placed_before w b t empty = omega arith
  total-placed_before w b t (node x kids rest) = grind (arith, total-beside w t (node x kids rest), total-placed_before w b t rest)

  pub total-placed_root : (w : ℕ → ℕ) (n : ℕ) (t f : Forest X) → total w (placed_root n t f) ≡ total w f + total w t
  total-placed_root w n t empty = omega arith
  total-placed_root w n t (node x kids rest) = grind (arith, total-beside w t (node x kids rest), total-placed_root w n t rest)

  pub total-placed_under : (w : ℕ → ℕ) (p : ℕ) (b : Option ℕ) (t f : Forest X) → total w (placed_under p b t f) ≡ total w f + occurs p f * total w t
  total-placed_under w p b t empty = omega arith
  total-placed_under w p b t (node x kids rest) =
      grind (arith, total-placed_before w b t (placed_under p b t kids), total-placed_under w p b t kids, total-placed_under w p b t rest)

  pub total-cut : (w : ℕ → ℕ) (c : ℕ) (f : Forest X) → total w (cut c f) ≡ total w f
  total-cut w c f = omega (arith, total-placed_root w c (tree_at c f) (without c f), total-tree_at w c f)

  pub IsOnce-cut : (c : ℕ) (f : Forest X) → IsOnce f → IsOnce (cut c f)
  IsOnce-cut c f o n = let k = o n in rw (total-cut (one_at n) c f) k

  pub total-put : (w : ℕ → ℕ) (p c : ℕ) (b : Option ℕ) (f : Forest X) → occurs p (without c f) ≡ 1 → total w (put p c b f) ≡ total w f
  total-put w p c b f once = grind (arith, total-placed_under w p b (tree_at c f) (without c f), total-tree_at w c f)

  -- a forest without a number has it no more
  pub occurs-without : (c : ℕ) (f : Forest X) → occurs c (without c f) ≡ 0
  occurs-without c empty = refl
  occurs-without c (node x kids rest) = grind (arith, occurs-without c rest, occurs-without c kids)

  pub without-absent : (c : ℕ) (f : Forest X) → occurs c f ≡ 0 → without c f ≡ f
  without-absent c empty h = refl
  without-absent c (node x kids rest) h = grind (arith, without-absent c kids, without-absent c rest)

  pub tree_at-absent : (c : ℕ) (f : Forest X) → occurs c f ≡ 0 → tree_at c f ≡ empty
  tree_at-absent c empty h = refl
  tree_at-absent c (node x kids rest) h = grind (arith, tree_at-absent c kids, tree_at-absent c rest)

  pub beside-empty : (f : Forest X) → beside f empty ≡ f
  beside-empty empty = refl
  beside-empty (node x kids rest) = rw (beside-empty rest) refl

  -- a number of the whole stands on top, in the children or in the rest
  pub occurs-kids : (n : ℕ) (x : Node X) (kids rest : Forest X) → (x.number ≡ n → ⊥) → occurs n (node x kids rest) ≡ occurs n kids + occurs n rest
  occurs-kids n x kids rest ne = grind (arith, nat_tests)

  pub occurs-top : (n : ℕ) (x : Node X) (kids rest : Forest X) → x.number ≡ n → occurs n (node x kids rest) ≡ 1 + (occurs n kids + occurs n rest)
  occurs-top n x kids rest e = grind (arith, nat_tests)
