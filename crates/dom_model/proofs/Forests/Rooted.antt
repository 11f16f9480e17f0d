-- Which entries are those of roots: in a forest that its entries spell, the tops and no others.
use Rattle.std.proofs.Common.{◌≡◌, ℕ, ◌<◌, ◌≤◌, Option, Some, None, arith}
use Rattle.dom_model.specs.Definitions.{hits, Entry, Node, Forest, empty, node, occurs, tops, Lies}
use Rattle.dom_model.proofs.Forests.Tops.{hits-tops}

abbrev pub rootless : Option ℕ → ℕ
rootless None = 1
rootless (Some p) = 0

-- 1 for a root
abbrev pub rooted : {X : Type 0} → Option (Entry (Node X)) → ℕ
rooted None = 0
rooted (Some e) = rootless e.parent

module _ {X : Type 0} where
  -- what stands under a parent is no root
  pub rooted-under : (at : (ℕ → Option (Entry (Node X)))) (q : ℕ) (f : Forest X) (n : ℕ) → Lies at (Some q) f → 0 < occurs n f → rooted (at n) ≡ 0
  rooted-under at q empty n l h = absurd (omega arith)
  rooted-under at q (node x kids rest) n l h = grind (arith, rooted-under at x.number kids n l.1, rooted-under at q rest n l.2)

  pub rooted-tops : (at : (ℕ → Option (Entry (Node X)))) (f : Forest X) (n : ℕ) → Lies at None f → occurs n f ≤ 1 → 0 < occurs n f → hits n (tops f) ≡ rooted (at n)
  rooted-tops at empty n l o h = absurd (omega arith)
  rooted-tops at (node x kids rest) n l o h = grind (arith, hits-tops n rest, rooted-under at x.number kids n l.1, rooted-tops at rest n l.2)
