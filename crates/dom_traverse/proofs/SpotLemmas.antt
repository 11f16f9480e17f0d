-- What is told of a node where it stands, told of the tree that it stands in.
use Rattle.std.proofs.Common.{◌≡◌, ℕ, Some, ap, sym, ◌∙◌, subst}
use Rattle.std.specs.Option.{ForSome}
use Rattle.dom_model.specs.Definitions.{Grove}
use Rattle.dom_tree.specs.Spots.{Spot}

module _ {X : Type 0} {B : Type 0} {a t : Grove X} (e : a ≡ t) (q : Grove X → B) {b : B} where
  pub told : b ≡ q a → q t ≡ b
  told h = ap q (sym e) ∙ sym h

-- what holds of one holds of each
pub for-one : {A : Type 0} (P : A → Type 0) (x : A) → P x → ForSome (Some x) P
for-one P x h y e = (let d : x ≡ y = cc e in subst P d h)

module _ {X : Type 0} {s : Spot X} {t : Grove X} {n : ℕ} (d : s.tree ≡ t) (e : s.node ≡ n) where
  pub told_at : {B : Type 0} (q : Grove X → ℕ → B) {b : B} → b ≡ q s.tree s.node → q t n ≡ b
  told_at q h = ap (q t) (sym e) ∙ ap (λ u. q u s.node) (sym d) ∙ sym h

  pub come_at : (P : Grove X → ℕ → Type 0) → P s.tree s.node → P t n
  come_at P h = subst (P t) e (subst (λ u. P u s.node) d h)

  pub gone_at : (P : Grove X → ℕ → Type 0) → P t n → P s.tree s.node
  gone_at P h = subst (λ u. P u s.node) (sym d) (subst (P t) (sym e) h)
