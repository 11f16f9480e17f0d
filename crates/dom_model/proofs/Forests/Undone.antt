-- A cut undoes a put, a put again undoes a put, and a put where it stood undoes a cut.
use Rattle.std.proofs.Common.{◌≡◌, ℕ, ◌==◌, Bool, true, false, if◌then◌else◌, Option, refl, ◌∙◌, arith}
use Rattle.std.proofs.lemmas.Bool.Decides.{nat_tests}
use Rattle.dom_model.specs.Definitions.{Forest, empty, node, occurs, beside, tree_at, without, placed_before, placed_under, placed_root, cut, put}
use Rattle.dom_model.proofs.PlainLists.Numbers.{same_or, same, apart}
use Rattle.dom_model.proofs.Forests.Totals.{occurs-without, without-absent, tree_at-absent, beside-empty}

module _ {X : Type 0} where
  pub beside-assoc : (f g h : Forest X) → beside (beside f g) h ≡ beside f (beside g h)
  beside-assoc empty g h = refl
  beside-assoc (node x kids rest) g h = rw (beside-assoc rest g h) refl

  pub tree_at-beside : (c : ℕ) (f g : Forest X) → tree_at c (beside f g) ≡ beside (tree_at c f) (tree_at c g)
  tree_at-beside c empty g = refl
  tree_at-beside c (node x kids rest) g = grind (arith, tree_at-beside c rest g, beside-assoc (tree_at c kids) (tree_at c rest) (tree_at c g))

  pub without-beside : (c : ℕ) (f g : Forest X) → without c (beside f g) ≡ beside (without c f) (without c g)
  without-beside c empty g = refl
  without-beside c (node x kids rest) g = grind (arith, without-beside c rest g)

  -- the tree of a number is its own tree, and nothing is left without it
  pub tree_at-twice : (c : ℕ) (f : Forest X) → tree_at c (tree_at c f) ≡ tree_at c f
  tree_at-twice c empty = refl
  tree_at-twice c (node x kids rest) = grind (arith, tree_at-twice c rest, tree_at-beside c (tree_at c kids) (tree_at c rest), tree_at-twice c kids)

  pub without-tree_at : (c : ℕ) (f : Forest X) → without c (tree_at c f) ≡ empty
  without-tree_at c empty = refl
  without-tree_at c (node x kids rest) = grind (arith, without-tree_at c rest, without-beside c (tree_at c kids) (tree_at c rest), without-tree_at c kids)

  pub tree_at-without : (c : ℕ) (f : Forest X) → tree_at c (without c f) ≡ empty
  tree_at-without c f = tree_at-absent c (without c f) (occurs-without c f)

  pub without-twice : (c : ℕ) (f : Forest X) → without c (without c f) ≡ without c f
  without-twice c f = without-absent c (without c f) (occurs-without c f)

  -- trees that are all of one number, put in and taken out again
  pub without-placed_before : (c : ℕ) (b : Option ℕ) (t f : Forest X) → without c t ≡ empty → without c (placed_before b t f) ≡ without c f
  without-placed_before c b t empty h = h
  without-placed_before c b t (node x kids rest) h = grind (arith, nat_tests, beside, without, without-beside c, without-placed_before c b t rest h)

  pub tree_at-placed_before : (c : ℕ) (b : Option ℕ) (t f : Forest X) → occurs c f ≡ 0 → tree_at c (placed_before b t f) ≡ tree_at c t
  tree_at-placed_before c b t empty h = refl
  tree_at-placed_before c b t (node x kids rest) h =
      grind (arith, tree_at-beside c, tree_at-absent {X = X}, beside-empty (tree_at c t), tree_at-placed_before c b t rest)

  pub placed_under-absent : (p : ℕ) (b : Option ℕ) (t f : Forest X) → occurs p f ≡ 0 → placed_under p b t f ≡ f
  placed_under-absent p b t empty h = refl
  placed_under-absent p b t (node x kids rest) h = grind (arith, placed_under-absent p b t kids, placed_under-absent p b t rest)

  pub without-placed_under : (c p : ℕ) (b : Option ℕ) (t f : Forest X) → without c t ≡ empty → without c (placed_under p b t f) ≡ without c f
  without-placed_under c p b t empty h = refl
  without-placed_under c p b t (node x kids rest) h =
      elim (same_or x.number c) [
        | same e v ↦ rw v (without-placed_under c p b t rest h)
        | apart ne v ↦ rw (v, without-placed_under c p b t rest h, inside (without-placed_under c p b t kids h) (x.number == p)) refl
      ]
    where
      inside : without c (placed_under p b t kids) ≡ without c kids → (v : Bool) → without c (if v then placed_before b t (placed_under p b t kids) else placed_under p b t kids) ≡ without c kids
      inside i true = without-placed_before c b t (placed_under p b t kids) h ∙ i
      inside i false = i

  pub tree_at-placed_under : (c p : ℕ) (b : Option ℕ) (t f : Forest X) → occurs c f ≡ 0 → occurs p f ≡ 1 → tree_at c (placed_under p b t f) ≡ tree_at c t
  tree_at-placed_under c p b t empty hc hp = absurd (omega arith)
  tree_at-placed_under c p b t (node x kids rest) hc hp =
      grind (
        arith,
        placed_under-absent p,
        tree_at-placed_before c,
        tree_at-absent {X = X},
        beside-empty {X = X},
        tree_at-placed_under c p b t kids,
        tree_at-placed_under c p b t rest,
      )

  pub without-placed_root : (c n : ℕ) (t f : Forest X) → without c t ≡ empty → without c (placed_root n t f) ≡ without c f
  without-placed_root c n t empty h = h
  without-placed_root c n t (node x kids rest) h = grind (arith, nat_tests, beside, without, without-beside c, without-placed_root c n t rest h)

  pub tree_at-placed_root : (c n : ℕ) (t f : Forest X) → occurs c f ≡ 0 → tree_at c (placed_root n t f) ≡ tree_at c t
  tree_at-placed_root c n t empty h = refl
  tree_at-placed_root c n t (node x kids rest) h =
      grind (arith, tree_at-beside c, tree_at-absent {X = X}, beside-empty (tree_at c t), tree_at-placed_root c n t rest)

  -- what a cut and a put leave of a tree and of what is beside it
  pub tree_at-cut : (c : ℕ) (f : Forest X) → tree_at c (cut c f) ≡ tree_at c f
  tree_at-cut c f = tree_at-placed_root c c (tree_at c f) (without c f) (occurs-without c f) ∙ tree_at-twice c f

  pub without-cut : (c : ℕ) (f : Forest X) → without c (cut c f) ≡ without c f
  without-cut c f = without-placed_root c c (tree_at c f) (without c f) (without-tree_at c f) ∙ without-twice c f

  pub tree_at-put : (p c : ℕ) (b : Option ℕ) (f : Forest X) → occurs p (without c f) ≡ 1 → tree_at c (put p c b f) ≡ tree_at c f
  tree_at-put p c b f h = tree_at-placed_under c p b (tree_at c f) (without c f) (occurs-without c f) h ∙ tree_at-twice c f

  pub without-put : (p c : ℕ) (b : Option ℕ) (f : Forest X) → without c (put p c b f) ≡ without c f
  without-put p c b f = without-placed_under c p b (tree_at c f) (without c f) (without-tree_at c f) ∙ without-twice c f

  pub cut-put : (p c : ℕ) (b : Option ℕ) (f : Forest X) → occurs p (without c f) ≡ 1 → cut c (put p c b f) ≡ cut c f
  cut-put p c b f h = rw (tree_at-put p c b f h, without-put p c b f) refl

  pub put-cut : (p c : ℕ) (b : Option ℕ) (f : Forest X) → put p c b (cut c f) ≡ put p c b f
  put-cut p c b f = rw (tree_at-cut c f, without-cut c f) refl

  pub cut-cut : (c : ℕ) (f : Forest X) → cut c (cut c f) ≡ cut c f
  cut-cut c f = rw (tree_at-cut c f, without-cut c f) refl

  pub put-put : (p q c : ℕ) (b d : Option ℕ) (f : Forest X) → occurs q (without c f) ≡ 1 → put p c b (put q c d f) ≡ put p c b f
  put-put p q c b d f h = rw (tree_at-put q c d f h, without-put q c d f) refl
