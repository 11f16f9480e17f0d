-- Where a tree is put among a node's children or leaves them, the node's tree alone gives way to another.
use Rattle.std.proofs.Common.{◌≡◌, ℕ, ◌+◌, ◌<◌, ◌≤◌, ◌==◌, false, length, Option, refl, ap, sym, ◌∙◌, arith, slice_get}
use Rattle.std.proofs.lemmas.{Bool.eq-eqb, Bool.Decides.nat_tests}
use Rattle.dom_model.specs.Definitions.{head_of, is_number, Node, Forest, empty, node, occurs, one_at, tops, beside, tree_at, without, placed_before, placed_under}
use Rattle.dom_model.proofs.Forests.{Totals.total-beside, Totals.total-tree_at, Totals.without-absent, Totals.beside-empty, Undone.without-beside, Undone.placed_under-absent}
use Rattle.dom_model.proofs.TokenText.{Pieces.TextContexts.with_root, Pieces.TextContexts.with_root-absent, AlikeTrees.WaysToTrees.to_tree, Pieces.TextContexts.with_root-itself}

module _ {X : Type 0} where
  next_top : (hs bs : Forest X) → slice_get (tops (beside hs bs)) (length (tops hs)) ≡ head_of (tops bs)
  next_top empty empty = refl
  next_top empty (node x kids rest) = refl
  next_top (node x kids rest) bs = next_top rest bs

  not_next : (n : ℕ) (bs : Forest X) → occurs n bs ≡ 0 → is_number (head_of (tops bs)) n ≡ false
  not_next n empty h = refl
  not_next n (node x kids rest) h = grind (arith, nat_tests)

  placed_next : (t bs : Forest X) → placed_before (head_of (tops bs)) t bs ≡ beside t bs
  placed_next t empty = sym (beside-empty t)
  placed_next t (node x kids rest) = rw (eq-eqb x.number x.number refl) refl

  placed_past : (t hs bs : Forest X) → ((m : ℕ) → occurs m (beside hs bs) ≤ 1) → placed_before (head_of (tops bs)) t (beside hs bs) ≡ beside hs (beside t bs)
  placed_past t empty bs o = placed_next t bs
  placed_past t (node x kids rest) bs o =
      let k = rw (eq-eqb x.number x.number refl) at (o x.number) in
      rw (not_next x.number bs (omega (arith, total-beside (one_at x.number) rest bs)), placed_past t rest bs (λ m. let j = o m in omega arith)) refl

  -- a tree put before the child of an index, or last
  pub placed_between : (t hs bs : Forest X) → ((m : ℕ) → occurs m (beside hs bs) ≤ 1) → placed_before (slice_get (tops (beside hs bs)) (length (tops hs))) t (beside hs bs) ≡ beside hs (beside t bs)
  placed_between t hs bs o = ap (λ b. placed_before b t (beside hs bs)) (next_top hs bs) ∙ placed_past t hs bs o

  pub with_root-placed : (p : ℕ) (b : Option ℕ) (t : Forest X) (y : Node X) (ys f : Forest X) → ((m : ℕ) → occurs m f ≤ 1) → tree_at p f ≡ node y ys empty → placed_under p b t f ≡ with_root p y (placed_before b t ys) f
  with_root-placed p b t y ys f o e =
      to_tree p y ys (λ g. placed_under p b t g ≡ with_root p y (placed_before b t ys) g)
      (λ rest o d u k z. rw (u, placed_under-absent p b t ys k, placed_under-absent p b t rest z, with_root-absent p y (placed_before b t ys) rest z) refl)
      (λ x kids rest o u h z e i. rw (u, placed_under-absent p b t rest z, with_root-absent p y (placed_before b t ys) rest z, i) refl)
      (λ x kids rest o u k e i. rw (u, placed_under-absent p b t kids k, with_root-absent p y (placed_before b t ys) kids k, i) refl) f o e

  -- what stands under a node stands in the forest
  pub inside_of : (p c : ℕ) (y : Node X) (ys g : Forest X) → tree_at p g ≡ node y ys empty → 0 < occurs c ys → 0 < occurs c g
  inside_of p c y ys g e h = let a = total-tree_at (one_at c) p g in let b = ap (occurs c) e in omega arith

  -- a tree that leaves its siblings
  pub left_between : (z : Node X) (zs hs bs : Forest X) → ((m : ℕ) → occurs m (beside hs (node z zs bs)) ≤ 1) → without z.number (beside hs (node z zs bs)) ≡ beside hs bs
  left_between z zs hs bs o =
      let c = rw (eq-eqb z.number z.number refl) at (total-beside (one_at z.number) hs (node z zs bs)) in
      let k = o z.number in
      without-beside z.number hs (node z zs bs) ∙ (rw (eq-eqb z.number z.number refl, without-absent z.number hs (omega arith), without-absent z.number bs (omega arith)) refl)

  -- a change at a node under another, of which no part without the node takes notice, is one of the other's children
  pub with_root-changed : (change : Forest X → Forest X) (p c : ℕ) → ((x : Node X) (kids rest : Forest X) → (x.number == c) ≡ false → change (node x kids rest) ≡ node x (change kids) (change rest)) → ((g : Forest X) → occurs c g ≡ 0 → change g ≡ g)
      → (y : Node X) (ks ys f : Forest X) → ((m : ℕ) → occurs m f ≤ 1) → tree_at p f ≡ node y ys empty → 0 < occurs c ys → change (with_root p y ks f) ≡ with_root p y (change ks) f
  with_root-changed change p c passes stays y ks ys f o e h =
      to_tree p y ys (λ g. change (with_root p y ks g) ≡ with_root p y (change ks) g)
      (λ rest o d u k z. rw (u, with_root-absent p y ks rest z, with_root-absent p y (change ks) rest z, passes y ks rest (not_top y ys rest o (let t = h in omega arith)), stays rest (let l = o c in omega arith)) refl)
      (λ x kids rest o u k z e i.
      let hk = inside_of p c y ys kids e h in
      rw (u, with_root-absent p y ks rest z, with_root-absent p y (change ks) rest z, passes x (with_root p y ks kids) rest (not_top x kids rest o (omega arith)), i, stays rest (let l = o c in omega arith)) refl)
      (λ x kids rest o u k e i.
      let hr = inside_of p c y ys rest e h in
      rw (u, with_root-absent p y ks kids k, with_root-absent p y (change ks) kids k, passes x kids (with_root p y ks rest) (not_top x kids rest o (omega arith)), i, stays kids (let l = o c in omega arith)) refl) f o e
    where
      not_top : (x : Node X) (kids rest : Forest X) → ((m : ℕ) → occurs m (node x kids rest) ≤ 1) → 0 < occurs c kids + occurs c rest → (x.number == c) ≡ false
      not_top x kids rest o h = let k = o c in grind (arith, nat_tests)

  pub without-root : (p c : ℕ) (y : Node X) (ks ys f : Forest X) → ((m : ℕ) → occurs m f ≤ 1) → tree_at p f ≡ node y ys empty → 0 < occurs c ys → without c (with_root p y ks f) ≡ with_root p y (without c ks) f
  without-root p c y ks ys f o e h = with_root-changed (without c) p c (λ x kids rest t. rw t refl) (without-absent c) y ks ys f o e h

  pub with_root-left : (p c : ℕ) (y : Node X) (ys f : Forest X) → ((m : ℕ) → occurs m f ≤ 1) → tree_at p f ≡ node y ys empty → 0 < occurs c ys → without c f ≡ with_root p y (without c ys) f
  with_root-left p c y ys f o e h = ap (without c) (sym (with_root-itself p y ys f o e)) ∙ without-root p c y ys ys f o e h
