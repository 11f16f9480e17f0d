-- The trees where a Text is split: a new one comes in beside it.
use Rattle.std.proofs.Common.{◌≡◌, ℕ, ◌+◌, ◌<◌, ◌≤◌, ◌==◌, true, [], ◌∷◌, length, Option, Some, None, option_map, refl, ap, sym, ◌∙◌, arith, length-append, false, slice_get}
use Rattle.std.proofs.lemmas.{Bool.eq-eqb, Bool.Decides.nat_tests}
use Rattle.dom_model.specs.Definitions.{Entry, Node, Forest, empty, node, occurs, tops, beside, tree_at, without, placed_before, placed_under, put, with_node, entry_in, Content, content_in}
use Rattle.dom_model.proofs.Worlds.Measured.{entry-beside as entry_stays}
use Rattle.dom_model.proofs.Forests.{Totals.tree_at-absent, Totals.without-absent, Totals.beside-empty, Undone.beside-assoc, Undone.tree_at-beside, Undone.without-beside, Tops.tops-beside, Changes.link_at}
use Rattle.dom_model.proofs.TokenText.{Pieces.TextContexts.with_root, AlikeTrees.TreesAlike.Alike, AlikeTrees.TreesAlike.bare_entry, AlikeTrees.TreesPlaced.placed_between, AlikeTrees.TreesPlaced.with_root-placed, Marked.MarkedSplice.with_node-absent, Marked.GapOpened.equal, AlikeTrees.TreesPlaced.with_root-changed}

module _ {X : Type 0} where
  -- a node under another changes
  pub with_node-root : (p n : ℕ) (h : Node X → Node X) (y : Node X) (ks ys f : Forest X) → ((m : ℕ) → occurs m f ≤ 1) → tree_at p f ≡ node y ys empty → 0 < occurs n ys → y.number ≡ p → (p ≡ n → ⊥) → with_node n h (with_root p y ks f) ≡ with_root p y (with_node n h ks) f
  with_node-root p n h y ks ys f o e i d ne = with_root-changed (with_node n h) p n (λ x kids rest t. rw t refl) (with_node-absent n h) y ks ys f o e i

  pub with_node-child : (h : Node X → Node X) (z : Node X) (zs fs bs : Forest X) → occurs z.number fs ≡ 0 → occurs z.number zs ≡ 0 → occurs z.number bs ≡ 0 → with_node z.number h (beside fs (node z zs bs)) ≡ beside fs (node (h z) zs bs)
  with_node-child h z zs empty bs a b c = rw (eq-eqb z.number z.number refl, with_node-absent z.number h zs b, with_node-absent z.number h bs c) refl
  with_node-child h z zs (node x kids rest) bs a b c =
      let t : (x.number == z.number) ≡ false = grind (arith, nat_tests) in
      let k = rw t at a in
      rw (t, with_node-absent z.number h kids (omega arith), with_node-child h z zs rest bs (omega arith) b c) refl

  -- a tree beside that is put behind a child
  pub placed_behind : (p k new : ℕ) (x y z : Node X) (ys zs fs bs g : Forest X) → ((m : ℕ) → occurs m g ≤ 1) → tree_at p g ≡ node y ys empty → ys ≡ beside fs (node z zs bs) → length (tops fs) ≡ k → x.number ≡ new → occurs new g ≡ 0 → ((m : ℕ) → occurs m ys ≤ 1)
      → put p new (slice_get (tops ys) (k + 1)) (beside g (node x empty empty)) ≡ with_root p y (beside fs (node z zs (node x empty bs))) g
  placed_behind p k new x y z ys zs fs bs g og at whole long named fresh oy =
      ap (λ t. placed_under p (slice_get (tops ys) (k + 1)) t (without new (beside g (node x empty empty)))) tree
      ∙ ap (placed_under p (slice_get (tops ys) (k + 1)) (node x empty empty)) rest
      ∙ with_root-placed p (slice_get (tops ys) (k + 1)) (node x empty empty) y ys g og at
      ∙ ap (λ (t : Forest X). with_root p y t g) between
    where
      t : (x.number == new) ≡ true
      t = equal x.number new named

      tree : tree_at new (beside g (node x empty empty)) ≡ node x empty empty
      tree = tree_at-beside new g (node x empty empty) ∙ (rw (tree_at-absent new g fresh, t) refl)

      rest : without new (beside g (node x empty empty)) ≡ g
      rest = without-beside new g (node x empty empty) ∙ (rw (without-absent new g fresh, t) (beside-empty g))

      ahead : Forest X
      ahead = beside fs (node z zs empty)

      split : ys ≡ beside ahead bs
      split = whole ∙ sym (beside-assoc fs (node z zs empty) bs)

      count : length (tops ahead) ≡ k + 1
      count = ap length (tops-beside fs (node z zs empty)) ∙ length-append (tops fs) (z.number ∷ []) ∙ ap (λ i. i + 1) long

      between : placed_before (slice_get (tops ys) (k + 1)) (node x empty empty) ys ≡ beside fs (node z zs (node x empty bs))
      between =
          ap (λ (t : Forest X). placed_before (slice_get (tops t) (k + 1)) (node x empty empty) t) split
          ∙ ap (λ i. placed_before (slice_get (tops (beside ahead bs)) i) (node x empty empty) (beside ahead bs)) (sym count)
          ∙ placed_between (node x empty empty) ahead bs (λ m. let c = ap (occurs m) split in let b = oy m in omega arith)
          ∙ beside-assoc fs (node z zs empty) (node x empty bs)

-- trees beside change no entry of a forest
pub entry-beside : (n : ℕ) (f h : Forest Content) → 0 < occurs n f → entry_in (beside f h) n ≡ entry_in f n
entry-beside n f h o = entry_stays f h n o

-- The data of a node.

pub alike-text : (g f : Forest Content) → Alike g f → (n : ℕ) → (content_in (entry_in g n)).text ≡ (content_in (entry_in f n)).text
alike-text g f a n = ap (λ (e : Option (Entry (Node Content))). (content_in e).text) (a.entries n) ∙ go (entry_in f n)
  where
    go : (e : Option (Entry (Node Content))) → (content_in (option_map bare_entry e)).text ≡ (content_in e).text
    go None = refl
    go (Some e) = refl

pub put-text : (p c : ℕ) (b : Option ℕ) (n : ℕ) (e : Option (Entry (Node Content))) → (content_in (link_at p b c n e)).text ≡ (content_in e).text
put-text p c b n None = refl
put-text p c b n (Some e) = refl
