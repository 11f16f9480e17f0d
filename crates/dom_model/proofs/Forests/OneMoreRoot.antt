-- A new root beside the trees of a forest leaves every other node and the order of points as they were; what is told of it after it is put
-- under another node.
use Rattle.std.proofs.Common.{◌≡◌, ℕ, ◌<◌, ◌==◌, Bool, true, false, if◌then◌else◌, List, [], ◌∷◌, ◌++◌, reverse, drop, Option, Some, None, refl, ap, sym, ◌∙◌, arith, append-nil}
use Rattle.dom_model.specs.Definitions.{among, last_of, place_in, after, entered, may_stand_under, Node, Forest, empty, node, occurs, one_at, beside, tree_at, without, put, entry_in, parent_of, children_of, next_of, index_of, ancestors, root_of, KindsFit, Entry, parent_in, children_in, list_under, place_of, order_of, entry_has, kind_passes, IsWay}
use Rattle.dom_model.specs.declared.Kind.{Kind}
use Rattle.dom_model.proofs.PlainLists.Numbers.{same_or, same, apart}
use Rattle.dom_model.proofs.Forests.{Totals.IsOnce, Totals.total-beside, Totals.total-tree_at, Totals.total-put, Changes.link_at, Entries.entry-put, Entries.parent-put, Entries.children-put, Climbing.hits-ancestors, Climbing.hits-not_among, Paths.parent-path, Paths.ancestors-put, Chains.way_to, Chains.way, ForestsBeside.entry-older, ForestsBeside.entry-younger, ForestsBeside.ancestors-older, ForestsBeside.tree_at-younger}
use Rattle.dom_model.proofs.BoundaryPoints.WaysKept.{place_by}

pub root-kinds : {X : Type 0} (q : Option Kind) (f : Forest X) (x : Node X) → may_stand_under q x.label.kind ≡ true → KindsFit q f → KindsFit q (beside f (node x empty empty))
root-kinds q empty x h k = (h, tt, tt)
root-kinds q (node y kids rest) x h k = (k.0, k.1, root-kinds q rest x h k.2)

module _ {X : Type 0} (f : Forest X) (o : IsOnce f) (x : Node X) (new : occurs x.number f ≡ 0) where
  abbrev pub more : Forest X
  more = beside f (node x empty empty)

  pub more-once : IsOnce more
  more-once m =
      let t = total-beside (one_at m) f (node x empty empty) in
      elim (same_or x.number m) [
        | same e v ↦ (let k = rw v at t in let z : occurs m f ≡ 0 = ap (λ n. occurs n f) (sym e) ∙ new in omega arith)
        | apart ne v ↦ (let k = rw v at t in let i = o m in omega arith)
      ]

  pub more-there : (n : ℕ) → 0 < occurs n f → 0 < occurs n more
  more-there n h = let t = total-beside (one_at n) f (node x empty empty) in omega arith

  pub new-there : 0 < occurs x.number more
  new-there = grind (arith, total-beside (one_at x.number) f (node x empty empty))

  -- the other nodes are as they were
  other : (m : ℕ) → 0 < occurs m f → occurs m (node x empty empty) ≡ 0
  other m h = grind arith

  pub entry-more : (n : ℕ) → 0 < occurs n f → entry_in more n ≡ entry_in f n
  entry-more n h = entry-older n f (node x empty empty) (other n h)

  pub entry-new : entry_in more x.number ≡ Some (record { value = x; parent = None; children = [] })
  entry-new = entry-younger x.number f (node x empty empty) new ∙ elim (same_or x.number x.number) [ same e v ↦ rw v refl | apart ne v ↦ absurd (ne refl) ]

  pub parent-new : parent_of more x.number ≡ None
  parent-new = ap parent_in entry-new

  pub children-new : children_of more x.number ≡ []
  children-new = ap children_in entry-new

  pub parent-more : (n : ℕ) → 0 < occurs n f → parent_of more n ≡ parent_of f n
  parent-more n h = ap parent_in (entry-more n h)

  pub children-more : (n : ℕ) → 0 < occurs n f → children_of more n ≡ children_of f n
  children-more n h = ap children_in (entry-more n h)

  pub root-more : (n : ℕ) → 0 < occurs n f → root_of more n ≡ root_of f n
  root-more n h = ap last_of (ancestors-older n f (node x empty empty) (other n h))

  siblings-more : (n : ℕ) → 0 < occurs n f → list_under (entry_in more) (parent_of more n) ≡ list_under (entry_in f) (parent_of f n)
  siblings-more n h = grind (arith, parent-more n h, children-more, parent-path f o n)

  pub index-more : (n : ℕ) → 0 < occurs n f → index_of more n ≡ index_of f n
  index-more n h = ap (place_in n) (siblings-more n h)

  pub next-more : (n : ℕ) → 0 < occurs n f → next_of more n ≡ next_of f n
  next-more n h = ap (after n) (siblings-more n h)

  places-more : (u : ℕ) (ms : List ℕ) (n a : ℕ) → IsWay f u ms n → place_by (index_of more) ms a ≡ place_by (index_of f) ms a
  places-more u [] n a w = refl
  places-more u (m ∷ ms) n a w = rw (index-more m w.0, places-more m ms n a w.2) refl

  place-more : (n a : ℕ) → 0 < occurs n f → place_of more (record { node = n; offset = a }) ≡ place_of f (record { node = n; offset = a })
  place-more n a h =
      let w = way f o n h in
      ap (λ (ms : List ℕ). place_by (index_of more) (drop 1 (reverse ms)) a) (ancestors-older n f (node x empty empty) (other n h)) ∙ places-more w.0 (way_to f n) n a w.2

  -- points of the trees that were there stand as they did
  pub order-more : (n m a d : ℕ) → 0 < occurs n f → 0 < occurs m f → order_of more (record { node = n; offset = a }) (record { node = m; offset = d }) ≡ order_of f (record { node = n; offset = a }) (record { node = m; offset = d })
  order-more n m a d hn hm = grind (arith, place-more n a hn, place-more m d hm)

  pub root-kind : (test : Kind → Bool) → kind_passes test more x.number ≡ test x.label.kind
  root-kind test = ap (entry_has test) entry-new

  module _ (p t : ℕ) (hp : 0 < occurs p f) (up : parent_of f t ≡ Some p) (ht : 0 < occurs t f) where
    abbrev pub put_after : Forest X
    put_after = put p x.number (next_of more t) more

    apart_from : occurs p (tree_at x.number more) ≡ 0
    apart_from = grind (arith, tree_at-younger x.number f (node x empty empty) new)

    next-old : next_of more t ≡ after t (children_of f p)
    next-old =
        let e : parent_of more t ≡ Some p = ap parent_in (entry-more t ht) ∙ up in
        ap (λ q. after t (list_under (entry_in more) q)) e ∙ ap (λ e. after t (children_in e)) (entry-more p hp)

    pub put-kind : (test : Kind → Bool) (m : ℕ) → kind_passes test put_after m ≡ kind_passes test more m
    put-kind test m = ap (entry_has test) (entry-put more more-once p x.number (next_of more t) (more-there p hp) new-there parent-new apart_from m) ∙ go (entry_in more m)
      where
        go : (e : Option (Entry (Node X))) → entry_has test (link_at p (next_of more t) x.number m e) ≡ entry_has test e
        go None = refl
        go (Some e) = refl

    pub put-kind_old : (test : Kind → Bool) (m : ℕ) → 0 < occurs m f → kind_passes test put_after m ≡ kind_passes test f m
    put-kind_old test m h = put-kind test m ∙ ap (entry_has test) (entry-more m h)

    pub put-parent_new : parent_of put_after x.number ≡ Some p
    put-parent_new =
        parent-put more more-once p x.number (next_of more t) (more-there p hp) new-there parent-new apart_from x.number new-there
        ∙ elim (same_or x.number x.number) [ same e v ↦ rw v refl | apart ne v ↦ absurd (ne refl) ]

    pub put-kids_there : children_of put_after p ≡ entered (after t (children_of f p)) x.number (children_of f p)
    put-kids_there =
        children-put more more-once p x.number (next_of more t) (more-there p hp) new-there parent-new apart_from p (more-there p hp)
        ∙ elim (same_or p p) [ same e v ↦ rw v (ap (λ b. entered b x.number (children_of more p)) next-old ∙ ap (λ e. entered (after t (children_of f p)) x.number (children_in e)) (entry-more p hp)) | apart ne v ↦ absurd (ne refl) ]

    pub put-kids_elsewhere : (m : ℕ) → 0 < occurs m f → (m == p) ≡ false → children_of put_after m ≡ children_of f m
    put-kids_elsewhere m h far =
        children-put more more-once p x.number (next_of more t) (more-there p hp) new-there parent-new apart_from m (more-there m h)
        ∙ (rw far (ap children_in (entry-more m h)))

    pub put-above : ancestors p put_after ≡ ancestors p f
    put-above =
        let old = ancestors-older p f (node x empty empty) (other p hp) in
        let z = hits-ancestors x.number p more more-once in
        let out = hits-not_among x.number (ancestors p more) (omega (arith, apart_from)) in
        let a = ancestors-put more more-once p x.number (next_of more t) (more-there p hp) new-there parent-new apart_from p (more-there p hp) in
        let b : ancestors p more ++ (if among x.number (ancestors p more) then ancestors p more else []) ≡ ancestors p more = (rw out (append-nil (ancestors p more))) in
        a ∙ b ∙ old

    pub put-once : IsOnce put_after
    put-once m =
        let k = more-once m in
        let one = more-once p in
        let h = more-there p hp in
        let z = total-tree_at (one_at p) x.number more in
        let out : occurs p (without x.number more) ≡ 1 = omega (arith, apart_from) in
        rw (total-put (one_at m) p x.number (next_of more t) more out) k
