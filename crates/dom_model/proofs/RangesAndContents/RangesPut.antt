-- A live range is one after a root is put under a node, once its ends have made room.
use Rattle.std.proofs.Common.{◌≡◌, ℕ, ◌+◌, ◌<◌, ◌≤◌, ◌==◌, nat_lt, Bool, true, false, ◌&&◌, if◌then◌else◌, Option, None, refl, ap, sym, ◌∙◌, subst, arith, ⊎_elim, Greater}
use Rattle.std.proofs.lemmas.{Bool.cases_lt, Bool.Decides.nat_tests, Bool.cases_Bool}
use Rattle.dom_model.specs.Definitions.{is_kind, may_be_parent, Forest, occurs, one_at, tree_at, put, HasNode, parent_of, children_of, ancestors, root_of, Content, Point, Range, Iterator, after_gap, moved_range, order_of, kind_passes, is_of_kind, unit_count, node_length, IsBoundary, IsRange, IsIterator}
use Rattle.dom_model.specs.declared.Kind.TheVariants.{DocumentType}
use Rattle.dom_model.proofs.PlainLists.{Numbers.same_or, Numbers.same, Numbers.apart, Places.place_before, Members.hits-last_of}
use Rattle.dom_model.proofs.Forests.{Totals.total-tree_at, Totals.total-put, Climbing.hits-among, Climbing.hits-ancestors, Entries.HasNode-occurs, Entries.occurs-HasNode, TreeOrder.Flattened.hits-numbers}
use Rattle.dom_model.proofs.BoundaryPoints.{PointOrder.gap-node, PointOrder.gap-elsewhere, GapOrder.gap-order_kept, GapInside.gap-order_inside, RootsKept.one_root-put, RootsKept.reference-put, RootsKept.root-among}
use Rattle.dom_model.proofs.Soundness.SoundForests.{IsWood}
use Rattle.dom_model.proofs.Worlds.Measured.{kind-put, length-put, length-put_parent}

module _ {f : Forest Content} {made : ℕ} (s : IsWood f made) (p c : ℕ) (b : Option ℕ) (hp : 0 < occurs p f) (hc : 0 < occurs c f) (root_is : parent_of f c ≡ None) (z : occurs p (tree_at c f) ≡ 0) (passes : kind_passes may_be_parent f p ≡ true) where
  abbrev gap : Point → Point
  gap q = after_gap p (place_before b (children_of f p)) 1 q

  there-put : (n : ℕ) → 0 < occurs n f → HasNode (put p c b f) n
  there-put n h = HasNode-occurs (put p c b f) n (subst (λ k. 0 < k) (sym (total-put (one_at n) p c b f (let o = s.once p in let t = total-tree_at (one_at p) c f in omega arith))) h)

  grown : (n a : ℕ) → (n == p) ≡ true → a ≤ node_length unit_count f n → a + 1 ≤ node_length unit_count (put p c b f) n
  grown n a t h = grind (arith, nat_tests, length-put_parent f s.once p c b hp hc root_is z passes)

  stays : (n a : ℕ) → a ≤ node_length unit_count f n → a ≤ node_length unit_count (put p c b f) n
  stays n a h = grind (arith, nat_tests, cases_Bool, grown n a, length-put f s.once p c b hp hc root_is z n)

  within : (q : Point) → q.offset ≤ node_length unit_count f q.node → (v w : Bool) → (q.node == p) ≡ v → (if v && w then record q { offset = q.offset + 1 } else q).offset ≤ node_length unit_count (put p c b f) q.node
  within q h true true e = grown q.node q.offset e h
  within q h true false e = stays q.node q.offset h
  within q h false w e = stays q.node q.offset h

  pub boundary-put : (q : Point) → IsBoundary f q → IsBoundary (put p c b f) (gap q)
  boundary-put q k =
      let i : (gap q).node ≡ q.node = gap-node p (place_before b (children_of f p)) 1 q in
      record {
        there = subst (λ n. HasNode (put p c b f) n) (sym i) (there-put q.node (occurs-HasNode f q.node k.there));
        kind = ap (λ n. is_of_kind DocumentType (put p c b f) n) i ∙ kind-put f s.once p c b hp hc root_is z (is_kind DocumentType) q.node ∙ k.kind;
        within = subst (λ n. (gap q).offset ≤ node_length unit_count (put p c b f) n) (sym i) (within q k.within (q.node == p) (nat_lt (place_before b (children_of f p)) q.offset) refl);
      }

  -- a node of the tree that is put is not its new parent
  far : (n : ℕ) → 0 < occurs n (tree_at c f) → (n == p) ≡ false
  far n h = elim (same_or n p) [ same e t ↦ absurd (let k = subst (λ m. 0 < occurs m (tree_at c f)) e h in omega arith) | apart ne t ↦ t ]

  -- what has the root of a node inside is inside
  inside_too : (n m : ℕ) → 0 < occurs n f → root_of f n ≡ root_of f m → 0 < occurs n (tree_at c f) → 0 < occurs m (tree_at c f)
  inside_too n m hn e h =
      let i = hits-ancestors c n f s.once in
      let j = hits-ancestors c m f s.once in
      let a = root-among f s.once p c b hp hc root_is z n hn (hits-among c (ancestors n f) (omega arith)) in
      let k = hits-last_of (ancestors m f) c (sym e ∙ a) in
      omega arith

  order_put : (r : Range) → IsRange f r → order_of (put p c b f) (gap r.start) (gap r.end) ≡ Greater → ⊥
  order_put r h g =
      ⊎_elim
      (λ (lt : 0 < occurs r.start.node (tree_at c f)).
      let le = inside_too r.start.node r.end.node hs h.one_root lt in
      let a : gap r.start ≡ r.start = gap-elsewhere p (place_before b (children_of f p)) 1 r.start (far r.start.node lt) in
      let d : gap r.end ≡ r.end = gap-elsewhere p (place_before b (children_of f p)) 1 r.end (far r.end.node le) in
      let i : order_of (put p c b f) (gap r.start) (gap r.end) ≡ order_of (put p c b f) r.start r.end = ap (λ q. order_of (put p c b f) q (gap r.end)) a ∙ ap (order_of (put p c b f) r.start) d in
      h.in_order (sym (gap-order_inside f s.once p c b hp hc root_is z r.start.node r.end.node r.start.offset r.end.offset lt le) ∙ sym i ∙ g))
      (λ (out : occurs r.start.node (tree_at c f) ≤ 0).
      let no : 0 < occurs r.end.node (tree_at c f) → ⊥ = λ lt. let k = inside_too r.end.node r.start.node he (sym h.one_root) lt in omega arith in
      h.in_order (sym (gap-order_kept f s.once p c b hp hc root_is z r.start.node r.end.node r.start.offset r.end.offset hs he (omega arith) (omega arith) h.one_root) ∙ g))
      (cases_lt 0 (occurs r.start.node (tree_at c f)))
    where
      hs : 0 < occurs r.start.node f
      hs = occurs-HasNode f r.start.node h.starts.there

      he : 0 < occurs r.end.node f
      he = occurs-HasNode f r.end.node h.ends.there

  pub range-put : (r : Range) → IsRange f r → IsRange (put p c b f) (moved_range gap r)
  range-put r h =
      let hs = occurs-HasNode f r.start.node h.starts.there in
      let he = occurs-HasNode f r.end.node h.ends.there in
      let a : (gap r.start).node ≡ r.start.node = gap-node p (place_before b (children_of f p)) 1 r.start in
      let d : (gap r.end).node ≡ r.end.node = gap-node p (place_before b (children_of f p)) 1 r.end in
      record {
        starts = boundary-put r.start h.starts;
        ends = boundary-put r.end h.ends;
        one_root = ap (root_of (put p c b f)) a ∙ one_root-put f s.once p c b hp hc root_is z r.start.node r.end.node hs he h.one_root ∙ sym (ap (root_of (put p c b f)) d);
        in_order = order_put r h;
      }

  -- a reference is in the forest
  reference_there : (i : Iterator) → IsIterator f i → 0 < occurs i.reference f
  reference_there i h = let j = hits-numbers i.reference (tree_at i.root f) in let t = total-tree_at (one_at i.reference) i.root f in let k = h.inside in omega arith

  pub iterator-put : (i : Iterator) → IsIterator f i → IsIterator (put p c b f) i
  iterator-put i h =
      record {
        root = there-put i.root (occurs-HasNode f i.root h.root);
        inside = reference-put f s.once p c b hp hc root_is z i (reference_there i h) h.inside;
      }
