-- A forest that is part of another: its nodes stand in the other as they do in it. What it has of ranges and iterators is so in both.
use Rattle.std.proofs.Common.{◌≡◌, ℕ, zero, suc, ◌+◌, ◌*◌, ◌<◌, ◌≤◌, List, [], ◌∷◌, ◌++◌, map, drop, reverse, length, Option, Some, None, IsSome, refl, ap, sym, ◌∙◌, subst, arith}
use Rattle.dom_model.specs.Definitions.{hits, last_of, place_in, parent_in, children_in, list_under, is_kind, Forest, occurs, tree_at, entry_in, parent_of, index_of, ancestors, root_of, inclusive_descendants, Content, Point, Range, Iterator, place_of, order_of, entry_has, is_of_kind, unit_count, length_in, node_length, IsBoundary, IsRange, IsIterator}
use Rattle.dom_model.specs.declared.Kind.TheVariants.{DocumentType}
use Rattle.dom_model.proofs.Forests.{Changes.seen, Changes.nothing, Changes.just, Totals.tree_at-absent, Climbing.hits-ancestors, Climbing.ancestors-there, Entries.HasNode-occurs, Entries.occurs-HasNode, Paths.parent-path, Paths.root-path, TreeOrder.Flattened.hits-numbers, Climbing.hits-reverse}
use Rattle.dom_model.proofs.PlainLists.Mapped.{map-same}

pub hits-dropped : (n : ℕ) (xs : List ℕ) → hits n (drop 1 xs) ≤ hits n xs
hits-dropped n [] = omega arith
hits-dropped n (x ∷ xs) = omega arith

-- a node on a path is in the forest
pub path-there : (f : Forest Content) → ((m : ℕ) → occurs m f ≤ 1) → (n m : ℕ) → 0 < hits m (ancestors n f) → 0 < occurs m f
path-there f o n m h =
    let none : occurs m f ≡ 0 → occurs n (tree_at m f) ≡ 0 = λ z. rw (tree_at-absent m f z) refl in
    grind (arith, hits-ancestors m n f o)

module _ (f g : Forest Content) (of : (m : ℕ) → occurs m f ≤ 1) (og : (m : ℕ) → occurs m g ≤ 1) (same_entry : (m : ℕ) → 0 < occurs m f → entry_in g m ≡ entry_in f m) where
  pub there-part : (n : ℕ) → 0 < occurs n f → 0 < occurs n g
  there-part n h = occurs-HasNode g n (subst (λ e. IsSome e) (sym (same_entry n h)) (HasNode-occurs f n h))

  parent-part : (n : ℕ) → 0 < occurs n f → parent_of g n ≡ parent_of f n
  parent-part n h = ap parent_in (same_entry n h)

  pub ancestors-part : (n : ℕ) → 0 < occurs n f → ancestors n g ≡ ancestors n f
  ancestors-part n h = go (length (ancestors n f)) n (omega arith) h
    where
      go : (k m : ℕ) → length (ancestors m f) ≤ k → 0 < occurs m f → ancestors m g ≡ ancestors m f
      go zero m l hm = absurd (let i = ancestors-there m f hm in let j = rw i.1 at l in omega arith)
      go (suc k) m l hm =
          elim (seen (parent_of f m)) [
            | nothing e ↦ root-path g og m (there-part m hm) (parent-part m hm ∙ e) ∙ sym (root-path f of m hm e)
            | just q e ↦
                let i = parent-path f of m q hm e in
                let j = parent-path g og m q (there-part m hm) (parent-part m hm ∙ e) in
                let s = rw i.1 at l in
                j.1 ∙ ap (λ ns. m ∷ ns) (go k q (omega arith) i.0) ∙ sym i.1
          ]

  pub root-part : (n : ℕ) → 0 < occurs n f → root_of g n ≡ root_of f n
  root-part n h = ap last_of (ancestors-part n h)

  index-part : (n : ℕ) → 0 < occurs n f → index_of g n ≡ index_of f n
  index-part n h = ap (place_in n) (ap (list_under (entry_in g)) (parent-part n h) ∙ go (parent_of f n) refl)
    where
      go : (q : Option ℕ) → parent_of f n ≡ q → list_under (entry_in g) q ≡ list_under (entry_in f) q
      go None e = refl
      go (Some q) e = ap children_in (same_entry q (parent-path f of n q h e).0)

  place-part : (p : Point) → 0 < occurs p.node f → place_of g p ≡ place_of f p
  place-part p h =
      ap (λ ns. map (λ m. 2 * index_of g m + 1) (drop 1 (reverse ns)) ++ (2 * p.offset) ∷ []) (ancestors-part p.node h)
      ∙ ap (λ ns. ns ++ (2 * p.offset) ∷ [])
      (map-same (λ m. 2 * index_of g m + 1) (λ m. 2 * index_of f m + 1) (drop 1 (reverse (ancestors p.node f)))
      (λ m k. ap (λ i. 2 * i + 1) (index-part m (path-there f of p.node m (let a = hits-dropped m (reverse (ancestors p.node f)) in let b = hits-reverse m (ancestors p.node f) in omega arith)))))

  pub order-part : (p q : Point) → 0 < occurs p.node f → 0 < occurs q.node f → order_of g p q ≡ order_of f p q
  order-part p q hp hq = rw (place-part p hp, place-part q hq) refl

  kind-part : (n : ℕ) → 0 < occurs n f → is_of_kind DocumentType g n ≡ is_of_kind DocumentType f n
  kind-part n h = ap (entry_has (is_kind DocumentType)) (same_entry n h)

  pub length-part : (n : ℕ) → 0 < occurs n f → node_length unit_count g n ≡ node_length unit_count f n
  length-part n h = ap (length_in unit_count) (same_entry n h)

  boundary-from_part : (p : Point) → IsBoundary f p → IsBoundary g p
  boundary-from_part p b =
      let h = occurs-HasNode f p.node b.there in
      record {
        there = HasNode-occurs g p.node (there-part p.node h);
        kind = kind-part p.node h ∙ b.kind;
        within = subst (λ k. p.offset ≤ k) (sym (length-part p.node h)) b.within;
      }

  boundary-to_part : (p : Point) → 0 < occurs p.node f → IsBoundary g p → IsBoundary f p
  boundary-to_part p h b =
      record {
        there = HasNode-occurs f p.node h;
        kind = sym (kind-part p.node h) ∙ b.kind;
        within = subst (λ k. p.offset ≤ k) (length-part p.node h) b.within;
      }

  pub range-from_part : (r : Range) → IsRange f r → IsRange g r
  range-from_part r h =
      let hs = occurs-HasNode f r.start.node h.starts.there in
      let he = occurs-HasNode f r.end.node h.ends.there in
      record {
        starts = boundary-from_part r.start h.starts;
        ends = boundary-from_part r.end h.ends;
        one_root = root-part r.start.node hs ∙ h.one_root ∙ sym (root-part r.end.node he);
        in_order = λ k. h.in_order (sym (order-part r.start r.end hs he) ∙ k);
      }

  pub range-to_part : (r : Range) → 0 < occurs r.start.node f → 0 < occurs r.end.node f → IsRange g r → IsRange f r
  range-to_part r hs he h =
      record {
        starts = boundary-to_part r.start hs h.starts;
        ends = boundary-to_part r.end he h.ends;
        one_root = sym (root-part r.start.node hs) ∙ h.one_root ∙ root-part r.end.node he;
        in_order = λ k. h.in_order (order-part r.start r.end hs he ∙ k);
      }

  -- how often a node stands inside another
  inside-part : (n r : ℕ) → 0 < occurs n f → hits n (inclusive_descendants g r) ≡ hits n (inclusive_descendants f r)
  inside-part n r h =
      hits-numbers n (tree_at r g) ∙ sym (hits-ancestors r n g og) ∙ ap (hits r) (ancestors-part n h) ∙ hits-ancestors r n f of ∙ sym (hits-numbers n (tree_at r f))

  pub iterator-from_part : (i : Iterator) → 0 < occurs i.reference f → IsIterator f i → IsIterator g i
  iterator-from_part i hr h =
      record {
        root = HasNode-occurs g i.root (there-part i.root (occurs-HasNode f i.root h.root));
        inside = subst (λ k. 0 < k) (sym (inside-part i.reference i.root hr)) h.inside;
      }

  pub iterator-to_part : (i : Iterator) → 0 < occurs i.root f → 0 < occurs i.reference f → IsIterator g i → IsIterator f i
  iterator-to_part i ht hr h =
      record {
        root = HasNode-occurs f i.root ht;
        inside = subst (λ k. 0 < k) (inside-part i.reference i.root hr) h.inside;
      }
