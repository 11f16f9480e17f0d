-- Each boundary point of a tree has one gap in the token text of its root, and points of one root stand as their gaps do.
use Rattle.std.proofs.Common.{◌≡◌, ℕ, suc, ◌+◌, ◌<◌, ◌≤◌, ◌==◌, true, false, List, [], ◌∷◌, ◌++◌, reverse, drop, Some, None, option_map, refl, ap, sym, ◌∙◌, subst, arith}
use Rattle.dom_model.specs.Definitions.{hits, Node, Forest, empty, node, occurs, one_at, tops, entry_under, root_of, index_of, KindsFit, Content, Point, place_of, order_of, length_in, node_length, unit_count, Open, Close, point, no_marks, token_texts, text_among, root_text, tokens_ahead, gap_count, gap_order}
use Rattle.dom_model.proofs.PlainLists.Numbers.{same_or, same, apart}
use Rattle.dom_model.proofs.Forests.{Tops.hits-tops, Climbing.ancestors-rest, Chains.way_to, Lots.lot, Lots.on_top, Lots.beneath, Lots.elsewhere, Lots.at_top, Lots.under_top, Lots.entry-elsewhere, Lots.root-top, Lots.root-elsewhere, Lots.root-listed, IndexedTrees.AreIndexed, IndexedTrees.indices}
use Rattle.dom_model.proofs.BoundaryPoints.{WaysKept.place_by, PointOrder.nat_cmp-kept}
use Rattle.dom_model.proofs.TokenText.{PointGaps.GapWalk.tree_gaps, PointGaps.GapWalk.tree_tokens, PointGaps.GapWalk.gaps, PointGaps.GapWalk.gaps_ahead, PointGaps.GapWalk.times, PointGaps.GapWalk.walk-root, PointGaps.GapWalk.ahead-gaps, PointGaps.GapWalk.count-gaps, PointGaps.GapCounts.at-once, PointGaps.GapCounts.times-tree, PointGaps.GapPlaces.StandsInTree, PointGaps.GapPlaces.at-tree, PointGaps.GapPlaces.ordered-tree, PointGaps.GapPoints.tree-points}

-- the tree of a root, its text, and where its points stand in it
record RootTree (index : ℕ → ℕ) (root : ℕ) (f : Forest Content) : Type 0 where
  top : Node Content
  kids : Forest Content
  text : text_among root (token_texts no_marks f) ≡ Open top.number ∷ (tree_tokens top kids ++ Close ∷ [])
  once : (m : ℕ) → one_at m top.number + occurs m kids ≤ 1
  stands : (m a : ℕ) → root_of f m ≡ Some root → a ≤ length_in unit_count (entry_under None m f) → (k : ℕ) × StandsInTree top kids (point m a) (place_by index (way_to f m) a) k

root_tree : (index : ℕ → ℕ) (root : ℕ) (f : Forest Content) → ((m : ℕ) → occurs m f ≤ 1) → AreIndexed index f → KindsFit None f → 0 < hits root (tops f) → RootTree index root f
root_tree index root empty o ix fit h = absurd (omega arith)
root_tree index root (node x kids rest) o ix fit h =
    elim (same_or x.number root) [
      | same e t ↦ first e t
      | apart ne t ↦ (let k = rw t at h in later ne t (root_tree index root rest (λ m. let j = o m in omega arith) ix.1 fit.2 (omega arith)))
    ]
  where
    first : x.number ≡ root → (x.number == root) ≡ true → RootTree index root (node x kids rest)
    first e t = record {
      top = x;
      kids = kids;
      text = rw t refl;
      once = λ m. let i = o m in omega arith;
      stands = λ m a r l. elim (lot m x kids) [
        | on_top d ↦ tree-points index None x kids rest m a ix.0 fit.1 (at_top d) l
        | beneath ne k ↦ tree-points index None x kids rest m a ix.0 fit.1 (under_top ne k) l
        | elsewhere ne z ↦
            absurd (let j = root-listed m root rest (sym (root-elsewhere m x kids rest ne z) ∙ r) in
            let i = o root in
            let u = rw t at i in
            omega (arith, hits-tops root rest))
      ];
    }

    later : (x.number ≡ root → ⊥) → (x.number == root) ≡ false → RootTree index root rest → RootTree index root (node x kids rest)
    later ne t i = record {
      top = i.top;
      kids = i.kids;
      text = rw t i.text;
      once = i.once;
      stands = λ m a r l. elim (lot m x kids) [
        | on_top d ↦ absurd (ne (let s : Some x.number ≡ Some root = sym (root-top m x kids rest (at_top d)) ∙ r in cc s))
        | beneath far j ↦ absurd (ne (let s : Some x.number ≡ Some root = sym (root-top m x kids rest (under_top far j)) ∙ r in cc s))
        | elsewhere far z ↦
            let s = i.stands m a (sym (root-elsewhere m x kids rest far z) ∙ r) (rw (entry-elsewhere None m x kids rest far z) at l) in
            (s.0, subst (λ (ms : List ℕ). StandsInTree i.top i.kids (point m a) (place_by index (drop 1 (reverse ms)) a) s.0) (sym (ancestors-rest m x kids rest far z)) s.1)
      ];
    }

-- Each number stands at most once, and each node where its kind may: a node below one with data would have no gap.
module _ (f : Forest Content) (o : (m : ℕ) → occurs m f ≤ 1) (kinds : KindsFit None f) (root : ℕ) where
  tree_of : (p : Point) → root_of f p.node ≡ Some root → RootTree (index_of f) root f
  tree_of p r = root_tree (index_of f) root f o (indices f o) kinds (root-listed p.node root f r)

  one-gap : (t : RootTree (index_of f) root f) (p : Point) (place : List ℕ) (k : ℕ) → StandsInTree t.top t.kids p place k → (tokens_ahead p [] (root_text f root) ≡ Some (suc k)) × (gap_count p [] (root_text f root) ≡ 1)
  one-gap t p place k s =
      let i = at-once p k (tree_gaps t.top t.kids) (at-tree t.top t.kids p place k s) (let u = t.once p.node in omega (arith, times-tree p t.top t.kids)) in
      let w : gaps [] (root_text f root) ≡ None ∷ tree_gaps t.top t.kids = ap (gaps []) t.text ∙ walk-root t.top t.kids in (
        ahead-gaps p [] (root_text f root) ∙ ap (gaps_ahead p) w ∙ ap (option_map (λ m. suc m)) i.0,
        count-gaps p [] (root_text f root) ∙ ap (times p) w ∙ ap (λ m. 0 + m) i.1,
      )

  -- a boundary point has a gap in the text of its root
  pub gap-found : (p : Point) → root_of f p.node ≡ Some root → p.offset ≤ node_length unit_count f p.node → (k : ℕ) × (tokens_ahead p [] (root_text f root) ≡ Some k)
  gap-found p r l =
      let s = (tree_of p r).stands p.node p.offset r l in
      (suc s.0, (one-gap (tree_of p r) p (place_of f p) s.0 s.1).0)

  -- and only one
  pub gap-only : (p : Point) → root_of f p.node ≡ Some root → p.offset ≤ node_length unit_count f p.node → gap_count p [] (root_text f root) ≡ 1
  gap-only p r l =
      let s = (tree_of p r).stands p.node p.offset r l in
      (one-gap (tree_of p r) p (place_of f p) s.0 s.1).1

  -- points of one root stand as their gaps do in its text
  pub gaps-in_order : (p q : Point) → root_of f p.node ≡ Some root → root_of f q.node ≡ Some root → p.offset ≤ node_length unit_count f p.node → q.offset ≤ node_length unit_count f q.node → gap_order p q (root_text f root) ≡ Some (order_of f p q)
  gaps-in_order p q rp rq lp lq = go (tree_of p rp)
    where
      go : (t : RootTree (index_of f) root f) → gap_order p q (root_text f root) ≡ Some (order_of f p q)
      go t =
          let s = t.stands p.node p.offset rp lp in
          let u = t.stands q.node q.offset rq lq in
          let e = ordered-tree t.top t.kids p q (place_of f p) (place_of f q) s.0 u.0 s.1 u.1 in
          rw ((one-gap t p (place_of f p) s.0 s.1).0, (one-gap t q (place_of f q) u.0 u.1).0)
          (ap (λ c. Some c) (nat_cmp-kept s.0 u.0 (suc s.0) (suc u.0) (λ h. omega arith) (λ h. omega arith) (λ h. omega arith) ∙ sym e))
