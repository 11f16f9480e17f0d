-- What comes in tree order from a node on: the node, what is inside it, and what is behind it. DOM Standard, "Trees".
use Rattle.std.proofs.Common.{◌≡◌, ℕ, ◌+◌, ◌<◌, ◌≤◌, List, [], ◌∷◌, ◌++◌, Some, refl, ap, sym, ◌∙◌, arith, append_assoc}
use Rattle.dom_model.specs.Definitions.{hits, last_of, from_first, Forest, Grove, IsForest, HasNode, occurs, one_at, numbers, root_of, tree_at, inclusive_descendants, Content}
use Rattle.dom_model.proofs.PlainLists.{Members.hits-last_of, Numbers.same_or, Numbers.same, Numbers.apart}
use Rattle.dom_model.proofs.Forests.{Climbing.hits-append, Climbing.hits-first, Totals.total-tree_at, ToTheRoot.among-here, ToTheRoot.inside, ToTheRoot.inside-root, TreeOrder.Flattened.hits-numbers, TreeOrder.Flattened.numbers-without, TreeOrder.InsideWalks.inside-one, TreeOrder.InsideWalks.from-top, Below.at_itself}
use Rattle.dom_model.proofs.TokenText.AlikeTrees.TreesWithin.{tree_within}
use Rattle.dom_content.proofs.PartsBetween.{split}

from-behind : (x : ℕ) (pre rest : List ℕ) → hits x pre ≡ 0 → from_first x (pre ++ x ∷ rest) ≡ x ∷ rest
from-behind x [] rest z = elim (same_or x x) [ same _ t ↦ rw t refl | apart ne t ↦ absurd (ne refl) ]
from-behind x (y ∷ ys) rest z =
    elim (same_or y x) [
      | same d t ↦ absurd (let k = rw t at z in omega arith)
      | apart ne t ↦ (let k = rw t at z in rw t (from-behind x ys rest (omega arith)))
    ]

last-split : (ns : List ℕ) (x : ℕ) → last_of ns ≡ Some x → (xs : List ℕ) × (ns ≡ xs ++ x ∷ [])
last-split [] x e = absurd (cc e)
last-split (n ∷ []) x e = let u : Some n ≡ Some x = e in let d : n ≡ x = cc u in ([], ap (λ m. m ∷ []) d)
last-split (n ∷ m ∷ ns) x e = let i = last-split (m ∷ ns) x e in (n ∷ i.0, ap (λ l. n ∷ l) i.1)

module _ (g : Grove Content) (s : IsForest g) (root top : ℕ) where
  abbrev below : List ℕ
  below = inclusive_descendants g.forest top

  abbrev all : List ℕ
  all = inclusive_descendants g.forest root

  -- what comes from the node on, and from the last node inside it on
  pub record IsPassed (last : ℕ) : Type 0 where
    pub within : List ℕ
    pub behind : List ℕ
    pub own : inclusive_descendants g.forest top ≡ top ∷ within
    pub first : from_first top (inclusive_descendants g.forest root) ≡ top ∷ (within ++ behind)
    pub second : from_first last (inclusive_descendants g.forest root) ≡ last ∷ behind
    pub once : (x : ℕ) → hits x (inclusive_descendants g.forest top) + hits x behind ≤ 1

  pub passed : (last : ℕ) → HasNode g.forest top → root_of g.forest top ≡ Some root → last_of (inclusive_descendants g.forest top) ≡ Some last → IsPassed last
  passed last h r l =
      let ht : 0 < occurs top (tree_at root g.forest) = inside-root s top root r in
      let once : occurs top (tree_at root g.forest) ≡ 1 = omega (arith, total-tree_at (one_at top) root g.forest, s.once top) in
      let p = numbers-without top (tree_at root g.forest) once in
      let own = ap (λ (t : Forest Content). numbers t) (tree_within root top g.forest s.once ht) in
      let whole : all ≡ p.ahead ++ (below ++ p.behind) = p.holds ∙ ap (λ ns. p.ahead ++ (ns ++ p.behind)) own in
      let count : (x : ℕ) → hits x p.ahead + (hits x below + hits x p.behind) ≤ 1 = λ x. few x p.ahead p.behind whole in
      let listed : 0 < hits top below = omega (arith, hits-numbers top (tree_at top g.forest), inside s top top (sym (among-here g.forest top top h (at_itself top)))) in
      let q = split top below listed in
      let start : below ≡ top ∷ q.rest = sym (from-top g s top h) ∙ q.from in
      let z = last-split below last l in
      let ct = count top in
      let cl = count last in
      let hl = hits-last_of below last l in
      let lone : hits last z.0 ≡ 0 = (let a = ap (hits last) z.1 in let b = hits-append last z.0 (last ∷ []) in let d = hits-first last [] in omega arith) in
      record {
        within = q.rest;
        behind = p.behind;
        own = start;
        first = ap (from_first top) (whole ∙ ap (λ ns. p.ahead ++ (ns ++ p.behind)) start) ∙ from-behind top p.ahead (q.rest ++ p.behind) (omega arith);
        second =
            ap (from_first last)
            (whole
            ∙ ap (λ ns. p.ahead ++ (ns ++ p.behind)) z.1
            ∙ ap (λ ns. p.ahead ++ ns) (append_assoc z.0 (last ∷ []) p.behind)
            ∙ sym (append_assoc p.ahead z.0 (last ∷ p.behind)))
            ∙ from-behind last (p.ahead ++ z.0) p.behind (let a = hits-append last p.ahead z.0 in omega arith);
        once = λ x. let a = count x in omega arith;
      }
    where
      few : (x : ℕ) (ahead behind : List ℕ) → all ≡ ahead ++ (below ++ behind) → hits x ahead + (hits x below + hits x behind) ≤ 1
      few x ahead behind whole =
          let a = ap (hits x) whole in
          let b = hits-append x ahead (below ++ behind) in
          let d = hits-append x below behind in
          let e = inside-one g s root x in
          omega arith
