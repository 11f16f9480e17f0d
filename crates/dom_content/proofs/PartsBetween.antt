-- The nodes that are contained in a range lie behind each node whose front does not come after its start, up to the first node that does
-- not come before its end. So whatever is told of contained nodes alone is told by a walk between the two. DOM Standard, "Interface Range".
use Rattle.std.proofs.Common.{◌≡◌, ℕ, ◌+◌, ◌<◌, Bool, true, false, List, [], ◌∷◌, ◌++◌, length, drop, flat_map, Option, Some, None, refl, ap, sym, ◌∙◌, subst, arith, append_assoc, append-nil}
use Rattle.std.proofs.lemmas.{Bool.false≢true, Grind.flat_map-append, Bool.and_parts}
use Rattle.dom_model.specs.Definitions.{hits, after, from_first, is_same, Grove, IsForest, HasNode, occurs, one_at, numbers, root_of, tree_at, inclusive_descendants, node_length, unit_count, Content, Point, Range, IsRange, is_less, is_before, is_contained, root_text, tokens_ahead}
use Rattle.dom_model.proofs.PlainLists.Numbers.{same_or, same, apart}
use Rattle.dom_model.proofs.Forests.{Climbing.hits-append, Climbing.hits-first, Entries.HasNode-occurs, Totals.total-tree_at, Below.tree-there, TreeOrder.Flattened.hits-numbers, TreeOrder.Flattened.numbers-without, TreeOrder.InsideWalks.rest-next, TreeOrder.InsideWalks.rest-end}
use Rattle.dom_model.proofs.BoundaryPoints.PointOrder.{order-one_node}
use Rattle.dom_content.proofs.AlongGaps.{from-less, from-not_less, from-offsets, place, order-is, there, step, walk-at, later}

same-some : (o : Option ℕ) (c : ℕ) → is_same o (Some c) ≡ true → o ≡ Some c
same-some None c h = absurd (false≢true h)
same-some (Some d) c h = elim (same_or d c) [ same e t ↦ ap (λ x. Some x) e | apart ne t ↦ absurd (let k = rw t at h in false≢true k) ]

-- a list up to a number, and from it on
pub record IsSplit (n : ℕ) (ns : List ℕ) : Type 0 where
  pub pre : List ℕ
  pub rest : List ℕ
  pub whole : ns ≡ pre ++ n ∷ rest
  pub from : from_first n ns ≡ n ∷ rest

pub split : (n : ℕ) (ns : List ℕ) → 0 < hits n ns → IsSplit n ns
split n [] h = absurd (omega arith)
split n (x ∷ xs) h =
    elim (same_or x n) [
      | same d t ↦ record { pre = []; rest = xs; whole = ap (λ m. m ∷ xs) d; from = rw t (ap (λ m. m ∷ xs) d) }
      | apart ne t ↦
          let k = rw t at h in
          let r = split n xs (omega arith) in
          let e : from_first n (x ∷ xs) ≡ from_first n xs = rw t refl in
          record { pre = x ∷ r.pre; rest = r.rest; whole = ap (λ l. x ∷ l) r.whole; from = e ∙ r.from }
    ]

from-front : (x : ℕ) (pre rest : List ℕ) → 0 < hits x pre → from_first x (pre ++ rest) ≡ from_first x pre ++ rest
from-front x [] rest h = absurd (omega arith)
from-front x (y ∷ ys) rest h =
    elim (same_or y x) [
      | same d t ↦ rw t refl
      | apart ne t ↦ (let k = rw t at h in rw t (from-front x ys rest (omega arith)))
    ]

-- the walk has come to a node, and the list has grown by what is told of the nodes up to it
pub record IsTold (g : Grove Content) (range : Range) (part : ℕ → List ℕ) (root : ℕ) (before : List ℕ) (here : ℕ) (text : List ℕ) : Type 0 where
  pub rooted : root_of g.forest range.start.node ≡ Some root
  pub there : HasNode g.forest here
  pub of_root : root_of g.forest here ≡ Some root
  pub grown : before ++ flat_map part (numbers g.forest) ≡ text ++ flat_map part (drop 1 (from_first here (inclusive_descendants g.forest root)))

-- nothing is told of a node that is not contained
abbrev pub TellsContained : Grove Content → Range → (ℕ → List ℕ) → Type 0
TellsContained g range part = (n : ℕ) → is_contained unit_count g.forest range n ≡ false → part n ≡ []

module _ (g : Grove Content) (s : IsForest g) (range : Range) (is : IsRange g.forest range) (root : ℕ) (rooted : root_of g.forest range.start.node ≡ Some root) (part : ℕ → List ℕ) (blank : TellsContained g range part) where
  abbrev pub all : List ℕ
  all = inclusive_descendants g.forest root

  abbrev pub front : ℕ → Point
  front n = record { node = n; offset = 0 }

  abbrev pub ahead : Point → Option ℕ
  ahead p = tokens_ahead p [] (root_text g.forest root)

  abbrev pub told : List ℕ → List ℕ
  told ns = flat_map part ns

  end-rooted : root_of g.forest range.end.node ≡ Some root
  end-rooted = sym is.one_root ∙ rooted

  -- what is contained is of the root, behind the start and ahead of the end
  pub record IsInside (x : ℕ) : Type 0 where
    pub of_root : root_of g.forest x ≡ Some root
    pub starts : is_before g.forest range.start (front x) ≡ true
    pub ends : is_before g.forest (record { node = x; offset = node_length unit_count g.forest x }) range.end ≡ true

  pub inside-of : (x : ℕ) → is_contained unit_count g.forest range x ≡ true → IsInside x
  inside-of x h =
      let a = and_parts (is_same (root_of g.forest x) (root_of g.forest range.start.node)) _ h in
      let b = and_parts (is_before g.forest range.start (front x)) _ a.1 in
      record { of_root = same-some (root_of g.forest x) root (ap (is_same (root_of g.forest x)) (sym rooted) ∙ a.0); starts = b.0; ends = b.1 }

  not-contained : (x : ℕ) → (IsInside x → ⊥) → is_contained unit_count g.forest range x ≡ false
  not-contained x never = go (is_contained unit_count g.forest range x) refl
    where
      go : (v : Bool) → is_contained unit_count g.forest range x ≡ v → is_contained unit_count g.forest range x ≡ false
      go true e = absurd (never (inside-of x e))
      go false e = e

  -- nothing up to a node whose front does not come after the start
  none-ahead : (here x : ℕ) → root_of g.forest here ≡ Some root → is_before g.forest range.start (front here) ≡ false → HasNode g.forest x → 0 < hits here (from_first x all) → IsInside x → ⊥
  none-ahead here x r early h o c =
      let i = place g s root (front x) c.of_root (omega arith) in
      let j = place g s root (front here) r (omega arith) in
      let a = place g s root range.start rooted is.starts.within in
      let l = later g s root (length (from_first x all)) x here i.0 j.0 (omega arith) h c.of_root o i.1 j.1 in
      let m = from-not_less a.0 j.0 (ap is_less (sym (order-is g s root range.start (front here) a.0 j.0 rooted r is.starts.within (omega arith) a.1 j.1)) ∙ early) in
      let b = from-less a.0 i.0 (ap is_less (sym (order-is g s root range.start (front x) a.0 i.0 rooted c.of_root is.starts.within (omega arith) a.1 i.1)) ∙ c.starts) in
      omega arith

  none-behind : (z x : ℕ) → HasNode g.forest z → root_of g.forest z ≡ Some root → is_before g.forest (front z) range.end ≡ false → 0 < hits x (from_first z all) → IsInside x → ⊥
  none-behind z x h r late o c =
      let size = node_length unit_count g.forest x in
      let i = place g s root (front z) r (omega arith) in
      let j = place g s root (front x) c.of_root (omega arith) in
      let k = place g s root (record { node = x; offset = size }) c.of_root (omega arith) in
      let b = place g s root range.end end-rooted is.ends.within in
      let l = later g s root (length (from_first z all)) z x i.0 j.0 (omega arith) h r o i.1 j.1 in
      let e = sym (order-is g s root (front x) (record { node = x; offset = size }) j.0 k.0 c.of_root c.of_root (omega arith) (omega arith) j.1 k.1) ∙ order-one_node g.forest x 0 size in
      let m = from-offsets j.0 k.0 0 size (omega arith) e in
      let u = from-less k.0 b.0 (ap is_less (sym (order-is g s root (record { node = x; offset = size }) range.end k.0 b.0 c.of_root end-rooted (omega arith) is.ends.within k.1 b.1)) ∙ c.ends) in
      let v = from-not_less i.0 b.0 (ap is_less (sym (order-is g s root (front z) range.end i.0 b.0 r end-rooted (omega arith) is.ends.within i.1 b.1)) ∙ late) in
      omega arith

  none-told : (ns : List ℕ) → ((m : ℕ) → 0 < hits m ns → IsInside m → ⊥) → told ns ≡ []
  none-told [] h = refl
  none-told (n ∷ ns) h =
      let a = blank n (not-contained n (h n (hits-first n ns))) in
      let rest = none-told ns (λ m k. h m (omega arith)) in
      ap (λ us. us ++ told ns) a ∙ rest

  -- the root stands once
  root-once : occurs root g.forest ≡ 1
  root-once =
      let h = tree-there range.start.node root g.forest (there g s root range.start.node rooted) in
      omega (arith, s.once root)

  listed : (x : ℕ) → root_of g.forest x ≡ Some root → 0 < hits x all
  listed x r = omega (arith, hits-numbers x (tree_at root g.forest), there g s root x r)

  -- nothing of another root is contained
  pub all-told : told (numbers g.forest) ≡ told all
  all-told =
      let p = numbers-without root g.forest root-once in
      let aside : (x : ℕ) → 0 < hits x p.ahead + hits x p.behind → IsInside x → ⊥ = λ x h c.
      let w = ap (hits x) p.holds ∙ hits-append x p.ahead (all ++ p.behind) in
      let v = hits-append x all p.behind in
      let o = s.once x in
      let y = hits-numbers x g.forest in
      let z = listed x c.of_root in
      omega arith in
      ap told p.holds
      ∙ flat_map-append part p.ahead (all ++ p.behind)
      ∙ ap (λ us. us ++ told (all ++ p.behind)) (none-told p.ahead (λ x h. aside x (omega arith)))
      ∙ flat_map-append part all p.behind
      ∙ ap (λ us. told all ++ us) (none-told p.behind (λ x h. aside x (omega arith)))
      ∙ append-nil (told all)

  held-of : (x : ℕ) → root_of g.forest x ≡ Some root → HasNode g.forest x
  held-of x r = HasNode-occurs g.forest x (omega (arith, total-tree_at (one_at x) root g.forest, there g s root x r))

  -- nothing is told up to a node whose front does not come after the start
  pub start-told : (here : ℕ) → HasNode g.forest here → root_of g.forest here ≡ Some root → is_before g.forest range.start (front here) ≡ false → told all ≡ told (drop 1 (from_first here all))
  start-told here hh r early =
      let p = split here all (listed here r) in
      let before : (x : ℕ) → 0 < hits x p.pre → IsInside x → ⊥ = λ x h c.
      let e = ap (from_first x) p.whole ∙ from-front x p.pre (here ∷ p.rest) h in
      let w = ap (hits here) e ∙ hits-append here (from_first x p.pre) (here ∷ p.rest) in
      let v = hits-first here p.rest in
      none-ahead here x r early (held-of x c.of_root) (omega arith) c in
      let itself : IsInside here → ⊥ = λ c.
      let w = ap (hits here) p.from in
      let v = hits-first here p.rest in
      none-ahead here here r early hh (omega arith) c in
      let one : told (here ∷ []) ≡ [] = none-told (here ∷ []) (λ x h c. elim (same_or here x) [ same d t ↦ itself (subst IsInside (sym d) c) | apart ne t ↦ (let k = rw t at h in omega arith) ]) in
      ap told p.whole
      ∙ flat_map-append part p.pre (here ∷ p.rest)
      ∙ ap (λ us. us ++ told (here ∷ p.rest)) (none-told p.pre before)
      ∙ flat_map-append part (here ∷ []) p.rest
      ∙ ap (λ us. us ++ told p.rest) one
      ∙ ap (λ ns. told (drop 1 ns)) (sym p.from)

  pub told-start : (here : ℕ) (text : List ℕ) → HasNode g.forest here → root_of g.forest here ≡ Some root → is_before g.forest range.start (front here) ≡ false → IsTold g range part root text here text
  told-start here text h r early = record {
    rooted = rooted;
    there = h;
    of_root = r;
    grown = ap (λ us. text ++ us) (all-told ∙ start-told here h r early);
  }

  begins : (m : ℕ) → 0 < hits m all → told (from_first m all) ≡ part m ++ told (drop 1 (from_first m all))
  begins m h =
      let p = split m all h in
      ap told p.from ∙ ap (λ ns. part m ++ told (drop 1 ns)) (sym p.from)

  pub told-next : (before : List ℕ) (n m : ℕ) (text text2 : List ℕ) → IsTold g range part root before n text → after n all ≡ Some m → text2 ≡ text ++ part m → IsTold g range part root before m text2
  told-next before n m text text2 i e grown =
      let q = step g s root n m i.there i.of_root e in
      let rest = told (drop 1 (from_first m all)) in
      record {
        rooted = rooted;
        there = q.1;
        of_root = q.0;
        grown =
            i.grown
            ∙ ap (λ ns. text ++ told (drop 1 ns)) (rest-next g s root n m e)
            ∙ ap (λ us. text ++ us) (begins m (listed m q.0))
            ∙ sym (append_assoc text (part m) (told (drop 1 (from_first m all))))
            ∙ ap (λ us. us ++ told (drop 1 (from_first m all))) (sym grown);
      }

  pub told-stop : (before : List ℕ) (n m : ℕ) (text : List ℕ) → IsTold g range part root before n text → after n all ≡ Some m → is_before g.forest (front m) range.end ≡ false → text ≡ before ++ flat_map part (numbers g.forest)
  told-stop before n m text i e late =
      let q = step g s root n m i.there i.of_root e in
      sym (i.grown
      ∙ ap (λ ns. text ++ told (drop 1 ns)) (rest-next g s root n m e)
      ∙ ap (λ us. text ++ us) (none-told (from_first m all) (λ x h c. none-behind m x q.1 q.0 late h c))
      ∙ append-nil text)

  pub told-end : (before : List ℕ) (n : ℕ) (text : List ℕ) → IsTold g range part root before n text → after n all ≡ None → text ≡ before ++ flat_map part (numbers g.forest)
  told-end before n text i e =
      sym (i.grown ∙ ap (λ ns. text ++ told (drop 1 ns)) (rest-end g s root n (walk-at g s root n i.there i.of_root) e) ∙ append-nil text)
