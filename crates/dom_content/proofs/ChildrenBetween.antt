-- Of the children of the deepest common ancestor of a range's ends, those that lie between the two ways down to them are contained: a walk
-- from one child to another tells them. DOM Standard, "Interface Range".
use Rattle.std.proofs.Common.{◌≡◌, ℕ, zero, suc, ◌+◌, ◌<◌, ◌≤◌, ◌==◌, Bool, true, false, List, [], ◌∷◌, ◌++◌, take, drop, filter, Option, Some, None, refl, ap, sym, ◌∙◌, subst, arith, slice_get, ⊎_elim}
use Rattle.std.specs.Option.{option_eq}
use Rattle.std.proofs.lemmas.{Bool.cases_lt, Bool.false≢true, List.take-append-drop}
use Rattle.dom_model.specs.Definitions.{hits, is_number, past, Forest, Grove, IsForest, HasNode, occurs, parent_of, children_of, next_of, unit_count, Content, Point, Range, IsRange, is_contained, common_ancestor, path_below, IsWay}
use Rattle.dom_model.proofs.PlainLists.Numbers.{same_or, same, apart}
use Rattle.dom_model.proofs.Forests.{Changes.seen, Changes.nothing, Changes.just, Climbing.hits-first, Entries.occurs-HasNode, Entries.HasNode-occurs, Indices.child-listed, Indices.child-once, Indices.child-parent, Indices.index-child, Siblings.hits-get, Siblings.get-head, Siblings.next-child}
use Rattle.dom_model.proofs.RangesAndContents.ContainedChildren.{up_to-place, up_to-through, ahead_in, through_in, top, forked, contained-between}
use Rattle.dom_model.proofs.TokenText.EditsMade.EditsOfInsertions.{get-place}
use Rattle.dom_edit.specs.InsertionPoints.{IsAmong, from_optional, children_ahead}
use Rattle.dom_edit.proofs.{IsAmongLemmas.IsAmong-after, IsAmongLemmas.from_optional-head, IsAmongLemmas.next_of-child, InsertionPointLemmas.ahead-on, InsertionPointLemmas.from_successor}
use Rattle.dom_content.specs.DrawnParts.{index_behind, index_at}
use Rattle.dom_model.proofs.Soundness.SoundEditing.{number_is}

from-head : (ns : List ℕ) → from_optional (slice_get ns 0) ns ≡ ns
from-head ns = ap (λ o. from_optional o ns) (sym (get-head ns)) ∙ from_optional-head ns

-- an element of the rest is not the first
not-first : (n : ℕ) (ns : List ℕ) (j : ℕ) → ((m : ℕ) → hits m (n ∷ ns) ≤ 1) → is_number (slice_get ns j) n ≡ false
not-first n ns j once =
    elim (seen (slice_get ns j)) [
      | nothing e ↦ rw e refl
      | just m e ↦
          let h = hits-get ns j m e in
          let o = once m in
          elim (same_or m n) [
            | same d t ↦ absurd (let k = hits-first n ns in let w = subst (λ x. hits x (n ∷ ns) ≤ 1) d o in let v = subst (λ x. 0 < hits x ns) d h in once-twice n ns w v)
            | apart ne t ↦ rw e t
          ]
    ]
  where
    once-twice : (n : ℕ) (ns : List ℕ) → hits n (n ∷ ns) ≤ 1 → 0 < hits n ns → ⊥
    once-twice n ns w v = elim (same_or n n) [ same _ t ↦ (let k = rw t at w in omega arith) | apart ne t ↦ ne refl ]

from-rest : (n : ℕ) (ns : List ℕ) (i : ℕ) → ((m : ℕ) → hits m (n ∷ ns) ≤ 1) → from_optional (slice_get ns i) (n ∷ ns) ≡ from_optional (slice_get ns i) ns
from-rest n ns i once =
    elim (seen (slice_get ns i)) [
      | nothing e ↦ rw e refl
      | just m e ↦
          let h = hits-get ns i m e in
          let o = once m in
          rw e (elim (same_or n m) [
            | same d t ↦ absurd (let k = rw t at o in omega arith)
            | apart ne t ↦ rw t refl
          ])
    ]

-- The part from an index on, and the part up to one.

pub from-got : (k : ℕ) (ns : List ℕ) → ((m : ℕ) → hits m ns ≤ 1) → from_optional (slice_get ns k) ns ≡ drop k ns
from-got zero [] once = refl
from-got (suc k) [] once = refl
from-got zero (n ∷ ns) once = from-head (n ∷ ns)
from-got (suc k) (n ∷ ns) once = from-rest n ns k once ∙ from-got k ns (λ m. let o = once m in omega arith)

pub ahead-got : (k : ℕ) (ns : List ℕ) → ((m : ℕ) → hits m ns ≤ 1) → children_ahead (slice_get ns k) ns ≡ take k ns
ahead-got zero [] once = refl
ahead-got (suc k) [] once = refl
ahead-got zero (n ∷ ns) once = elim (same_or n n) [ same _ t ↦ rw t refl | apart ne t ↦ absurd (ne refl) ]
ahead-got (suc k) (n ∷ ns) once =
    ahead-on (slice_get ns k) n ns (not-first n ns k once) ∙ ap (λ ms. n ∷ ms) (ahead-got k ns (λ m. let o = once m in omega arith))

-- nothing comes after a number that is not there
pub past-absent : (n : ℕ) (ns : List ℕ) → hits n ns ≡ 0 → past n ns ≡ []
past-absent n [] h = refl
past-absent n (x ∷ xs) h =
    elim (same_or x n) [
      | same d t ↦ absurd (let k = rw t at h in omega arith)
      | apart ne t ↦ (let k = rw t at h in rw t (past-absent n xs (omega arith)))
    ]

-- what comes ahead of a number behind the front of a list
behind-front : (until : Option ℕ) (pre rest more : List ℕ) → children_ahead until (pre ++ rest) ≡ pre ++ more → children_ahead until rest ≡ more
behind-front until [] rest more e = e
behind-front None (x ∷ pre) rest more e = behind-front None pre rest more (cc e)
behind-front (Some u) (x ∷ pre) rest more e =
    elim (same_or x u) [
      | same d t ↦ absurd (let k = rw t at e in cc k)
      | apart ne t ↦ (let k = rw t at e in behind-front (Some u) pre rest more (cc k))
    ]

-- The children between the two ways.

module _ (g : Grove Content) (s : IsForest g) (r : Range) (is : IsRange g.forest r) where
  abbrev children : List ℕ
  children = children_of g.forest (top g s r is)

  through-start : (path : List ℕ) → IsWay g.forest (top g s r is) path r.start.node → take (index_behind g.forest r.start path) children ≡ through_in r.start.offset path children
  through-start [] w = refl
  through-start (c ∷ path) w = ap (λ k. take (k + 1) children) (index-child g.forest c (top g s r is) w.1) ∙ up_to-through c children (child-listed g.forest s.once c (top g s r is) w.0 w.1)

  ahead-end : (path : List ℕ) → IsWay g.forest (top g s r is) path r.end.node → take (index_at g.forest r.end path) children ≡ ahead_in r.end.offset path children
  ahead-end [] w = refl
  ahead-end (c ∷ path) w = ap (λ k. take k children) (index-child g.forest c (top g s r is) w.1) ∙ up_to-place c children (child-listed g.forest s.once c (top g s r is) w.0 w.1)

  abbrev pub first_index : ℕ
  first_index = index_behind g.forest r.start (path_below g.forest (top g s r is) r.start.node)

  abbrev pub end_index : ℕ
  end_index = index_at g.forest r.end (path_below g.forest (top g s r is) r.end.node)

  pub children-contained : filter (is_contained unit_count g.forest r) (children_of g.forest (top g s r is)) ≡ children_ahead (slice_get (children_of g.forest (top g s r is)) end_index) (from_optional (slice_get (children_of g.forest (top g s r is)) first_index) (children_of g.forest (top g s r is)))
  children-contained =
      let once : (m : ℕ) → hits m children ≤ 1 = λ m. child-once g.forest s.once m (top g s r is) in
      let until = slice_get children end_index in
      let ways = forked g s r is in
      let more = filter (is_contained unit_count g.forest r) children in
      let ahead : children_ahead until children ≡ take first_index children ++ more =
      ahead-got end_index children once
      ∙ ahead-end (path_below g.forest (top g s r is) r.end.node) ways.second
      ∙ contained-between g s r is
      ∙ ap (λ ns. ns ++ more) (sym (through-start (path_below g.forest (top g s r is) r.start.node) ways.first)) in
      sym (ap (children_ahead until) (from-got first_index children once)
      ∙ behind-front until (take first_index children) (drop first_index children) more (ap (children_ahead until) (take-append-drop first_index children) ∙ ahead))

-- The same as it is asked.

pub given-is : (until : Option ℕ) (n : ℕ) (v : Bool) → option_eq (λ x y. x == y) until (Some n) ≡ v → is_number until n ≡ v
given-is None n v h = h
given-is (Some u) n v h = h

pub got-among : (ns : List ℕ) → ((m : ℕ) → hits m ns ≤ 1) → (k : ℕ) (o : Option ℕ) → o ≡ slice_get ns k → IsAmong o ns
got-among ns once k None e = tt
got-among ns once k (Some n) e = let h = hits-get ns k n (sym e) in let o = once n in omega arith

-- The children past one of them.

module _ (g : Grove Content) (s : IsForest g) (parent child : ℕ) where
  kids_once : (m : ℕ) → hits m (children_of g.forest parent) ≤ 1
  kids_once m = child-once g.forest s.once m parent

  module _ (held : HasNode g.forest child) (e : is_number (parent_of g.forest child) parent ≡ true) where
    listed-once : hits child (children_of g.forest parent) ≡ 1
    listed-once =
        let o = kids_once child in
        let h = child-listed g.forest s.once child parent (occurs-HasNode g.forest child held) (number_is (parent_of g.forest child) parent e) in
        omega arith

    pub next-among : IsAmong (next_of g.forest child) (children_of g.forest parent)
    next-among = rw (next_of-child g s parent child listed-once) (IsAmong-after child (children_of g.forest parent) kids_once)

    pub past-next : from_optional (next_of g.forest child) (children_of g.forest parent) ≡ past child (children_of g.forest parent)
    past-next = ap (λ o. from_optional o (children_of g.forest parent)) (next_of-child g s parent child listed-once) ∙ from_successor child (children_of g.forest parent) kids_once listed-once

  pub past-none : is_number (parent_of g.forest child) parent ≡ false → past child (children_of g.forest parent) ≡ []
  past-none e =
      past-absent child (children_of g.forest parent)
      (⊎_elim
      (λ (lt : 0 < hits child (children_of g.forest parent)).
      let p = child-parent g.forest s.once child parent lt in
      absurd (elim (same_or parent parent) [ same _ t ↦ false≢true (sym e ∙ ap (λ o. is_number o parent) p ∙ t) | apart ne t ↦ ne refl ]))
      (λ (le : hits child (children_of g.forest parent) ≤ 0). omega arith)
      (cases_lt 0 (hits child (children_of g.forest parent))))

module _ (f : Forest Content) (parent n : ℕ) where
  -- the first on a way is a child
  pub way-child : (path : List ℕ) (c : ℕ) → IsWay f parent path n → slice_get path 0 ≡ Some c → (0 < occurs c f) × (parent_of f c ≡ Some parent)
  way-child [] c w e = absurd (cc e)
  way-child (d ∷ path) c w e = let i : d ≡ c = cc e in subst (λ m. (0 < occurs m f) × (parent_of f m ≡ Some parent)) i (w.0, w.1)

  pub way-held : (path : List ℕ) (c : ℕ) → IsWay f parent path n → slice_get path 0 ≡ Some c → HasNode f c
  way-held path c w e = HasNode-occurs f c (way-child path c w e).0

module _ (f : Forest Content) (once : (m : ℕ) → occurs m f ≤ 1) (parent : ℕ) (p : Point) where
  pub behind-some : (path : List ℕ) (c : ℕ) → IsWay f parent path p.node → slice_get path 0 ≡ Some c → next_of f c ≡ slice_get (children_of f parent) (index_behind f p path)
  behind-some [] c w e = absurd (cc e)
  behind-some (d ∷ path) c w e = let i : d ≡ c = cc e in ap (next_of f) (sym i) ∙ sym (next-child f once d parent w.0 w.1)

  pub at-some : (path : List ℕ) (c : ℕ) → IsWay f parent path p.node → slice_get path 0 ≡ Some c → Some c ≡ slice_get (children_of f parent) (index_at f p path)
  at-some [] c w e = absurd (cc e)
  at-some (d ∷ path) c w e =
      let i : d ≡ c = cc e in
      ap Some (sym i) ∙ sym (get-place d (children_of f parent) (child-listed f once d parent w.0 w.1)) ∙ ap (slice_get (children_of f parent)) (sym (index-child f d parent w.1))

module _ (g : Grove Content) (s : IsForest g) (r : Range) (is : IsRange g.forest r) (a : ℕ) (common : a ≡ common_ancestor g.forest r.start.node r.end.node) where
  pub top-held : HasNode g.forest a
  top-held = subst (λ m. HasNode g.forest m) (sym common) (HasNode-occurs g.forest (top g s r is) (forked g s r is).there)

  pub first-way : (path : List ℕ) → path ≡ path_below g.forest (common_ancestor g.forest r.start.node r.end.node) r.start.node → IsWay g.forest a path r.start.node
  first-way path e = rw (common, e) (forked g s r is).first

  pub last-way : (path : List ℕ) → path ≡ path_below g.forest (common_ancestor g.forest r.start.node r.end.node) r.end.node → IsWay g.forest a path r.end.node
  last-way path e = rw (common, e) (forked g s r is).second

  pub children-found : (from until : Option ℕ) (first last : List ℕ) → first ≡ path_below g.forest (common_ancestor g.forest r.start.node r.end.node) r.start.node → last ≡ path_below g.forest (common_ancestor g.forest r.start.node r.end.node) r.end.node
      → from ≡ slice_get (children_of g.forest a) (index_behind g.forest r.start first) → until ≡ slice_get (children_of g.forest a) (index_at g.forest r.end last)
      → children_ahead until (from_optional from (children_of g.forest a)) ≡ filter (is_contained unit_count g.forest r) (children_of g.forest (common_ancestor g.forest r.start.node r.end.node))
  children-found from until first last d e i j =
      let k = ap (λ m. slice_get (children_of g.forest m) (index_behind g.forest r.start first)) common ∙ ap (λ ns. slice_get (children_of g.forest (top g s r is)) (index_behind g.forest r.start ns)) d in
      let l = ap (λ m. slice_get (children_of g.forest m) (index_at g.forest r.end last)) common ∙ ap (λ ns. slice_get (children_of g.forest (top g s r is)) (index_at g.forest r.end ns)) e in
      ap (λ m. children_ahead until (from_optional from (children_of g.forest m))) common
      ∙ ap (λ o. children_ahead until (from_optional o (children_of g.forest (top g s r is)))) (i ∙ k)
      ∙ ap (λ o. children_ahead o (from_optional (slice_get (children_of g.forest (top g s r is)) (first_index g s r is)) (children_of g.forest (top g s r is)))) (j ∙ l)
      ∙ sym (children-contained g s r is)
