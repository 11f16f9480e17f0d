-- What the walks of the check ahead of surrounding rest on: the children from one on, and the common ancestor. DOM Standard, "Interface Range".
use Rattle.std.proofs.Common.{◌≡◌, ℕ, zero, suc, ◌+◌, ◌<◌, ◌≤◌, Bool, true, false, not, ◌&&◌, ◌||◌, if◌then◌else◌, List, [], ◌∷◌, ◌++◌, find, drop, Option, Some, None, option_map, option_and_then, unwrap_or, slice_get, is_some, Ok, Err, is_err, refl, ap, sym, ◌∙◌, subst, arith, MatchResult, Result}
use Rattle.std.proofs.lemmas.Bool.{false≢true}
use Rattle.std.specs.List.{list_any}
use Rattle.dom_model.specs.declared.{Kind.TheVariants.Element, Kind.TheVariants.Text, Kind.TheVariants.Document, Kind.TheVariants.DocumentType, Kind.TheVariants.DocumentFragment, DomError.DomError, DomError.TheVariants.HierarchyRequestError, DomError.TheVariants.InvalidStateError, DomError.TheVariants.InvalidNodeTypeError}
use Rattle.dom_model.specs.Definitions.{hits, among, last_of, place_in, after, is_number, Forest, HasNode, occurs, numbers, parent_of, children_of, next_of, index_of, ancestors, root_of, Content, Point, Range, IsRange, IsSound, if_given, has_kind, check_insert, is_of_kind, point_after, is_partially_contained, common_ancestor, for_range, new_place, common_of, is_text, reference_at, parent_at, check_whole_surround}
use Rattle.dom_model.specs.Worlds.World as model
use Rattle.dom_model.proofs.PlainLists.Numbers.{same_or, same, apart}
use Rattle.dom_model.proofs.Forests.{Entries.HasNode-occurs, Entries.occurs-HasNode, Climbing.hits-append, Climbing.hits-among, Climbing.ancestors-there, Indices.child-listed, Indices.child-once, Indices.index-child}
use Rattle.dom_model.proofs.Worlds.Parts.{path-there}
use Rattle.dom_model.proofs.BoundaryPoints.RemovalOrder.{ancestors-split}
use Rattle.dom_model.proofs.Soundness.SoundExtracting.{common_above}
use Rattle.dom_model.proofs.RangesAndContents.StartsAhead.{got_place}
use Rattle.dom_ranges.specs.Tables.{range_in}
use Rattle.dom_edit.specs.{declared.world.World.World, Whole.IsWhole, Whole.unwatched, InsertionPoints.from_optional, InsertionPoints.IsAmong}
use Rattle.dom_edit.proofs.{PlacedWorldLemmas.sound-unwatched, IsAmongLemmas.next_of-child}
use Rattle.dom_wrap.specs.SurroundRefusal.{is_near, is_refused_at, is_refused_between, is_unplaceable, is_left_element, first_behind, surround_refusal_of}
use Rattle.dom_wrap.proofs.{AllowPlaces.insert-told, AllowPlaces.parent-is, AllowShape.near-told, SurroundRefusalLemmas.told_by, AllowWhole.surround-told}

-- Going along a list.

pub found-first : (p : ℕ → Bool) (n : ℕ) (ns : List ℕ) (all : Bool) → all ≡ list_any p (n ∷ ns) → p n ≡ true → true ≡ all
found-first p n ns all e t = sym (e ∙ ap (λ b. b || list_any p ns) t)

after-place : (a : ℕ) (ks : List ℕ) → 0 < hits a ks → slice_get ks (place_in a ks + 1) ≡ after a ks
after-place a [] h = absurd (omega arith)
after-place a (x ∷ []) h = elim (same_or x a) [ same e t ↦ rw t refl | apart ne t ↦ absurd (let k = rw t at h in omega arith) ]
after-place a (x ∷ y ∷ ks) h =
    elim (same_or x a) [
      | same e t ↦ rw t refl
      | apart ne t ↦ (let i = after-place a (y ∷ ks) (let k = rw t at h in omega arith) in let e : 1 + place_in a (y ∷ ks) + 1 ≡ suc (place_in a (y ∷ ks) + 1) = omega arith in rw t (ap (slice_get (x ∷ y ∷ ks)) e ∙ i))
    ]

from-slice : (ks : List ℕ) → ((m : ℕ) → hits m ks ≤ 1) → (k : ℕ) → from_optional (slice_get ks k) ks ≡ drop k ks
from-slice [] once zero = refl
from-slice [] once (suc k) = refl
from-slice (x ∷ ks) once zero = elim (same_or x x) [ same _ t ↦ rw t refl | apart ne t ↦ absurd (ne refl) ]
from-slice (x ∷ ks) once (suc k) = go (slice_get ks k) refl ∙ from-slice ks fewer k
  where
    fewer : (m : ℕ) → hits m ks ≤ 1
    fewer m = let l = hits-append m (x ∷ []) ks in let o = once m in omega arith

    go : (o : Option ℕ) → slice_get ks k ≡ o → from_optional o (x ∷ ks) ≡ from_optional (slice_get ks k) ks
    go None e = rw e refl
    go (Some c) e =
        let g = got_place ks k c fewer e in
        elim (same_or x c) [
          | same d t ↦ absurd (let o = once c in let j = rw t at o in let h = g.1 in omega arith)
          | apart ne t ↦ rw (e, t) refl
        ]

slice-among : (ks : List ℕ) → ((m : ℕ) → hits m ks ≤ 1) → (k : ℕ) → IsAmong (slice_get ks k) ks
slice-among ks once k = go (slice_get ks k) refl
  where
    go : (o : Option ℕ) → slice_get ks k ≡ o → IsAmong o ks
    go None e = tt
    go (Some c) e = let g = got_place ks k c once e in let i = g.1 in let o = once c in omega arith

last-behind : (xs ys : List ℕ) (y : ℕ) → last_of (xs ++ y ∷ ys) ≡ last_of (y ∷ ys)
last-behind [] ys y = refl
last-behind (x ∷ []) ys y = refl
last-behind (x ∷ z ∷ xs) ys y = last-behind (z ∷ xs) ys y

-- The common ancestor.

module _ (v : World) (whole : IsWhole v) (range : Range) (h : IsRange v.tree.forest range) (common : ℕ) (e : common ≡ common_of (unwatched v) range) where
  abbrev f : Forest Content
  f = v.tree.forest

  abbrev a : ℕ
  a = range.start.node

  abbrev b : ℕ
  b = range.end.node

  w_sound : IsSound (unwatched v)
  w_sound = sound-unwatched v whole

  once : (m : ℕ) → occurs m f ≤ 1
  once = whole.forest.once

  above_both : (0 < hits (common_of (unwatched v) range) (ancestors a f)) × (0 < hits (common_of (unwatched v) range) (ancestors b f))
  above_both = common_above (unwatched v) w_sound range h

  common_there : 0 < occurs common f
  common_there = subst (λ m. 0 < occurs m f) (sym e) (path-there f once a (common_of (unwatched v) range) above_both.0)

  pub common-held : HasNode f common
  common-held = HasNode-occurs f common common_there

  root-of : (n : ℕ) → 0 < occurs n f → 0 < hits (common_of (unwatched v) range) (ancestors n f) → root_of f common ≡ root_of f n
  root-of n hn i =
      let k : 0 < hits common (ancestors n f) = subst (λ m. 0 < hits m (ancestors n f)) (sym e) i in
      let d = ancestors-split f once common n hn k in
      let t = ancestors-there common f common_there in
      ap last_of t.1 ∙ sym (ap last_of (d.1 ∙ ap (λ ns. d.0 ++ ns) t.1) ∙ last-behind d.0 t.0 common)

  pub start-root : root_of f common ≡ root_of f a
  start-root = root-of a (occurs-HasNode f a h.starts.there) above_both.0

  pub end-root : root_of f common ≡ root_of f b
  end-root = root-of b (occurs-HasNode f b h.ends.there) above_both.1

  kids_once : (m : ℕ) → hits m (children_of f common) ≤ 1
  kids_once m = child-once f once m common

  pub behind-among : (o : Option ℕ) → o ≡ first_behind (unwatched v) range → IsAmong o (children_of f common)
  behind-among o d =
      subst (λ x. IsAmong x (children_of f common)) (sym (d ∙ ap (λ m. slice_get (children_of f m) (new_place f range).offset) (sym e)))
      (slice-among (children_of f common) kids_once (new_place f range).offset)

  -- the place behind a start that is not above the end
  pub next-behind : is_near f common a ≡ true → among a (ancestors b f) ≡ false → next_of f a ≡ first_behind (unwatched v) range
  next-behind near off =
      elim (same_or a common) [
        | same d t ↦ absurd (false≢true (sym off ∙ ap (λ m. among m (ancestors b f)) (d ∙ e) ∙ hits-among (common_of (unwatched v) range) (ancestors b f) above_both.1))
        | apart ne t ↦ by (is_of_kind Text f a) (parent_of f a) refl (rw t at near)
      ]
    where
      by : (x : Bool) (o : Option ℕ) → parent_of f a ≡ o → (x && is_number o common) ≡ true → next_of f a ≡ first_behind (unwatched v) range
      by false o d k = absurd (false≢true k)
      by true None d k = absurd (false≢true k)
      by true (Some u) d k =
          let same_node : u ≡ common = elim (same_or u common) [ same i _ ↦ i | apart _ i ↦ absurd (false≢true (sym i ∙ k)) ] in
          let par : parent_of f a ≡ Some common = d ∙ ap (λ m. Some m) same_node in
          let ha = occurs-HasNode f a h.starts.there in
          let listed = child-listed f once a common ha par in
          let one : hits a (children_of f common) ≡ 1 = (let i = kids_once a in omega arith) in
          let index = index-child f a common par in
          let top = ancestors-there a f ha in
          let passes : if_given (λ p. among p (ancestors b f)) (parent_of f a) ≡ true = ap (if_given (λ p. among p (ancestors b f))) par ∙ ap (λ m. among m (ancestors b f)) e ∙ hits-among (common_of (unwatched v) range) (ancestors b f) above_both.1 in
          let found : find (λ q. if_given (λ p. among p (ancestors b f)) (parent_of f q)) (ancestors a f) ≡ Some a = ap (find (λ q. if_given (λ p. among p (ancestors b f)) (parent_of f q))) top.1 ∙ (rw passes refl) in
          let place : new_place f range ≡ record { node = common; offset = index_of f a + 1 } =
          ap (λ t. if t then range.start else unwrap_or (option_and_then (point_after f) (find (λ q. if_given (λ p. among p (ancestors b f)) (parent_of f q)) (ancestors a f))) range.start) off
          ∙ ap (λ o. unwrap_or (option_and_then (point_after f) o) range.start) found
          ∙ ap (λ o. unwrap_or (option_map (λ parent. record { node = parent; offset = index_of f a + 1 }) o) range.start) par in
          next_of-child v.tree whole.forest common a one
          ∙ sym (after-place a (children_of f common) listed)
          ∙ ap (λ k. slice_get (children_of f common) (k + 1)) (sym index)
          ∙ ap (λ m. slice_get (children_of f m) (index_of f a + 1)) e
          ∙ ap (λ (p : Point). slice_get (children_of f (common_of (unwatched v) range)) p.offset) (sym place)

  pub next-behind-of : (sn en : ℕ) → sn ≡ a → en ≡ b → is_near f common a ≡ true → among sn (ancestors en f) ≡ false → next_of f sn ≡ first_behind (unwatched v) range
  next-behind-of sn en d i near off =
      ap (next_of f) d ∙ next-behind near (ap (λ m. among m (ancestors b f)) (sym d) ∙ ap (λ m. among sn (ancestors m f)) (sym i) ∙ off)

  abbrev left : ℕ → Bool
  left m = is_left_element (unwatched v) range m

  pub between-doctypes : (n : ℕ) → among n (ancestors common f) ≡ false → is_of_kind Document f common ≡ true → list_any (λ m. is_left_element (unwatched v) range m) (children_of f common) ≡ false →
      (o : Option ℕ) → o ≡ first_behind (unwatched v) range → (result : Bool) → result ≡ has_kind DocumentType f (from_optional o (children_of f common)) → result ≡ is_refused_between (unwatched v) range n
  between-doctypes n x d t o i result j =
      let k = (new_place f range).offset in
      let o2 : o ≡ slice_get (children_of f common) k = i ∙ ap (λ m. slice_get (children_of f m) k) (sym e) in
      let whole_is : is_refused_between (unwatched v) range n ≡ (among n (ancestors common f) || (is_of_kind Document f common && (list_any left (children_of f common) || has_kind DocumentType f (drop k (children_of f common))))) =
      ap (λ m. among n (ancestors m f) || (is_of_kind Document f m && (list_any left (children_of f m) || has_kind DocumentType f (drop k (children_of f m))))) (sym e) in
      j ∙ ap (λ y. has_kind DocumentType f (from_optional y (children_of f common))) o2
      ∙ ap (has_kind DocumentType f) (from-slice (children_of f common) kids_once k)
      ∙ sym (whole_is ∙ (rw (x, d, t) refl))

-- An element at a point.

module _ (v : World) (whole : IsWhole v) (p : Point) (n : ℕ) (hn : HasNode v.tree.forest n) (element : is_of_kind Element v.tree.forest n ≡ true) (parent : ℕ) (ep : parent ≡ parent_at (unwatched v) p) (reference : Option ℕ) (er : reference ≡ reference_at (unwatched v) p) where
  check_is : check_insert v.tree.forest parent n reference ≡ told_by (is_refused_at (unwatched v) p n)
  check_is =
      let s = sound-unwatched v whole in
      ap (λ m. check_insert v.tree.forest m n reference) (ep ∙ parent-is (unwatched v) s p)
      ∙ ap (check_insert v.tree.forest _ n) er
      ∙ insert-told (unwatched v) s p n (occurs-HasNode v.tree.forest n hn) element

  told-some : (t : Bool) → is_some (told_by t) ≡ t
  told-some true = refl
  told-some false = refl

  -- an error of the check is a refusal
  pub error-at : {T : Type 0} (r : Result T DomError) → MatchResult r (λ _. check_insert v.tree.forest parent n reference ≡ None) (λ d. check_insert v.tree.forest parent n reference ≡ Some d) → is_err r ≡ is_refused_at (unwatched v) p n
  error-at (Ok u) e = ap is_some (sym e ∙ check_is) ∙ told-some (is_refused_at (unwatched v) p n)
  error-at (Err d) e = ap is_some (sym e ∙ check_is) ∙ told-some (is_refused_at (unwatched v) p n)

-- The three tests in turn.

module _ (v : World) (whole : IsWhole v) (r n : ℕ) (hn : HasNode v.tree.forest n) (range : Range) (e : range_in v.ranges r ≡ Some range) (h : IsRange v.tree.forest range) where
  abbrev w : model.World
  w = unwatched v

  abbrev c : ℕ
  c = common_of w range

  whole_told : check_whole_surround r n w ≡ surround_refusal_of w range n
  whole_told = surround-told r n w (sound-unwatched v whole) (occurs-HasNode v.tree.forest n hn) ∙ ap (λ o. for_range o None (λ x. surround_refusal_of w x n)) e

  deep_told : list_any (λ m. is_partially_contained w.forest range m && not (is_text w m)) (numbers w.forest) ≡ not (is_near v.tree.forest c range.start.node && is_near v.tree.forest c range.end.node)
  deep_told = near-told whole.forest range h

  pub told-deep : not (is_near v.tree.forest c range.start.node && is_near v.tree.forest c range.end.node) ≡ true → check_whole_surround r n w ≡ Some InvalidStateError
  told-deep t = whole_told ∙ (rw (deep_told ∙ t) refl)

  module _ (near : not (is_near v.tree.forest c range.start.node && is_near v.tree.forest c range.end.node) ≡ false) where
    pub told-odd : (is_of_kind Document v.tree.forest n || (is_of_kind DocumentType v.tree.forest n || is_of_kind DocumentFragment v.tree.forest n)) ≡ true → check_whole_surround r n w ≡ Some InvalidNodeTypeError
    told-odd t = whole_told ∙ (rw (deep_told ∙ near, t) refl)

    pub told-unplaceable : (is_of_kind Document v.tree.forest n || (is_of_kind DocumentType v.tree.forest n || is_of_kind DocumentFragment v.tree.forest n)) ≡ false → is_unplaceable w range n ≡ true → check_whole_surround r n w ≡ Some HierarchyRequestError
    told-unplaceable x t = whole_told ∙ (rw (deep_told ∙ near, x, t) refl)

    pub told-allowed : (is_of_kind Document v.tree.forest n || (is_of_kind DocumentType v.tree.forest n || is_of_kind DocumentFragment v.tree.forest n)) ≡ false → is_unplaceable w range n ≡ false → check_whole_surround r n w ≡ None
    told-allowed x t = whole_told ∙ (rw (deep_told ∙ near, x, t) refl)

-- the same test of the same nodes
pub near-as : (f : Forest Content) (range : Range) (sn en common : ℕ) → sn ≡ range.start.node → en ≡ range.end.node → common ≡ common_ancestor f sn en → (x : Bool) → not (is_near f common sn && is_near f common en) ≡ x →
    not (is_near f (common_ancestor f range.start.node range.end.node) range.start.node && is_near f (common_ancestor f range.start.node range.end.node) range.end.node) ≡ x
near-as f range sn en common d i k x t =
    let k2 : common ≡ common_ancestor f range.start.node range.end.node = k ∙ ap (λ m. common_ancestor f m en) d ∙ ap (common_ancestor f range.start.node) i in
    ap (λ m. not (is_near f m range.start.node && is_near f m range.end.node)) (sym k2)
    ∙ ap (λ m. not (is_near f common m && is_near f common range.end.node)) (sym d)
    ∙ ap (λ m. not (is_near f common sn && is_near f common m)) (sym i)
    ∙ t
