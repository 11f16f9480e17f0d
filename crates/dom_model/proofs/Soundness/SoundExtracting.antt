-- Extracting and cloning the contents of a live range leave a sound world. DOM Standard, "Interface Range": extract, clone the contents.
use Rattle.std.proofs.Common.{◌≡◌, ℕ, ◌<◌, Bool, false, List, [], ◌∷◌, Some, unwrap_or, refl, ap, sym, ◌∙◌, subst, arith}
use Rattle.std.proofs.lemmas.{Bool.Decides.nat_tests, Bool.or_parts}
use Rattle.std.specs.List.{list_any}
use Rattle.dom_model.specs.Definitions.{hits, among, last_of, up_to, occurs, parent_of, children_of, ancestors, Range, World, kind_passes, is_of_kind, contained_in, children_into, tail_into, head_into, path_below, common_of, contained_children, parts_into, IsRange, IsSound}
use Rattle.dom_model.specs.declared.{Kind.Kind, Kind.TheVariants.DocumentType}
use Rattle.dom_model.proofs.PlainLists.Members.{hits-last_of}
use Rattle.dom_model.proofs.Forests.{Climbing.hits-first, Climbing.among-hits, Climbing.hits-among, Entries.occurs-HasNode, Climbing.hits-reverse, Indices.child-parent, Indices.child-there, Chains.way}
use Rattle.dom_model.proofs.Soundness.{SoundNormalizing.filter-passed, SoundAppending.IsHolder, SoundAppending.IsPlain, SoundAppending.IsDrawn, SoundAppending.holder_stays, SoundDrawing.drawn_children, SoundDrawing.IsFilled, SoundDrawing.filled_by_moves, SoundDrawing.holder_filled, SoundDrawing.plain_filled, SoundPaths.IsTail, SoundPaths.IsHead, SoundPaths.tail_filled, SoundPaths.head_filled, SoundPaths.head_filled_stays, SoundDeleting.offset_of_start}
use Rattle.dom_model.proofs.RangesAndContents.{PathsToEnds.plain_below, PathsToEnds.below_has_parent, PathsToEnds.path_without_top, PathsToEnds.path_is, PathsToEnds.tail_of_path, PathsToEnds.head_of_path, WaysBelow.first-passes}
use Rattle.dom_model.proofs.Traversal.IteratorsStay.{filter-passes}

-- no number of a list passes the test
pub none_listed : (p : ℕ → Bool) (ns : List ℕ) (m : ℕ) → list_any p ns ≡ false → 0 < hits m ns → p m ≡ false
none_listed p [] m e h = absurd (omega arith)
none_listed p (n ∷ ns) m e h = grind (arith, nat_tests, none_listed p ns m, or_parts (p n) (list_any p ns) e)

-- The deepest common ancestor is above both nodes.

pub common_above : (w : World) → IsSound w → (r : Range) → IsRange w.forest r → (0 < hits (common_of w r) (ancestors r.start.node w.forest)) × (0 < hits (common_of w r) (ancestors r.end.node w.forest))
common_above w s r h =
    let f = w.forest in
    let hs = occurs-HasNode f r.start.node h.starts.there in
    let he = occurs-HasNode f r.end.node h.ends.there in
    let v = way f s.forest.once r.start.node hs in
    let in_start = last-hits (ancestors r.start.node f) v.0 v.1 in
    let in_end = last-hits (ancestors r.end.node f) v.0 (sym h.one_root ∙ v.1) in
    let i = first-passes (λ a. among a (ancestors r.end.node f)) (ancestors r.start.node f) v.0 in_start (hits-among v.0 (ancestors r.end.node f) in_end) in
    let j = filter-passes (λ a. among a (ancestors r.end.node f)) (ancestors r.start.node f) i.0 i.1 in
    let e : common_of w r ≡ i.0 = ap (λ o. unwrap_or o r.start.node) i.1 in
    (subst (λ x. 0 < hits x (ancestors r.start.node f)) (sym e) j.0, subst (λ x. 0 < hits x (ancestors r.end.node f)) (sym e) (among-hits i.0 (ancestors r.end.node f) j.1))
  where
    last-hits : (ns : List ℕ) (x : ℕ) → last_of ns ≡ Some x → 0 < hits x ns
    last-hits ns x e = hits-last_of ns x e

-- The parts of a range that is not collapsed and not in one node with data go into a fragment.
module _ (moves : Bool) (into : ℕ) (r : Range) (w : World) (s : IsSound w) (holder : IsHolder w into) (h : IsRange w.forest r) (doctypes : (m : ℕ) → 0 < hits m (contained_children w r) → is_of_kind DocumentType w.forest m ≡ false) where
  abbrev p : ℕ
  p = common_of w r

  abbrev start_path : List ℕ
  start_path = path_below w.forest p r.start.node

  abbrev end_path : List ℕ
  end_path = path_below w.forest p r.end.node

  abbrev ns : List ℕ
  ns = contained_children w r

  hs : 0 < occurs r.start.node w.forest
  hs = occurs-HasNode w.forest r.start.node h.starts.there

  he : 0 < occurs r.end.node w.forest
  he = occurs-HasNode w.forest r.end.node h.ends.there

  tail_ready : IsTail w r.start.offset start_path
  tail_ready = tail_of_path w r.start.offset r.start.node start_path (path_is w s p r.start.node hs (common_above w s r h).0 h.starts.kind) (offset_of_start w r h)

  head_ready : IsHead w end_path
  head_ready = head_of_path w r.end.node end_path (path_is w s p r.end.node he (common_above w s r h).1 h.ends.kind)

  -- a root is on no path
  off_path : (path : List ℕ) (n : ℕ) → path ≡ path_below w.forest p n → 0 < occurs n w.forest → 0 < hits p (ancestors n w.forest) → hits into path ≡ 0
  off_path path n e hn hp =
      let below : 0 < hits into path → ⊥ = λ lt.
      let a = ap (hits into) e in
      let b = hits-reverse into (up_to p (ancestors n w.forest)) in
      let q = below_has_parent w.forest s.forest.once p n into hn hp (omega arith) in
      cc (holder.root, q.1) in
      omega arith

  child_of : (m : ℕ) → 0 < hits m ns → (parent_of w.forest m ≡ Some p) × (0 < occurs m w.forest)
  child_of m k =
      let i = (filter-passed (contained_in w r) (children_of w.forest p) m k).1 in
      (child-parent w.forest s.forest.once m p i, child-there w.forest s.forest.once m p i)

  abbrev first : World
  first = tail_into moves into r.start.offset start_path w

  one : IsFilled w first start_path
  one = tail_filled moves into r.start.offset start_path w s holder (off_path start_path r.start.node refl hs (common_above w s r h).0) tail_ready

  abbrev second : World
  second = children_into moves into ns first

  listed_plain : (m : ℕ) → 0 < hits m ns → IsPlain first m
  listed_plain m k =
      let i = child_of m k in
      plain_filled w first start_path m one (plain_below w s m p i.0 (doctypes m k))

  into_unlisted : hits into ns ≡ 0
  into_unlisted = grind (arith, child_of into, holder.root)

  holder_one : IsHolder first into
  holder_one = holder_filled w first start_path into one holder

  two : IsDrawn first second ns
  two = drawn_children moves into ns first one.sound holder_one listed_plain into_unlisted

  parent_after_tail : (m : ℕ) → 0 < occurs m w.forest → parent_of w.forest m ≡ Some p → parent_of first.forest m ≡ Some p
  parent_after_tail m k e = one.parents m k (λ u d. let q : p ≡ u = (let x : Some p ≡ Some u = sym e ∙ d in cc x) in subst (λ x. hits x start_path ≡ 0) q (path_without_top w.forest p r.start.node)) ∙ e

  filled_two : IsFilled first second (p ∷ [])
  filled_two = filled_by_moves first second ns (p ∷ []) two (λ m k t. let i = child_of m k in (p, parent_after_tail m i.1 i.0, hits-first p []))

  abbrev third : World
  third = head_into moves into r.end.offset end_path second

  three : IsFilled second third end_path
  three =
      head_filled moves into r.end.offset end_path second two.sound (holder_stays first second ns into two.extends into_unlisted holder_one)
      (off_path end_path r.end.node refl he (common_above w s r h).1)
      (head_filled_stays first second (p ∷ []) end_path filled_two (head_filled_stays w first start_path end_path one head_ready))

  pub sound-parts : IsSound (parts_into moves into r w)
  sound-parts = three.sound

  pub parts_there : (m : ℕ) → 0 < occurs m w.forest → 0 < occurs m (parts_into moves into r w).forest
  parts_there m k = three.there m (two.extends.there m (one.there m k))

  pub parts_kind : (test : Kind → Bool) (m : ℕ) → 0 < occurs m w.forest → kind_passes test (parts_into moves into r w).forest m ≡ kind_passes test w.forest m
  parts_kind test m k = three.kinds test m (two.extends.there m (one.there m k)) ∙ two.extends.kinds test m (one.there m k) ∙ one.kinds test m k

  -- a child of the common ancestor that is not contained stays
  pub parts_parent : (m : ℕ) → 0 < occurs m w.forest → parent_of w.forest m ≡ Some p → contained_in w r m ≡ false → parent_of (parts_into moves into r w).forest m ≡ Some p
  parts_parent m k e out =
      let a = parent_after_tail m k e in
      let unlisted : hits m ns ≡ 0 = grind (arith, filter-passed (contained_in w r) (children_of w.forest p) m) in
      let b = two.extends.parents m (one.there m k) unlisted ∙ a in
      three.parents m (two.extends.there m (one.there m k)) (λ u d. let q : p ≡ u = (let x : Some p ≡ Some u = sym b ∙ d in cc x) in subst (λ x. hits x end_path ≡ 0) q (path_without_top w.forest p r.end.node)) ∙ b
