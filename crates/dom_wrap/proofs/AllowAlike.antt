-- What tells whether an element may come in at a point, in a world and in a later one that looks the same from there. DOM Standard, "Interface Range" (surroundContents).
use Rattle.std.proofs.Common.{◌≡◌, ℕ, ◌<◌, ◌≤◌, Bool, true, false, not, ◌&&◌, ◌||◌, if◌then◌else◌, [], ◌∷◌, drop, filter, Option, Some, None, unwrap_or, slice_get, refl, ap, sym, ◌∙◌, subst, arith}
use Rattle.std.proofs.lemmas.Bool.{false≢true}
use Rattle.dom_model.specs.declared.{Kind.Kind, Kind.TheVariants.Element, Kind.TheVariants.Text, Kind.TheVariants.Document, Kind.TheVariants.DocumentType}
use Rattle.dom_model.specs.Definitions.{hits, among, head_of, past, is_kind, may_be_parent, Forest, occurs, parent_of, children_of, ancestors, Content, Point, World, IsSound, has_kind, doctype_from, element_refused, kind_passes, is_of_kind, common_ancestor, is_text, reference_at}
use Rattle.dom_model.proofs.PlainLists.Numbers.{same_or, same, apart}
use Rattle.dom_model.proofs.Forests.{Changes.seen, Changes.nothing, Changes.just, Climbing.hits-append, Climbing.hits-among, Climbing.hits-not_among, Climbing.hits-self, Climbing.ancestors-there, Listed.hits-other, Paths.parent-path, Indices.child-once, Indices.child-there}
use Rattle.dom_model.proofs.RangesAndContents.{StartsAhead.got_place}
use Rattle.dom_wrap.specs.SurroundRefusal.{holder_of, is_refused_at}
use Rattle.dom_wrap.proofs.{AllowAbove.parent-same, AllowPlaces.element-passes, AllowPlaces.text-passes, AllowChildren.from-place}
use Rattle.dom_model.proofs.Traversal.IteratorsStay.{hits-past}
use Rattle.dom_model.proofs.MutationAlgorithms.ChecksKept.{any-same}

-- an element among the children, or a doctype from the child at an offset on
pub element-told : (g : Forest Content) (c k : ℕ) → ((m : ℕ) → hits m (children_of g c) ≤ 1) → element_refused g c (slice_get (children_of g c) k) ≡ (has_kind Element g (children_of g c) || has_kind DocumentType g (drop k (children_of g c)))
element-told g c k once = ap (λ v. has_kind Element g (children_of g c) || v) (from-place g (children_of g c) once k)

-- Where a node stands above the point.

module _ (u : World) (s : IsSound u) (n : ℕ) (element : is_of_kind Element u.forest n ≡ true) (p : Point) (hp : 0 < occurs p.node u.forest) where
  refused-so : (q : ℕ) → holder_of u p.node ≡ q → 0 < hits n (ancestors q u.forest) → is_refused_at u p n ≡ true
  refused-so q e h = rw (e, hits-among n (ancestors q u.forest) h) (either (not (kind_passes may_be_parent u.forest q)))
    where
      either : (v : Bool) → (v || true) ≡ true
      either true = refl
      either false = refl

  unheld : (q : ℕ) → holder_of u p.node ≡ q → kind_passes may_be_parent u.forest q ≡ false → is_refused_at u p n ≡ true
  unheld q e h = rw (e, h) refl

  -- a node that stands above a point cannot come in there
  pub refused-above : 0 < hits n (ancestors p.node u.forest) → is_refused_at u p n ≡ true
  refused-above h = go (is_text u p.node) refl
    where
      go : (t : Bool) → is_text u p.node ≡ t → is_refused_at u p n ≡ true
      go false t = refused-so p.node (rw t refl) h
      go true t =
          elim (seen (parent_of u.forest p.node)) [
            | nothing e ↦ unheld p.node (rw (t, e) refl) (text-passes u.forest p.node may_be_parent t)
            | just q e ↦
                let a = parent-path u.forest s.forest.once p.node q hp e in
                let ne : p.node ≡ n → ⊥ = λ d. false≢true (sym (element-passes u.forest n (is_kind Text) element) ∙ ap (is_of_kind Text u.forest) (sym d) ∙ t) in
                refused-so q (rw (t, e) refl) (let k = ap (hits n) a.1 in let l = hits-other n p.node (ancestors q u.forest) ne in omega arith)
          ]

-- what does not stand above a point's node does not stand above the node under which something comes in there
pub holder-outside : (u : World) → IsSound u → (n m : ℕ) → 0 < occurs m u.forest → hits n (ancestors m u.forest) ≡ 0 → hits n (ancestors (holder_of u m) u.forest) ≡ 0
holder-outside u s n m hm z = go (is_text u m) refl
  where
    at : (q : ℕ) → holder_of u m ≡ q → hits n (ancestors q u.forest) ≡ 0 → hits n (ancestors (holder_of u m) u.forest) ≡ 0
    at q e h = ap (λ x. hits n (ancestors x u.forest)) e ∙ h

    go : (t : Bool) → is_text u m ≡ t → hits n (ancestors (holder_of u m) u.forest) ≡ 0
    go false t = at m (rw t refl) z
    go true t =
        elim (seen (parent_of u.forest m)) [
          | nothing e ↦ at m (rw (t, e) refl) z
          | just q e ↦
              let a = parent-path u.forest s.forest.once m q hm e in
              at q (rw (t, e) refl) (let k = ap (hits n) a.1 in let l = hits-append n (m ∷ []) (ancestors q u.forest) in omega arith)
        ]

pub holder-there : (u : World) → IsSound u → (m : ℕ) → 0 < occurs m u.forest → 0 < occurs (holder_of u m) u.forest
holder-there u s m hm = go (is_text u m) refl
  where
    at : (q : ℕ) → holder_of u m ≡ q → 0 < occurs q u.forest → 0 < occurs (holder_of u m) u.forest
    at q e h = subst (λ x. 0 < occurs x u.forest) (sym e) h

    go : (t : Bool) → is_text u m ≡ t → 0 < occurs (holder_of u m) u.forest
    go false t = at m (rw t refl) hm
    go true t =
        elim (seen (parent_of u.forest m)) [
          | nothing e ↦ at m (rw (t, e) refl) hm
          | just q e ↦ at q (rw (t, e) refl) (parent-path u.forest s.forest.once m q hm e).0
        ]

-- A later world that looks the same from a point.

module _ (w v : World) (s : IsSound w) (sv : IsSound v) (p : Point) (hp : 0 < occurs p.node w.forest) (hv : 0 < occurs p.node v.forest)
    (kinds : (test : Kind → Bool) (m : ℕ) → 0 < occurs m w.forest → kind_passes test v.forest m ≡ kind_passes test w.forest m)
    (above : ancestors p.node v.forest ≡ ancestors p.node w.forest) where
  parent_v : parent_of v.forest p.node ≡ parent_of w.forest p.node
  parent_v = parent-same w.forest v.forest s.forest.once sv.forest.once p.node hp hv above

  pub holder_v : holder_of v p.node ≡ holder_of w p.node
  holder_v = ap (λ t. if t then unwrap_or (parent_of v.forest p.node) p.node else p.node) (kinds (is_kind Text) p.node hp) ∙ ap (λ o. if is_text w p.node then unwrap_or o p.node else p.node) parent_v

  abbrev q : ℕ
  q = holder_of w p.node

  hq : 0 < occurs q w.forest
  hq = holder-there w s p.node hp

  -- none but those above keep a node from going in, where the children are the same
  pub refused-alike : (n : ℕ) → hits n (ancestors p.node w.forest) ≡ 0 → children_of v.forest q ≡ children_of w.forest q → children_of v.forest p.node ≡ children_of w.forest p.node → is_refused_at v p n ≡ is_refused_at w p n
  refused-alike n z kids own =
      ap (λ x. not (kind_passes may_be_parent v.forest x) || (among n (ancestors x v.forest) || (is_of_kind Document v.forest x && element_refused v.forest x (reference_at v p)))) holder_v
      ∙ ap (λ t. not t || (among n (ancestors q v.forest) || (is_of_kind Document v.forest q && element_refused v.forest q (reference_at v p)))) (kinds may_be_parent q hq)
      ∙ ap (λ t. not (kind_passes may_be_parent w.forest q) || (t || (is_of_kind Document v.forest q && element_refused v.forest q (reference_at v p)))) outside
      ∙ ap (λ t. not (kind_passes may_be_parent w.forest q) || (among n (ancestors q w.forest) || (t && element_refused v.forest q (reference_at v p)))) (kinds (is_kind Document) q hq)
      ∙ ap (λ t. not (kind_passes may_be_parent w.forest q) || (among n (ancestors q w.forest) || (is_of_kind Document w.forest q && t))) (ap (element_refused v.forest q) reference ∙ listed (reference_at w p) reference_there)
    where
      outside : among n (ancestors q v.forest) ≡ among n (ancestors q w.forest)
      outside =
          let a = holder-outside v sv n p.node hv (ap (hits n) above ∙ z) in
          let b = holder-outside w s n p.node hp z in
          hits-not_among n (ancestors q v.forest) (ap (λ x. hits n (ancestors x v.forest)) (sym holder_v) ∙ a) ∙ sym (hits-not_among n (ancestors q w.forest) b)

      reference : reference_at v p ≡ reference_at w p
      reference = ap (λ t. if t then Some p.node else slice_get (children_of v.forest p.node) p.offset) (kinds (is_kind Text) p.node hp) ∙ ap (λ ns. if is_text w p.node then Some p.node else slice_get ns p.offset) own

      there : (m : ℕ) → 0 < hits m (children_of w.forest q) → 0 < occurs m w.forest
      there m h = child-there w.forest s.forest.once m q h

      elements : has_kind Element v.forest (children_of v.forest q) ≡ has_kind Element w.forest (children_of w.forest q)
      elements = ap (has_kind Element v.forest) kids ∙ any-same (is_of_kind Element v.forest) (is_of_kind Element w.forest) (children_of w.forest q) (λ m h. kinds (is_kind Element) m (there m h))

      behind : (d : ℕ) → 0 < occurs d w.forest → doctype_from v.forest q (Some d) ≡ doctype_from w.forest q (Some d)
      behind d hd =
          ap (λ t. t || has_kind DocumentType v.forest (past d (children_of v.forest q))) (kinds (is_kind DocumentType) d hd)
          ∙ ap (λ t. is_of_kind DocumentType w.forest d || t)
          (ap (λ ns. has_kind DocumentType v.forest (past d ns)) kids
          ∙ any-same (is_of_kind DocumentType v.forest) (is_of_kind DocumentType w.forest) (past d (children_of w.forest q)) (λ m h. kinds (is_kind DocumentType) m (there m (let i = hits-past m d (children_of w.forest q) in omega arith))))

      reference_there : (d : ℕ) → reference_at w p ≡ Some d → 0 < occurs d w.forest
      reference_there d e = by (is_text w p.node) refl
        where
          by : (t : Bool) → is_text w p.node ≡ t → 0 < occurs d w.forest
          by true t =
              let i : reference_at w p ≡ Some p.node = rw t refl in
              let k : Some p.node ≡ Some d = sym i ∙ e in
              let j : p.node ≡ d = cc k in
              subst (λ m. 0 < occurs m w.forest) j hp
          by false t =
              let i : reference_at w p ≡ slice_get (children_of w.forest p.node) p.offset = rw t refl in
              let g = got_place (children_of w.forest p.node) p.offset d (λ m. child-once w.forest s.forest.once m p.node) (sym i ∙ e) in
              child-there w.forest s.forest.once d p.node g.1

      listed : (o : Option ℕ) → ((d : ℕ) → o ≡ Some d → 0 < occurs d w.forest) → element_refused v.forest q o ≡ element_refused w.forest q o
      listed None h = ap (λ t. t || false) elements
      listed (Some d) h = ap (λ t. t || doctype_from v.forest q (Some d)) elements ∙ ap (λ t. has_kind Element w.forest (children_of w.forest q) || t) (behind d (h d refl))

-- the node under which something comes in stands above the point's node, or is it
pub holder-above : (u : World) → IsSound u → (m : ℕ) → 0 < occurs m u.forest → 0 < hits (holder_of u m) (ancestors m u.forest)
holder-above u s m hm = go (is_text u m) refl
  where
    at : (q : ℕ) → holder_of u m ≡ q → 0 < hits q (ancestors m u.forest) → 0 < hits (holder_of u m) (ancestors m u.forest)
    at q e h = subst (λ x. 0 < hits x (ancestors m u.forest)) (sym e) h

    go : (t : Bool) → is_text u m ≡ t → 0 < hits (holder_of u m) (ancestors m u.forest)
    go false t = at m (rw t refl) (hits-self m m u.forest refl hm)
    go true t =
        elim (seen (parent_of u.forest m)) [
          | nothing e ↦ at m (rw (t, e) refl) (hits-self m m u.forest refl hm)
          | just q e ↦
              let a = parent-path u.forest s.forest.once m q hm e in
              at q (rw (t, e) refl) (let k = ap (hits q) a.1 in let l = hits-append q (m ∷ []) (ancestors q u.forest) in let i = hits-self q q u.forest refl a.0 in omega arith)
        ]

-- the deepest common ancestor of a node and itself
pub common-self : (f : Forest Content) (a b : ℕ) → 0 < occurs a f → a ≡ b → common_ancestor f a b ≡ a
common-self f a b h e =
    let top = ancestors-there a f h in
    let self : among a (a ∷ top.0) ≡ true = elim (same_or a a) [ same _ t ↦ rw t refl | apart ne t ↦ absurd (ne refl) ] in
    ap (λ m. common_ancestor f a m) (sym e)
    ∙ ap (λ ns. unwrap_or (head_of (filter (λ x. among x ns) ns)) a) top.1
    ∙ (rw self refl)
