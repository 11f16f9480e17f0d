-- An element that comes in at the start of a live range: refused by one test, or by none. DOM Standard, "Interface Range" (insert).
use Rattle.std.proofs.Common.{◌≡◌, ℕ, ◌<◌, ◌==◌, Bool, true, false, not, ◌&&◌, ◌||◌, if◌then◌else◌, [], ◌∷◌, Option, Some, None, is_none, unwrap_or, slice_get, refl, ap, sym, ◌∙◌}
use Rattle.std.proofs.lemmas.Bool.{false≢true, not-false}
use Rattle.dom_model.specs.declared.{Kind.Kind, Kind.TheVariants.Element, Kind.TheVariants.Text, Kind.TheVariants.ProcessingInstruction, Kind.TheVariants.Comment, Kind.TheVariants.Document, Kind.TheVariants.DocumentType, Kind.TheVariants.DocumentFragment, DomError.DomError, DomError.TheVariants.HierarchyRequestError, DomError.TheVariants.NotFoundError}
use Rattle.dom_model.specs.Definitions.{among, is_number, or_else, first_refusal, Entry, is_kind, may_be_parent, Node, Forest, occurs, entry_in, parent_of, children_of, ancestors, Content, Point, World, IsSound, if_given, document_refuses, is_misplaced, kind_refuses, check_insert, entry_has, kind_passes, is_of_kind, Outcome, and_then, unless, is_text, reference_at, parent_by, parent_at, check_start, inserted_at, refusal_in}
use Rattle.dom_model.proofs.PlainLists.Numbers.{same_or, same, apart}
use Rattle.dom_model.proofs.Forests.{Changes.seen, Changes.nothing, Changes.just, Entries.HasNode-occurs, Climbing.hits-among, Climbing.hits-self, Indices.child-once, Indices.child-parent}
use Rattle.dom_model.proofs.MutationAlgorithms.ChecksKept.{or_first, or_second}
use Rattle.dom_model.proofs.RangesAndContents.{StartsAhead.got_place, InsertAllowed.insert-done}
use Rattle.dom_wrap.specs.SurroundRefusal.{holder_of, is_refused_at}
use Rattle.dom_model.proofs.Soundness.SoundForests.{passes-also}

-- Kinds.

pub kind-alone : (k : Kind) → is_kind Element k ≡ true → k ≡ Element
kind-alone Element e = refl
kind-alone Text e = absurd (false≢true e)
kind-alone ProcessingInstruction e = absurd (false≢true e)
kind-alone Comment e = absurd (false≢true e)
kind-alone Document e = absurd (false≢true e)
kind-alone DocumentType e = absurd (false≢true e)
kind-alone DocumentFragment e = absurd (false≢true e)

-- what is asked of the kind of an element
pub element-passes : (f : Forest Content) (n : ℕ) (test : Kind → Bool) → is_of_kind Element f n ≡ true → kind_passes test f n ≡ test Element
element-passes f n test h = go (entry_in f n) h
  where
    go : (o : Option (Entry (Node Content))) → entry_has (is_kind Element) o ≡ true → entry_has test o ≡ test Element
    go None e = absurd (false≢true e)
    go (Some e) i = ap test (kind-alone e.value.label.kind i)

pub text-alone : (other : Kind → Bool) → (k : Kind) → is_kind Text k ≡ true → other k ≡ other Text
text-alone other Text e = refl
text-alone other Element e = absurd (false≢true e)
text-alone other ProcessingInstruction e = absurd (false≢true e)
text-alone other Comment e = absurd (false≢true e)
text-alone other Document e = absurd (false≢true e)
text-alone other DocumentType e = absurd (false≢true e)
text-alone other DocumentFragment e = absurd (false≢true e)

-- what is asked of the kind of a Text
pub text-passes : (f : Forest Content) (n : ℕ) (test : Kind → Bool) → is_of_kind Text f n ≡ true → kind_passes test f n ≡ test Text
text-passes f n test h = passes-also (is_kind Text) test (test Text) (text-alone test) f n h

holds-no_data : (k : Kind) → may_be_parent k ≡ true → (is_kind ProcessingInstruction k || is_kind Comment k) ≡ false
holds-no_data Element e = refl
holds-no_data Document e = refl
holds-no_data DocumentFragment e = refl
holds-no_data Text e = absurd (false≢true e)
holds-no_data ProcessingInstruction e = absurd (false≢true e)
holds-no_data Comment e = absurd (false≢true e)
holds-no_data DocumentType e = absurd (false≢true e)

holder-no_data : (f : Forest Content) (n : ℕ) → kind_passes may_be_parent f n ≡ true → (is_of_kind ProcessingInstruction f n || is_of_kind Comment f n) ≡ false
holder-no_data f n h = go (entry_in f n) h
  where
    go : (o : Option (Entry (Node Content))) → entry_has may_be_parent o ≡ true → (entry_has (is_kind ProcessingInstruction) o || entry_has (is_kind Comment) o) ≡ false
    go None e = refl
    go (Some e) i = holds-no_data e.value.label.kind i

-- Refusals in turn.

pub refusal-unless : (c : Option DomError) (w : World) (step : World → Outcome) → refusal_in (and_then (unless c w) step) ≡ or_else c (refusal_in (step w))
refusal-unless None w step = refl
refusal-unless (Some e) w step = refl

conditions-told : (a b c d m x : Bool) → (a ≡ false → c ≡ false) → d ≡ false → m ≡ false →
    first_refusal ((a, HierarchyRequestError) ∷ (b, HierarchyRequestError) ∷ (c, NotFoundError) ∷ (d, HierarchyRequestError) ∷ (m, HierarchyRequestError) ∷ (x, HierarchyRequestError) ∷ []) ≡ (if a || (b || x) then Some HierarchyRequestError else None)
conditions-told true b c d m x k e i = refl
conditions-told false true c d m x k e i = refl
conditions-told false false c d m x k e i = rw (k refl, e, i) (last x)
  where
    last : (x : Bool) → first_refusal ((x, HierarchyRequestError) ∷ []) ≡ (if x then Some HierarchyRequestError else None)
    last true = refl
    last false = refl

pub start-told : (a b c : Bool) → first_refusal ((a, HierarchyRequestError) ∷ (b, HierarchyRequestError) ∷ (c, HierarchyRequestError) ∷ []) ≡ (if a || (b || c) then Some HierarchyRequestError else None)
start-told true b c = refl
start-told false true c = refl
start-told false false true = refl
start-told false false false = refl

refused-anyway : (a c rest : Option DomError) (v : Bool) → a ≡ (if v then Some HierarchyRequestError else None) → c ≡ Some HierarchyRequestError → or_else a (or_else c rest) ≡ Some HierarchyRequestError
refused-anyway a c rest true e d = rw e refl
refused-anyway a c rest false e d = rw (e, d) refl

module _ (u : World) (s : IsSound u) (p : Point) where
  abbrev f : Forest Content
  f = u.forest

  abbrev pub q : ℕ
  q = holder_of u p.node

  reference-text : is_text u p.node ≡ true → reference_at u p ≡ Some p.node
  reference-text t = rw t refl

  reference-child : is_text u p.node ≡ false → reference_at u p ≡ slice_get (children_of f p.node) p.offset
  reference-child t = rw t refl

  holder-text : is_text u p.node ≡ true → q ≡ unwrap_or (parent_of f p.node) p.node
  holder-text t = rw t refl

  holder-child : is_text u p.node ≡ false → q ≡ p.node
  holder-child t = rw t refl

  at-child : (c : ℕ) → slice_get (children_of f p.node) p.offset ≡ Some c → parent_of f c ≡ Some p.node
  at-child c e =
      let g = got_place (children_of f p.node) p.offset c (λ m. child-once f s.forest.once m p.node) e in
      child-parent f s.forest.once c p.node g.1

  -- the node under which it comes in
  pub parent-is : parent_at u p ≡ q
  parent-is = go (is_text u p.node) refl
    where
      by : (o : Option ℕ) → slice_get (children_of f p.node) p.offset ≡ o → parent_by u p o ≡ p.node
      by None i = refl
      by (Some c) i = ap (λ o. unwrap_or o p.node) (at-child c i)

      go : (t : Bool) → is_text u p.node ≡ t → parent_at u p ≡ q
      go true t = ap (parent_by u p) (reference-text t) ∙ sym (holder-text t)
      go false t = ap (parent_by u p) (reference-child t) ∙ by (slice_get (children_of f p.node) p.offset) refl ∙ sym (holder-child t)

  is-own : (m k : ℕ) → m ≡ k → is_number (Some m) k ≡ true
  is-own m k e = elim (same_or m k) [ same d t ↦ t | apart ne t ↦ absurd (ne e) ]

  pub text-parent : is_text u p.node ≡ true → kind_passes may_be_parent f q ≡ true → (m : ℕ) × (parent_of f p.node ≡ Some m) × (q ≡ m)
  text-parent t h =
      elim (seen (parent_of f p.node)) [
        | nothing e ↦
            let k : q ≡ p.node = holder-text t ∙ ap (λ o. unwrap_or o p.node) e in
            absurd (false≢true (sym (text-passes f p.node may_be_parent t) ∙ ap (kind_passes may_be_parent f) (sym k) ∙ h))
        | just m e ↦ (m, e, holder-text t ∙ ap (λ o. unwrap_or o p.node) e)
      ]

  -- what it comes in before stands under that node
  pub found : kind_passes may_be_parent f q ≡ true → if_given (λ c. not (is_number (parent_of f c) q)) (reference_at u p) ≡ false
  found h = go (is_text u p.node) refl
    where
      by : is_text u p.node ≡ false → (o : Option ℕ) → slice_get (children_of f p.node) p.offset ≡ o → if_given (λ c. not (is_number (parent_of f c) q)) o ≡ false
      by t None i = refl
      by t (Some c) i = ap (λ o. not (is_number o q)) (at-child c i) ∙ ap not (is-own p.node q (sym (holder-child t)))

      go : (t : Bool) → is_text u p.node ≡ t → if_given (λ c. not (is_number (parent_of f c) q)) (reference_at u p) ≡ false
      go true t =
          let m = text-parent t h in
          ap (if_given (λ c. not (is_number (parent_of f c) q))) (reference-text t) ∙ ap (λ o. not (is_number o q)) m.1 ∙ ap not (is-own m.0 q (sym m.2))
      go false t = ap (if_given (λ c. not (is_number (parent_of f c) q))) (reference-child t) ∙ by t (slice_get (children_of f p.node) p.offset) refl

  -- An element.

  module _ (n : ℕ) (hn : 0 < occurs n u.forest) (element : is_of_kind Element u.forest n ≡ true) where
    abbrev pub is_refused_here : Bool
    is_refused_here = is_refused_at u p n

    pub insert-told : check_insert f q n (reference_at u p) ≡ (if is_refused_here then Some HierarchyRequestError else None)
    insert-told =
        let child = reference_at u p in
        let refuses = λ (k : Kind). document_refuses k f q n child in
        let d : is_of_kind Document f n ≡ false = element-passes f n (is_kind Document) element in
        let x : is_of_kind Text f n ≡ false = element-passes f n (is_kind Text) element in
        let y : is_of_kind DocumentType f n ≡ false = element-passes f n (is_kind DocumentType) element in
        let m : is_misplaced f q n ≡ false = rw (x, y) refl in
        conditions-told (not (kind_passes may_be_parent f q)) (among n (ancestors q f)) (if_given (λ c. not (is_number (parent_of f c) q)) child) (is_of_kind Document f n) (is_misplaced f q n) (kind_refuses refuses f q n)
        (λ h. found (not-false (kind_passes may_be_parent f q) h)) d m
        ∙ ap (λ z. if not (kind_passes may_be_parent f q) || (among n (ancestors q f) || (is_of_kind Document f q && z)) then Some HierarchyRequestError else None) (element-passes f n refuses element)

    -- where that is not refused, no more is the start
    pub start-passes : is_refused_here ≡ false → check_start u p n ≡ None
    start-passes t = start-told (is_of_kind ProcessingInstruction f p.node || is_of_kind Comment f p.node) (is_text u p.node && is_none (parent_of f p.node)) (p.node == n) ∙ (rw (passes (is_text u p.node) refl) refl)
      where
        holds : kind_passes may_be_parent f q ≡ true
        holds = not-false (kind_passes may_be_parent f q) (or_first (not (kind_passes may_be_parent f q)) _ t)

        outside : among n (ancestors q f) ≡ false
        outside = or_first (among n (ancestors q f)) _ (or_second (not (kind_passes may_be_parent f q)) _ t)

        passes : (b : Bool) → is_text u p.node ≡ b → ((is_of_kind ProcessingInstruction f p.node || is_of_kind Comment f p.node) || ((is_text u p.node && is_none (parent_of f p.node)) || (p.node == n))) ≡ false
        passes true i =
            let m = text-parent i holds in
            let other : (p.node == n) ≡ false = elim (same_or p.node n) [ same d k ↦ absurd (false≢true (sym (element-passes f n (is_kind Text) element) ∙ ap (λ x. is_of_kind Text f x) (sym d) ∙ i)) | apart ne k ↦ k ] in
            rw (text-passes f p.node (is_kind ProcessingInstruction) i, text-passes f p.node (is_kind Comment) i, i, m.1, other) refl
        passes false i =
            let k = holder-no_data f p.node (ap (kind_passes may_be_parent f) (sym (holder-child i)) ∙ holds) in
            let other : (p.node == n) ≡ false = elim (same_or p.node n) [
              | same d k ↦ absurd (false≢true (sym outside ∙ ap (λ x. among n (ancestors x f)) (holder-child i ∙ d) ∙ hits-among n (ancestors n f) (hits-self n n f refl hn)))
              | apart ne k ↦ k
            ] in
            rw (k, i, other) refl

    pub insert-passes : is_refused_here ≡ false → check_insert f (parent_at u p) n (reference_at u p) ≡ None
    insert-passes t = ap (λ x. check_insert f x n (reference_at u p)) parent-is ∙ insert-told ∙ (rw t refl)

    insert-refuses : is_refused_here ≡ true → check_insert f (parent_at u p) n (reference_at u p) ≡ Some HierarchyRequestError
    insert-refuses t = ap (λ x. check_insert f x n (reference_at u p)) parent-is ∙ insert-told ∙ (rw t refl)

    -- the one refusal, or none
    pub inserted-told : (r : ℕ) → refusal_in (inserted_at r n p u) ≡ (if is_refused_here then Some HierarchyRequestError else None)
    inserted-told r = go is_refused_here refl
      where
        go : (b : Bool) → is_refused_here ≡ b → refusal_in (inserted_at r n p u) ≡ (if b then Some HierarchyRequestError else None)
        go true t =
            refusal-unless (check_start u p n) u _
            ∙ ap (or_else (check_start u p n)) (refusal-unless (check_insert f (parent_at u p) n (reference_at u p)) u _)
            ∙ refused-anyway (check_start u p n) (check_insert f (parent_at u p) n (reference_at u p)) _ _
            (start-told (is_of_kind ProcessingInstruction f p.node || is_of_kind Comment f p.node) (is_text u p.node && is_none (parent_of f p.node)) (p.node == n)) (insert-refuses t)
        go false t =
            let d = insert-done u s.forest n (HasNode-occurs f n hn) p (start-passes t) (insert-passes t) r in
            ap refusal_in d.1
