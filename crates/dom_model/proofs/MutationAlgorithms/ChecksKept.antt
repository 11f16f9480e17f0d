-- What an insertion's check asks of a forest, and that it passes on another forest that is like it there. DOM Standard, "Mutation algorithms".
use Rattle.std.proofs.Common.{◌≡◌, ℕ, ◌<◌, ◌==◌, Bool, true, false, not, ◌&&◌, ◌||◌, if◌then◌else◌, List, [], ◌∷◌, length, Option, Some, None, refl, ap, sym, ◌∙◌, subst, arith}
use Rattle.std.specs.{Prelude.filter, List.list_any}
use Rattle.std.proofs.lemmas.{Bool.false≢true, Bool.Decides.nat_tests, Bool.or_parts, Bool.or_from}
use Rattle.dom_model.specs.Definitions.{hits, among, is_number, Entry, is_kind, may_be_parent, may_stand_under, Node, Forest, empty, node, occurs, tops, entry_under, entry_in, parent_of, children_of, ancestors, KindsFit, Content, if_given, has_kind, count_kind, doctype_from, holds_too_much, element_refused, doctype_refused, document_refuses, is_misplaced, kind_refuses, check_insert, kind_passes, is_of_kind}
use Rattle.dom_model.specs.declared.{Kind.Kind, Kind.TheVariants.Element, Kind.TheVariants.Text, Kind.TheVariants.Document, Kind.TheVariants.DocumentType, Kind.TheVariants.DocumentFragment, DomError.DomError}
use Rattle.dom_model.proofs.PlainLists.Numbers.{same_or, same, apart}
use Rattle.dom_model.proofs.Forests.{Changes.seen, Changes.nothing, Changes.just, Totals.IsOnce, Entries.HasNode-occurs, Indices.child-listed, Indices.child-there, Climbing.hits-first, Entries.entry_under-absent}

-- no member of the list passes
abbrev pub NoneOf : (ℕ → Bool) → List ℕ → Type 0
NoneOf test ns = (n : ℕ) → 0 < hits n ns → test n ≡ false

pub or_first : (a b : Bool) → (a || b) ≡ false → a ≡ false
or_first a b h = (or_parts a b h).0

pub or_second : (a b : Bool) → (a || b) ≡ false → b ≡ false
or_second a b h = (or_parts a b h).1

pub or_both : (a b : Bool) → a ≡ false → b ≡ false → (a || b) ≡ false
or_both = or_from

and_instead : (v x y : Bool) → (v && x) ≡ false → (x ≡ false → y ≡ false) → (v && y) ≡ false
and_instead true x y h k = k h
and_instead false x y h k = refl

pub none-of : (test : ℕ → Bool) (ns : List ℕ) → list_any test ns ≡ false → NoneOf test ns
none-of test [] h n k = absurd (omega arith)
none-of test (m ∷ ns) h n k = grind (arith, nat_tests, or_parts (test m) (list_any test ns) h, none-of test ns)

pub any-none : (test : ℕ → Bool) (ns : List ℕ) → NoneOf test ns → list_any test ns ≡ false
any-none test [] h = refl
any-none test (m ∷ ns) h = or_from (test m) (list_any test ns) (h m (hits-first m ns)) (any-none test ns (λ n k. h n (omega arith)))

pub refusal-head : (c : Bool) (e : DomError) (rest : Option DomError) → (if c then Some e else rest) ≡ None → (c ≡ false) × (rest ≡ None)
refusal-head true e rest h = absurd (cc h)
refusal-head false e rest h = (refl, h)

-- the six conditions do not hold
pub record Allows (f : Forest Content) (parent n : ℕ) (child : Option ℕ) : Type 0 where
  pub may_hold : not (kind_passes may_be_parent f parent) ≡ false
  pub outside : among n (ancestors parent f) ≡ false
  pub found : if_given (λ c. not (is_number (parent_of f c) parent)) child ≡ false
  pub no_document : is_of_kind Document f n ≡ false
  pub placed : is_misplaced f parent n ≡ false
  pub fits : kind_refuses (λ k. document_refuses k f parent n child) f parent n ≡ false

pub allows : (f : Forest Content) (parent n : ℕ) (child : Option ℕ) → check_insert f parent n child ≡ None → Allows f parent n child
allows f parent n child h =
    let a = refusal-head _ _ _ h in
    let b = refusal-head _ _ _ a.1 in
    let c = refusal-head _ _ _ b.1 in
    let d = refusal-head _ _ _ c.1 in
    let e = refusal-head _ _ _ d.1 in
    let g = refusal-head _ _ _ e.1 in
    record { may_hold = a.0; outside = b.0; found = c.0; no_document = d.0; placed = e.0; fits = g.0 }

pub allowed : (f : Forest Content) (parent n : ℕ) (child : Option ℕ) → Allows f parent n child → check_insert f parent n child ≡ None
allowed f parent n child a = rw (a.may_hold, a.outside, a.found, a.no_document, a.placed, a.fits) refl

-- A fragment is a root.

under_none : {X : Type 0} (k : Kind) (above : Option ℕ) (n : ℕ) (f : Forest X) (e : Entry (Node X)) → KindsFit (Some k) f → entry_under above n f ≡ Some e → is_kind DocumentFragment e.value.label.kind ≡ true → ⊥
under_none {X} k above n empty e w d h = cc d
under_none {X} k above n (node x kids rest) e w d h =
    elim (same_or x.number n) [
      | same s t ↦
          let u : record { value = x; parent = above; children = tops kids } ≡ e = (let v = rw t at d in cc v) in
          no_fragment x.label.kind w.0 (subst (λ (y : Entry (Node X)). is_kind DocumentFragment y.value.label.kind ≡ true) (sym u) h)
      | apart ne t ↦
          let u = rw t at d in
          elim (seen (entry_under (Some x.number) n kids)) [
            | nothing z ↦ (let v = rw z at u in under_none k above n rest e w.2 v h)
            | just a z ↦ (let v = rw z at u in under_none x.label.kind (Some x.number) n kids e w.1 (z ∙ v) h)
          ]
    ]
  where
    no_fragment : (j : Kind) → may_stand_under (Some k) j ≡ true → is_kind DocumentFragment j ≡ true → ⊥
    no_fragment DocumentFragment p q = false≢true p
    no_fragment j p q = false≢true q

fragment-parent : (n : ℕ) (f : Forest Content) (e : Entry (Node Content)) → KindsFit None f → entry_in f n ≡ Some e → is_kind DocumentFragment e.value.label.kind ≡ true → e.parent ≡ None
fragment-parent n empty e w d h = absurd (cc d)
fragment-parent n (node x kids rest) e w d h =
    elim (same_or x.number n) [
      | same s t ↦
          let u : record { value = x; parent = None; children = tops kids } ≡ e = (let v = rw t at d in cc v) in
          ap (λ (y : Entry (Node Content)). y.parent) (sym u)
      | apart ne t ↦
          let u = rw t at d in
          elim (seen (entry_under (Some x.number) n kids)) [
            | nothing z ↦ (let v = rw z at u in fragment-parent n rest e w.2 v h)
            | just a z ↦ absurd (let v = rw z at u in under_none x.label.kind (Some x.number) n kids e w.1 (z ∙ v) h)
          ]
    ]

pub fragment-root : (f : Forest Content) (n : ℕ) → KindsFit None f → is_of_kind DocumentFragment f n ≡ true → parent_of f n ≡ None
fragment-root f n w h =
    elim (seen (entry_in f n)) [
      | nothing z ↦ rw z refl
      | just e z ↦ (let k = rw z at h in rw z (fragment-parent n f e w z k))
    ]

-- g is like f where n comes in under the parent: before `child` in f, and before `place` in g
pub record IsLike (f g : Forest Content) (parent n : ℕ) (child place : Option ℕ) : Type 0 where
  pub kinds : (test : Kind → Bool) (m : ℕ) → 0 < occurs m f → kind_passes test g m ≡ kind_passes test f m
  pub outside : among n (ancestors parent f) ≡ false → among n (ancestors parent g) ≡ false
  pub found : if_given (λ c. not (is_number (parent_of g c) parent)) place ≡ false
  pub own : parent_of f n ≡ None → children_of g n ≡ children_of f n
  pub listed : (k : Kind) → is_kind k Text ≡ false → NoneOf (is_of_kind k f) (children_of f parent) → NoneOf (is_of_kind k g) (children_of g parent)
  pub behind : is_number child n ≡ false → doctype_from f parent child ≡ false → doctype_from g parent place ≡ false
  pub ahead : is_number child n ≡ false → doctype_refused f parent child ≡ false → doctype_refused g parent place ≡ false

pub filter-same : (t u : ℕ → Bool) (ns : List ℕ) → ((m : ℕ) → 0 < hits m ns → t m ≡ u m) → filter t ns ≡ filter u ns
filter-same t u [] h = refl
filter-same t u (n ∷ ns) h = rw (h n (hits-first n ns), filter-same t u ns (λ m k. h m (omega arith))) refl

pub any-same : (t u : ℕ → Bool) (ns : List ℕ) → ((m : ℕ) → 0 < hits m ns → t m ≡ u m) → list_any t ns ≡ list_any u ns
any-same t u [] h = refl
any-same t u (n ∷ ns) h = rw (h n (hits-first n ns), any-same t u ns (λ m k. h m (omega arith))) refl

is_kind-same : (k : Kind) → is_kind k k ≡ true
is_kind-same Element = refl
is_kind-same k = refl

-- an optional number that is told to be the parent's is the parent's
pub number-parent : (parent : ℕ) (q : Option ℕ) → not (is_number q parent) ≡ false → q ≡ Some parent
number-parent parent None h = absurd (false≢true (sym h))
number-parent parent (Some m) h = grind (arith, nat_tests)

module _ (f g : Forest Content) (parent n : ℕ) (child place : Option ℕ) (o : IsOnce f) (kinds : KindsFit None f) (there : 0 < occurs n f) (l : IsLike f g parent n child place) where
  -- what comes in is no child of the parent, where no child is of its kind
  no_child : (k : Kind) → is_of_kind k f n ≡ true → NoneOf (is_of_kind k f) (children_of f parent) → parent_of f n ≡ Some parent → ⊥
  no_child k h none e = false≢true (sym (none n (child-listed f o n parent there e)) ∙ h)

  apart_from : (c : Option ℕ) → if_given (λ m. not (is_number (parent_of f m) parent)) c ≡ false → (parent_of f n ≡ Some parent → ⊥) → is_number c n ≡ false
  apart_from None h far = refl
  apart_from (Some m) h far = grind (arith, nat_tests, number-parent parent (parent_of f m) h)

  module _ (a : Allows f parent n child) where
    element-kept : (parent_of f n ≡ Some parent → ⊥) → element_refused f parent child ≡ false → element_refused g parent place ≡ false
    element-kept far d =
        let none = none-of (is_of_kind Element f) (children_of f parent) (or_first _ _ d) in
        or_both _ _ (any-none (is_of_kind Element g) (children_of g parent) (l.listed Element refl none)) (l.behind (apart_from child a.found far) (or_second _ _ d))

    doctype-first : (c : Option ℕ) → doctype_refused f parent c ≡ false → has_kind DocumentType f (children_of f parent) ≡ false
    doctype-first None d = or_first _ _ d
    doctype-first (Some m) d = or_first _ _ d

    child-kinds : (k : Kind) (m : ℕ) → 0 < hits m (children_of f n) → is_of_kind k g m ≡ is_of_kind k f m
    child-kinds k m h = l.kinds (is_kind k) m (child-there f o m n h)

    fragment-kept : is_of_kind DocumentFragment f n ≡ true → document_refuses DocumentFragment f parent n child ≡ false → document_refuses DocumentFragment g parent n place ≡ false
    fragment-kept h d =
        let root = fragment-root f n kinds h in
        let far : parent_of f n ≡ Some parent → ⊥ = λ e. (let u : None ≡ Some parent = sym root ∙ e in cc u) in
        let elements : count_kind Element g (children_of g n) ≡ count_kind Element f (children_of f n) = ap (λ ns. count_kind Element g ns) (l.own root) ∙ ap length (filter-same (is_of_kind Element g) (is_of_kind Element f) (children_of f n) (child-kinds Element)) in
        let texts : has_kind Text g (children_of g n) ≡ has_kind Text f (children_of f n) = ap (λ ns. has_kind Text g ns) (l.own root) ∙ any-same (is_of_kind Text g) (is_of_kind Text f) (children_of f n) (child-kinds Text) in
        or_both (holds_too_much g n) ((count_kind Element g (children_of g n) == 1) && element_refused g parent place) (rw (elements, texts) (or_first (holds_too_much f n) _ d)) (rw elements (and_instead (count_kind Element f (children_of f n) == 1) _ _ (or_second _ _ d) (element-kept far)))

    refuses-kept : (k : Kind) → is_of_kind k f n ≡ true → document_refuses k f parent n child ≡ false → document_refuses k g parent n place ≡ false
    refuses-kept Element h d = element-kept (no_child Element h (none-of (is_of_kind Element f) (children_of f parent) (or_first _ _ d))) d
    refuses-kept DocumentType h d =
        let none = none-of (is_of_kind DocumentType f) (children_of f parent) (doctype-first child d) in
        l.ahead (apart_from child a.found (no_child DocumentType h none)) d
    refuses-kept DocumentFragment h d = fragment-kept h d
    refuses-kept k h d = refl

    parent_there : 0 < occurs parent f
    parent_there = grind (arith, entry_under-absent None parent f, a.may_hold)

    fits-kept : kind_refuses (λ k. document_refuses k g parent n place) g parent n ≡ false
    fits-kept =
        elim (seen (entry_in f n)) [
          | nothing z ↦ absurd (let i = HasNode-occurs f n there in let k = rw z at i in false≢true k)
          | just e z ↦
              let k = e.value.label.kind in
              let own : is_of_kind k f n ≡ true = (rw z (is_kind-same k)) in
              let before : (is_of_kind Document f parent && document_refuses k f parent n child) ≡ false = (let h = rw z at a.fits in h) in
              let same_parent = l.kinds (is_kind Document) parent parent_there in
              let same_n : kind_passes (λ j. document_refuses j g parent n place) g n ≡ document_refuses k g parent n place = l.kinds (λ j. document_refuses j g parent n place) n there ∙ (rw z refl) in
              rw (same_parent, same_n) (and_instead (is_of_kind Document f parent) (document_refuses k f parent n child) (document_refuses k g parent n place) before (refuses-kept k own))
        ]

    pub allows-kept : Allows g parent n place
    allows-kept = record {
      may_hold = rw (l.kinds may_be_parent parent parent_there) a.may_hold;
      outside = l.outside a.outside;
      found = l.found;
      no_document = l.kinds (is_kind Document) n there ∙ a.no_document;
      placed = rw (l.kinds (is_kind Text) n there, l.kinds (is_kind DocumentType) n there, l.kinds (is_kind Document) parent parent_there) a.placed;
      fits = fits-kept;
    }

-- what was allowed is allowed on a forest that is like it
pub check-kept : (f g : Forest Content) (parent n : ℕ) (child place : Option ℕ) → IsOnce f → KindsFit None f → 0 < occurs n f → IsLike f g parent n child place → check_insert f parent n child ≡ None → check_insert g parent n place ≡ None
check-kept f g parent n child place o kinds there l h =
    let a = allows f parent n child h in allowed g parent n place (allows-kept f g parent n child place o kinds there l a)
