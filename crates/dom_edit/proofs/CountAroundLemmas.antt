-- What the counts of a Document's children tell of a place among them.
use Rattle.std.proofs.Common.{if◌then◌else◌, not, ◌||◌, nat_eq, is_some, ◌≡◌, ℕ, ◌+◌, ◌<◌, Bool, true, false, List, [], ◌∷◌, Option, Some, None, refl, ap, sym, ◌∙◌, arith}
use Rattle.std.proofs.lemmas.Bool.Decides.{nat_tests}
use Rattle.dom_model.specs.declared.{Kind.Kind, Kind.TheVariants.Element, Kind.TheVariants.DocumentType}
use Rattle.dom_model.specs.Definitions.{hits, past, up_to, Forest, children_of, parent_of, has_kind, count_kind, is_of_kind}
use Rattle.dom_model.proofs.PlainLists.Numbers.{same_or, same, apart}
use Rattle.dom_edit.specs.{declared.insertion_point.InsertionPoint.InsertionPoint, declared.insertion_point.InsertionPoint.TheVariants.Before, declared.insertion_point.InsertionPoint.TheVariants.Instead, declared.insertion_point.Found.Found, declared.insertion_point.Around.Around, InsertionPoints.child_of, InsertionPoints.staying, InsertionPoints.IsUnder, InsertionPoints.refuses, InsertionPoints.children_ahead, InsertionPoints.past_of, InsertionPoints.count_around, InsertionPoints.IsAround}
use Rattle.dom_edit.proofs.{IsAmongLemmas.count_kind-cons, IsAmongLemmas.has_kind-count, InsertionPointLemmas.element-refused, InsertionPointLemmas.doctype-refused}

module _ {X : Type 0} (k : Kind) (f : Forest X) where
  -- a count of a list, around one number of it
  pub count-split : (c : ℕ) (xs : List ℕ) → hits c xs ≡ 1 → count_kind k f xs ≡ count_kind k f (up_to c xs) + (count_kind k f (c ∷ []) + count_kind k f (past c xs))
  count-split c [] h = absurd (omega arith)
  count-split c (x ∷ xs) h =
      elim (same_or x c) [
        | same e t ↦ rw (t, e) (omega (arith, count_kind-cons k f c xs, count_kind-cons k f c []))
        | apart ne t ↦
            let j = rw t at h in
            rw t (omega (arith, count_kind-cons k f x xs, count_kind-cons k f x (up_to c xs), count-split c xs (omega arith)))
      ]

  module _ (p : ℕ) (once : (c : ℕ) → parent_of f c ≡ Some p → hits c (children_of f p) ≡ 1) where
    -- all children stand around a place before a child, or last
    pub count-before : (child : Option ℕ) → IsUnder f p (Before child) → count_kind k f (children_of f p) ≡ count_around k f p (Before child)
    count-before None u = omega arith
    count-before (Some c) u = count-split c (children_of f p) (once c (u c refl))

    -- and all but one around the place of that one
    pub count-instead : (c : ℕ) → IsUnder f p (Instead c) → count_kind k f (children_of f p) ≡ count_around k f p (Instead c) + (if is_of_kind k f c then 1 else 0)
    count-instead c u = omega (arith, count-split c (children_of f p) (once c u), count_kind-cons k f c [])

-- a number that is not given
pub none-given : (o : Option ℕ) (tested : Bool) → is_some o ≡ not tested → tested ≡ true → o ≡ None
none-given None tested e h = refl
none-given (Some n) tested e h = absurd (let z : true ≡ false = e ∙ ap not h in cc z)

none-of : (n : ℕ) → n ≡ 0 → not (nat_eq n 0) ≡ false
none-of n e = rw e refl

some-of : (n : ℕ) → 0 < n → not (nat_eq n 0) ≡ true
some-of n h = (let e : nat_eq n 0 ≡ false = grind (arith, nat_tests) in rw e refl)

-- one of three, and what else there is
any-of : (a b c : ℕ) (x : Bool) → 0 < a + (b + c) → true ≡ (not (nat_eq a 0) || (not (nat_eq b 0) || (not (nat_eq c 0) || x)))
any-of a b c x h =
    elim (same_or a 0) [
      | apart na t ↦ rw (some-of a (omega arith)) refl
      | same ea t ↦
          elim (same_or b 0) [
            | apart nb t2 ↦ rw (none-of a ea, some-of b (omega arith)) refl
            | same eb t2 ↦ rw (none-of a ea, none-of b eb, some-of c (omega arith)) refl
          ]
    ]

no-of : (a b c : ℕ) (x : Bool) → a + (b + c) ≡ 0 → x ≡ (not (nat_eq a 0) || (not (nat_eq b 0) || (not (nat_eq c 0) || x)))
no-of a b c x h = rw (none-of a (omega arith), none-of b (omega arith), none-of c (omega arith)) refl

-- one of three is the first, or one of the others
one-side : (a b c : ℕ) → a + (b + c) ≡ 1 → not (not (nat_eq a 0)) ≡ (not (nat_eq b 0) || not (nat_eq c 0))
one-side a b c h =
    elim (same_or a 0) [
      | apart na t ↦ rw (some-of a (omega arith), none-of b (omega arith), none-of c (omega arith)) refl
      | same ea t ↦
          elim (same_or b 0) [
            | apart nb t2 ↦ rw (none-of a ea, some-of b (omega arith)) refl
            | same eb t2 ↦ rw (none-of a ea, none-of b eb, some-of c (omega arith)) refl
          ]
    ]

module _ {X : Type 0} (f : Forest X) (p : ℕ) (place : InsertionPoint) where
  abbrev ahead : List ℕ
  ahead = children_ahead (child_of place) (children_of f p)

  abbrev past_it : List ℕ
  past_it = past_of (child_of place) (children_of f p)

  abbrev found : List ℕ → Found
  found ns = record { element = has_kind Element f ns; doctype = has_kind DocumentType f ns }

  -- what stands around the place
  abbrev around : Around
  around = record { ahead = found ahead; at = found (staying place); past = found past_it }

  is-around : IsAround f p place around
  is-around =
      record {
        ahead = record { element = refl; doctype = refl };
        at = record { element = refl; doctype = refl };
        past = record { element = refl; doctype = refl };
      }

  has : (k : Kind) (ns : List ℕ) → has_kind k f ns ≡ not (nat_eq (count_kind k f ns) 0)
  has k ns = has_kind-count k f ns

  module _ (u : IsUnder f p place) (once : (c : ℕ) → parent_of f c ≡ Some p → hits c (children_of f p) ≡ 1) (n : ℕ) where
    element-read : (has_kind Element f ahead || (has_kind Element f (staying place) || (has_kind Element f past_it || (has_kind DocumentType f (staying place) || has_kind DocumentType f past_it)))) ≡ refuses place Element f p n
    element-read = element-refused f p place around u is-around once n

    doctype-read : (has_kind DocumentType f ahead || (has_kind DocumentType f (staying place) || (has_kind DocumentType f past_it || has_kind Element f ahead))) ≡ refuses place DocumentType f p n
    doctype-read = doctype-refused f p place around u is-around once n

    -- where an element is, another is refused
    pub element-there : 0 < count_around Element f p place → true ≡ refuses place Element f p n
    element-there h =
        any-of (count_kind Element f ahead) (count_kind Element f (staying place)) (count_kind Element f past_it) (has_kind DocumentType f (staying place) || has_kind DocumentType f past_it) h
        ∙ (rw (sym (has Element ahead), sym (has Element (staying place)), sym (has Element past_it)) refl)
        ∙ element-read

    -- where neither an element nor a doctype is, an element is not
    pub element-alone : count_around Element f p place ≡ 0 → count_around DocumentType f p place ≡ 0 → false ≡ refuses place Element f p n
    element-alone h d =
        (rw (has Element ahead, has Element (staying place), has Element past_it, has DocumentType (staying place), has DocumentType past_it, none-of (count_kind Element f ahead) (omega arith), none-of (count_kind Element f (staying place)) (omega arith), none-of (count_kind Element f past_it) (omega arith), none-of (count_kind DocumentType f (staying place)) (omega arith), none-of (count_kind DocumentType f past_it) (omega arith)) refl)
        ∙ element-read

    -- where a doctype is, another is refused
    pub doctype-there : 0 < count_around DocumentType f p place → true ≡ refuses place DocumentType f p n
    doctype-there h =
        any-of (count_kind DocumentType f ahead) (count_kind DocumentType f (staying place)) (count_kind DocumentType f past_it) (has_kind Element f ahead) h
        ∙ (rw (sym (has DocumentType ahead), sym (has DocumentType (staying place)), sym (has DocumentType past_it)) refl)
        ∙ doctype-read

    -- where neither a doctype nor an element is, a doctype is not
    pub doctype-alone : count_around DocumentType f p place ≡ 0 → count_around Element f p place ≡ 0 → false ≡ refuses place DocumentType f p n
    doctype-alone h e =
        (rw (has DocumentType ahead, has DocumentType (staying place), has DocumentType past_it, has Element ahead, none-of (count_kind DocumentType f ahead) (omega arith), none-of (count_kind DocumentType f (staying place)) (omega arith), none-of (count_kind DocumentType f past_it) (omega arith), none-of (count_kind Element f ahead) (omega arith)) refl)
        ∙ doctype-read

    -- where the one doctype is ahead, an element is not, else it is
    pub element-ordered : count_around Element f p place ≡ 0 → count_around DocumentType f p place ≡ 1 → (first : Bool) → first ≡ has_kind DocumentType f ahead → not first ≡ refuses place Element f p n
    element-ordered h d first e =
        ap not (e ∙ has DocumentType ahead)
        ∙ one-side (count_kind DocumentType f ahead) (count_kind DocumentType f (staying place)) (count_kind DocumentType f past_it) d
        ∙ (rw (has Element ahead, has Element (staying place), has Element past_it, has DocumentType (staying place), has DocumentType past_it, none-of (count_kind Element f ahead) (omega arith), none-of (count_kind Element f (staying place)) (omega arith), none-of (count_kind Element f past_it) (omega arith)) refl)
        ∙ element-read

    -- where an element is ahead, a doctype is refused, else it is not
    pub doctype-ordered : count_around DocumentType f p place ≡ 0 → (first : Bool) → first ≡ has_kind Element f ahead → first ≡ refuses place DocumentType f p n
    doctype-ordered h first e =
        e
        ∙ (rw (has DocumentType ahead, has DocumentType (staying place), has DocumentType past_it, none-of (count_kind DocumentType f ahead) (omega arith), none-of (count_kind DocumentType f (staying place)) (omega arith), none-of (count_kind DocumentType f past_it) (omega arith)) refl)
        ∙ doctype-read

module _ {X : Type 0} (f : Forest X) (p n : ℕ) where
  -- no doctype is past the last place
  pub element-last : (place : InsertionPoint) → child_of place ≡ None → count_around Element f p place ≡ 0 → false ≡ refuses place Element f p n
  element-last (Before None) e h = rw (has_kind-count Element f (children_of f p), none-of (count_kind Element f (children_of f p)) (omega arith)) refl
  element-last (Before (Some c)) e h = absurd (cc e)
  element-last (Instead c) e h = absurd (cc e)

  -- and each element is ahead of it
  pub doctype-last : (place : InsertionPoint) → child_of place ≡ None → count_around DocumentType f p place ≡ 0 → 0 < count_around Element f p place → true ≡ refuses place DocumentType f p n
  doctype-last (Before None) e h i =
      rw (has_kind-count DocumentType f (children_of f p), has_kind-count Element f (children_of f p), none-of (count_kind DocumentType f (children_of f p)) (omega arith), some-of (count_kind Element f (children_of f p)) (omega arith)) refl
  doctype-last (Before (Some c)) e h i = absurd (cc e)
  doctype-last (Instead c) e h i = absurd (cc e)
