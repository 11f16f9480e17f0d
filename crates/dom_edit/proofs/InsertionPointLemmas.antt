-- What stands around a place among children, and the tests that are read off it.
use Rattle.std.proofs.Common.{filter, ◌==◌, nat_lt, if◌then◌else◌, not, ◌||◌, ◌≡◌, ℕ, ◌≤◌, Bool, true, false, List, [], ◌∷◌, ◌++◌, Option, Some, None, refl, ap, sym, ◌∙◌, subst, arith}
use Rattle.std.specs.List.{list_any}
use Rattle.dom_model.specs.declared.Kind.TheVariants.{Element, Text, DocumentType, DocumentFragment}
use Rattle.dom_model.specs.Definitions.{hits, after, is_number, from_first, past, up_to, first_refusal, Forest, Grove, IsForest, children_of, parent_of, has_kind, count_kind, is_of_kind}
use Rattle.dom_model.proofs.Forests.Indices.{child-listed, child-once, parent-there}
use Rattle.dom_model.proofs.PlainLists.Numbers.{same_or, same, apart}
use Rattle.dom_edit.specs.{declared.insertion_point.InsertionPoint.InsertionPoint, declared.insertion_point.InsertionPoint.TheVariants.Before, declared.insertion_point.InsertionPoint.TheVariants.Instead, declared.insertion_point.Around.Around, InsertionPoints.child_of, InsertionPoints.keeps_child, InsertionPoints.staying, InsertionPoints.IsUnder, InsertionPoints.refuses, InsertionPoints.children_ahead, InsertionPoints.from_optional, InsertionPoints.IsAround}
use Rattle.dom_edit.proofs.IsAmongLemmas.{from_first-after}
use Rattle.dom_observe.proofs.{FilterSetLemmas.or_false, NamesNodesLemmas.or-grouped}

or_assoc : (a b c : Bool) → ((a || b) || c) ≡ (a || (b || c))
or_assoc true b c = refl
or_assoc false b c = refl

-- a question asked of a list, around one number of it
any-around : (test : ℕ → Bool) (c : ℕ) (xs : List ℕ) → hits c xs ≡ 1 → list_any test xs ≡ (list_any test (up_to c xs) || (test c || list_any test (past c xs)))
any-around test c [] h = absurd (omega arith)
any-around test c (x ∷ xs) h =
    elim (same_or x c) [
      | same e t ↦ rw (t, e) refl
      | apart ne t ↦ (let k = rw t at h in rw (t, any-around test c xs (omega arith)) (sym (or_assoc (test x) _ _)))
    ]

any-absent : (test : ℕ → Bool) (c : ℕ) (xs : List ℕ) → hits c xs ≡ 0 → filter (λ m. not (m == c)) xs ≡ xs
any-absent test c [] h = refl
any-absent test c (x ∷ xs) h =
    elim (same_or x c) [
      | same e t ↦ absurd (let k = rw t at h in omega arith)
      | apart ne t ↦ (let k = rw t at h in rw (t, any-absent test c xs (omega arith)) refl)
    ]

-- and of the list without the number
any-others : (test : ℕ → Bool) (c : ℕ) (xs : List ℕ) → hits c xs ≡ 1 → list_any test (filter (λ m. not (m == c)) xs) ≡ (list_any test (up_to c xs) || list_any test (past c xs))
any-others test c [] h = absurd (omega arith)
any-others test c (x ∷ xs) h =
    elim (same_or x c) [
      | same e t ↦ (let k = rw t at h in rw (t, any-absent test c xs (omega arith)) refl)
      | apart ne t ↦ (let k = rw t at h in rw (t, any-others test c xs (omega arith)) (sym (or_assoc (test x) _ _)))
    ]

-- from a number on there is the number, and what is past it
pub from_first-past : (c : ℕ) (xs : List ℕ) → hits c xs ≡ 1 → from_first c xs ≡ c ∷ past c xs
from_first-past c [] h = absurd (omega arith)
from_first-past c (x ∷ xs) h =
    elim (same_or x c) [
      | same e t ↦ rw t (ap (λ n. n ∷ xs) e)
      | apart ne t ↦ (let k = rw t at h in rw t (from_first-past c xs (omega arith)))
    ]

-- from the successor of a number on there is what is past the number
pub from_successor : (c : ℕ) (xs : List ℕ) → ((m : ℕ) → hits m xs ≤ 1) → hits c xs ≡ 1 → from_optional (after c xs) xs ≡ past c xs
from_successor c xs once h =
    let e = sym (from_first-after c xs once h) ∙ from_first-past c xs h in
    cc e

five : (a b c d e : Bool) → (a || (b || (c || (d || e)))) ≡ ((a || (b || c)) || (d || e))
five true b c d e = refl
five false true c d e = refl
five false false c d e = refl

four : (a b c d : Bool) → (a || (b || (c || d))) ≡ ((a || (b || c)) || d)
four true b c d = refl
four false true c d = refl
four false false c d = refl

module _ {X : Type 0} (f : Forest X) (p : ℕ) where
  -- a Document refuses an element where there is another, or a doctype does not come first
  pub element-refused : (place : InsertionPoint) (a : Around) → IsUnder f p place → IsAround f p place a → ((c : ℕ) → parent_of f c ≡ Some p → hits c (children_of f p) ≡ 1) → (n : ℕ) → (a.ahead.element || (a.at.element || (a.past.element || (a.at.doctype || a.past.doctype)))) ≡ refuses place Element f p n
  element-refused (Before None) a u i once n =
      rw (i.ahead.element, i.at.element, i.past.element, i.at.doctype, i.past.doctype) refl
  element-refused (Before (Some c)) a u i once n =
      let kids = children_of f p in
      rw (i.ahead.element, i.at.element, i.past.element, i.at.doctype, i.past.doctype, or_false (is_of_kind Element f c), or_false (is_of_kind DocumentType f c), any-around (is_of_kind Element f) c kids (once c (u c refl)))
      (five (has_kind Element f (up_to c kids)) (is_of_kind Element f c) (has_kind Element f (past c kids)) (is_of_kind DocumentType f c) (has_kind DocumentType f (past c kids)))
  element-refused (Instead c) a u i once n =
      rw (i.ahead.element, i.at.element, i.past.element, i.at.doctype, i.past.doctype, any-others (is_of_kind Element f) c (children_of f p) (once c u))
      (or-grouped (has_kind Element f (up_to c (children_of f p))) (has_kind Element f (past c (children_of f p))) (has_kind DocumentType f (past c (children_of f p))))

  -- and a doctype where there is another, or an element comes first
  pub doctype-refused : (place : InsertionPoint) (a : Around) → IsUnder f p place → IsAround f p place a → ((c : ℕ) → parent_of f c ≡ Some p → hits c (children_of f p) ≡ 1) → (n : ℕ) → (a.ahead.doctype || (a.at.doctype || (a.past.doctype || a.ahead.element))) ≡ refuses place DocumentType f p n
  doctype-refused (Before None) a u i once n =
      rw (i.ahead.element, i.ahead.doctype, i.at.doctype, i.past.doctype) refl
  doctype-refused (Before (Some c)) a u i once n =
      rw (i.ahead.element, i.ahead.doctype, i.at.doctype, i.past.doctype, or_false (is_of_kind DocumentType f c), any-around (is_of_kind DocumentType f) c (children_of f p) (once c (u c refl)))
      (four (has_kind DocumentType f (up_to c (children_of f p))) (is_of_kind DocumentType f c) (has_kind DocumentType f (past c (children_of f p))) (has_kind Element f (up_to c (children_of f p))))
  doctype-refused (Instead c) a u i once n =
      rw (i.ahead.element, i.ahead.doctype, i.at.doctype, i.past.doctype, any-others (is_of_kind DocumentType f) c (children_of f p) (once c u))
      (or-grouped (has_kind DocumentType f (up_to c (children_of f p))) (has_kind DocumentType f (past c (children_of f p))) (has_kind Element f (up_to c (children_of f p))))

-- a test more at the end of an ordered list
pub refused-before : {E : Type 0} (cs rest : List (Bool × E)) (e : E) → first_refusal cs ≡ Some e → first_refusal (cs ++ rest) ≡ Some e
refused-before [] rest e h = cc h
refused-before (c ∷ cs) rest e h = at c.0 (first_refusal cs) (first_refusal (cs ++ rest)) c.1 e (refused-before cs rest e) h
  where
    at : {E : Type 0} (t : Bool) (a b : Option E) (x e : E) → (a ≡ Some e → b ≡ Some e) → (if t then Some x else a) ≡ Some e → (if t then Some x else b) ≡ Some e
    at true a b x e more h = h
    at false a b x e more h = more h

-- and where none of the earlier ones holds
pub refused-last : {E : Type 0} (cs rest : List (Bool × E)) → first_refusal cs ≡ None → first_refusal (cs ++ rest) ≡ first_refusal rest
refused-last [] rest h = refl
refused-last (c ∷ cs) rest h = at c.0 (first_refusal cs) (first_refusal (cs ++ rest)) (first_refusal rest) c.1 (refused-last cs rest) h
  where
    at : {E : Type 0} (t : Bool) (a b d : Option E) (x : E) → (a ≡ None → b ≡ d) → (if t then Some x else a) ≡ None → (if t then Some x else b) ≡ d
    at true a b d x more h = absurd (cc h)
    at false a b d x more h = more h

-- ahead of a number that is given, and begins the list, there is nothing
pub ahead-here : (until : Option ℕ) (n : ℕ) (xs : List ℕ) → is_number until n ≡ true → children_ahead until (n ∷ xs) ≡ []
ahead-here None n xs h = absurd (cc h)
ahead-here (Some u) n xs h =
    elim (same_or u n) [
      | same e t ↦ elim (same_or n u) [ same e2 t2 ↦ rw t2 refl | apart ne t2 ↦ absurd (ne (sym e)) ]
      | apart ne t ↦ absurd (let k : true ≡ false = sym h ∙ t in cc k)
    ]

-- another begins what is ahead
pub ahead-on : (until : Option ℕ) (n : ℕ) (xs : List ℕ) → is_number until n ≡ false → children_ahead until (n ∷ xs) ≡ n ∷ children_ahead until xs
ahead-on None n xs h = refl
ahead-on (Some u) n xs h =
    elim (same_or n u) [
      | same e t ↦ elim (same_or u n) [ same e2 t2 ↦ absurd (let k : true ≡ false = sym t2 ∙ h in cc k) | apart ne t2 ↦ absurd (ne (sym e)) ]
      | apart ne t ↦ rw t refl
    ]

pub ahead-none : (until : Option ℕ) → children_ahead until [] ≡ []
ahead-none None = refl
ahead-none (Some u) = refl

pub no-more : (a b : Bool) → a ≡ (b || false) → b ≡ a
no-more a b h = sym (h ∙ or_false b)

-- the child that a place names stands under the parent
pub child-under : {X : Type 0} (f : Forest X) (p c : ℕ) (place : InsertionPoint) → child_of place ≡ Some c → IsUnder f p place → parent_of f c ≡ Some p
child-under f p c (Before child) e u = u c e
child-under f p c (Instead child) e u = let k : child ≡ c = cc e in subst (λ m. parent_of f m ≡ Some p) k u

-- it stands there once
pub listed-once : {X : Type 0} (g : Grove X) → IsForest g → (p c : ℕ) → parent_of g.forest c ≡ Some p → hits c (children_of g.forest p) ≡ 1
listed-once g sound p c e =
    let a = child-once g.forest sound.once c p in
    let b = child-listed g.forest sound.once c p (parent-there g.forest c p e) e in
    omega arith

pub staying-kept : (place : InsertionPoint) (c : ℕ) → child_of place ≡ Some c → keeps_child place ≡ true → staying place ≡ c ∷ []
staying-kept (Before None) c e k = absurd (cc e)
staying-kept (Before (Some d)) c e k = (let h : d ≡ c = cc e in ap (λ m. m ∷ []) h)
staying-kept (Instead d) c e k = absurd (cc k)

pub staying-gone : (place : InsertionPoint) → keeps_child place ≡ false → staying place ≡ []
staying-gone (Before child) k = absurd (cc k)
staying-gone (Instead child) k = refl

-- a fragment with one element and no Text is refused where an element is
pub fragment-refused : {X : Type 0} (f : Forest X) (p n : ℕ) (place : InsertionPoint) → nat_lt 1 (count_kind Element f (children_of f n)) ≡ false → has_kind Text f (children_of f n) ≡ false → (count_kind Element f (children_of f n) == 1) ≡ true → refuses place DocumentFragment f p n ≡ refuses place Element f p n
fragment-refused f p n (Before child) a b c = rw (a, b, c) refl
fragment-refused f p n (Instead child) a b c = rw (a, b, c) refl
