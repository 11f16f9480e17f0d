-- Where one child of a kind stands, told by its place among the children.
use Rattle.std.proofs.Common.{nat_lt, nat_eq, if◌then◌else◌, not, ◌≡◌, ℕ, ◌+◌, ◌≤◌, Bool, true, false, IfSome, List, [], ◌∷◌, Option, Some, None, refl, ap, sym, ◌∙◌, arith}
use Rattle.std.proofs.lemmas.Bool.Decides.{nat_tests}
use Rattle.dom_model.specs.declared.{Kind.Kind}
use Rattle.dom_model.specs.Definitions.{hits, place_in, past, up_to, Forest, children_of, parent_of, index_of, has_kind, count_kind, is_of_kind}
use Rattle.dom_model.proofs.PlainLists.Numbers.{same_or, same, apart}
use Rattle.dom_model.proofs.Forests.Indices.{index-child}
use Rattle.dom_edit.specs.{declared.insertion_point.InsertionPoint.InsertionPoint, InsertionPoints.child_of, InsertionPoints.IsUnder, InsertionPoints.children_ahead}
use Rattle.dom_edit.proofs.{IsAmongLemmas.count_kind-cons, IsAmongLemmas.has_kind-count, InsertionPointLemmas.child-under, CountAroundLemmas.count-split}

-- a number stands ahead of another in a list where its place is before the other's
hits-ahead : (d c : ℕ) (xs : List ℕ) → nat_lt (place_in d xs) (place_in c xs) ≡ not (nat_eq (hits d (up_to c xs)) 0)
hits-ahead d c [] = grind (arith, nat_tests)
hits-ahead d c (x ∷ xs) = grind (arith, nat_tests, hits-ahead d c xs)

-- it stands once ahead of it, at it or past it
hits-split : (d c : ℕ) (xs : List ℕ) → hits c xs ≡ 1 → hits d xs ≡ hits d (up_to c xs) + (hits d (c ∷ []) + hits d (past c xs))
hits-split d c [] h = absurd (omega arith)
hits-split d c (x ∷ xs) h = grind (arith, nat_tests, hits-split d c xs)

one-more : (t : Bool) (n : ℕ) → t ≡ true → (if t then 1 else 0) + n ≡ 1 + n
one-more true n h = refl
one-more false n h = absurd (cc h)

module _ {X : Type 0} (k : Kind) (f : Forest X) where
  -- no more stand there than are of its kind
  hits-counted : (d : ℕ) → is_of_kind k f d ≡ true → (xs : List ℕ) → hits d xs ≤ count_kind k f xs
  hits-counted d t [] = omega arith
  hits-counted d t (x ∷ xs) =
      elim (same_or x d) [
        | same e s ↦
            let j : count_kind k f (x ∷ xs) ≡ 1 + count_kind k f xs = count_kind-cons {X = X} k f x xs ∙ one-more (is_of_kind k f x) (count_kind k f xs) (ap (is_of_kind k f) e ∙ t) in
            rw s (omega (arith, j, hits-counted d t xs))
        | apart ne s ↦ rw s (omega (arith, count_kind-cons k f x xs, hits-counted d t xs))
      ]

  -- the one of its kind stands ahead where its place is before that of a child
  pub one-ahead : (d c : ℕ) (xs : List ℕ) → is_of_kind k f d ≡ true → hits c xs ≡ 1 → hits d xs ≡ 1 → count_kind k f xs ≡ 1 → nat_lt (place_in d xs) (place_in c xs) ≡ has_kind k f (up_to c xs)
  one-ahead d c xs t hc hd n =
      let same : hits d (up_to c xs) ≡ count_kind k f (up_to c xs) =
      omega (arith, hits-split d c xs hc, count-split k f c xs hc, hits-counted d t (up_to c xs), hits-counted d t (c ∷ []), hits-counted d t (past c xs)) in
      hits-ahead d c xs ∙ ap (λ m. not (nat_eq m 0)) same ∙ sym (has_kind-count k f (up_to c xs))

  -- and so where it is asked of a place before or instead of a child
  pub known-ahead : (p d c : ℕ) (place : InsertionPoint) → ((m : ℕ) → parent_of f m ≡ Some p → hits m (children_of f p) ≡ 1) → child_of place ≡ Some c → IsUnder f p place → parent_of f d ≡ Some p → is_of_kind k f d ≡ true → count_kind k f (children_of f p) ≡ 1 → nat_lt (index_of f d) (index_of f c) ≡ has_kind k f (children_ahead (child_of place) (children_of f p))
  known-ahead p d c place once e u h t n =
      let under = child-under f p c place e u in
      rw (index-child f d p h, index-child f c p under, e) (one-ahead d c (children_of f p) t (once c under) (once d h) n)

-- what is told of an answer, if there is one
pub if-told : {A : Type 0} (P Q : A → Type 0) (told : Option A) → ((a : A) → P a → Q a) → IfSome told P → IfSome told Q
if-told P Q None more h = h
if-told P Q (Some a) more h = more a h
