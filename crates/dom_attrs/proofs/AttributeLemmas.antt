-- Attributes with distinct names: a search among them, and one more of them.
use Rattle.std.proofs.Common.{◌≡◌, ℕ, zero, suc, ◌+◌, Bool, true, false, ◌||◌, ◌&&◌, List, [], ◌∷◌, Option, Some, None, refl, ap, sym, subst, ◌∙◌, take, slice_get, true≢false, bytes_eq}
use Rattle.std.specs.List.{AllByRecursion, IsDistinct, list_any, list_all}
use Rattle.std.proofs.lemmas.{Slice.Eq.bytes_eq-Decides, List.Folds.list_all_more, Option.slice_get_within, Option.get_or_from_slice_get}
use Rattle.dom_model.specs.Definitions.{Attribute, attribute_value, attribute_names, with_attribute, is_attribute, are_among, same_attributes}

-- whether a value is there, and is that one
abbrev pub has_value : List ℕ → Option (List ℕ) → Bool
has_value value None = false
has_value value (Some found) = bytes_eq value found

-- names that differ one way differ the other way
differs : (x y : List ℕ) → bytes_eq x y ≡ false → bytes_eq y x ≡ false
differs x y h = by (bytes_eq y x) refl
  where
    by : (b : Bool) → bytes_eq y x ≡ b → b ≡ false
    by true e = absurd (true≢false (sym ((bytes_eq-Decides x y).1 (sym ((bytes_eq-Decides y x).0 e))) ∙ h))
    by false e = refl

at_one : (n : List ℕ) (xs : List Attribute) (i : ℕ) (a : Attribute) → AllByRecursion (λ y. bytes_eq n y ≡ false) (attribute_names xs) → slice_get xs i ≡ Some a → bytes_eq n a.name ≡ false
at_one n [] i a h e = cc
at_one n (x ∷ xs) zero a h e = let same : x ≡ a = cc in subst (λ (y : Attribute). bytes_eq n y.name ≡ false) same h.0
at_one n (x ∷ xs) (suc i) a h e = at_one n xs i a h.1 e

-- setting the next of a list's attributes puts it last
pub with_attribute-next : (xs : List Attribute) (i : ℕ) (a : Attribute) → IsDistinct bytes_eq (attribute_names xs) → slice_get xs i ≡ Some a
    → with_attribute a.name a.value (take i xs) ≡ take (suc i) xs
unfolding IsDistinct
with_attribute-next [] i a h e = cc
with_attribute-next (x ∷ xs) zero a h e = let same : a ≡ x = cc in ap (λ y. y ∷ []) same
with_attribute-next (x ∷ xs) (suc i) a h e =
    let apart : bytes_eq a.name x.name ≡ false = differs x.name a.name (at_one x.name xs i a h.0 e) in
    rw apart (ap (λ t. x ∷ t) (with_attribute-next xs i a h.1 e))

none_of : (a : Attribute) (n : List ℕ) (xs : List Attribute) → a.name ≡ n → AllByRecursion (λ y. bytes_eq n y ≡ false) (attribute_names xs) → list_any (is_attribute a) xs ≡ false
none_of a n [] e h = refl
none_of a n (x ∷ xs) e h =
    let apart : bytes_eq a.name x.name ≡ false = rw e h.0 in
    rw apart (none_of a n xs e h.1)

-- among attributes with distinct names, one is there exactly where its name has its value
pub list_any-is_attribute : (a : Attribute) (xs : List Attribute) → IsDistinct bytes_eq (attribute_names xs) → list_any (is_attribute a) xs ≡ has_value a.value (attribute_value a.name xs)
unfolding IsDistinct
list_any-is_attribute a [] h = refl
list_any-is_attribute a (x ∷ xs) h = by (bytes_eq a.name x.name) refl (list_any-is_attribute a xs h.1)
  where
    or_false : (b : Bool) → (b || false) ≡ b
    or_false true = refl
    or_false false = refl

    by : (b : Bool) → bytes_eq a.name x.name ≡ b → list_any (is_attribute a) xs ≡ has_value a.value (attribute_value a.name xs)
        → list_any (is_attribute a) (x ∷ xs) ≡ has_value a.value (attribute_value a.name (x ∷ xs))
    by true e rest =
        let none : list_any (is_attribute a) xs ≡ false = none_of a x.name xs ((bytes_eq-Decides a.name x.name).0 e) h.0 in
        rw (e, none) (or_false (bytes_eq a.value x.value))
    by false e rest = rw e rest

module _ {X : Type 0} (p : X → Bool) where
  -- one more element passes
  pub passes_more : (xs : List X) (i : ℕ) (x : X) → slice_get xs i ≡ Some x → list_all p (take i xs) ≡ true → p x ≡ true → list_all p (take (i + 1) xs) ≡ true
  passes_more xs i x e h passes =
      list_all_more p xs i x (slice_get_within xs i x e) ∙ (λ j. h j && p (get_or_from_slice_get xs i x x e j)) ∙ passes

  -- one element does not pass
  pub one_fails : (xs : List X) (i : ℕ) (x : X) → slice_get xs i ≡ Some x → p x ≡ false → list_all p xs ≡ false
  one_fails [] i x e h = cc
  one_fails (y ∷ ys) zero x e h = let same : y ≡ x = cc in rw (same, h) refl
  one_fails (y ∷ ys) (suc i) x e h = rw (one_fails ys i x e h) (and_false (p y))
    where
      and_false : (b : Bool) → (b && false) ≡ false
      and_false true = refl
      and_false false = refl

-- no names are distinct
pub IsDistinct-nil : {X : Type 0} (eq : X → X → Bool) → IsDistinct eq []
unfolding IsDistinct
IsDistinct-nil eq = tt

is_itself : (a : Attribute) → is_attribute a a ≡ true
is_itself a = rw ((bytes_eq-Decides a.name a.name).1 refl, (bytes_eq-Decides a.value a.value).1 refl) refl

-- among more attributes there are no fewer
among_more : (x : Attribute) (many few : List Attribute) → are_among few many ≡ true → are_among few (x ∷ many) ≡ true
among_more x many [] h = refl
among_more x many (a ∷ few) h = go (list_any (is_attribute a) many) (are_among few many) refl refl h (among_more x many few)
  where
    or_true : (b : Bool) → (b || true) ≡ true
    or_true true = refl
    or_true false = refl

    go : (b c : Bool) → list_any (is_attribute a) many ≡ b → are_among few many ≡ c → (b && c) ≡ true → (are_among few many ≡ true → are_among few (x ∷ many) ≡ true) → are_among (a ∷ few) (x ∷ many) ≡ true
    go true true e f g more = let rest = more f in rw (e, rest, or_true (is_attribute a x)) refl
    go true false e f g more = absurd (true≢false (sym g))
    go false c e f g more = absurd (true≢false (sym g))

all_among : (xs : List Attribute) → are_among xs xs ≡ true
all_among [] = refl
all_among (x ∷ xs) = let rest = among_more x xs xs (all_among xs) in rw (is_itself x, rest) refl

-- the same list has the same attributes
pub same-list : (xs ys : List Attribute) → xs ≡ ys → same_attributes xs ys ≡ true
same-list xs ys e = ap (same_attributes xs) (sym e) ∙ (rw (all_among xs) refl)
