-- A list mapped, and a question asked of it before or after.
use Rattle.std.proofs.Common.{◌≡◌, ℕ, ◌<◌, ◌==◌, List, [], ◌∷◌, map, Option, Some, option_map, refl, arith}
use Rattle.dom_model.specs.Definitions.{hits, is_number, entered, left_out, head_of, last_of, after, before_from, place_in}
use Rattle.dom_model.proofs.Forests.Climbing.{hits-first}

pub head_of-map : (f : ℕ → ℕ) (l : List ℕ) → head_of (map f l) ≡ option_map f (head_of l)
head_of-map f [] = refl
head_of-map f (x ∷ xs) = refl

pub last_of-map : (f : ℕ → ℕ) (l : List ℕ) → last_of (map f l) ≡ option_map f (last_of l)
last_of-map f [] = refl
last_of-map f (x ∷ []) = refl
last_of-map f (x ∷ y ∷ ys) = last_of-map f (y ∷ ys)

pub after-map : (f : ℕ → ℕ) (s : ℕ) (l : List ℕ) → ((x : ℕ) → 0 < hits x l → (f x == f s) ≡ (x == s)) → after (f s) (map f l) ≡ option_map f (after s l)
after-map f s [] h = refl
after-map f s (x ∷ xs) h = grind (arith, after-map f s xs)

pub before_from-map : (f : ℕ → ℕ) (s : ℕ) (passed : Option ℕ) (l : List ℕ) → ((x : ℕ) → 0 < hits x l → (f x == f s) ≡ (x == s)) → before_from (option_map f passed) (f s) (map f l) ≡ option_map f (before_from passed s l)
before_from-map f s passed [] h = refl
before_from-map f s passed (x ∷ xs) h = grind (arith, before_from-map f s (Some x) xs)

pub place_in-map : (f : ℕ → ℕ) (s : ℕ) (l : List ℕ) → ((x : ℕ) → 0 < hits x l → (f x == f s) ≡ (x == s)) → place_in (f s) (map f l) ≡ place_in s l
place_in-map f s [] h = refl
place_in-map f s (x ∷ xs) h = rw (h x (hits-first x xs), place_in-map f s xs (λ y k. h y (omega arith))) refl

pub left_out-map : (f : ℕ → ℕ) (s : ℕ) (l : List ℕ) → ((x : ℕ) → 0 < hits x l → (f x == f s) ≡ (x == s)) → left_out (f s) (map f l) ≡ map f (left_out s l)
left_out-map f s [] h = refl
left_out-map f s (x ∷ xs) h = grind (arith, left_out-map f s xs)

pub entered-map : (f : ℕ → ℕ) (b : Option ℕ) (s : ℕ) (l : List ℕ) → ((x : ℕ) → 0 < hits x l → is_number (option_map f b) (f x) ≡ is_number b x) → entered (option_map f b) (f s) (map f l) ≡ map f (entered b s l)
entered-map f b s [] h = refl
entered-map f b s (x ∷ xs) h = grind (arith, entered-map f b s xs)

pub map-same : (f g : ℕ → ℕ) (l : List ℕ) → ((x : ℕ) → 0 < hits x l → f x ≡ g x) → map f l ≡ map g l
map-same f g [] h = refl
map-same f g (x ∷ xs) h = rw (h x (hits-first x xs), map-same f g xs (λ y k. h y (omega arith))) refl
