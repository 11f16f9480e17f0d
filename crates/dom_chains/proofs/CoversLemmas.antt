-- Which keys are covered, read off the heads of their chains.
use Rattle.std.proofs.Common.{◌≡◌, ℕ, zero, suc, ◌+◌, ◌-◌, ◌≤◌, ◌<◌, Bool, true, List, [], ◌∷◌, ◌++◌, length, set, map, replicate, Option, Some, None, is_some, refl, sym, ap, ◌∙◌, arith, length-append}
use Rattle.std.proofs.lemmas.{Bool.false≢true, List.length-map, List.length-replicate, List.map-append}
use Rattle.dom_pages.specs.Numbered.{item_at}
use Rattle.dom_chains.specs.{Keyed.covers, Keyed.covered_to, Chained.Firsts, Chained.head_at, Chained.cover_of}

pub covers-within : (covered : List Bool) (n : ℕ) → covers covered n ≡ true → n < length covered
covers-within [] n h = absurd (false≢true h)
covers-within (x ∷ xs) zero h = omega arith
covers-within (x ∷ xs) (suc n) h = omega (arith, covers-within xs n h)

-- a covered key has a head, and a key with an item at its head is covered
pub item-tells : (heads : Firsts) (n : ℕ) → is_some (item_at heads n) ≡ covers (cover_of heads) n
item-tells [] n = refl
item-tells (x ∷ xs) zero = refl
item-tells (x ∷ xs) (suc n) = item-tells xs n

pub head-within : (heads : Firsts) (n : ℕ) → covers (cover_of heads) n ≡ true → n < length heads
head-within heads n h = omega (arith, covers-within (cover_of heads) n h, length-map heads (is_some {T = Option ℕ}))

pub head-covers : (heads : Firsts) (n e : ℕ) → head_at heads n ≡ Some e → covers (cover_of heads) n ≡ true
head-covers [] n e h = absurd (cc h)
head-covers (None ∷ xs) zero e h = absurd (cc h)
head-covers (Some x ∷ xs) zero e h = refl
head-covers (x ∷ xs) (suc n) e h = head-covers xs n e h

-- another head of a covered key leaves the cover
pub cover-set : (heads : Firsts) (n : ℕ) (o : Option ℕ) → covers (cover_of heads) n ≡ true → cover_of (set heads n (Some o)) ≡ cover_of heads
cover-set [] n o h = refl
cover-set (x ∷ xs) zero o h = ap (λ b. b ∷ cover_of xs) (sym h)
cover-set (x ∷ xs) (suc n) o h = ap (λ bs. is_some x ∷ bs) (cover-set xs n o h)

-- a key that has no item is forgotten: the other heads stay
pub head-forgotten : (heads : Firsts) (n : ℕ) → head_at heads n ≡ None → (m : ℕ) → head_at (set heads n None) m ≡ head_at heads m
head-forgotten [] n none m = refl
head-forgotten (x ∷ xs) zero none zero = sym none
head-forgotten (x ∷ xs) zero none (suc m) = refl
head-forgotten (x ∷ xs) (suc n) none zero = refl
head-forgotten (x ∷ xs) (suc n) none (suc m) = head-forgotten xs n none m

-- more keys that have no item
replicate-map : {A B : Type 0} (f : A → B) (k : ℕ) (x : A) → map f (replicate k x) ≡ replicate k (f x)
replicate-map f zero x = refl
replicate-map f (suc k) x = ap (λ ys. f x ∷ ys) (replicate-map f k x)

pub cover-more : (heads : Firsts) (k : ℕ) → cover_of (heads ++ replicate k (Some None)) ≡ cover_of heads ++ replicate k true
cover-more heads k = map-append is_some heads (replicate k (Some None)) ∙ ap (λ bs. cover_of heads ++ bs) (replicate-map is_some k (Some None))

-- all keys of a list are covered
pub cover-all : (firsts : List (Option ℕ)) → cover_of (map (λ first. Some first) firsts) ≡ replicate (length firsts) true
cover-all [] = refl
cover-all (x ∷ xs) = ap (λ bs. true ∷ bs) (cover-all xs)

pub head-free : (k n : ℕ) → head_at (map (λ first. Some first) (replicate k None)) n ≡ None
head-free zero n = refl
head-free (suc k) zero = refl
head-free (suc k) (suc n) = head-free k n

-- who is covered once more keys are
pub covers-to : (made : ℕ) (covered : List Bool) (n : ℕ) → covers covered n ≡ true → covers (covered_to made covered) n ≡ true
covers-to made covered n h = front covered n h
  where
    front : (cs : List Bool) (k : ℕ) → covers cs k ≡ true → covers (cs ++ replicate (made - length covered) true) k ≡ true
    front [] k h = absurd (false≢true h)
    front (x ∷ xs) zero h = h
    front (x ∷ xs) (suc k) h = front xs k h

filled : (k n : ℕ) → n < k → covers (replicate k true) n ≡ true
filled zero n h = absurd (omega arith)
filled (suc k) zero h = refl
filled (suc k) (suc n) h = filled k n (omega arith)

behind : (cs ds : List Bool) (n : ℕ) → length cs ≤ n → covers (cs ++ ds) n ≡ covers ds (n - length cs)
behind [] ds n h = let z : n ≡ n - 0 = omega arith in ap (covers ds) z
behind (x ∷ xs) ds zero h = absurd (omega arith)
behind (x ∷ xs) ds (suc n) h = let z : n - length xs ≡ suc n - length (x ∷ xs) = omega arith in behind xs ds n (omega arith) ∙ ap (covers ds) z

pub covers-new : (made : ℕ) (covered : List Bool) (n : ℕ) → length covered ≤ n → n < made → covers (covered_to made covered) n ≡ true
covers-new made covered n a b = behind covered (replicate (made - length covered) true) n a ∙ filled (made - length covered) (n - length covered) (omega arith)

pub covered_to-length : (made : ℕ) (covered : List Bool) → length (covered_to made covered) ≡ length covered + (made - length covered)
covered_to-length made covered = length-append covered (replicate (made - length covered) true) ∙ ap (λ k. length covered + k) (length-replicate (made - length covered) true)
