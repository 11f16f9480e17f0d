-- Words on lists of numbers that the forest and the arena share.
use Rattle.std.specs.Prelude.{ℕ, ◌+◌, ◌==◌, Bool, true, false, if◌then◌else◌, List, [], ◌∷◌, Option, Some, None}

-- how often n stands in the list
abbrev pub hits : ℕ → List ℕ → ℕ
hits n [] = 0
hits n (x ∷ xs) = (if x == n then 1 else 0) + hits n xs

-- whether n stands in the list
abbrev pub among : ℕ → List ℕ → Bool
among n [] = false
among n (x ∷ xs) = if x == n then true else among n xs

abbrev pub head_of : {A : Type 0} → List A → Option A
head_of [] = None
head_of (x ∷ xs) = Some x

abbrev pub last_of : {A : Type 0} → List A → Option A
last_of [] = None
last_of (x ∷ []) = Some x
last_of (x ∷ y ∷ ys) = last_of (y ∷ ys)

-- whether the optional number is n
abbrev pub is_number : Option ℕ → ℕ → Bool
is_number None n = false
is_number (Some m) n = m == n

-- the number that comes next after n
abbrev pub after : ℕ → List ℕ → Option ℕ
after n [] = None
after n (x ∷ xs) = if x == n then head_of xs else after n xs

-- the number that stands just before n, where `passed` came before the list
abbrev pub before_from : Option ℕ → ℕ → List ℕ → Option ℕ
before_from passed n [] = None
before_from passed n (x ∷ xs) = if x == n then passed else before_from (Some x) n xs

abbrev pub before : ℕ → List ℕ → Option ℕ
before n xs = before_from None n xs

-- how many stand before the first n; the length where n is not there
abbrev pub place_in : ℕ → List ℕ → ℕ
place_in n [] = 0
place_in n (x ∷ xs) = if x == n then 0 else 1 + place_in n xs

-- the list with c put in just before b, or at the end where there is no b
abbrev pub entered : Option ℕ → ℕ → List ℕ → List ℕ
entered b c [] = c ∷ []
entered b c (x ∷ xs) = if is_number b x then c ∷ x ∷ xs else x ∷ entered b c xs

-- the list without c
abbrev pub left_out : ℕ → List ℕ → List ℕ
left_out c [] = []
left_out c (x ∷ xs) = if x == c then left_out c xs else x ∷ left_out c xs

-- the first of two lists that is not empty
abbrev pub or_list : {A : Type 0} → List A → List A → List A
or_list [] ys = ys
or_list (x ∷ xs) ys = x ∷ xs

-- the first of two values that is there
abbrev pub or_else : {A : Type 0} → Option A → Option A → Option A
or_else None other = other
or_else (Some x) other = Some x

-- a list from the first n on
abbrev pub from_first : ℕ → List ℕ → List ℕ
from_first n [] = []
from_first n (x ∷ xs) = if x == n then x ∷ xs else from_first n xs

-- the first test that holds gives its name
abbrev pub first_refusal : {E : Type 0} → List (Bool × E) → Option E
first_refusal [] = None
first_refusal (c ∷ cs) = if c.0 then Some c.1 else first_refusal cs

-- what comes before the first n of a list; the whole list where n is not there
abbrev pub up_to : ℕ → List ℕ → List ℕ
up_to n [] = []
up_to n (x ∷ xs) = if x == n then [] else x ∷ up_to n xs

-- the same optional number
abbrev pub is_same : Option ℕ → Option ℕ → Bool
is_same None None = true
is_same None (Some b) = false
is_same (Some a) None = false
is_same (Some a) (Some b) = a == b

-- the part of a list after its first n
abbrev pub past : ℕ → List ℕ → List ℕ
past n [] = []
past n (x ∷ xs) = if x == n then xs else past n xs
