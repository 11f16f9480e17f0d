-- The pieces that reads gave, one for each read.
use Rattle.std.specs.Prelude.{◌≡◌, ℕ, ◌≤◌, Bool, true, false, List, [], ◌∷◌, length}
use Rattle.std.specs.List.{All, AllByRecursion}

-- reads, one after the other, gave these pieces
abbrev pub ReadsPieces : {R : Type 0} → (R → List ℕ → R → Type 0) → R → List (List ℕ) → R → Type 0
ReadsPieces gives old [] new = new ≡ old
ReadsPieces {R} gives old (piece ∷ pieces) new = (mid : R) × gives old piece mid × ReadsPieces gives mid pieces new

abbrev pub is_nothing : List ℕ → Bool
is_nothing [] = true
is_nothing (b ∷ bytes) = false

-- the last read gave nothing: the input has ended
abbrev pub has_end : List (List ℕ) → Bool
has_end [] = false
has_end (piece ∷ []) = is_nothing piece
has_end (piece ∷ next ∷ pieces) = has_end (next ∷ pieces)

-- the pieces of the reads before the last
abbrev pub before_last : List (List ℕ) → List (List ℕ)
before_last [] = []
before_last (piece ∷ []) = []
before_last (piece ∷ next ∷ pieces) = piece ∷ before_last (next ∷ pieces)

-- no piece ahead of the last is empty: once the input has ended, nothing more is read
abbrev pub EndsOnce : List (List ℕ) → Type 0
EndsOnce pieces = AllByRecursion (λ piece. is_nothing piece ≡ false) (before_last pieces)

-- at most so many reads, of at most 65,536 bytes each
abbrev pub AreWithin : ℕ → List (List ℕ) → Type 0
AreWithin turns pieces = (length pieces ≤ turns) × All (λ piece. length piece ≤ 65536) pieces
