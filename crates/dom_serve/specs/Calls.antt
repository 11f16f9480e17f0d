-- The calls that were made of a reader or a writer, one after the other: some that did not fail, then at most one that did, and none after it.
use Rattle.std.specs.Prelude.{◌≡◌, ℕ, zero, suc, Bool, true, false, List, ◌⊎◌}
use Rattle.dom_serve.specs.Streams.{Reading, Writing}
use Rattle.dom_serve.specs.Pieces.{ReadsPieces}

-- where a call failed, that one call and no other; else no call
abbrev pub EndsWith : {S : Type 0} → (S → S → Type 0) → Bool → S → S → Type 0
EndsWith fails true last new = fails last new
EndsWith fails false last new = new ≡ last

-- so many calls that did not fail
abbrev pub Works : {S : Type 0} → (S → S → Type 0) → ℕ → S → S → Type 0
Works works zero old new = new ≡ old
Works {S} works (suc n) old new = (mid : S) × works old mid × Works works n mid new

-- calls that did not fail, and then, where one failed, that one
abbrev pub IsCalled : {S : Type 0} → (S → S → Type 0) → (S → S → Type 0) → Bool → S → S → Type 0
IsCalled {S} works fails failed old new =
    (n : ℕ) × (last : S) × Works works n old last × EndsWith fails failed last new

-- reads that did not fail, and then, where one failed, that one
abbrev pub IsRead : {R : Type 0} → Reading R → Bool → R → R → Type 0
IsRead {R} reading failed old new =
    (pieces : List (List ℕ)) × (last : R) × ReadsPieces reading.gives old pieces last
    × EndsWith reading.fails failed last new

-- writes and flushes that did not fail, and then, where one failed, that one
abbrev pub IsWritten : {W : Type 0} → Writing W → Bool → W → W → Type 0
IsWritten writing failed old new = IsCalled writing.works writing.fails failed old new

-- nothing was asked of a writer, or all that it took has been passed on
abbrev pub HasPassedOn : {W : Type 0} → Writing W → W → W → Type 0
HasPassedOn writing old new = (new ≡ old) ⊎ (writing.is_passed_on new ≡ true)

-- the same, beside the count of lines that were answered
abbrev pub HasAnswered : {W : Type 0} → Writing W → W → ℕ → W → ℕ → Type 0
HasAnswered writing old lines new lines' =
    ((new ≡ old) × (lines' ≡ lines)) ⊎ (writing.is_passed_on new ≡ true)
