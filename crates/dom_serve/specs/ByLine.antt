-- Lines that a writer took one after the other, each of them passed on before the next.
use Rattle.std.specs.Prelude.{◌≡◌, ℕ, Bool, true, List, [], length}
use Rattle.std.specs.Io.KnownBytes.{Appends}
use Rattle.dom_model.specs.Commands.Output.{whole_lines, last_piece}
use Rattle.dom_serve.specs.Streams.{Writing}
use Rattle.dom_serve.specs.Writes.{AppendsFront}
use Rattle.dom_serve.specs.Calls.{IsCalled}

-- one newline, and nothing after it
abbrev pub IsLine : List ℕ → Type 0
IsLine line = (length (whole_lines line) ≡ 1) × (last_piece line ≡ [])

-- a line was written whole, and then all that was taken had been passed on
abbrev pub PassesLine : {W : Type 0} → Writing W → W → W → Type 0
PassesLine writing old new =
    (line : List ℕ) × IsLine line × Appends (writing.taken old) (writing.taken new) line
    × (writing.is_passed_on new ≡ true)

-- a front of a line was written
abbrev pub CutsLine : {W : Type 0} → Writing W → W → W → Type 0
CutsLine writing old new =
    (line : List ℕ) × IsLine line × AppendsFront (writing.taken old) (writing.taken new) line

-- lines were written, each passed on before the next; and then, where a write or a flush failed, a front of one more
abbrev pub IsWrittenByLine : {W : Type 0} → Writing W → Bool → W → W → Type 0
IsWrittenByLine writing failed old new =
    IsCalled (PassesLine writing) (CutsLine writing) failed old new
