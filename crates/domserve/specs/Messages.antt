-- What the program says of a fault, and its hint for a user at a terminal.
use Rattle.std.specs.Prelude.{◌≡◌, ℕ, Bool, true, false, ◌⊎◌, List, [], ◌∷◌, ◌++◌, Option, Some, None, IsSome, codes}
use Rattle.std.specs.Io.KnownBytes.{Appends}
use Rattle.std.specs.IoError.{error_kind}
use Rattle.std.specs.declared.io.Error.{Error}
use Rattle.std.specs.declared.io.ErrorKind.{ErrorKind}
use Rattle.std.specs.declared.io.ErrorKind.TheVariants.{BrokenPipe}
use Rattle.dom_serve.specs.Streams.{Writing}
use Rattle.dom_serve.specs.Calls.{IsWritten}
use Rattle.dom_serve.specs.Writes.{AppendsFront}
use Rattle.dom_serve.specs.declared.fault.Fault.{Fault}
use Rattle.dom_serve.specs.declared.fault.Fault.TheVariants.{Read, Write, Memory, InputTooLong}

-- the first words of a fault's message
abbrev pub fault_message : Fault → List ℕ
fault_message Read = codes "domserve: read failed"
fault_message Write = codes "domserve: write failed"
fault_message Memory = codes "domserve: out of memory"
fault_message InputTooLong = codes "domserve: input too long"

-- the last error of the stream that failed, of the reader's and the writer's
abbrev pub reason_of : Fault → Option Error → Option Error → Option Error
reason_of Read reading writing = reading
reason_of Write reading writing = writing
reason_of Memory reading writing = None
reason_of InputTooLong reading writing = None

abbrev pub is_broken_pipe : ErrorKind → Bool
is_broken_pipe BrokenPipe = true
is_broken_pipe _ = false

-- a write failed because nobody reads the output any longer: this has no message
abbrev pub is_silent : Fault → Option Error → Bool
is_silent Read reason = false
is_silent Write None = false
is_silent Write (Some error) = is_broken_pipe (error_kind error)
is_silent Memory reason = false
is_silent InputTooLong reason = false

-- a text was said whole, on a line of its own, and passed on
abbrev pub SaysWholeLine : {E : Type 0} → Writing E → List ℕ → E → E → Type 0
SaysWholeLine errors text old new =
    Appends (errors.taken old) (errors.taken new) (text ++ 10 ∷ []) × IsWritten errors false old new
    × (errors.is_passed_on new ≡ true)

-- a write or a flush failed, and a front of the text and its newline was said
abbrev pub SaysFront : {E : Type 0} → Writing E → List ℕ → E → E → Type 0
SaysFront errors text old new =
    AppendsFront (errors.taken old) (errors.taken new) (text ++ 10 ∷ []) × IsWritten errors true old new

-- a text was said on a line of its own, or that failed
abbrev pub SaysLine : {E : Type 0} → Writing E → List ℕ → E → E → Type 0
SaysLine errors text old new = SaysWholeLine errors text old new ⊎ SaysFront errors text old new

-- the message is the text and a reason
abbrev pub IsBecause : List ℕ → List ℕ → Type 0
IsBecause text message = (why : List ℕ) × (message ≡ text ++ codes ": " ++ why)

-- a text was said so, and a reason behind it only if there is an error
abbrev pub SaysBecause : {E : Type 0} → Writing E → List ℕ → Option Error → E → E → Type 0
SaysBecause errors text reason old new =
    SaysLine errors text old new
    ⊎ (IsSome reason × ((message : List ℕ) × IsBecause text message × SaysLine errors message old new))

-- by whether the fault is silent
abbrev pub SaysUnless : {E : Type 0} → Bool → Writing E → E → E → Fault → Option Error → Type 0
SaysUnless true errors old new fault reason = new ≡ old
SaysUnless false errors old new fault reason = SaysBecause errors (fault_message fault) reason old new

-- the fault's text was said, and its reason if there is one; of a closed pipe nothing was
abbrev pub SaysFault : {E : Type 0} → Writing E → E → E → Fault → Option Error → Type 0
SaysFault errors old new fault reason = SaysUnless (is_silent fault reason) errors old new fault reason

-- nothing was said, or at a terminal the hint
abbrev pub MayHint : {E : Type 0} → Writing E → Bool → List ℕ → E → E → Type 0
MayHint errors is_terminal hint old new = (new ≡ old) ⊎ ((is_terminal ≡ true) × SaysLine errors hint old new)

-- the same, and then the fault
abbrev pub SaysHintAndFault : {E : Type 0}
    → Writing E → Bool → List ℕ → E → E → Fault → Option Error → Type 0
SaysHintAndFault {E} errors is_terminal hint old new fault reason =
    (mid : E) × MayHint errors is_terminal hint old mid × SaysFault errors mid new fault reason
