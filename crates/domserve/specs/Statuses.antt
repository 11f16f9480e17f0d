-- The program's statuses, and what it came to.
use Rattle.std.specs.Prelude.{◌≡◌, ℕ, ◌^◌, Bool, true, false, ◌⊎◌, List, [], Option, Err, IfSome}
use Rattle.std.specs.Io.KnownBytes.{Appends}
use Rattle.std.specs.declared.io.Error.{Error}
use Rattle.dom_model.specs.Commands.Answer.{Bounds}
use Rattle.dom_model.specs.Commands.Table.{whole_table}
use Rattle.dom_model.specs.Commands.Output.{output_of}
use Rattle.dom_options.specs.CommandLine.{IsInRange, asks_for_help, bounds_asked, faults_in}
use Rattle.dom_serve.specs.Streams.{Reading, Writing}
use Rattle.dom_serve.specs.Calls.{IsWritten}
use Rattle.dom_serve.specs.Writes.{AppendsFront}
use Rattle.dom_serve.specs.Serves.{Serves}
use Rattle.dom_serve.specs.declared.fault.Fault.{Fault}
use Rattle.dom_serve.specs.declared.fault.Fault.TheVariants.{Read, Write, Memory, InputTooLong}
use Rattle.domserve.specs.Messages.{is_silent}

-- ---- the status of a fault

-- by whether the fault is silent
abbrev pub status_at : Bool → Fault → ℕ
status_at true fault = 141
status_at false Read = 3
status_at false Write = 3
status_at false Memory = 1
status_at false InputTooLong = 3

-- 1 out of memory, 141 at a closed pipe, and 3 otherwise
abbrev pub fault_exit_status : Fault → Option Error → ℕ
fault_exit_status fault reason = status_at (is_silent fault reason) fault

-- a status of a failed stream, or of an input that is too long
abbrev pub IsFailure : ℕ → Type 0
IsFailure status = (status ≡ 3) ⊎ (status ≡ 141)

-- no read failed; or the last one did, and the status is 3
abbrev pub ReportsFailedRead : ℕ → (Bool → Type 0) → Type 0
ReportsFailedRead status calls = calls false ⊎ ((status ≡ 3) × calls true)

-- no write or flush failed; or the last one did, and the status says so
abbrev pub ReportsFailedWrite : ℕ → (Bool → Type 0) → Type 0
ReportsFailedWrite status calls = calls false ⊎ (IsFailure status × calls true)

-- one fault, with its reason, has this status, was said, and is the one that the program came to
pub record ReportsFault (status : ℕ) (reason : Fault → Option Error)
    (said : Fault → Option Error → Type 0) (came_to : Fault → Type 0) : Type 0 where
  pub fault : Fault
  pub status_is : status ≡ fault_exit_status fault (reason fault)
  pub says : said fault (reason fault)
  pub comes : came_to fault

-- ---- what serving and helping come to

-- the output for the input was written
abbrev pub IsServed : Bounds → Option (List ℕ) → Option (List ℕ) → List ℕ → Type 0
IsServed b taken taken' input = Appends taken taken' (output_of whole_table b input)

-- one text was written
abbrev pub WritesText : {W : Type 0} → Writing W → W → W → Type 0
WritesText writing old new =
    (text : List ℕ) × Appends (writing.taken old) (writing.taken new) text

-- a front of one text was written
abbrev pub WritesFront : {W : Type 0} → Writing W → W → W → Type 0
WritesFront writing old new =
    (text : List ℕ) × AppendsFront (writing.taken old) (writing.taken new) text

-- a write or a flush of one text failed, and a front of it was written
abbrev pub IsCutOff : {W : Type 0} → Writing W → W → W → Fault → Type 0
IsCutOff writing old new fault =
    (fault ≡ Write) × WritesFront writing old new × IsWritten writing true old new

-- serving at these limits came to the fault, and read and wrote what `Serves` tells of it
abbrev pub ServesUpTo : {R W : Type 0}
    → Reading R → Writing W → Bounds → R → R → W → W → Fault → Type 0
ServesUpTo reading writing b reader reader' writer writer' fault =
    Serves reading writing b (2 ^ 40) reader reader' writer writer' (Err fault)

-- ---- what the program comes to by its words, from an old reader and writer to new ones

module _ {R W : Type 0} (reading : Reading R) (writing : Writing W) (words : List (List ℕ))
    (reader reader' : R) (writer writer' : W) where
  -- Clap finds no fault in the words, and the output for all bytes of the reader was written at the
  -- limits that they ask for.
  pub record IsServedAsAsked : Type 0 where
    pub no_fault : faults_in words ≡ []
    pub in_range : IsInRange (bounds_asked words)
    pub served : IfSome (reading.left reader)
        (IsServed (bounds_asked words) (writing.taken writer) (writing.taken writer'))

  -- The words ask for help, nothing was read, and one text was written.
  pub record IsHelped : Type 0 where
    pub asked : asks_for_help (faults_in words) ≡ true
    pub unread : reader' ≡ reader
    pub helped : WritesText writing writer writer'

  -- How the program comes to a fault.
  pub data CameTo : Fault → Type 0 where
    -- clap finds no fault in the words, and serving at the limits that they ask for came to it
    by_serving : (fault : Fault) → faults_in words ≡ []
        → ServesUpTo reading writing (bounds_asked words) reader reader' writer writer' fault
        → CameTo fault
    -- the words ask for help, nothing was read, and the help could not be written
    by_helping : (fault : Fault) → asks_for_help (faults_in words) ≡ true → reader' ≡ reader
        → IsCutOff writing writer writer' fault → CameTo fault
    -- memory was wanting before anything was read or written
    by_want_ahead : reader' ≡ reader → writer' ≡ writer → CameTo Memory
