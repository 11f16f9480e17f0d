-- What serving comes to, for each way in which it ends.
use Rattle.std.specs.Prelude.{◌≡◌, ℕ, false, List, Option, Result, OnOk}
use Rattle.std.specs.Io.KnownBytes.{Appends, Consumes, IsAtEnd}
use Rattle.dom_model.specs.Commands.Answer.{Bounds}
use Rattle.dom_model.specs.Commands.Output.{joined}
use Rattle.dom_serve.specs.declared.fault.Fault.{Fault}
use Rattle.dom_serve.specs.declared.fault.Summary.{Summary}
use Rattle.dom_serve.specs.Streams.{Reading, Writing}
use Rattle.dom_serve.specs.Pieces.{ReadsPieces, AreWithin, EndsOnce}
use Rattle.dom_serve.specs.Calls.{EndsWith, IsWritten, HasPassedOn}
use Rattle.dom_serve.specs.ByLine.{IsWrittenByLine}
use Rattle.dom_serve.specs.Output.{is_read_fault, is_write_fault, IsOutput}

-- the pieces that reads gave, and what was written for them
pub record ServesPieces {R : Type 0} (reading : Reading R) (b : Bounds) (turns : ℕ) (old new : R)
    (taken taken' : Option (List ℕ)) (result : Result Summary Fault) : Type 0 where
  pub pieces : List (List ℕ)
  pub text : List ℕ
  pub last : R
  pub reads : ReadsPieces reading.gives old pieces last
  pub ends : EndsWith reading.fails (is_read_fault result) last new
  pub within : AreWithin turns pieces
  pub once : EndsOnce pieces
  pub consumed : Consumes (reading.left old) (reading.left new) (joined pieces)
  pub written : Appends taken taken' text
  pub tells : IsOutput b turns pieces text result

-- All that serving tells of its reader and its writer, old and new.
pub record Serves {R W : Type 0} (reading : Reading R) (writing : Writing W)
    (b : Bounds) (turns : ℕ) (reader reader' : R) (writer writer' : W)
    (result : Result Summary Fault) : Type 0 where
  -- what was read, and what was written for it
  pub told : ServesPieces reading b turns reader reader'
      (writing.taken writer) (writing.taken writer') result
  -- at the end of the input nothing is left
  pub at_end : OnOk result (IsAtEnd (reading.left reader'))
  -- all that was written has been passed on, unless a write or a flush failed
  pub passed_on : is_write_fault result ≡ false → HasPassedOn writing writer writer'
  -- it was written line by line, each passed on before the next
  pub by_line : IsWrittenByLine writing (is_write_fault result) writer writer'
  -- a write or a flush failed only at `Write`, and nothing was asked after it
  pub asked : IsWritten writing (is_write_fault result) writer writer'
