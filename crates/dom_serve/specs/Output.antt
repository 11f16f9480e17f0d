-- What was written, for each way in which serving ends. Due are the replies to the lines whose newline was read and, once the
-- input has ended, to a last piece that is not empty.
use Rattle.std.specs.Prelude.{◌≡◌, ℕ, Bool, true, false, List, ◌++◌, length, Result, Ok, Err, ◌⊎◌}
use Rattle.dom_model.specs.Commands.Answer.{Bounds}
use Rattle.dom_model.specs.Commands.Table.{whole_table}
use Rattle.dom_model.specs.Commands.Printed.{out_of_memory_line}
use Rattle.dom_model.specs.Commands.Output.{joined, due, output_of, lines_of}
use Rattle.dom_serve.specs.declared.fault.Fault.{Fault}
use Rattle.dom_serve.specs.declared.fault.Fault.TheVariants.{Read, Write, Memory, InputTooLong}
use Rattle.dom_serve.specs.declared.fault.Summary.{Summary}
use Rattle.dom_serve.specs.Writes.{IsPrefix}
use Rattle.dom_serve.specs.Pieces.{has_end, before_last}

abbrev pub is_write : Fault → Bool
is_write Read = false
is_write Write = true
is_write Memory = false
is_write InputTooLong = false

abbrev pub is_read_fault : {T : Type 0} → Result T Fault → Bool
is_read_fault (Ok _) = false
is_read_fault (Err Read) = true
is_read_fault (Err Write) = false
is_read_fault (Err Memory) = false
is_read_fault (Err InputTooLong) = false

abbrev pub is_write_fault : {T : Type 0} → Result T Fault → Bool
is_write_fault (Ok _) = false
is_write_fault (Err fault) = is_write fault

-- the first so many replies, then the out-of-memory line
abbrev pub SaysOutOfMemory : List (List ℕ) → List ℕ → Type 0
SaysOutOfMemory replies text = (first : List (List ℕ)) × IsPrefix first replies × (text ≡ joined first ++ out_of_memory_line)

-- a front of the replies, or of what is written for want of memory
abbrev pub IsCutShort : List (List ℕ) → List ℕ → Type 0
IsCutShort replies text = IsPrefix text (joined replies) ⊎ ((whole : List ℕ) × SaysOutOfMemory replies whole × IsPrefix text whole)

-- the replies to the lines that were whole before the last read stand whole
abbrev pub AnswersEarlier : Bounds → List (List ℕ) → List ℕ → Type 0
AnswersEarlier b pieces text = IsPrefix (joined (due whole_table b (joined (before_last pieces)) false)) text

abbrev pub IsOutput : Bounds → ℕ → List (List ℕ) → List ℕ → Result Summary Fault → Type 0
IsOutput b turns pieces text (Ok summary) =
    (has_end pieces ≡ true) × (text ≡ output_of whole_table b (joined pieces)) × (summary.lines ≡ length (lines_of (joined pieces)))
IsOutput b turns pieces text (Err Read) = (has_end pieces ≡ false) × (text ≡ joined (due whole_table b (joined pieces) false))
IsOutput b turns pieces text (Err InputTooLong) =
    (length pieces ≡ turns) × (has_end pieces ≡ false) × (text ≡ joined (due whole_table b (joined pieces) false))
IsOutput b turns pieces text (Err Write) =
    IsCutShort (due whole_table b (joined pieces) (has_end pieces)) text × AnswersEarlier b pieces text
IsOutput b turns pieces text (Err Memory) =
    SaysOutOfMemory (due whole_table b (joined pieces) (has_end pieces)) text × AnswersEarlier b pieces text
