-- What is written line by line.
use Rattle.std.proofs.Common.{◌≡◌, ℕ, List, [], ◌∷◌, ◌++◌, length, Result, Ok, Err, IfOk, ap, subst, sym, codes}
use Rattle.serde_json.specs.{Data.Data, Data.string, Written.compact_text}
use Rattle.dom_model.specs.Definitions.{Reply, reply_json, reply_line, only_member, out_of_memory_line, whole_lines, last_piece}
use Rattle.dom_model.proofs.Commands.ReplyLines.{IsOneLine-compact_text, whole_lines-newline, last_piece-newline}
use Rattle.dom_serve.specs.ByLine.{IsLine}

-- a printed text and its newline are one line
line-printed : (d : Data) → IsLine (compact_text d ++ 10 ∷ [])
unfolding whole_lines last_piece
line-printed d =
    let one = IsOneLine-compact_text d in (ap length (whole_lines-newline (compact_text d) [] one), last_piece-newline (compact_text d) [] one)

pub line-reply : (r : Reply) → IsLine (reply_line r)
line-reply r = line-printed (reply_json r)

pub line-want : IsLine out_of_memory_line
line-want = line-printed (only_member (codes "error") (string (codes "out-of-memory")))

-- what is printed for a reply is a line
pub line-if : {T E : Type 0} (items : T → List ℕ) (result : Result T E) (r : Reply) → IfOk result (λ x. items x ≡ reply_line r) → IfOk result (λ x. IsLine (items x))
line-if items (Ok x) r e = subst IsLine (sym e) (line-reply r)
line-if items (Err e) r p = p
