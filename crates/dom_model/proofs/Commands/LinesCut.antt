-- Bytes are cut into lines by themselves after a newline; and the commands among lines tell the world that the lines leave.
use Rattle.std.proofs.Common.{◌≡◌, ◌≢◌, ℕ, ◌==◌, Bool, true, false, if◌then◌else◌, List, [], ◌∷◌, ◌++◌, map, length, Result, Ok, Err, refl, ap, ◌∙◌, arith, append_assoc, remove}
use Rattle.std.proofs.lemmas.Bool.Decides.{nat_tests}
use Rattle.dom_model.specs.Definitions.{World, first_world, Command, is_refusal, Bounds, world_past, commands_among, Row, onto_first, onto_last, lines_of, step_of, line_step, world_after, answer}
use Rattle.dom_model.specs.declared.OwnError.{OwnError}
use Rattle.dom_model.specs.{Commands.Line.command_within, Commands.Output.whole_lines, Commands.Output.last_piece, Commands.Output.due}
use Rattle.dom_model.proofs.Commands.{ReplyLines.IsOneLine, ReplyLines.whole_lines-newline, ReplyLines.last_piece-newline, RefusalsDropped.refused_line-dropped}

-- a piece that is empty at the end, and lines after it
record ArePieces (bytes rest : List ℕ) : Type 0 where
  whole : whole_lines (bytes ++ rest) ≡ whole_lines bytes ++ whole_lines rest
  last : last_piece (bytes ++ rest) ≡ last_piece rest

one_byte : (b : ℕ) (bytes rest : List ℕ) (v : Bool) → (if v then last_piece bytes else onto_last b (whole_lines bytes) (last_piece bytes)) ≡ [] → (last_piece bytes ≡ [] → ArePieces bytes rest) →
    ((if v then [] ∷ whole_lines (bytes ++ rest) else onto_first b (whole_lines (bytes ++ rest))) ≡ (if v then [] ∷ whole_lines bytes else onto_first b (whole_lines bytes)) ++ whole_lines rest)
    × ((if v then last_piece (bytes ++ rest) else onto_last b (whole_lines (bytes ++ rest)) (last_piece (bytes ++ rest))) ≡ last_piece rest)
one_byte b bytes rest true e more = let i = more e in (ap (λ (ls : List (List ℕ)). [] ∷ ls) i.whole, i.last)
one_byte b bytes rest false e more = go (whole_lines bytes) refl e
  where
    go : (lines : List (List ℕ)) → whole_lines bytes ≡ lines → onto_last b lines (last_piece bytes) ≡ []
        → (onto_first b (whole_lines (bytes ++ rest)) ≡ onto_first b lines ++ whole_lines rest) × (onto_last b (whole_lines (bytes ++ rest)) (last_piece (bytes ++ rest)) ≡ last_piece rest)
    go [] w k = absurd (cc k)
    go (l ∷ ls) w k =
        let i = more k in
        let d : whole_lines (bytes ++ rest) ≡ (l ∷ ls) ++ whole_lines rest = i.whole ∙ ap (λ (xs : List (List ℕ)). xs ++ whole_lines rest) w in
        (ap (onto_first b) d, ap (λ (xs : List (List ℕ)). onto_last b xs (last_piece (bytes ++ rest))) d ∙ i.last)

pieces : (bytes rest : List ℕ) → last_piece bytes ≡ [] → ArePieces bytes rest
unfolding whole_lines last_piece
pieces [] rest e = record { whole = refl; last = refl }
pieces (b ∷ bytes) rest e = let i = one_byte b bytes rest (b == 10) e (pieces bytes rest) in record { whole = i.0; last = i.1 }

pub lines-after : (bytes rest : List ℕ) → last_piece bytes ≡ [] → lines_of (bytes ++ rest) ≡ whole_lines bytes ++ lines_of rest
lines-after bytes rest e = let i = pieces bytes rest e in simp (i.whole, i.last, append_assoc)

-- no newline is among the bytes, where they have no whole line
one-line : (line : List ℕ) → whole_lines line ≡ [] → IsOneLine line
unfolding whole_lines
one-line [] e = tt
one-line (b ∷ line) e = go (whole_lines line) (one-line line) (b == 10) refl e
  where
    go : (lines : List (List ℕ)) → (lines ≡ [] → IsOneLine line) → (v : Bool) → (b == 10) ≡ v → (if v then [] ∷ lines else onto_first b lines) ≡ [] → (b ≢ 10) × IsOneLine line
    go lines more true t k = absurd (cc k)
    go [] more false t k = (grind (arith, nat_tests), more refl)
    go (l ∷ ls) more false t k = absurd (cc k)

pub lines-first : (line rest : List ℕ) → whole_lines line ≡ [] → lines_of (line ++ 10 ∷ rest) ≡ line ∷ lines_of rest
lines-first line rest e = let h = one-line line e in simp (whole_lines-newline line rest h, last_piece-newline line rest h)

-- A line that is refused goes from the input, and its reply goes from the output.
pub refused_bytes-dropped : (table : List Row) (b : Bounds) (front line rest : List ℕ) → last_piece front ≡ [] → whole_lines line ≡ [] → is_refusal (line_step table b (world_after table b first_world (whole_lines front)) line).reply ≡ true → due table b (front ++ rest) true ≡ remove (due table b (front ++ (line ++ 10 ∷ rest)) true) (length (whole_lines front))
unfolding due
refused_bytes-dropped table b front line rest e f h =
    simp (lines-after front rest e, lines-after front (line ++ 10 ∷ rest) e, lines-first line rest f) (refused_line-dropped table b (whole_lines front) line (lines_of rest) h)

-- The lines leave the world that the commands among them leave: a line whose form is refused leaves it as it is.
pub lines-past : (table : List Row) (b : Bounds) (w : World) (lines : List (List ℕ)) → world_after table b w lines ≡ world_past b w (commands_among (map (command_within table b.line) lines))
lines-past table b w [] = refl
lines-past table b w (line ∷ lines) = go (command_within table b.line line) (λ v. lines-past table b v lines)
  where
    go : (read : Result Command OwnError) → ((v : World) → world_after table b v lines ≡ world_past b v (commands_among (map (command_within table b.line) lines))) → world_after table b (step_of b read w).world lines ≡ world_past b w (commands_among (read ∷ map (command_within table b.line) lines))
    go (Ok c) more = more (answer b w c).world
    go (Err e) more = more w
