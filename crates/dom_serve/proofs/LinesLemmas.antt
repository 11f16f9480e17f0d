-- Lines of a stream that grows at its end.
use Rattle.std.proofs.Common.{◌≡◌, ◌≢◌, ℕ, Bool, true, false, List, [], ◌∷◌, ◌++◌, refl, sym, ap, ◌∙◌, append_assoc, append-nil, ◌==◌, if◌then◌else◌}
use Rattle.std.proofs.lemmas.{Bool.ne_eqb, Grind.flat_map-append, List.Elements.All-head, List.Elements.All-tail}
use Rattle.dom_model.specs.Definitions.{Row, Bounds, World, first_world, reply_line, onto_first, onto_last, line_if_any, line_step, replies_from, world_after, due_lines, joined}
use Rattle.dom_model.specs.{Commands.Table.whole_table, Commands.Output.whole_lines, Commands.Output.last_piece, Commands.Output.due}
use Rattle.dom_serve.specs.{Writes.IsPrefix, Server.EndsNoLine}

pub joined-append : (xs ys : List (List ℕ)) → joined (xs ++ ys) ≡ joined xs ++ joined ys
joined-append xs ys = flat_map-append (λ part. part) xs ys

pub joined-single : (xs : List (List ℕ)) (y : List ℕ) → joined (xs ++ y ∷ []) ≡ joined xs ++ y
joined-single xs y = joined-append xs (y ∷ []) ∙ ap (λ l. joined xs ++ l) (append-nil y)

pub IsPrefix-refl : {A : Type 0} (xs : List A) → IsPrefix xs xs
IsPrefix-refl xs = ([], sym (append-nil xs))

pub IsPrefix-trans : {A : Type 0} (xs ys zs : List A) → IsPrefix xs ys → IsPrefix ys zs → IsPrefix xs zs
IsPrefix-trans xs ys zs p q = (p.0 ++ q.0, q.1 ∙ ap (λ l. l ++ q.0) p.1 ∙ append_assoc xs p.0 q.0)

pub IsPrefix-joined : (xs ys : List (List ℕ)) → IsPrefix xs ys → IsPrefix (joined xs) (joined ys)
IsPrefix-joined xs ys p = (joined p.0, ap joined p.1 ∙ joined-append xs p.0)

pub IsPrefix-after : {A : Type 0} (xs ys zs : List A) → IsPrefix ys zs → IsPrefix (xs ++ ys) (xs ++ zs)
IsPrefix-after xs ys zs p = (p.0, ap (λ l. xs ++ l) p.1 ∙ sym (append_assoc xs ys p.0))

-- ---- one more byte

newline_lines : (t : Bool) (b : ℕ) (before after : List (List ℕ)) (piece : List ℕ) → after ≡ before ++ piece ∷ []
    → (if t then [] ∷ after else onto_first b after) ≡ (if t then [] ∷ before else onto_first b before) ++ (if t then piece else onto_last b before piece) ∷ []
newline_lines true b before after piece e = ap (λ ls. [] ∷ ls) e
newline_lines false b [] after piece e = ap (onto_first b) e
newline_lines false b (line ∷ lines) after piece e = ap (onto_first b) e

newline_piece : (t : Bool) (b : ℕ) (before after : List (List ℕ)) (piece rest : List ℕ) → after ≡ before ++ piece ∷ [] → rest ≡ []
    → (if t then rest else onto_last b after rest) ≡ []
newline_piece true b before after piece rest e f = f
newline_piece false b [] after piece rest e f = ap (λ ls. onto_last b ls rest) e ∙ f
newline_piece false b (line ∷ lines) after piece rest e f = ap (λ ls. onto_last b ls rest) e ∙ f

pub whole_lines-append_newline : (xs : List ℕ) → whole_lines (xs ++ 10 ∷ []) ≡ whole_lines xs ++ last_piece xs ∷ []
unfolding whole_lines last_piece
whole_lines-append_newline [] = refl
whole_lines-append_newline (b ∷ xs) =
    newline_lines (b == 10) b (whole_lines xs) (whole_lines (xs ++ 10 ∷ [])) (last_piece xs) (whole_lines-append_newline xs)

pub last_piece-append_newline : (xs : List ℕ) → last_piece (xs ++ 10 ∷ []) ≡ []
unfolding whole_lines last_piece
last_piece-append_newline [] = refl
last_piece-append_newline (b ∷ xs) =
    newline_piece (b == 10) b (whole_lines xs) (whole_lines (xs ++ 10 ∷ [])) (last_piece xs) (last_piece (xs ++ 10 ∷ []))
    (whole_lines-append_newline xs) (last_piece-append_newline xs)

-- ---- bytes that end no line

is_other : (b : ℕ) (bytes : List ℕ) → EndsNoLine (b ∷ bytes) → (b == 10) ≡ false
is_other b bytes h = ne_eqb b 10 (All-head (λ byte. byte ≢ 10) b bytes h)

whole_lines-none : (part : List ℕ) → EndsNoLine part → whole_lines part ≡ []
unfolding whole_lines
whole_lines-none [] h = refl
whole_lines-none (b ∷ part) h =
    ap (λ t. if t then [] ∷ whole_lines part else onto_first b (whole_lines part)) (is_other b part h)
    ∙ ap (onto_first b) (whole_lines-none part (All-tail (λ byte. byte ≢ 10) b part h))

last_piece-whole : (part : List ℕ) → EndsNoLine part → last_piece part ≡ part
unfolding last_piece
last_piece-whole [] h = refl
last_piece-whole (b ∷ part) h =
    let rest = All-tail (λ byte. byte ≢ 10) b part h in
    ap (λ t. if t then last_piece part else onto_last b (whole_lines part) (last_piece part)) (is_other b part h)
    ∙ ap (λ ls. onto_last b ls (last_piece part)) (whole_lines-none part rest) ∙ ap (λ l. b ∷ l) (last_piece-whole part rest)

pub whole_lines-append_part : (xs part : List ℕ) → EndsNoLine part → whole_lines (xs ++ part) ≡ whole_lines xs
unfolding whole_lines
whole_lines-append_part [] part h = whole_lines-none part h
whole_lines-append_part (b ∷ xs) part h = ap (λ ls. if b == 10 then [] ∷ ls else onto_first b ls) (whole_lines-append_part xs part h)

longer_piece : (t : Bool) (b : ℕ) (before after : List (List ℕ)) (piece longer part : List ℕ) → after ≡ before → longer ≡ piece ++ part
    → (if t then longer else onto_last b after longer) ≡ (if t then piece else onto_last b before piece) ++ part
longer_piece true b before after piece longer part e f = f
longer_piece false b [] after piece longer part e f = ap (λ ls. onto_last b ls longer) e ∙ ap (λ l. b ∷ l) f
longer_piece false b (line ∷ lines) after piece longer part e f = ap (λ ls. onto_last b ls longer) e ∙ f

pub last_piece-append_part : (xs part : List ℕ) → EndsNoLine part → last_piece (xs ++ part) ≡ last_piece xs ++ part
unfolding whole_lines last_piece
last_piece-append_part [] part h = last_piece-whole part h
last_piece-append_part (b ∷ xs) part h =
    longer_piece (b == 10) b (whole_lines xs) (whole_lines (xs ++ part)) (last_piece xs) (last_piece (xs ++ part)) part
    (whole_lines-append_part xs part h) (last_piece-append_part xs part h)

-- ---- more bytes

more_lines : (t : Bool) (b : ℕ) (before after : List (List ℕ)) → IsPrefix before after
    → IsPrefix (if t then [] ∷ before else onto_first b before) (if t then [] ∷ after else onto_first b after)
more_lines true b before after p = (p.0, ap (λ ls. [] ∷ ls) p.1)
more_lines false b [] after p = (onto_first b after, refl)
more_lines false b (line ∷ lines) after p = (p.0, ap (onto_first b) p.1)

pub whole_lines-append : (xs ys : List ℕ) → IsPrefix (whole_lines xs) (whole_lines (xs ++ ys))
unfolding whole_lines
whole_lines-append [] ys = (whole_lines ys, refl)
whole_lines-append (b ∷ xs) ys = more_lines (b == 10) b (whole_lines xs) (whole_lines (xs ++ ys)) (whole_lines-append xs ys)

-- ---- replies

pub replies_from-append : (table : List Row) (b : Bounds) (w : World) (xs ys : List (List ℕ))
    → replies_from table b w (xs ++ ys) ≡ replies_from table b w xs ++ replies_from table b (world_after table b w xs) ys
replies_from-append table b w [] ys = refl
replies_from-append table b w (x ∷ xs) ys =
    ap (λ ls. reply_line (line_step table b w x).reply ∷ ls) (replies_from-append table b (line_step table b w x).world xs ys)

pub world_after-append : (table : List Row) (b : Bounds) (w : World) (xs ys : List (List ℕ))
    → world_after table b w (xs ++ ys) ≡ world_after table b (world_after table b w xs) ys
world_after-append table b w [] ys = refl
world_after-append table b w (x ∷ xs) ys = world_after-append table b (line_step table b w x).world xs ys

replies_from-prefix : (table : List Row) (b : Bounds) (w : World) (xs ys : List (List ℕ)) → IsPrefix xs ys → IsPrefix (replies_from table b w xs) (replies_from table b w ys)
replies_from-prefix table b w xs ys p =
    (replies_from table b (world_after table b w xs) p.0, ap (replies_from table b w) p.1 ∙ replies_from-append table b w xs p.0)

due_lines-prefix : (xs : List ℕ) (ended : Bool) → IsPrefix (whole_lines xs) (due_lines xs ended)
due_lines-prefix xs false = IsPrefix-refl (whole_lines xs)
due_lines-prefix xs true = (line_if_any (last_piece xs), refl)

-- what was due stays due
pub due-append : (b : Bounds) (xs ys : List ℕ) (ended : Bool) → IsPrefix (due whole_table b xs false) (due whole_table b (xs ++ ys) ended)
unfolding due
due-append b xs ys ended =
    replies_from-prefix whole_table b first_world (whole_lines xs) (due_lines (xs ++ ys) ended)
    (IsPrefix-trans (whole_lines xs) (whole_lines (xs ++ ys)) (due_lines (xs ++ ys) ended) (whole_lines-append xs ys) (due_lines-prefix (xs ++ ys) ended))

pub due-part : (b : Bounds) (xs part : List ℕ) → EndsNoLine part → due whole_table b (xs ++ part) false ≡ due whole_table b xs false
unfolding due
due-part b xs part h = ap (replies_from whole_table b first_world) (whole_lines-append_part xs part h)

-- the reply to the last line is due once its newline is there
pub due-newline : (b : Bounds) (xs : List ℕ)
    → due whole_table b (xs ++ 10 ∷ []) false
    ≡ due whole_table b xs false ++ reply_line (line_step whole_table b (world_after whole_table b first_world (whole_lines xs)) (last_piece xs)).reply ∷ []
unfolding due
due-newline b xs =
    ap (replies_from whole_table b first_world) (whole_lines-append_newline xs) ∙ replies_from-append whole_table b first_world (whole_lines xs) (last_piece xs ∷ [])

pub world-newline : (b : Bounds) (xs : List ℕ)
    → world_after whole_table b first_world (whole_lines (xs ++ 10 ∷ []))
    ≡ (line_step whole_table b (world_after whole_table b first_world (whole_lines xs)) (last_piece xs)).world
world-newline b xs =
    ap (world_after whole_table b first_world) (whole_lines-append_newline xs) ∙ world_after-append whole_table b first_world (whole_lines xs) (last_piece xs ∷ [])
