-- A printed reply has its newline at its end and nowhere else, so the output has one line for each line of the input.
use Rattle.std.proofs.Common.{◌≡◌, ◌≢◌, ℕ, zero, suc, ◌/◌, ◌%◌, ◌==◌, pos, negsuc, List, [], ◌∷◌, ◌++◌, length, Bool, true, false, decimal, refl, ap, ◌∙◌, arith, append_assoc}
use Rattle.std.specs.{Prelude.nat_lt, Prelude.flat_map, Char.digit_char, Fmt.digits, Fmt.digits_onto, Fmt.digit_glyph}
use Rattle.std.proofs.lemmas.{Bool.ne_eqb, Bool.cond_both, Bool.Decides.nat_tests}
use Rattle.json.specs.Print.{escape_letter, escape_byte, escape, quoted}
use Rattle.serde_json.specs.{Data.Num, Data.unsigned, Data.negative, Data.float, Data.Data, Data.null, Data.boolean, Data.number, Data.string, Data.array, Data.object, Data.Items, Data.no_items, Data.item, Data.Members, Data.no_members, Data.member, Written.number_text, Written.comma_if, Written.compact_text, Written.items_text, Written.members_text}
use Rattle.dom_model.specs.Definitions.{World, Reply, reply_json, reply_line, Row, Bounds, onto_first, lines_of, line_step, replies_from, joined, output_of, whole_lines, last_piece, due}

-- no byte is a newline
abbrev pub IsOneLine : List ℕ → Type 0
IsOneLine [] = Unit {0}
IsOneLine (b ∷ bytes) = (b ≢ 10) × IsOneLine bytes

pub IsOneLine-append : (xs ys : List ℕ) → IsOneLine xs → IsOneLine ys → IsOneLine (xs ++ ys)
IsOneLine-append [] ys first rest = rest
IsOneLine-append (x ∷ xs) ys first rest = (first.0, IsOneLine-append xs ys first.1 rest)

IsOneLine-flat_map : (f : ℕ → List ℕ) → ((x : ℕ) → IsOneLine (f x)) → (xs : List ℕ) → IsOneLine (flat_map f xs)
IsOneLine-flat_map f each [] = tt
IsOneLine-flat_map f each (x ∷ xs) = IsOneLine-append (f x) (flat_map f xs) (each x) (IsOneLine-flat_map f each xs)

other : (b : ℕ) → (b == 10) ≡ false → b ≢ 10
other b fails = grind (arith, nat_tests)

-- ---- numbers

digit_glyph_other : (d : ℕ) → digit_glyph false d ≢ 10
digit_glyph_other d = grind (arith, nat_tests)

digits_onto_one_line : (k n : ℕ) (acc : List ℕ) → IsOneLine acc → IsOneLine (digits_onto k 10 false n acc)
digits_onto_one_line zero n acc h = h
digits_onto_one_line (suc k) n acc h =
    let more : IsOneLine (digit_glyph false (n % 10) ∷ acc) = (digit_glyph_other (n % 10), h) in
    cond_both (n / 10 == 0) (digit_glyph false (n % 10) ∷ acc) _ IsOneLine (λ _. more) (λ _. digits_onto_one_line k (n / 10) (digit_glyph false (n % 10) ∷ acc) more)

pub IsOneLine-decimal : (n : ℕ) → IsOneLine (decimal n)
unfolding digits
IsOneLine-decimal n = digits_onto_one_line 64 n [] tt

pub IsOneLine-number_text : (n : Num) → IsOneLine (number_text n)
IsOneLine-number_text (unsigned n) = IsOneLine-decimal n
IsOneLine-number_text (negative (pos n)) = IsOneLine-decimal n
IsOneLine-number_text (negative (negsuc n)) = (other 45 refl, IsOneLine-decimal (suc n))
IsOneLine-number_text (float x) = tt

-- ---- strings

letter_other : (x : ℕ) → escape_letter x ≢ 10
letter_other x = grind (arith, nat_tests)

digit_char_other : (d : ℕ) → digit_char d ≢ 10
digit_char_other d = grind (arith, nat_tests)

escape_byte_one_line : (x : ℕ) → IsOneLine (escape_byte x)
unfolding escape_byte
escape_byte_one_line x =
    cond_both (nat_lt 0 (escape_letter x)) _ _ IsOneLine (λ _. (other 92 refl, (letter_other x, tt))) (λ _.
    cond_both (nat_lt x 32) _ (x ∷ []) IsOneLine
    (λ _. (other 92 refl, (other 117 refl, (other 48 refl, (other 48 refl, (digit_char_other (x / 16), (digit_char_other (x % 16), tt)))))))
    (λ high. (grind (arith, nat_tests), tt)))

pub IsOneLine-quoted : (s : List ℕ) → IsOneLine (quoted s)
IsOneLine-quoted s = (other 34 refl, IsOneLine-append (escape s) (34 ∷ []) (IsOneLine-flat_map escape_byte escape_byte_one_line s) (other 34 refl, tt))

-- ---- values

comma_one_line : (later : Bool) → IsOneLine (comma_if later)
comma_one_line true = (other 44 refl, tt)
comma_one_line false = tt

mutual
  pub IsOneLine-compact_text : (d : Data) → IsOneLine (compact_text d)
  IsOneLine-compact_text null = (other 110 refl, (other 117 refl, (other 108 refl, (other 108 refl, tt))))
  IsOneLine-compact_text (boolean true) = (other 116 refl, (other 114 refl, (other 117 refl, (other 101 refl, tt))))
  IsOneLine-compact_text (boolean false) = (other 102 refl, (other 97 refl, (other 108 refl, (other 115 refl, (other 101 refl, tt)))))
  IsOneLine-compact_text (number n) = IsOneLine-number_text n
  IsOneLine-compact_text (string s) = IsOneLine-quoted s
  IsOneLine-compact_text (array ds) = (other 91 refl, items_one_line false ds)
  IsOneLine-compact_text (object ms) = (other 123 refl, members_one_line false ms)

  items_one_line : (later : Bool) (ds : Items) → IsOneLine (items_text later ds)
  items_one_line later no_items = (other 93 refl, tt)
  items_one_line later (item d ds) =
      IsOneLine-append (comma_if later) _ (comma_one_line later) (IsOneLine-append (compact_text d) _ (IsOneLine-compact_text d) (items_one_line true ds))

  members_one_line : (later : Bool) (ms : Members) → IsOneLine (members_text later ms)
  members_one_line later no_members = (other 125 refl, tt)
  members_one_line later (member k d ms) =
      IsOneLine-append (comma_if later) _ (comma_one_line later)
      (IsOneLine-append (quoted k) _ (IsOneLine-quoted k) (other 58 refl, IsOneLine-append (compact_text d) _ (IsOneLine-compact_text d) (members_one_line true ms)))

-- ---- lines

-- a line and its newline, ahead of more
pub whole_lines-newline : (xs rest : List ℕ) → IsOneLine xs → whole_lines (xs ++ 10 ∷ rest) ≡ xs ∷ whole_lines rest
unfolding whole_lines
whole_lines-newline [] rest h = refl
whole_lines-newline (b ∷ xs) rest h = rw (ne_eqb b 10 h.0) (ap (onto_first b) (whole_lines-newline xs rest h.1))

pub last_piece-newline : (xs rest : List ℕ) → IsOneLine xs → last_piece (xs ++ 10 ∷ rest) ≡ last_piece rest
unfolding last_piece
last_piece-newline [] rest h = refl
last_piece-newline (b ∷ xs) rest h = rw (ne_eqb b 10 h.0, whole_lines-newline xs rest h.1) (last_piece-newline xs rest h.1)

-- what is printed for a reply, before its newline
abbrev pub reply_text : Reply → List ℕ
reply_text r = compact_text (reply_json r)

pub whole_lines-reply_line : (r : Reply) (rest : List ℕ) → whole_lines (reply_line r ++ rest) ≡ reply_text r ∷ whole_lines rest
whole_lines-reply_line r rest = rw append_assoc (whole_lines-newline (reply_text r) rest (IsOneLine-compact_text (reply_json r)))

pub last_piece-reply_line : (r : Reply) (rest : List ℕ) → last_piece (reply_line r ++ rest) ≡ last_piece rest
last_piece-reply_line r rest = rw append_assoc (last_piece-newline (reply_text r) rest (IsOneLine-compact_text (reply_json r)))

-- one line for each
pub length-whole_lines-replies : (table : List Row) (b : Bounds) (w : World) (lines : List (List ℕ)) → length (whole_lines (joined (replies_from table b w lines))) ≡ length lines
unfolding whole_lines
length-whole_lines-replies table b w [] = refl
length-whole_lines-replies table b w (line ∷ lines) =
    let s = line_step table b w line in
    ap length (whole_lines-reply_line s.reply (joined (replies_from table b s.world lines))) ∙ ap suc (length-whole_lines-replies table b s.world lines)

-- and nothing after the last newline
pub last_piece-replies : (table : List Row) (b : Bounds) (w : World) (lines : List (List ℕ)) → last_piece (joined (replies_from table b w lines)) ≡ []
unfolding last_piece
last_piece-replies table b w [] = refl
last_piece-replies table b w (line ∷ lines) =
    let s = line_step table b w line in
    last_piece-reply_line s.reply (joined (replies_from table b s.world lines)) ∙ last_piece-replies table b s.world lines

-- the output has one line for each line of the input
pub length-whole_lines-output_of : (table : List Row) (b : Bounds) (bytes : List ℕ) → length (whole_lines (output_of table b bytes)) ≡ length (lines_of bytes)
unfolding due
length-whole_lines-output_of table b bytes = length-whole_lines-replies table b _ (lines_of bytes)

pub last_piece-output_of : (table : List Row) (b : Bounds) (bytes : List ℕ) → last_piece (output_of table b bytes) ≡ []
unfolding due
last_piece-output_of table b bytes = last_piece-replies table b _ (lines_of bytes)
