-- What a server holds and has written after more bytes.
use Rattle.std.proofs.Common.{◌≡◌, ℕ, ◌+◌, ◌<◌, ◌≤◌, Bool, true, false, List, [], ◌∷◌, ◌++◌, length, Option, Result, Ok, Err, refl, sym, ap, ◌∙◌, subst, arith, append-nil, length-append, append_assoc, ◌⊎◌, inl, inr, ◌==◌, nat_le, if◌then◌else◌}
use Rattle.std.proofs.lemmas.Bool.{le-leb, lt-leb, eqb-false}
use Rattle.std.specs.Io.KnownBytes.{Appends}
use Rattle.dom_model.specs.declared.OwnError.TheVariants.{LineTooLong}
use Rattle.dom_model.specs.Definitions.{Bounds, Step, World, first_world, reply_line, lines_of, line_if_any, step_of, line_step, world_after, replies_from}
use Rattle.dom_model.specs.{Commands.Table.whole_table, Commands.Line.command_of, Commands.Line.command_within, Commands.Output.whole_lines, Commands.Output.last_piece, Commands.Output.due}
use Rattle.dom_session.specs.Sessions.{StandsFor}
use Rattle.dom_serve.specs.{declared.fault.Fault.Fault, declared.fault.Fault.TheVariants.Read, declared.fault.Fault.TheVariants.Write, declared.fault.Fault.TheVariants.Memory, declared.fault.Fault.TheVariants.InputTooLong, declared.server.Server.Server, Server.EndsNoLine, Server.held_command, Server.held_step, Server.Fails, Server.HoldsPiece, Server.IsServerAfter, Server.Grows, Server.Breaks, Server.Fed, Server.Finishes, Server.SaysWant}
use Rattle.dom_serve.proofs.{LinesLemmas.whole_lines-append_newline, LinesLemmas.last_piece-append_newline, LinesLemmas.whole_lines-append_part, LinesLemmas.last_piece-append_part, LinesLemmas.due-append, LinesLemmas.due-part, LinesLemmas.due-newline, LinesLemmas.world-newline, GrowsLemmas.Grows-same, GrowsLemmas.Grows-one, GrowsLemmas.Grows-trans, GrowsLemmas.Breaks-more, GrowsLemmas.Breaks-after, GrowsLemmas.Breaks-want, GrowsLemmas.Breaks-front}

-- ---- the line that is held

-- the command of a held line is that of the line
command-held : (limit : ℕ) (kept : List ℕ) (too_long : Bool) (piece : List ℕ) → HoldsPiece limit kept too_long piece
    → held_command kept too_long ≡ command_within whole_table limit piece
unfolding command_within
command-held limit kept true piece p =
    let long : nat_le (length piece) limit ≡ false = lt-leb (length piece) limit p in
    sym (ap (λ t. if t then command_of whole_table piece else Err LineTooLong) long)
command-held limit kept false piece p =
    let e : kept ≡ piece = sym p.0 in
    let short : nat_le (length piece) limit ≡ true = le-leb (length piece) limit (subst (λ l. length l ≤ limit) e p.1) in
    ap (command_of whole_table) e ∙ sym (ap (λ t. if t then command_of whole_table piece else Err LineTooLong) short)

-- the world of the lines that were whole
abbrev pub world_at : Bounds → List ℕ → World
world_at b bytes = world_after whole_table b first_world (whole_lines bytes)

-- the step of the line that is held
abbrev pub last_step : Bounds → List ℕ → Step
last_step b bytes = line_step whole_table b (world_at b bytes) (last_piece bytes)

step-held : (b : Bounds) (bytes : List ℕ) (s : Server) (kept : List ℕ) → IsServerAfter b bytes s → kept ≡ s.kept.items
    → held_step s.session.bounds kept s.too_long (world_at b bytes) ≡ last_step b bytes
step-held b bytes s kept h e =
    ap (λ a. held_step a kept s.too_long (world_at b bytes)) h.bounds
    ∙ ap (λ l. step_of b (held_command l s.too_long) (world_at b bytes)) e
    ∙ ap (λ r. step_of b r (world_at b bytes)) (command-held b.line s.kept.items s.too_long (last_piece bytes) h.piece)

-- the reply to the last line was not written whole
Breaks-newline : (b : Bounds) (bytes : List ℕ) (taken taken' : Option (List ℕ)) (fault : Fault) → Fails (last_step b bytes) taken taken' fault
    → Breaks (due whole_table b bytes false) (due whole_table b (bytes ++ 10 ∷ []) false) taken taken' fault
Breaks-newline b bytes taken taken' Read a = absurd a
Breaks-newline b bytes taken taken' Write a =
    elim a [
      | inl h ↦ Breaks-front (due whole_table b bytes false) (due whole_table b (bytes ++ 10 ∷ []) false) (reply_line (last_step b bytes).reply) taken taken' (due-newline b bytes) h
      | inr h ↦ Breaks-want (due whole_table b bytes false) (due whole_table b (bytes ++ 10 ∷ []) false) taken taken' Write (due-append b bytes (10 ∷ []) false) h
    ]
Breaks-newline b bytes taken taken' Memory a =
    Breaks-want (due whole_table b bytes false) (due whole_table b (bytes ++ 10 ∷ []) false) taken taken' Memory (due-append b bytes (10 ∷ []) false) a
Breaks-newline b bytes taken taken' InputTooLong a = absurd a

-- the held line was not answered whole
pub Breaks-answered : (b : Bounds) (bytes : List ℕ) (s : Server) (kept : List ℕ) (taken taken' : Option (List ℕ)) (fault : Fault) → IsServerAfter b bytes s
    → kept ≡ s.kept.items → ((w : World) → StandsFor s.session w → Fails (held_step s.session.bounds kept s.too_long w) taken taken' fault)
    → Breaks (due whole_table b bytes false) (due whole_table b (bytes ++ 10 ∷ []) false) taken taken' fault
Breaks-answered b bytes s kept taken taken' fault h e answers =
    Breaks-newline b bytes taken taken' fault (subst (λ t. Fails t taken taken' fault) (step-held b bytes s kept h e) (answers (world_at b bytes) h.world))

-- the reply was written whole
Grows-newline : (b : Bounds) (bytes : List ℕ) (taken taken' : Option (List ℕ)) → Appends taken taken' (reply_line (last_step b bytes).reply)
    → Grows (due whole_table b bytes false) (due whole_table b (bytes ++ 10 ∷ []) false) taken taken'
Grows-newline b bytes taken taken' p =
    Grows-one (due whole_table b bytes false) (due whole_table b (bytes ++ 10 ∷ []) false) (reply_line (last_step b bytes).reply) taken taken' (due-newline b bytes) p

holds-nothing : (limit : ℕ) (kept : List ℕ) (too_long : Bool) (piece : List ℕ) → too_long ≡ false → kept ≡ [] → piece ≡ [] → HoldsPiece limit kept too_long piece
holds-nothing limit kept true piece e f h = absurd (cc)
holds-nothing limit kept false piece e f h = (h ∙ sym f, subst (λ l. length l ≤ limit) (sym f) (omega arith))

Stands-newline : (b : Bounds) (bytes : List ℕ) (s s' : Server) → IsServerAfter b bytes s → StandsFor s'.session (last_step b bytes).world
    → s'.session.bounds ≡ s.session.bounds → s'.line ≡ s.line → s'.lines ≡ s.lines + 1 → s'.kept.items ≡ [] → s'.too_long ≡ false
    → IsServerAfter b (bytes ++ 10 ∷ []) s'
Stands-newline b bytes s s' h w bounds line lines kept short = record {
  world = subst (λ v. StandsFor s'.session v) (sym (world-newline b bytes)) w;
  bounds = bounds ∙ h.bounds;
  line = line ∙ h.line;
  lines = lines ∙ ap (λ n. n + 1) h.lines ∙ sym (length-append (whole_lines bytes) (last_piece bytes ∷ [])) ∙ ap length (sym (whole_lines-append_newline bytes));
  piece = holds-nothing b.line s'.kept.items s'.too_long (last_piece (bytes ++ 10 ∷ [])) short kept (last_piece-append_newline bytes);
}

-- the held line was answered, and none is held
pub Stands-answered : (b : Bounds) (bytes : List ℕ) (s s' : Server) (kept : List ℕ) (taken taken' : Option (List ℕ)) → IsServerAfter b bytes s → kept ≡ s.kept.items
    → ((w : World) → StandsFor s.session w → let t = held_step s.session.bounds kept s.too_long w in StandsFor s'.session t.world × Appends taken taken' (reply_line t.reply))
    → s'.session.bounds ≡ s.session.bounds → s'.line ≡ s.line → s'.lines ≡ s.lines + 1 → s'.kept.items ≡ [] → s'.too_long ≡ false
    → IsServerAfter b (bytes ++ 10 ∷ []) s' × Grows (due whole_table b bytes false) (due whole_table b (bytes ++ 10 ∷ []) false) taken taken'
Stands-answered b bytes s s' kept taken taken' h e answers bounds line lines none short =
    let a = subst (λ t. StandsFor s'.session t.world × Appends taken taken' (reply_line t.reply)) (step-held b bytes s kept h e) (answers (world_at b bytes) h.world) in
    (Stands-newline b bytes s s' h a.0 bounds line lines none short, Grows-newline b bytes taken taken' a.1)

-- ---- bytes that end no line

Stands-longer : (b : Bounds) (bytes part : List ℕ) (s s' : Server) → EndsNoLine part → IsServerAfter b bytes s → s'.session ≡ s.session → s'.line ≡ s.line
    → s'.lines ≡ s.lines → HoldsPiece b.line s'.kept.items s'.too_long (last_piece bytes ++ part) → IsServerAfter b (bytes ++ part) s'
Stands-longer b bytes part s s' ends_none h session line lines piece =
    let same = whole_lines-append_part bytes part ends_none in
    record {
      world = subst (λ v. StandsFor s'.session (world_after whole_table b first_world v)) (sym same) (subst (λ v. StandsFor v (world_at b bytes)) (sym session) h.world);
      bounds = ap (λ v. v.bounds) session ∙ h.bounds;
      line = line ∙ h.line;
      lines = lines ∙ h.lines ∙ ap length (sym same);
      piece = subst (λ v. HoldsPiece b.line s'.kept.items s'.too_long v) (sym (last_piece-append_part bytes part ends_none)) piece;
    }

-- bytes that end no line were taken
pub Stands-part : (b : Bounds) (bytes part : List ℕ) (s s' : Server) (taken : Option (List ℕ)) → EndsNoLine part → IsServerAfter b bytes s → s'.session ≡ s.session
    → s'.line ≡ s.line → s'.lines ≡ s.lines → HoldsPiece b.line s'.kept.items s'.too_long (last_piece bytes ++ part)
    → IsServerAfter b (bytes ++ part) s' × Grows (due whole_table b bytes false) (due whole_table b (bytes ++ part) false) taken taken
Stands-part b bytes part s s' taken ends_none h session line lines piece = (
  Stands-longer b bytes part s s' ends_none h session line lines piece,
  Grows-same (due whole_table b bytes false) (due whole_table b (bytes ++ part) false) taken (due-part b bytes part ends_none),
)

-- the line stays too long
pub holds-longer : (limit : ℕ) (kept : List ℕ) (too_long : Bool) (piece part : List ℕ) → too_long ≡ true → HoldsPiece limit kept too_long piece
    → HoldsPiece limit kept too_long (piece ++ part)
holds-longer limit kept true piece part e p = omega (arith, length-append piece part)
holds-longer limit kept false piece part e p = absurd (cc)

-- the line becomes too long
pub holds-too_long : (limit : ℕ) (kept : List ℕ) (too_long : Bool) (piece part : List ℕ) → too_long ≡ false → limit < length kept + length part
    → HoldsPiece limit kept too_long piece → limit < length (piece ++ part)
holds-too_long limit kept true piece part e f p = absurd (cc)
holds-too_long limit kept false piece part e f p = omega (arith, length-append piece part, ap length p.0, f)

-- more bytes are kept
pub holds-more : (limit : ℕ) (kept kept' : List ℕ) (too_long : Bool) (piece part : List ℕ) → too_long ≡ false → length kept + length part ≤ limit
    → kept' ≡ kept ++ part → HoldsPiece limit kept too_long piece → HoldsPiece limit kept' too_long (piece ++ part)
holds-more limit kept kept' true piece part e f k p = absurd (cc)
holds-more limit kept kept' false piece part e f k p = (ap (λ l. l ++ part) p.0 ∙ sym k, omega (arith, length-append kept part, ap length k, f))

-- the bytes could not be kept
pub Breaks-part : (b : Bounds) (bytes part : List ℕ) (taken taken' : Option (List ℕ)) (fault : Fault) → SaysWant taken taken' fault
    → Breaks (due whole_table b bytes false) (due whole_table b (bytes ++ part) false) taken taken' fault
Breaks-part b bytes part taken taken' fault w =
    Breaks-want (due whole_table b bytes false) (due whole_table b (bytes ++ part) false) taken taken' fault (due-append b bytes part false) w

-- ---- one part after another

-- a fault is one of all the bytes
pub Breaks-early : (b : Bounds) (bytes middle rest : List ℕ) (taken taken' : Option (List ℕ)) (fault : Fault)
    → Breaks (due whole_table b bytes false) (due whole_table b middle false) taken taken' fault
    → Breaks (due whole_table b bytes false) (due whole_table b (middle ++ rest) false) taken taken' fault
Breaks-early b bytes middle rest taken taken' fault q =
    Breaks-more (due whole_table b bytes false) (due whole_table b middle false) (due whole_table b (middle ++ rest) false) taken taken' fault
    (due-append b middle rest false) q

-- more bytes after what was fed before
pub Fed-more : {T : Type 0} (b : Bounds) (bytes middle bytes' : List ℕ) (s' : Server) (taken taken' taken'' : Option (List ℕ)) (result : Result T Fault)
    → Grows (due whole_table b bytes false) (due whole_table b middle false) taken taken' → Fed b middle bytes' s' taken' taken'' result
    → Fed b bytes bytes' s' taken taken'' result
Fed-more b bytes middle bytes' s' taken taken' taken'' (Ok x) p q =
    (q.0, Grows-trans (due whole_table b bytes false) (due whole_table b middle false) (due whole_table b bytes' false) taken taken' taken'' p q.1)
Fed-more b bytes middle bytes' s' taken taken' taken'' (Err fault) p q =
    Breaks-after (due whole_table b bytes false) (due whole_table b middle false) (due whole_table b bytes' false) taken taken' taken'' fault p q

-- the bytes of a piece up to the newline after a line, and those after it
pub line_ahead : (piece front rest line after : List ℕ) → piece ≡ front ++ rest → rest ≡ line ++ 10 ∷ after → piece ≡ (front ++ line ++ 10 ∷ []) ++ after
line_ahead piece front rest line after e f = e ∙ ap (λ l. front ++ l) f ∙ simp append_assoc

line_behind : (bytes front line : List ℕ) → bytes ++ front ++ line ++ 10 ∷ [] ≡ bytes ++ (front ++ line ++ 10 ∷ [])
line_behind bytes front line = simp append_assoc

-- one line more of a piece
pub Fed-line : (b : Bounds) (bytes front line : List ℕ) (s' : Server) (taken taken' taken'' : Option (List ℕ))
    → Grows (due whole_table b bytes false) (due whole_table b (bytes ++ front) false) taken taken'
    → IsServerAfter b (bytes ++ front ++ line ++ 10 ∷ []) s'
    × Grows (due whole_table b (bytes ++ front) false) (due whole_table b (bytes ++ front ++ line ++ 10 ∷ []) false) taken' taken''
    → IsServerAfter b (bytes ++ (front ++ line ++ 10 ∷ [])) s'
    × Grows (due whole_table b bytes false) (due whole_table b (bytes ++ (front ++ line ++ 10 ∷ [])) false) taken taken''
Fed-line b bytes front line s' taken taken' taken'' p q =
    subst (λ l. IsServerAfter b l s' × Grows (due whole_table b bytes false) (due whole_table b l false) taken taken'') (line_behind bytes front line) (
      q.0,
      Grows-trans (due whole_table b bytes false) (due whole_table b (bytes ++ front) false) (due whole_table b (bytes ++ front ++ line ++ 10 ∷ []) false)
          taken taken' taken'' p q.1,
    )

-- a fault at one of the lines of a piece
pub Breaks-line : (b : Bounds) (bytes piece front rest line after : List ℕ) (taken taken' taken'' : Option (List ℕ)) (fault : Fault) → piece ≡ front ++ rest
    → rest ≡ line ++ 10 ∷ after → Grows (due whole_table b bytes false) (due whole_table b (bytes ++ front) false) taken taken'
    → Breaks (due whole_table b (bytes ++ front) false) (due whole_table b (bytes ++ front ++ line ++ 10 ∷ []) false) taken' taken'' fault
    → Breaks (due whole_table b bytes false) (due whole_table b (bytes ++ piece) false) taken taken'' fault
Breaks-line b bytes piece front rest line after taken taken' taken'' fault e f p q =
    let whole : (bytes ++ front ++ line ++ 10 ∷ []) ++ after ≡ bytes ++ piece =
    ap (λ l. l ++ after) (line_behind bytes front line) ∙ append_assoc bytes (front ++ line ++ 10 ∷ []) after
    ∙ ap (λ l. bytes ++ l) (sym (line_ahead piece front rest line after e f)) in
    Breaks-after (due whole_table b bytes false) (due whole_table b (bytes ++ front) false) (due whole_table b (bytes ++ piece) false) taken taken' taken'' fault p
    (subst (λ l. Breaks (due whole_table b (bytes ++ front) false) (due whole_table b l false) taken' taken'' fault) whole
    (Breaks-early b (bytes ++ front) (bytes ++ front ++ line ++ 10 ∷ []) after taken' taken'' fault q))

-- what is left of a piece
pub Fed-rest : {T : Type 0} (b : Bounds) (bytes piece front rest : List ℕ) (s' : Server) (taken taken' taken'' : Option (List ℕ)) (result : Result T Fault)
    → piece ≡ front ++ rest → Grows (due whole_table b bytes false) (due whole_table b (bytes ++ front) false) taken taken'
    → Fed b (bytes ++ front) (bytes ++ front ++ rest) s' taken' taken'' result → Fed b bytes (bytes ++ piece) s' taken taken'' result
Fed-rest b bytes piece front rest s' taken taken' taken'' result e p q =
    subst (λ l. Fed b bytes l s' taken taken'' result) (append_assoc bytes front rest ∙ ap (λ l. bytes ++ l) (sym e))
    (Fed-more b bytes (bytes ++ front) (bytes ++ front ++ rest) s' taken taken' taken'' result p q)

-- ---- the end

pub length-zero : (xs : List ℕ) → length xs ≡ 0 → xs ≡ []
length-zero [] e = refl
length-zero (x ∷ xs) e = absurd (omega arith)

pub some-items : (xs : List ℕ) (n : ℕ) → n ≡ length xs → (n == 0) ≡ false → 0 < length xs
some-items xs n e h = let some : n ≡ 0 → ⊥ = eqb-false n 0 h in omega (arith, some, e)

lines-ended : (bytes : List ℕ) (x : ℕ) (xs : List ℕ) → last_piece bytes ≡ x ∷ xs → lines_of bytes ≡ whole_lines (bytes ++ 10 ∷ [])
lines-ended bytes x xs e =
    ap (λ l. whole_lines bytes ++ line_if_any l) e ∙ sym (whole_lines-append_newline bytes ∙ ap (λ l. whole_lines bytes ++ l ∷ []) e)

-- a last piece that is not empty is answered as at its newline
due-ended : (b : Bounds) (bytes : List ℕ) (x : ℕ) (xs : List ℕ) → last_piece bytes ≡ x ∷ xs → due whole_table b (bytes ++ 10 ∷ []) false ≡ due whole_table b bytes true
unfolding due
due-ended b bytes x xs e = ap (replies_from whole_table b first_world) (sym (lines-ended bytes x xs e))

-- the last piece was answered, or that failed
Finishes-piece : {T : Type 0} (b : Bounds) (bytes : List ℕ) (s : Server) (taken taken' : Option (List ℕ)) (result : Result T Fault) (piece : List ℕ) → last_piece bytes ≡ piece
    → 0 < length piece → Fed b bytes (bytes ++ 10 ∷ []) s taken taken' result → Finishes b bytes s taken taken' result
Finishes-piece b bytes s taken taken' result [] e some f = absurd (omega arith)
Finishes-piece b bytes s taken taken' (Ok x) (y ∷ ys) e some f =
    (f.0.lines ∙ ap length (sym (lines-ended bytes y ys e)), subst (λ l. Grows (due whole_table b bytes false) l taken taken') (due-ended b bytes y ys e) f.1)
Finishes-piece b bytes s taken taken' (Err fault) (y ∷ ys) e some f =
    subst (λ l. Breaks (due whole_table b bytes false) l taken taken' fault) (due-ended b bytes y ys e) f

piece-some : (limit : ℕ) (kept : List ℕ) (too_long : Bool) (piece : List ℕ) → (too_long ≡ true) ⊎ (0 < length kept) → HoldsPiece limit kept too_long piece → 0 < length piece
piece-some limit kept true piece e p = omega arith
piece-some limit kept false piece e p = elim e [ inl h ↦ absurd (cc) | inr h ↦ omega (arith, ap length p.0) ]

pub Finishes-fed : {T : Type 0} (b : Bounds) (bytes : List ℕ) (s s' : Server) (taken taken' : Option (List ℕ)) (result : Result T Fault) → IsServerAfter b bytes s
    → (s.too_long ≡ true) ⊎ (0 < length s.kept.items) → Fed b bytes (bytes ++ 10 ∷ []) s' taken taken' result → Finishes b bytes s' taken taken' result
Finishes-fed b bytes s s' taken taken' result h e f =
    Finishes-piece b bytes s' taken taken' result (last_piece bytes) refl (piece-some b.line s.kept.items s.too_long (last_piece bytes) e h.piece) f

piece-none : (limit : ℕ) (kept : List ℕ) (too_long : Bool) (piece : List ℕ) → too_long ≡ false → kept ≡ [] → HoldsPiece limit kept too_long piece → piece ≡ []
piece-none limit kept true piece e f p = absurd (cc)
piece-none limit kept false piece e f p = p.0 ∙ f

due-none : (b : Bounds) (bytes : List ℕ) → last_piece bytes ≡ [] → due whole_table b bytes true ≡ due whole_table b bytes false
unfolding due
due-none b bytes e = ap (replies_from whole_table b first_world) (ap (λ l. whole_lines bytes ++ line_if_any l) e ∙ append-nil (whole_lines bytes))

-- no line was left
pub Finishes-none : (b : Bounds) (bytes : List ℕ) (s : Server) (taken : Option (List ℕ)) → IsServerAfter b bytes s → s.too_long ≡ false → s.kept.items ≡ []
    → (s.lines ≡ length (lines_of bytes)) × Grows (due whole_table b bytes false) (due whole_table b bytes true) taken taken
Finishes-none b bytes s taken h short none =
    let last : last_piece bytes ≡ [] = piece-none b.line s.kept.items s.too_long (last_piece bytes) short none h.piece in (
      h.lines ∙ ap length (sym (ap (λ l. whole_lines bytes ++ line_if_any l) last ∙ append-nil (whole_lines bytes))),
      Grows-same (due whole_table b bytes false) (due whole_table b bytes true) taken (due-none b bytes last),
    )

-- ---- the start

pub Stands-new : (b : Bounds) (s : Server) → StandsFor s.session first_world → s.session.bounds ≡ b → s.line ≡ b.line → s.lines ≡ 0 → s.kept.items ≡ []
    → s.too_long ≡ false → IsServerAfter b [] s
unfolding whole_lines last_piece
Stands-new b s world bounds line lines none short = record {
  world = world;
  bounds = bounds;
  line = line;
  lines = lines;
  piece = holds-nothing b.line s.kept.items s.too_long [] short none refl;
}
