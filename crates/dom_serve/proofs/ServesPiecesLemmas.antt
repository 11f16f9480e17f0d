-- What reads gave and what was written for them, one more read at a time.
use Rattle.std.proofs.Common.{◌≡◌, ℕ, ◌+◌, ◌*◌, ◌<◌, true, false, List, [], ◌∷◌, ◌++◌, length, Option, Result, Ok, Err, OnOk, IfSome, refl, sym, ap, ◌∙◌, subst, arith, take, ◌≤◌, append-nil, length-append, length-take, inr}
use Rattle.std.specs.{List.All, List.AllByRecursion, Io.KnownBytes.Appends, Io.KnownBytes.Consumes, Io.KnownBytes.IsAtEnd, Io.KnownBytes.Keeps}
use Rattle.std.proofs.lemmas.List.Elements.{All-push}
use Rattle.std.proofs.KnownBytes.{Appends-trans, Appends-nil, Consumes-nil, Consumes-trans, Consumes-kept, Consumes-whole}
use Rattle.dom_model.specs.Definitions.{Bounds, out_of_memory_line, joined, lines_of, output_of}
use Rattle.dom_model.specs.{Commands.Table.whole_table, Commands.Output.due, Commands.Output.whole_lines}
use Rattle.dom_serve.specs.{declared.fault.Fault.Fault, declared.fault.Fault.TheVariants.Read, declared.fault.Fault.TheVariants.Write, declared.fault.Fault.TheVariants.Memory, declared.fault.Fault.TheVariants.InputTooLong, declared.fault.Summary.Summary, declared.server.Server.Server, Streams.Reading, Writes.IsPrefix, Calls.EndsWith, Pieces.ReadsPieces, Pieces.AreWithin, Pieces.EndsOnce, Pieces.is_nothing, Pieces.has_end, Pieces.before_last, Output.is_read_fault, Output.SaysOutOfMemory, Output.IsCutShort, Output.AnswersEarlier, Output.IsOutput, Server.IsServerAfter, Server.Grows, Server.IsBroken, Server.Breaks, Server.Concludes, Server.SaysWant, Server.IsSoFar, Serves.ServesPieces}
use Rattle.dom_serve.proofs.{LinesLemmas.joined-single, GrowsLemmas.Grows-written}

-- ---- one more piece

Reads-more : {R : Type 0} (gives : R → List ℕ → R → Type 0) (old mid new : R) (pieces : List (List ℕ)) (piece : List ℕ) → ReadsPieces gives old pieces mid → gives mid piece new
    → ReadsPieces gives old (pieces ++ piece ∷ []) new
Reads-more gives old mid new [] piece p q = (new, subst (λ r. gives r piece new) p q, refl)
Reads-more gives old mid new (first ∷ pieces) piece p q = (p.0, p.1, Reads-more gives p.0 mid new pieces piece p.2 q)

has_end-last : (pieces : List (List ℕ)) (piece : List ℕ) → has_end (pieces ++ piece ∷ []) ≡ is_nothing piece
has_end-last [] piece = refl
has_end-last (first ∷ []) piece = refl
has_end-last (first ∷ second ∷ pieces) piece = has_end-last (second ∷ pieces) piece

before_last-last : (pieces : List (List ℕ)) (piece : List ℕ) → before_last (pieces ++ piece ∷ []) ≡ pieces
before_last-last [] piece = refl
before_last-last (first ∷ []) piece = refl
before_last-last (first ∷ second ∷ pieces) piece = ap (λ ls. first ∷ ls) (before_last-last (second ∷ pieces) piece)

pub is_nothing-some : (piece : List ℕ) → 0 < length piece → is_nothing piece ≡ false
is_nothing-some [] h = absurd (omega arith)
is_nothing-some (b ∷ bytes) h = refl

some-more : (pieces : List (List ℕ)) (piece : List ℕ) → AllByRecursion (λ l. is_nothing l ≡ false) pieces → is_nothing piece ≡ false → AllByRecursion (λ l. is_nothing l ≡ false) (pieces ++ piece ∷ [])
some-more [] piece p q = (q, tt)
some-more (first ∷ pieces) piece p q = (p.0, some-more pieces piece p.1 q)

once-more : (pieces : List (List ℕ)) (piece : List ℕ) → AllByRecursion (λ l. is_nothing l ≡ false) pieces → EndsOnce (pieces ++ piece ∷ [])
once-more pieces piece p = subst (AllByRecursion (λ l. is_nothing l ≡ false)) (sym (before_last-last pieces piece)) p

once-all : (pieces : List (List ℕ)) → AllByRecursion (λ l. is_nothing l ≡ false) pieces → EndsOnce pieces
once-all [] p = tt
once-all (first ∷ []) p = tt
once-all (first ∷ second ∷ pieces) p = (p.0, once-all (second ∷ pieces) p.1)

Consumes-more : {R : Type 0} (left : R → Option (List ℕ)) (old mid new : R) (pieces : List (List ℕ)) (piece : List ℕ) → Consumes (left old) (left mid) (joined pieces)
    → Consumes (left mid) (left new) piece → Consumes (left old) (left new) (joined (pieces ++ piece ∷ []))
Consumes-more left old mid new pieces piece p q =
    subst (λ l. Consumes (left old) (left new) l) (sym (joined-single pieces piece)) (Consumes-trans (left old) (left mid) (left new) (joined pieces) piece p q)

Sizes-more : (pieces : List (List ℕ)) (piece : List ℕ) → All (λ l. length l ≤ 65536) pieces → length piece ≤ 65536 → All (λ l. length l ≤ 65536) (pieces ++ piece ∷ [])
Sizes-more pieces piece p q = All-push (λ l. length l ≤ 65536) pieces piece p q

Sizes-none : All {X = List ℕ} (λ l. length l ≤ 65536) []
Sizes-none k d h = absurd (omega arith)

-- one more read was made, within the turns
AreWithin-more : (turns turn : ℕ) (pieces : List (List ℕ)) (piece : List ℕ) → length pieces ≡ turn → turn < turns → All (λ l. length l ≤ 65536) pieces → length piece ≤ 65536
    → AreWithin turns (pieces ++ piece ∷ [])
AreWithin-more turns turn pieces piece e h p q = (omega (arith, length-append pieces (piece ∷ [])), Sizes-more pieces piece p q)

-- ---- so far

due-nothing : (b : Bounds) → joined (due whole_table b [] false) ≡ []
unfolding due whole_lines
due-nothing b = refl

pub so_far-none : {R : Type 0} (reading : Reading R) (b : Bounds) (old : R) (s : Server) (taken : Option (List ℕ)) → IsServerAfter b [] s
    → IsSoFar reading b 0 old old s taken taken
so_far-none reading b old s taken h = record {
  pieces = [];
  reads = refl;
  count = refl;
  sizes = Sizes-none;
  open_ended = refl;
  some = tt;
  consumed = Consumes-nil (reading.left old);
  stands = h;
  written = subst (λ l. Appends taken taken l) (sym (due-nothing b)) (Appends-nil taken);
}

pub so_far-more : {R : Type 0} (reading : Reading R) (b : Bounds) (turn : ℕ) (old mid new : R) (s s' : Server)
    (taken taken' taken'' : Option (List ℕ)) (piece : List ℕ) (p : IsSoFar reading b turn old mid s taken taken') → reading.gives mid piece new → Consumes (reading.left mid) (reading.left new) piece
    → 0 < length piece → length piece ≤ 65536
    → IsServerAfter b (joined p.pieces ++ piece) s' × Grows (due whole_table b (joined p.pieces) false) (due whole_table b (joined p.pieces ++ piece) false) taken' taken''
    → IsSoFar reading b (turn + 1) old new s' taken taken''
so_far-more reading b turn old mid new s s' taken taken' taken'' piece p given consumed some size fed =
    let e : joined p.pieces ++ piece ≡ joined (p.pieces ++ piece ∷ []) = sym (joined-single p.pieces piece) in
    record {
      pieces = p.pieces ++ piece ∷ [];
      reads = Reads-more reading.gives old mid new p.pieces piece p.reads given;
      count = length-append p.pieces (piece ∷ []) ∙ ap (λ n. n + 1) p.count;
      sizes = Sizes-more p.pieces piece p.sizes size;
      open_ended = has_end-last p.pieces piece ∙ is_nothing-some piece some;
      some = some-more p.pieces piece p.some (is_nothing-some piece some);
      consumed = Consumes-more reading.left old mid new p.pieces piece p.consumed consumed;
      stands = subst (λ l. IsServerAfter b l s') e fed.0;
      written = subst (λ l. Appends taken taken'' (joined (due whole_table b l false))) e
          (Grows-written (due whole_table b (joined p.pieces) false) (due whole_table b (joined p.pieces ++ piece) false) taken taken' taken'' p.written fed.1);
    }

-- ---- at the end

-- a read failed
pub told-read : {R : Type 0} (reading : Reading R) (b : Bounds) (turns turn : ℕ) (old mid new : R) (s : Server)
    (taken taken' : Option (List ℕ)) → IsSoFar reading b turn old mid s taken taken' → turn < turns → Keeps (reading.left mid) (reading.left new) → reading.fails mid new
    → ServesPieces reading b turns old new taken taken' (Err Read)
told-read reading b turns turn old mid new s taken taken' p room kept failed = record {
  pieces = p.pieces;
  text = joined (due whole_table b (joined p.pieces) false);
  last = mid;
  reads = p.reads;
  ends = failed;
  within = (omega (arith, p.count), p.sizes);
  once = once-all p.pieces p.some;
  consumed = Consumes-kept (reading.left old) (reading.left mid) (reading.left new) (joined p.pieces) p.consumed kept;
  written = p.written;
  tells = (p.open_ended, refl);
}

-- no read is left
pub told-too_long : {R : Type 0} (reading : Reading R) (b : Bounds) (turn turns : ℕ) (old new : R) (s : Server) (taken taken' : Option (List ℕ))
    → IsSoFar reading b turn old new s taken taken' → turn ≡ turns → ServesPieces reading b turns old new taken taken' (Err InputTooLong)
told-too_long reading b turn turns old new s taken taken' p all = record {
  pieces = p.pieces;
  text = joined (due whole_table b (joined p.pieces) false);
  last = new;
  reads = p.reads;
  ends = refl;
  within = (omega (arith, p.count, all), p.sizes);
  once = once-all p.pieces p.some;
  consumed = p.consumed;
  written = p.written;
  tells = (p.count ∙ all, p.open_ended, refl);
}

Tells-broken : (b : Bounds) (turns : ℕ) (pieces : List (List ℕ)) (piece text : List ℕ) (fault : Fault)
    → IsBroken (due whole_table b (joined pieces ++ piece) (is_nothing piece)) fault (joined (due whole_table b (joined pieces) false) ++ text)
    → IsOutput b turns (pieces ++ piece ∷ []) (joined (due whole_table b (joined pieces) false) ++ text) (Err fault)
Tells-broken b turns pieces piece text Read h = absurd h
Tells-broken b turns pieces piece text Write h =
    let whole = joined (due whole_table b (joined pieces) false) ++ text in (
      subst (λ l. IsCutShort (due whole_table b l (has_end (pieces ++ piece ∷ []))) whole) (sym (joined-single pieces piece))
          (subst (λ t. IsCutShort (due whole_table b (joined pieces ++ piece) t) whole) (sym (has_end-last pieces piece)) h),
      subst (λ ls. IsPrefix (joined (due whole_table b (joined ls) false)) whole) (sym (before_last-last pieces piece)) (text, refl),
    )
Tells-broken b turns pieces piece text Memory h =
    let whole = joined (due whole_table b (joined pieces) false) ++ text in (
      subst (λ l. SaysOutOfMemory (due whole_table b l (has_end (pieces ++ piece ∷ []))) whole) (sym (joined-single pieces piece))
          (subst (λ t. SaysOutOfMemory (due whole_table b (joined pieces ++ piece) t) whole) (sym (has_end-last pieces piece)) h),
      subst (λ ls. IsPrefix (joined (due whole_table b (joined ls) false)) whole) (sym (before_last-last pieces piece)) (text, refl),
    )
Tells-broken b turns pieces piece text InputTooLong h = absurd h

-- no fault after a read is the reader's
ends-broken : {R : Type 0} (fails : R → R → Type 0) (after : List (List ℕ)) (whole : List ℕ) (fault : Fault) (new : R) → IsBroken after fault whole
    → EndsWith fails (is_read_fault {T = Summary} (Err fault)) new new
ends-broken fails after whole Read new h = absurd h
ends-broken fails after whole Write new h = refl
ends-broken fails after whole Memory new h = refl
ends-broken fails after whole InputTooLong new h = absurd h

-- something failed after a read
pub told-broken : {R : Type 0} (reading : Reading R) (b : Bounds) (turns turn : ℕ) (old mid new : R) (s : Server)
    (taken taken' taken'' : Option (List ℕ)) (piece : List ℕ) (fault : Fault) (p : IsSoFar reading b turn old mid s taken taken') → turn < turns → length piece ≤ 65536
    → reading.gives mid piece new → Consumes (reading.left mid) (reading.left new) piece
    → Breaks (due whole_table b (joined p.pieces) false) (due whole_table b (joined p.pieces ++ piece) (is_nothing piece)) taken' taken'' fault
    → ServesPieces reading b turns old new taken taken'' (Err fault)
told-broken reading b turns turn old mid new s taken taken' taken'' piece fault p room size given consumed q = record {
  within = AreWithin-more turns turn p.pieces piece p.count room p.sizes size;
  once = once-more p.pieces piece p.some;
  pieces = p.pieces ++ piece ∷ [];
  text = joined (due whole_table b (joined p.pieces) false) ++ q.text;
  last = new;
  reads = Reads-more reading.gives old mid new p.pieces piece p.reads given;
  ends = ends-broken reading.fails (due whole_table b (joined p.pieces ++ piece) (is_nothing piece)) (joined (due whole_table b (joined p.pieces) false) ++ q.text) fault new q.broken;
  consumed = Consumes-more reading.left old mid new p.pieces piece p.consumed consumed;
  written = Appends-trans taken taken' taken'' (joined (due whole_table b (joined p.pieces) false)) q.text p.written q.written;
  tells = Tells-broken b turns p.pieces piece q.text fault q.broken;
}

-- something failed after the read that gave nothing
pub told-end-broken : {R : Type 0} (reading : Reading R) (b : Bounds) (turns turn : ℕ) (old mid new : R) (s : Server)
    (taken taken' taken'' : Option (List ℕ)) (fault : Fault) (p : IsSoFar reading b turn old mid s taken taken') → turn < turns → reading.gives mid [] new
    → Consumes (reading.left mid) (reading.left new) []
    → Breaks (due whole_table b (joined p.pieces) false) (due whole_table b (joined p.pieces) true) taken' taken'' fault
    → ServesPieces reading b turns old new taken taken'' (Err fault)
told-end-broken reading b turns turn old mid new s taken taken' taken'' fault p room given consumed q =
    told-broken reading b turns turn old mid new s taken taken' taken'' [] fault p room (omega arith) given consumed
    (subst (λ l. Breaks (due whole_table b (joined p.pieces) false) (due whole_table b l true) taken' taken'' fault) (sym (append-nil (joined p.pieces))) q)

-- the input ended, and all is answered
pub told-ok : {R : Type 0} (reading : Reading R) (b : Bounds) (turns turn : ℕ) (old mid new : R) (s : Server)
    (taken taken' taken'' : Option (List ℕ)) (summary : Summary) (p : IsSoFar reading b turn old mid s taken taken') → turn < turns → reading.gives mid [] new
    → Consumes (reading.left mid) (reading.left new) [] → summary.lines ≡ length (lines_of (joined p.pieces))
    → Grows (due whole_table b (joined p.pieces) false) (due whole_table b (joined p.pieces) true) taken' taken''
    → ServesPieces reading b turns old new taken taken'' (Ok summary)
told-ok reading b turns turn old mid new s taken taken' taken'' summary p room given consumed lines q =
    let e : joined p.pieces ≡ joined (p.pieces ++ [] ∷ []) = sym (joined-single p.pieces [] ∙ append-nil (joined p.pieces)) in
    record {
      within = AreWithin-more turns turn p.pieces [] p.count room p.sizes (omega arith);
      once = once-more p.pieces [] p.some;
      pieces = p.pieces ++ [] ∷ [];
      text = joined (due whole_table b (joined p.pieces) true);
      last = new;
      reads = Reads-more reading.gives old mid new p.pieces [] p.reads given;
      ends = refl;
      consumed = Consumes-more reading.left old mid new p.pieces [] p.consumed consumed;
      written = Grows-written (due whole_table b (joined p.pieces) false) (due whole_table b (joined p.pieces) true) taken taken' taken'' p.written q;
      tells = (has_end-last p.pieces [], ap (λ l. joined (due whole_table b l true)) e, lines ∙ ap (λ l. length (lines_of l)) e);
    }

-- ---- by what was read

-- the last line was answered, or that failed
pub told-concluded : {R : Type 0} (reading : Reading R) (b : Bounds) (turns turn : ℕ) (old mid new : R) (s : Server)
    (taken taken' taken'' : Option (List ℕ)) (result : Result Summary Fault) (n : ℕ) (buffer : List ℕ) (p : IsSoFar reading b turn old mid s taken taken') → turn < turns → n ≡ 0
    → reading.gives mid (take n buffer) new → Consumes (reading.left mid) (reading.left new) (take n buffer) → Concludes b (joined p.pieces) taken' taken'' result
    → ServesPieces reading b turns old new taken taken'' result
told-concluded reading b turns turn old mid new s taken taken' taken'' (Ok summary) n buffer p room e given consumed q =
    told-ok reading b turns turn old mid new s taken taken' taken'' summary p room (subst (λ m. reading.gives mid (take m buffer) new) e given)
    (subst (λ m. Consumes (reading.left mid) (reading.left new) (take m buffer)) e consumed) q.0 q.1
told-concluded reading b turns turn old mid new s taken taken' taken'' (Err fault) n buffer p room e given consumed q =
    told-end-broken reading b turns turn old mid new s taken taken' taken'' fault p room (subst (λ m. reading.gives mid (take m buffer) new) e given)
    (subst (λ m. Consumes (reading.left mid) (reading.left new) (take m buffer)) e consumed) q

-- a read gave n bytes
pub some-read : (n : ℕ) (buffer : List ℕ) → n ≤ length buffer → (n ≡ 0 → ⊥) → 0 < length (take n buffer)
some-read n buffer h some = omega (arith, length-take n buffer, some)

pub most-read : (n : ℕ) (buffer : List ℕ) → length buffer ≡ 65536 → length (take n buffer) ≤ 65536
most-read n buffer e = omega (arith, length-take n buffer)

-- bytes were taken, or that failed
pub told-fed : {R : Type 0} (reading : Reading R) (b : Bounds) (turns turn : ℕ) (old mid new : R) (s : Server)
    (taken taken' taken'' : Option (List ℕ)) (piece : List ℕ) (fault : Fault) (p : IsSoFar reading b turn old mid s taken taken') → turn < turns → 0 < length piece → length piece ≤ 65536
    → reading.gives mid piece new
    → Consumes (reading.left mid) (reading.left new) piece
    → Breaks (due whole_table b (joined p.pieces) false) (due whole_table b (joined p.pieces ++ piece) false) taken' taken'' fault
    → ServesPieces reading b turns old new taken taken'' (Err fault)
told-fed reading b turns turn old mid new s taken taken' taken'' piece fault p room some size given consumed q =
    told-broken reading b turns turn old mid new s taken taken' taken'' piece fault p room size given consumed
    (subst (λ t. Breaks (due whole_table b (joined p.pieces) false) (due whole_table b (joined p.pieces ++ piece) t) taken' taken'' fault) (sym (is_nothing-some piece some)) q)

-- each byte ends at most one line
pub lines-more : (turn lines lines' n : ℕ) (buffer : List ℕ) → lines ≤ 65536 * turn → length buffer ≡ 65536 → lines' ≤ lines + length (take n buffer)
    → lines' ≤ 65536 * (turn + 1)
lines-more turn lines lines' n buffer p e q = omega (arith, length-take n buffer)

-- ---- ahead of the first read

earlier-none : (b : Bounds) (text : List ℕ) → AnswersEarlier b [] text
earlier-none b text = (text, sym (ap (λ l. l ++ text) (due-nothing b)))

-- memory was wanting ahead of the first read
pub told-none : {R : Type 0} (reading : Reading R) (b : Bounds) (turns : ℕ) (old : R) (taken taken' : Option (List ℕ)) (fault : Fault)
    → SaysWant taken taken' fault → ServesPieces reading b turns old old taken taken' (Err fault)
told-none reading b turns old taken taken' Read s = absurd s
told-none reading b turns old taken taken' Write s = record {
  pieces = [];
  within = (omega arith, Sizes-none);
  once = tt;
  text = s.0;
  last = old;
  reads = refl;
  ends = refl;
  consumed = Consumes-nil (reading.left old);
  written = s.2;
  tells = (inr (out_of_memory_line, ([], (due whole_table b [] false, refl), refl), s.1), earlier-none b s.0);
}
told-none reading b turns old taken taken' Memory s = record {
  pieces = [];
  within = (omega arith, Sizes-none);
  once = tt;
  text = out_of_memory_line;
  last = old;
  reads = refl;
  ends = refl;
  consumed = Consumes-nil (reading.left old);
  written = s;
  tells = (([], (due whole_table b [] false, refl), refl), earlier-none b out_of_memory_line);
}
told-none reading b turns old taken taken' InputTooLong s = absurd s

-- ---- once the input ended

-- what was written is the output for all of the input
pub told-output : {R : Type 0} (reading : Reading R) (b : Bounds) (turns : ℕ) (old new : R) (taken taken' : Option (List ℕ))
    (result : Result Summary Fault) → ServesPieces reading b turns old new taken taken' result → OnOk result (IsAtEnd (reading.left new))
    → OnOk result (IfSome (reading.left old) (λ input. Appends taken taken' (output_of whole_table b input)))
told-output reading b turns old new taken taken' (Ok summary) t ended =
    Consumes-whole (reading.left old) (reading.left new) (joined t.pieces) (λ input. Appends taken taken' (output_of whole_table b input)) t.consumed ended
    (subst (λ l. Appends taken taken' l) t.tells.1 t.written)
told-output reading b turns old new taken taken' (Err fault) t ended = tt
