-- What is said of a fault.
use Rattle.std.proofs.Common.{◌≡◌, ℕ, true, false, List, [], ◌∷◌, ◌++◌, Result, Ok, Err, is_err, sym, ap, ◌∙◌, append_assoc, inl, inr, OnOk}
use Rattle.std.specs.Io.KnownBytes.{Appends}
use Rattle.std.proofs.KnownBytes.{Appends-trans}
use Rattle.dom_serve.specs.{Streams.Writing, Calls.IsWritten, Writes.AppendsFront, Writes.Writes}
use Rattle.dom_serve.proofs.IsCalledLemmas.{IsCalled-more}
use Rattle.domserve.specs.Messages.{SaysLine}

-- the text was said whole, and then its newline, or that failed
pub line-whole : {W T E : Type 0} (errors : Writing W) (old mid new : W) (text : List ℕ) (newline : Result T E)
    → Appends (errors.taken old) (errors.taken mid) text → IsWritten errors false old mid
    → Writes (errors.taken mid) (errors.taken new) (10 ∷ []) newline → IsWritten errors (is_err newline) mid new → OnOk newline (errors.is_passed_on new ≡ true)
    → SaysLine errors text old new
line-whole errors old mid new text (Ok x) p a q b passed =
    inl (Appends-trans (errors.taken old) (errors.taken mid) (errors.taken new) text (10 ∷ []) p q, IsCalled-more errors.works errors.fails false old mid new a b, passed)
line-whole errors old mid new text (Err e) p a q b passed =
    let rest = ap (λ l. text ++ l) q.1.1 ∙ sym (append_assoc text q.0 q.1.0) in
    inr ((text ++ q.0, (q.1.0, rest), Appends-trans (errors.taken old) (errors.taken mid) (errors.taken new) text q.0 p q.2), IsCalled-more errors.works errors.fails true old mid new a b)

-- a front of the text was said, and that failed
pub line-cut : {W : Type 0} (errors : Writing W) (old new : W) (text : List ℕ)
    → AppendsFront (errors.taken old) (errors.taken new) text → IsWritten errors true old new → SaysLine errors text old new
line-cut errors old new text p w = inr ((p.0, (p.1.0 ++ 10 ∷ [], ap (λ l. l ++ 10 ∷ []) p.1.1 ∙ append_assoc p.0 p.1.0 (10 ∷ [])), p.2), w)
