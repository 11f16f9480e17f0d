-- Calls that were made of a writer, and then more of them.
use Rattle.std.proofs.Common.{◌≡◌, ℕ, zero, suc, Bool, true, false, Result, Ok, Err, OnOk, OnErr, is_err, refl, sym, ◌∙◌, subst, ◌⊎◌, inl, inr}
use Rattle.dom_serve.specs.{Streams.Writing, Calls.Works, Calls.IsCalled, Calls.HasPassedOn, Calls.HasAnswered}

Works-more : {S : Type 0} (works : S → S → Type 0) (n m : ℕ) (old mid new : S) → Works works n old mid → Works works m mid new → (k : ℕ) × Works works k old new
Works-more works zero m old mid new p q = (m, subst (λ s. Works works m s new) p q)
Works-more works (suc n) m old mid new p q = let r = Works-more works n m p.0 mid new p.2 q in (suc r.0, (p.0, p.1, r.1))

-- nothing was asked
pub IsCalled-none : {S : Type 0} (works fails : S → S → Type 0) (old : S) → IsCalled works fails false old old
IsCalled-none works fails old = (0, old, refl, refl)

-- one call
pub IsCalled-one : {S : Type 0} (works fails : S → S → Type 0) (old new : S) → works old new → IsCalled works fails false old new
IsCalled-one works fails old new p = (1, new, (new, p, refl), refl)

pub IsCalled-failed : {S : Type 0} (works fails : S → S → Type 0) (old new : S) → fails old new → IsCalled works fails true old new
IsCalled-failed works fails old new p = (0, old, refl, p)

-- calls that did not fail, and then more
pub IsCalled-more : {S : Type 0} (works fails : S → S → Type 0) (failed : Bool) (old mid new : S) → IsCalled works fails false old mid → IsCalled works fails failed mid new
    → IsCalled works fails failed old new
IsCalled-more works fails failed old mid new p q =
    let e : p.1 ≡ mid = sym p.3 in
    let r = Works-more works p.0 q.0 old mid q.1 (subst (λ s. Works works p.0 old s) e p.2) q.2 in (r.0, q.1, r.1, q.3)

-- calls that did not fail, and then one, which may have failed
pub IsCalled-last : {S T E : Type 0} (works fails : S → S → Type 0) (result : Result T E) (old mid new : S) → IsCalled works fails false old mid → OnOk result (works mid new)
    → OnErr result (fails mid new) → IsCalled works fails (is_err result) old new
IsCalled-last works fails (Ok x) old mid new p q r = IsCalled-more works fails false old mid new p (IsCalled-one works fails mid new q)
IsCalled-last works fails (Err e) old mid new p q r = IsCalled-more works fails true old mid new p (IsCalled-failed works fails mid new r)

-- ---- what was passed on

pub HasAnswered-none : {W : Type 0} (writing : Writing W) (old : W) (lines lines' : ℕ) → lines' ≡ lines → HasAnswered writing old lines old lines'
HasAnswered-none writing old lines lines' e = inl (refl, e)

pub HasAnswered-more : {W : Type 0} (writing : Writing W) (old mid new : W) (lines lines' lines'' : ℕ) → HasAnswered writing old lines mid lines'
    → HasAnswered writing mid lines' new lines'' → HasAnswered writing old lines new lines''
HasAnswered-more writing old mid new lines lines' lines'' p q =
    elim q [
      | inl h ↦ elim p [ inl k ↦ inl (h.0 ∙ k.0, h.1 ∙ k.1) | inr k ↦ inr (subst (λ w. writing.is_passed_on w ≡ true) (sym h.0) k) ]
      | inr h ↦ inr h
    ]

pub HasAnswered-passed : {W : Type 0} (writing : Writing W) (old new : W) (lines lines' : ℕ) → HasAnswered writing old lines new lines' → HasPassedOn writing old new
HasAnswered-passed writing old new lines lines' p = elim p [ inl h ↦ inl h.0 | inr h ↦ inr h ]

-- no line was answered, or all was passed on
pub HasAnswered-asked : {W : Type 0} (writing : Writing W) (old new : W) (lines : ℕ) → HasAnswered writing old 0 new lines → (lines ≡ 0) ⊎ (writing.is_passed_on new ≡ true)
HasAnswered-asked writing old new lines p = elim p [ inl h ↦ inl h.1 | inr h ↦ inr h ]
