use Rattle.std.proofs.Common.{ap, ap₂, ◌≡◌, ◌∙◌, ℕ, codes, Result}
use Rattle.clap.specs.Words.{Text, found_of, one_text}
use Rattle.std.specs.{declared.num.ParseIntError.ParseIntError, Str.Parse.ParsesUnsigned, Str.Parse.ExplainsUnsignedError, Str.Parse.HasUnsignedDigitsIfOk}
use Rattle.clap.proofs.WalkLemmas.{one_text-rows}
use Rattle.dom_model.specs.Definitions.{Bounds}
use Rattle.dom_options.specs.CommandLine.{limit_of}
use Rattle.dom_options.proofs.LimitReadLemmas.{limit_read}
use Rattle.dom_options.proofs.options.asked_of.Goals as goal

bounds_from : (n n' l l' : ℕ) → n ≡ n' → l ≡ l' → (let b : Bounds = record { numbers = n; line = l } in b) ≡ record { numbers = n'; line = l' }
bounds_from n n' l l' e f = ap₂ (λ (x y : ℕ). let b : Bounds = record { numbers = x; line = y } in b) e f

-- what `u64` reads of a text
abbrev Reads : Text → Result ℕ ParseIntError → Type 0
Reads t r = ParsesUnsigned 64 10 t r × ExplainsUnsignedError 10 t r × HasUnsignedDigitsIfOk t r

pub returns-clause-value : goal.returns-clause-value
returns-clause-value c =
    let found = found_of c.args.matches.now in
    let line = limit_read ParseIntError Reads 1073741824 1048576 (one_text found (codes "line")) c.get_one.result
    (λ t r h. h.0) c.get_one.ensures.none c.get_one.ensures.value in
    let numbers = limit_read ParseIntError Reads 4294967295 4294967295 (one_text found (codes "numbers")) c.get_one-2.result
    (λ t r h. h.0) c.get_one-2.ensures.none c.get_one-2.ensures.value in
    bounds_from _ _ _ _
    (c.within-numbers.ensures.value ∙ numbers ∙ ap (limit_of 4294967295 4294967295) (one_text-rows found (codes "numbers")))
    (c.within-line.ensures.value ∙ line ∙ ap (limit_of 1073741824 1048576) (one_text-rows found (codes "line")))
