-- The limits that clap's getters read are those that its matches give.
use Rattle.std.proofs.Common.{◌≡◌, ◌∙◌, ◌≤◌, ℕ, Bool, true, false, cond, nat_le, ◌&&◌, Option, Some, None, Result, Ok, Err, ap, refl, sym, subst, true≢false}
use Rattle.std.specs.Str.Parse.{ParsesUnsigned, digits_value, without_leading_plus}
use Rattle.std.proofs.lemmas.Bool.{leb-true, le-leb}
use Rattle.clap.specs.{Words.Text, Matches.ReadsOne, ValueTests.is_unsigned_in}
use Rattle.clap.specs.declared.builder.value_parser.ValueParser.TheVariants as parser
use Rattle.clap.proofs.{WalkLemmas.both, ValueTestLemmas.Accepts-accepts, ValueTestLemmas.accepts-Accepts}
use Rattle.dom_options.specs.CommandLine.{limit_of, value_within}

-- a value that was read is the number of its text, and lies in the range where clap takes the text
read_some : (E : Type 0) (most otherwise n : ℕ) (t : Text) → ParsesUnsigned {E = E} 64 10 t (Ok n)
    → value_within most otherwise (Some n) ≡ limit_of most otherwise (Some t)
read_some E most otherwise n t read = go (nat_le 1 n && nat_le n most) refl (is_unsigned_in 1 most t) refl
  where
    go : (a : Bool) → (nat_le 1 n && nat_le n most) ≡ a → (b : Bool) → is_unsigned_in 1 most t ≡ b
        → cond a n otherwise ≡ cond b (digits_value 10 (without_leading_plus t)) otherwise
    go true d true e = read.1
    go true d false e =
        let ends = both _ _ d in
        let taken = Accepts-accepts false (parser.Unsigned 1 most) t (
          read.0.0,
          read.0.1,
          subst (λ x. 1 ≤ x) read.1 (leb-true _ _ ends.0),
          subst (λ x. x ≤ most) read.1 (leb-true _ _ ends.1),
        ) in
        absurd (true≢false (sym taken ∙ e))
    go false d true e =
        let taken = accepts-Accepts false (parser.Unsigned 1 most) t e in
        let least = le-leb 1 n (subst (λ x. 1 ≤ x) (sym read.1) taken.2) in
        let greatest = le-leb n most (subst (λ x. x ≤ most) (sym read.1) taken.3) in
        absurd (true≢false (rw (least, greatest) at d))
    go false d false e = refl

-- a text that was not read is none that clap takes
read_none : (E : Type 0) (most otherwise : ℕ) (t : Text) (e : E) → ParsesUnsigned {E = E} 64 10 t (Err e)
    → otherwise ≡ limit_of most otherwise (Some t)
read_none E most otherwise t e read = go (is_unsigned_in 1 most t) refl
  where
    go : (b : Bool) → is_unsigned_in 1 most t ≡ b → otherwise ≡ cond b (digits_value 10 (without_leading_plus t)) otherwise
    go true is =
        let passed = accepts-Accepts false (parser.Unsigned 1 most) t is in
        absurd (read (passed.0, passed.1))
    go false is = refl

pub limit_read : (E : Type 0) (gives : Text → Result ℕ E → Type 0) (most otherwise : ℕ) (text : Option Text) (value : Option ℕ)
    → ((t : Text) (r : Result ℕ E) → gives t r → ParsesUnsigned {E = E} 64 10 t r)
    → (text ≡ None → value ≡ None) → ((t : Text) → text ≡ Some t → ReadsOne gives t value)
    → value_within most otherwise value ≡ limit_of most otherwise text
limit_read E gives most otherwise None value parses none some = ap (value_within most otherwise) (none refl)
limit_read E gives most otherwise (Some t) value parses none some = go value (some t refl)
  where
    go : (v : Option ℕ) → ReadsOne gives t v → value_within most otherwise v ≡ limit_of most otherwise (Some t)
    go (Some n) h = read_some E most otherwise n t (parses t (Ok n) h)
    go None h = read_none E most otherwise t h.0 (parses t (Err h.0) h.1)
