use Rattle.std.proofs.Common.{rules, ap, ap₂, subst, ◌≡◌, ◌∙◌, ℕ, ℤ, pos, Option, Some}
use Rattle.std.specs.Ordering.{nat_cmp, ord_min}
use Rattle.std.proofs.lemmas.Result.{IfOk-weaker}
use Rattle.clap.specs.{Words.NarrowsTo, Words.rule_of, Words.with_rule, declared.builder.value_parser.ValueParser.ValueParser}
use Rattle.clap.specs.declared.builder.value_parser.ValueParser.TheVariants as parser
use Rattle.dom_options.specs.CommandLine.{line_rule, numbers_rule}
use Rattle.dom_options.proofs.options.command.Goals as goal

abbrev Narrows : ℤ → ℤ → ValueParser → Type 0
Narrows low high = NarrowsTo (parser.Unsigned 0 18446744073709551615) (Some low) (Some high)

-- the parser of an option, which was given as the parser of `u64` within the range
range_is : (low high : ℤ) (most : ℕ) (p q : ValueParser) (o : Option ValueParser) → low ≡ pos 1 → high ≡ pos most → Narrows low high p → o ≡ Some q → q ≡ p
    → o ≡ Some (parser.Unsigned 1 (ord_min nat_cmp 18446744073709551615 most))
range_is low high most p q o least greatest narrows given same =
    let ends : Narrows (pos 1) (pos most) p = subst (λ x. Narrows (pos 1) x p) greatest (subst (λ x. Narrows x high p) least narrows) in
    given ∙ ap (λ x. Some x) (same ∙ ends)

pub returns : goal.returns
returns c =
    let line_narrows : Narrows c.new-2.result.start c.new-2.result.end c.range.result = rw c.value_parser.ensures at c.range.ensures in
    let line_given = c.value_parser-2.ensures.given in
    let line_parser : c.value_parser-2.result.value_parser ≡ Some (parser.Unsigned 1 1073741824) =
    range_is _ _ 1073741824 _ _ _ c.new-2.ensures.start c.new-2.ensures.end line_narrows line_given.1 line_given.2 in
    let line_is : rule_of c.default_value-line.result ≡ line_rule = search (rules, line_parser) in
    let numbers_narrows : Narrows c.new-4.result.start c.new-4.result.end c.range-2.result = rw c.value_parser-3.ensures at c.range-2.ensures in
    let numbers_given = c.value_parser-4.ensures.given in
    let numbers_parser : c.value_parser-4.result.value_parser ≡ Some (parser.Unsigned 1 4294967295) =
    range_is _ _ 4294967295 _ _ _ c.new-4.ensures.start c.new-4.ensures.end numbers_narrows numbers_given.1 numbers_given.2 in
    let numbers_is : rule_of c.default_value-numbers.result ≡ numbers_rule = search (rules, numbers_parser) in
    IfOk-weaker c.arg-2.result _ _ (λ command added.
    added.shape (search rules)
    ∙ ap₂ with_rule (c.in_ok-arg.ensures.shape (search rules) ∙ ap₂ with_rule (c.program.ensures) line_is) numbers_is) c.arg-2.ensures
