-- The command line as clap's data: the two options, the limits that the words ask for, and what words have instead.
use Rattle.std.specs.Prelude.{◌≡◌, ◌≢◌, ◌≤◌, ◌&&◌, ⊤, ℕ, Bool, true, false, not, List, [], ◌∷◌, Option, Some, None, codes, nat_le, if◌then◌else◌}
use Rattle.std.specs.List.{list_any}
use Rattle.std.specs.Str.Parse.{digits_value, without_leading_plus}
use Rattle.dom_model.specs.Commands.Answer.{Bounds}
use Rattle.clap.specs.Words.{App, Kinds, Row, Rule, Text, fault_of, matches_of, new_app, new_rule, one_of, with_rule}
use Rattle.clap.specs.ValueTests.{is_unsigned_in}
use Rattle.clap.specs.declared.builder.action.ArgAction.TheVariants.{Set}
use Rattle.clap.specs.declared.builder.value_parser.ValueParser.TheVariants as parser
use Rattle.clap.specs.declared.error.kind.ErrorKind.{ErrorKind}
use Rattle.clap.specs.declared.error.kind.ErrorKind.TheVariants as kind
use Rattle.dom_options.specs.declared.options.Asked.{Asked}
use Rattle.dom_options.specs.declared.options.Refusal.{Refusal}
use Rattle.dom_options.specs.declared.options.Refusal.TheVariants.{Memory, Help, Mistake}

-- the ranges of the two options
pub record IsInRange (b : Bounds) : Type 0 where
  pub numbers : (1 ≤ b.numbers) × (b.numbers ≤ 4294967295)
  pub line : (1 ≤ b.line) × (b.line ≤ 1073741824)

-- the limits as the definitions have them
abbrev pub bounds_in : Asked → Bounds
bounds_in asked = record { numbers = asked.numbers; line = asked.line }

-- `--name N`, a number from 1 to `most`, and `otherwise` where it is not given
abbrev pub number_rule : Text → ℕ → Text → Rule
number_rule name most otherwise = record (new_rule name) {
  long = Some name;
  action = Some Set;
  value_names = 1;
  parser = Some (parser.Unsigned 1 most);
  defaults = otherwise ∷ [];
}

abbrev pub line_rule : Rule
line_rule = number_rule (codes "line") 1073741824 (codes "1048576")

abbrev pub numbers_rule : Rule
numbers_rule = number_rule (codes "numbers") 4294967295 (codes "4294967295")

-- a command that has a version to tell
abbrev pub with_version : App → App
with_version a = record a { top = record a.top { has_version = true } }

-- the program's command
abbrev pub program_app : App
program_app = with_rule (with_rule (with_version (new_app (codes "domserve"))) line_rule) numbers_rule

-- the kinds of error that clap finds in the words, the program's name first: none where it takes them
unfoldable pub faults_in : List Text → Kinds
faults_in words = fault_of program_app words

abbrev pub is_request : ErrorKind → Bool
is_request kind.DisplayHelp = true
is_request kind.DisplayVersion = true
is_request _ = false

-- the words ask for help, or for the version
abbrev pub asks_for_help : Kinds → Bool
asks_for_help faults = list_any is_request faults

-- the words are refused
abbrev pub has_mistake : Kinds → Bool
has_mistake faults = list_any (λ k. not (is_request k)) faults

-- the value where it lies from 1 to `most`, and else the other one
abbrev pub value_within : ℕ → ℕ → Option ℕ → ℕ
value_within most otherwise None = otherwise
value_within most otherwise (Some n) = if nat_le 1 n && nat_le n most then n else otherwise

-- the number that a text writes, where clap takes it as one from 1 to `most`
abbrev pub limit_of : ℕ → ℕ → Option Text → ℕ
limit_of most otherwise None = otherwise
limit_of most otherwise (Some text) =
    if is_unsigned_in 1 most text then digits_value 10 (without_leading_plus text) else otherwise

-- the limits that clap's matches give
abbrev pub bounds_at : List Row → Bounds
bounds_at rows = record {
  numbers = limit_of 4294967295 4294967295 (one_of (codes "numbers") rows);
  line = limit_of 1073741824 1048576 (one_of (codes "line") rows);
}

-- the limits that the words ask for, with the defaults for what they leave out
unfoldable pub bounds_asked : List Text → Bounds
bounds_asked words = bounds_at (matches_of program_app words)

-- what is told of an error of this kind
abbrev pub IsRefusalOf : ErrorKind → Refusal → Type 0
IsRefusalOf k Memory = ⊤
IsRefusalOf k (Help text) = is_request k ≡ true
IsRefusalOf k (Mistake text) = (is_request k ≡ false) × (k ≢ kind.OutOfMemory)

-- what is told of words with these faults
abbrev pub TellsOf : Kinds → Refusal → Type 0
TellsOf faults Memory = ⊤
TellsOf faults (Help text) = asks_for_help faults ≡ true
TellsOf faults (Mistake text) = has_mistake faults ≡ true
