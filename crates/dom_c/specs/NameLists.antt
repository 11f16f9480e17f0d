-- Names that lie one after the other in bytes, of which the lengths are told, as C hands filters and options.
use Rattle.std.specs.Prelude.{ℕ, nat_eq, nat_le, if◌then◌else◌, List, [], ◌∷◌, ◌++◌, length, take, drop, Option, Some, None, Result, Ok, Err}
use Rattle.dom_model.specs.declared.Verdict.{Verdict}
use Rattle.dom_model.specs.declared.Verdict.TheVariants.{Accept, Skip, Reject}
use Rattle.dom_model.specs.Worlds.World.{FilterRule}
use Rattle.dom_model.specs.MutationObservers.GivenOptions.{GivenOptions}
use Rattle.dom_c.specs.Statuses.{bad_lengths, bad_choice}
use Rattle.dom_c.specs.Arguments.{then_make, utf8_name, choice_in}
use Rattle.dom_c.specs.declared.options.Options.{Options}

-- the standard's constants: FILTER_ACCEPT, FILTER_REJECT, FILTER_SKIP
abbrev pub verdict_in : ℕ → Result Verdict ℕ
verdict_in n = if nat_eq n 1 then Ok Accept else if nat_eq n 2 then Ok Reject else if nat_eq n 3 then Ok Skip else Err bad_choice

-- the front of so many bytes is a name
abbrev pub front_in : ℕ → List ℕ → Result (List ℕ) ℕ
front_in n bytes = if nat_le n (length bytes) then utf8_name (take n bytes) else Err bad_lengths

-- as many verdicts as lengths, and all bytes used
abbrev pub rules_from : List FilterRule → List ℕ → List ℕ → List ℕ → Result (List FilterRule) ℕ
rules_from rules [] [] [] = Ok rules
rules_from rules [] [] (b ∷ bytes) = Err bad_lengths
rules_from rules [] (v ∷ verdicts) bytes = Err bad_lengths
rules_from rules (n ∷ lengths) [] bytes = Err bad_lengths
rules_from rules (n ∷ lengths) (v ∷ verdicts) bytes =
    then_make (front_in n bytes) (λ name. then_make (verdict_in v) (λ verdict.
    rules_from (rules ++ record { name = name; verdict = verdict } ∷ []) lengths verdicts (drop n bytes)))

abbrev pub rules_in : List ℕ → List ℕ → List ℕ → Result (List FilterRule) ℕ
rules_in names lengths verdicts = rules_from [] lengths verdicts names

abbrev pub names_from : List (List ℕ) → List ℕ → List ℕ → Result (List (List ℕ)) ℕ
names_from names [] [] = Ok names
names_from names [] (b ∷ bytes) = Err bad_lengths
names_from names (n ∷ lengths) bytes = then_make (front_in n bytes) (λ name. names_from (names ++ name ∷ []) lengths (drop n bytes))

-- 0 for no filter, 1 for the names that are given
abbrev pub filter_in : ℕ → List ℕ → List ℕ → Result (Option (List (List ℕ))) ℕ
filter_in has names lengths =
    if nat_eq has 0 then Ok None
    else if nat_eq has 1 then then_make (names_from [] lengths names) (λ given. Ok (Some given))
    else Err bad_choice

abbrev pub given_options : Options → List ℕ → List ℕ → Result GivenOptions ℕ
given_options o names lengths =
    then_make (choice_in o.child_list) (λ child_list.
    then_make (choice_in o.attributes) (λ attributes.
    then_make (choice_in o.character_data) (λ character_data.
    then_make (choice_in o.subtree) (λ subtree.
    then_make (choice_in o.attribute_old_value) (λ attribute_old_value.
    then_make (choice_in o.character_data_old_value) (λ character_data_old_value.
    then_make (filter_in o.attribute_filter names lengths) (λ attribute_filter. Ok (record {
      child_list = child_list;
      attributes = attributes;
      character_data = character_data;
      subtree = subtree;
      attribute_old_value = attribute_old_value;
      character_data_old_value = character_data_old_value;
      attribute_filter = attribute_filter;
    }))))))))
