-- The command of a line: what serde_json reads in it, a name of the table, and arguments of its shapes.
use Rattle.std.specs.Prelude.{ℕ, suc, nat_le, Bool, if◌then◌else◌, List, [], ◌∷◌, length, Option, Some, None, option_map, option_and_then, Result, Ok, Err, codes, bytes_eq, find, slice_set, is_some}
use Rattle.std.specs.Str.{is_utf8}
use Rattle.serde_json.specs.Data.{Data, Items, no_items, item, Members}
use Rattle.serde_json.specs.Find.{as_null, as_bool, as_number, as_str, as_array, as_object, as_u64, get_member}
use Rattle.serde_json.specs.Read.{read}
use Rattle.dom_model.specs.declared.OwnError.{OwnError}
use Rattle.dom_model.specs.declared.OwnError.TheVariants.{LineTooLong, BadJson, BadCommand, BadArguments}
use Rattle.dom_model.specs.declared.Verdict.{Verdict}
use Rattle.dom_model.specs.declared.Verdict.TheVariants.{Accept, Skip, Reject}
use Rattle.dom_model.specs.declared.Move.{Move}
use Rattle.dom_model.specs.declared.Move.TheVariants.{ParentNode, FirstChild, LastChild, PreviousSibling, NextSibling, PreviousNode, NextNode}
use Rattle.dom_model.specs.Forests.Texts.{units_of}
use Rattle.dom_model.specs.Worlds.World.{FilterRule}
use Rattle.dom_model.specs.Commands.Command.{Command}
use Rattle.dom_model.specs.MutationObservers.GivenOptions.{GivenOptions}
use Rattle.dom_model.specs.Commands.Table.{Shape, a_number, a_number_or_null, a_string, a_text, a_text_or_null, a_flag, a_flag_or_null, a_filter, a_move, the_options, Arguments, no_arguments, Row}

-- the value, where it is within the limit
abbrev pub at_most : ℕ → ℕ → Option ℕ
at_most limit n = if nat_le n limit then Some n else None

abbrev pub natural_of : Data → Option ℕ
natural_of d = option_and_then as_u64 (as_number d)

-- a number argument
abbrev pub number_in : Data → Option ℕ
number_in d = option_and_then (at_most 4294967295) (natural_of d)

-- the items, each read in one way
abbrev pub each_item : {A : Type 0} → (Data → Option A) → Items → Option (List A)
each_item read_item no_items = Some []
each_item read_item (item d ds) = option_and_then (λ a. option_map (λ others. a ∷ others) (each_item read_item ds)) (read_item d)

abbrev pub list_in : {A : Type 0} → (Data → Option A) → Data → Option (List A)
list_in read_item d = option_and_then (each_item read_item) (as_array d)

-- a unit of a text
abbrev pub unit_in : Data → Option ℕ
unit_in d = option_and_then (at_most 65535) (natural_of d)

abbrev pub text_in_either : Option (List ℕ) → Data → Option (List ℕ)
text_in_either None d = list_in unit_in d
text_in_either (Some bytes) d = Some (units_of bytes)

-- a text argument: a string, or an array of units
abbrev pub text_in : Data → Option (List ℕ)
text_in d = text_in_either (as_str d) d

-- null, or what is read otherwise
abbrev pub null_or : {A : Type 0} → (Data → Option A) → Data → Option (Option A)
null_or read_value d = if is_some (as_null d) then Some None else option_map (λ a. Some a) (read_value d)

abbrev pub null_as_empty : Option (List ℕ) → List ℕ
null_as_empty None = []
null_as_empty (Some units) = units

-- the value of the first name that is the one given
abbrev pub named_in : {A : Type 0} → List (List ℕ × A) → List ℕ → Option A
named_in [] name = None
named_in (p ∷ ps) name = if bytes_eq p.0 name then Some p.1 else named_in ps name

abbrev pub verdict_names : List (List ℕ × Verdict)
verdict_names = (codes "accept", Accept) ∷ (codes "skip", Skip) ∷ (codes "reject", Reject) ∷ []

abbrev pub move_names : List (List ℕ × Move)
move_names =
    (codes "parentNode", ParentNode)
    ∷ (codes "firstChild", FirstChild)
    ∷ (codes "lastChild", LastChild)
    ∷ (codes "previousSibling", PreviousSibling)
    ∷ (codes "nextSibling", NextSibling)
    ∷ (codes "previousNode", PreviousNode)
    ∷ (codes "nextNode", NextNode)
    ∷ []

abbrev pub rule_from : Items → Option FilterRule
rule_from no_items = None
rule_from (item name no_items) = None
rule_from (item name (item verdict no_items)) =
    option_and_then (λ n. option_map (λ v. record { name = n; verdict = v }) (option_and_then (named_in verdict_names) (as_str verdict))) (as_str name)
rule_from (item name (item verdict (item extra others))) = None

-- a rule of a filter: `[name, verdict]`
abbrev pub rule_in : Data → Option FilterRule
rule_in d = option_and_then rule_from (as_array d)

abbrev pub move_in : Data → Option Move
move_in d = option_and_then (named_in move_names) (as_str d)

-- a member that need not be there: none, what it reads as, or a refusal
abbrev pub if_member : {A : Type 0} → (Data → Option A) → Option Data → Option (Option A)
if_member read_value None = Some None
if_member read_value (Some d) = option_map (λ a. Some a) (read_value d)

abbrev pub flag_member : List ℕ → Members → Option (Option Bool)
flag_member key ms = if_member as_bool (get_member key ms)

abbrev pub options_from : Members → Option GivenOptions
options_from ms =
    option_and_then (λ child_list.
    option_and_then (λ attributes.
    option_and_then (λ character_data.
    option_and_then (λ subtree.
    option_and_then (λ attribute_old_value.
    option_and_then (λ character_data_old_value.
    option_map (λ attribute_filter. record {
      child_list = child_list;
      attributes = attributes;
      character_data = character_data;
      subtree = subtree;
      attribute_old_value = attribute_old_value;
      character_data_old_value = character_data_old_value;
      attribute_filter = attribute_filter;
    })
    (if_member (list_in as_str) (get_member (codes "attributeFilter") ms)))
    (flag_member (codes "characterDataOldValue") ms))
    (flag_member (codes "attributeOldValue") ms))
    (flag_member (codes "subtree") ms))
    (flag_member (codes "characterData") ms))
    (flag_member (codes "attributes") ms))
    (flag_member (codes "childList") ms)

abbrev pub options_in : Data → Option GivenOptions
options_in d = option_and_then options_from (as_object d)

-- the arguments with one more, read at its place
abbrev pub with_argument : Shape → Data → ℕ → Arguments → Option Arguments
with_argument a_number d i a = option_map (λ n. record a { numbers = slice_set a.numbers i n }) (number_in d)
with_argument a_number_or_null d i a = option_map (λ n. record a { number = n }) (null_or number_in d)
with_argument a_string d i a = option_map (λ s. record a { strings = slice_set a.strings i s }) (as_str d)
with_argument a_text d i a = option_map (λ t. record a { text = t }) (text_in d)
with_argument a_text_or_null d i a = option_map (λ t. record a { text = null_as_empty t }) (null_or text_in d)
with_argument a_flag d i a = option_map (λ b. record a { flag = b }) (as_bool d)
with_argument a_flag_or_null d i a = option_map (λ b. record a { flag_or_null = b }) (null_or as_bool d)
with_argument a_filter d i a = option_map (λ rules. record a { rules = rules }) (list_in rule_in d)
with_argument a_move d i a = option_map (λ m. record a { move = m }) (move_in d)
with_argument the_options d i a = option_map (λ o. record a { options = o }) (options_in d)

-- as many arguments as shapes, each of its shape
abbrev pub arguments_from : ℕ → List Shape → List Data → Arguments → Option Arguments
arguments_from i [] [] a = Some a
arguments_from i [] (d ∷ ds) a = None
arguments_from i (s ∷ shapes) [] a = None
arguments_from i (s ∷ shapes) (d ∷ ds) a = option_and_then (arguments_from (suc i) shapes ds) (with_argument s d i a)

abbrev pub list_of : Items → List Data
list_of no_items = []
list_of (item d ds) = d ∷ list_of ds

abbrev pub if_arguments : Row → Option Arguments → Result Command OwnError
if_arguments r None = Err BadArguments
if_arguments r (Some a) = Ok (r.command a)

abbrev pub with_arguments : List Data → Option Row → Result Command OwnError
with_arguments ds None = Err BadCommand
with_arguments ds (Some r) = if_arguments r (arguments_from 0 r.shapes ds no_arguments)

abbrev pub is_row_of : List ℕ → Row → Bool
is_row_of name r = bytes_eq r.name name

abbrev pub named_command : List Row → Option (List ℕ) → List Data → Result Command OwnError
named_command table None ds = Err BadCommand
named_command table (Some name) ds = with_arguments ds (find (is_row_of name) table)

-- a non-empty list whose first item is a name of the table
abbrev pub command_among : List Row → List Data → Result Command OwnError
command_among table [] = Err BadCommand
command_among table (d ∷ ds) = named_command table (as_str d) ds

abbrev pub command_in_array : List Row → Option Items → Result Command OwnError
command_in_array table None = Err BadCommand
command_in_array table (Some items) = command_among table (list_of items)

abbrev pub command_of_json : List Row → Option Data → Result Command OwnError
command_of_json table None = Err BadJson
command_of_json table (Some d) = command_in_array table (as_array d)

-- what serde_json reads in a line, which has to be text
unfoldable pub json_of : List ℕ → Option Data
json_of line = if is_utf8 line then read line else None

-- the command of a line, or the refusal of its form
unfoldable pub command_of : List Row → List ℕ → Result Command OwnError
command_of table line = command_of_json table (json_of line)

-- the same, for a line within the limit
unfoldable pub command_within : List Row → ℕ → List ℕ → Result Command OwnError
command_within table limit line = if nat_le (length line) limit then command_of table line else Err LineTooLong
