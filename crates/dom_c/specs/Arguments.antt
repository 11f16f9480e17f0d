-- What the arguments of C stand for: a value, or the status that says what is wrong with them.
use Rattle.std.specs.Prelude.{◌≡◌, ℕ, nat_eq, Bool, true, false, if◌then◌else◌, List, Option, Some, None, Result, Ok, Err}
use Rattle.std.specs.Str.{is_utf8}
use Rattle.dom_model.specs.declared.Move.{Move}
use Rattle.dom_model.specs.declared.Move.TheVariants.{ParentNode, FirstChild, LastChild, PreviousSibling, NextSibling, PreviousNode, NextNode}
use Rattle.dom_c.specs.Statuses.{not_utf8, bad_lengths, bad_choice}
use Rattle.dom_c.specs.declared.argument_fault.ArgumentFault.{ArgumentFault}
use Rattle.dom_c.specs.declared.argument_fault.ArgumentFault.TheVariants.{Memory, NotUtf8, BadLengths, BadChoice}

-- the fault is the one that the definitions find, unless memory was wanting
abbrev pub IsFaultOf : {A : Type 0} → ArgumentFault → Result A ℕ → Type 0
IsFaultOf Memory r = Unit {0}
IsFaultOf NotUtf8 r = r ≡ Err not_utf8
IsFaultOf BadLengths r = r ≡ Err bad_lengths
IsFaultOf BadChoice r = r ≡ Err bad_choice

-- what was read is what the definitions read, unless memory was wanting
abbrev pub ReadsArgument : {A B : Type 0} → (A → B) → Result A ArgumentFault → Result B ℕ → Type 0
ReadsArgument view (Ok a) r = r ≡ Ok (view a)
ReadsArgument view (Err fault) r = IsFaultOf fault r

-- what is made of a value, where there is one
abbrev pub then_make : {A B : Type 0} → Result A ℕ → (A → Result B ℕ) → Result B ℕ
then_make (Ok a) make = make a
then_make (Err status) make = Err status

-- a name is UTF-8
abbrev pub utf8_name : List ℕ → Result (List ℕ) ℕ
utf8_name bytes = if is_utf8 bytes then Ok bytes else Err not_utf8

-- the greatest number stands for null
abbrev pub number_or_none : ℕ → Option ℕ
number_or_none n = if nat_eq n 4294967295 then None else Some n

-- 0 for false, 1 for true, 2 for absent
abbrev pub choice_in : ℕ → Result (Option Bool) ℕ
choice_in n = if nat_eq n 0 then Ok (Some false) else if nat_eq n 1 then Ok (Some true) else if nat_eq n 2 then Ok None else Err bad_choice

-- the moves of a walker, in the order of the standard
abbrev pub move_of_number : ℕ → Result Move ℕ
move_of_number n =
    if nat_eq n 0 then Ok ParentNode
    else if nat_eq n 1 then Ok FirstChild
    else if nat_eq n 2 then Ok LastChild
    else if nat_eq n 3 then Ok PreviousSibling
    else if nat_eq n 4 then Ok NextSibling
    else if nat_eq n 5 then Ok PreviousNode
    else if nat_eq n 6 then Ok NextNode
    else Err bad_choice
