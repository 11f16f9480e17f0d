-- What a refusal of a question says.
use Rattle.std.specs.Prelude.{◌≡◌, Option, Some}
use Rattle.dom_model.specs.declared.DomError.{DomError}
use Rattle.dom_edit.specs.declared.refusal.Refusal.{Refusal}
use Rattle.dom_edit.specs.declared.refusal.Refusal.TheVariants.{Dom, Memory}

-- a name is the check's; of want of memory nothing is said
abbrev pub IsNamed : Refusal → Option DomError → Type 0
IsNamed (Dom e) check = check ≡ Some e
IsNamed Memory check = Unit {0}
