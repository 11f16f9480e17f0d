-- A check as an answer of the code.
use Rattle.std.specs.Prelude.{Option, Some, None, Result, Ok, Err}
use Rattle.dom_model.specs.declared.DomError.{DomError}

-- an answer that is a refusal or nothing
abbrev pub result_of_check : Option DomError → Result (Unit {0}) DomError
result_of_check None = Ok tt
result_of_check (Some e) = Err e
