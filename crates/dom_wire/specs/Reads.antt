-- What a function that reads may return, against what is read by the definitions.
use Rattle.std.specs.Prelude.{◌≡◌, Option, Some, None, Result, Ok, Err}
use Rattle.dom_model.specs.Commands.Command as model
use Rattle.dom_model.specs.declared.OwnError.{OwnError}
use Rattle.dom_model.specs.declared.OwnError.TheVariants.{BadArguments}
use Rattle.dom_commands.specs.declared.command.Command.{Command}
use Rattle.dom_commands.specs.Views.{command_view}
use Rattle.dom_wire.specs.declared.read_error.ReadError.{ReadError}
use Rattle.dom_wire.specs.declared.read_error.ReadError.TheVariants.{Own, Memory}

-- the command or the refusal, unless memory was wanting
abbrev pub ReadsCommand : Result Command ReadError → Result model.Command OwnError → Type 0
ReadsCommand (Ok c) r = r ≡ Ok (command_view c)
ReadsCommand (Err (Own e)) r = r ≡ Err e
ReadsCommand (Err Memory) r = Unit {0}

-- an argument's value, or the refusal of the arguments, unless memory was wanting
abbrev pub Decodes : {A B : Type 0} → (A → B) → Result A ReadError → Option B → Type 0
Decodes view (Ok a) o = o ≡ Some (view a)
Decodes view (Err (Own e)) o = (e ≡ BadArguments) × (o ≡ None)
Decodes view (Err Memory) o = Unit {0}
