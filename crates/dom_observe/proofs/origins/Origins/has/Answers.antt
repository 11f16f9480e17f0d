-- What is noted stands under the keys.
use Rattle.std.proofs.Common.{◌∙◌, Some, ap, subst}
use Rattle.std.specs.List.{list_any}
use Rattle.dom_observe.specs.{declared.origins.Origin.Origin, Registrations.at, Registrations.from_at, Origins.NotesIfAny}
use Rattle.dom_observe.proofs.origins.Origins.has.Goals as goal

pub returns-in-Some : goal.returns-in-Some
returns-in-Some c =
    let noted : NotesIfAny (at c.args.registrations.now) c.args.own.now (Some c.in-Some.noted) = subst (NotesIfAny (at c.args.registrations.now) c.args.own.now) c.in-Some.is c.requires in
    c.contains.ensures ∙ noted c.new.result ∙ ap (λ (o : Origin). list_any (from_at (at c.args.registrations.now) o.observer o.node) c.args.own.now) c.new.ensures
