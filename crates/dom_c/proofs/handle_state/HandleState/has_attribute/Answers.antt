use Rattle.std.proofs.Common.{◌≡◌, ◌∙◌, sym, ap, Ok, Err}
use Rattle.dom_c.specs.{Statuses.not_utf8, Arguments.utf8_name}
use Rattle.dom_c.proofs.{Utf8NameLemmas.name_in-ok, Utf8NameLemmas.name_in-err, AsksLemmas.refused-asked}
use Rattle.dom_c.proofs.handle_state.HandleState.has_attribute.Goals as goal

pub returns-in-Ok : goal.returns-in-Ok
returns-in-Ok c =
    let read : utf8_name c.args.name.now ≡ Ok c.in-Ok.name.now = name_in-ok c.args.name.now c.in-Ok.ensures.cases.1 ∙ ap (λ bs. Ok bs) (sym c.in-Ok.ensures.cases.0) in
    rw read c.ask_attribute.ensures

pub returns-in-Err : goal.returns-in-Err
returns-in-Err c =
    let read : utf8_name c.args.name.now ≡ Err not_utf8 = name_in-err c.args.name.now c.in-Err.ensures.cases.0 in
    rw read (refused-asked c.args.self.now not_utf8)
