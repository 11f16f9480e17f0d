use Rattle.std.proofs.Common.{◌∙◌, sym, ap, Ok}
use Rattle.dom_c.proofs.Utf8NameLemmas.{name_in-ok, name_in-err}
use Rattle.dom_c.proofs.arguments.lent_name.Goals as goal

pub returns-in-Ok : goal.returns-in-Ok
returns-in-Ok c = name_in-ok c.args.bytes.now c.in-Ok.ensures.cases.1 ∙ ap (λ bs. Ok bs) (sym c.in-Ok.ensures.cases.0)

pub returns-in-Err : goal.returns-in-Err
returns-in-Err c = name_in-err c.args.bytes.now c.in-Err.ensures.cases.0
