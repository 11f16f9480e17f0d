use Rattle.std.proofs.Common.{◌∙◌, sym, ap, tests, rules, Ok}
use Rattle.dom_c.proofs.Utf8NameLemmas.{name_in-ok, name_in-err}
use Rattle.dom_c.proofs.arguments.name_of.Goals as goal

pub returns-in_default : goal.returns-in_default
returns-in_default c = name_in-err c.args.bytes.now c.in_default.ensures.cases.0

pub returns-in-Ok-from_str : goal.returns-in-Ok-from_str
returns-in-Ok-from_str c =
    name_in-ok c.args.bytes.now c.in-Ok.ensures.cases.1 ∙ ap (λ bs. Ok bs) (sym (c.in-Ok-from_str.ensures.ok ∙ c.in-Ok.ensures.cases.0))

pub returns-in-Err : goal.returns-in-Err
returns-in-Err c = search (tests, rules)
