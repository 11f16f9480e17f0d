use Rattle.std.proofs.Common.{sym}
use Rattle.dom_model.specs.Definitions.{move_names}
use Rattle.dom_wire.proofs.ReadStepLemmas.{named_in-none}
use Rattle.dom_wire.proofs.filters.course_of.Goals as goal

pub returns-in_default : goal.returns-in_default
returns-in_default c =
    let d = c.in_default in
    sym (named_in-none c.args.text.now move_names
    (d.not-parentNode, (d.not-firstChild, (d.not-lastChild, (d.not-previousSibling, (d.not-nextSibling, (d.not-previousNode, (d.not-nextNode, tt))))))))
