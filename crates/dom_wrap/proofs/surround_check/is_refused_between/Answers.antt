use Rattle.std.proofs.Common.{sym, ◌∙◌, arith}
use Rattle.std.proofs.lemmas.Grind.{common_steps}
use Rattle.dom_model.specs.Definitions.{Range}
use Rattle.dom_wrap.proofs.AllowCode.{behind-among, between-doctypes}
use Rattle.dom_wrap.proofs.surround_check.is_refused_between.Goals as goal

pub has_doctype_from-requires-clause-under : goal.has_doctype_from-requires-clause-under
has_doctype_from-requires-clause-under c =
    let range : Range = record { start = c.args.start; end = c.args.end } in
    behind-among c.args.world.now c.requires.whole range c.requires.range c.args.common c.requires.common c.first_behind-behind.result c.first_behind-behind.ensures

pub returns : goal.returns
returns c =
    let range : Range = record { start = c.args.start; end = c.args.end } in
    between-doctypes c.args.world.now c.requires.whole range c.requires.range c.args.common c.requires.common c.args.node
    (sym c.is_ancestor.ensures ∙ c.if-is_ancestor.false) (sym c.is_of_kind.ensures ∙ c.if-not-is_of_kind.false) (sym c.leaves_element.ensures ∙ c.if-leaves_element.false)
    c.first_behind-behind.result c.first_behind-behind.ensures c.has_doctype_from.result c.has_doctype_from.ensures

pub returns-then-leaves_element : goal.returns-then-leaves_element
returns-then-leaves_element c = grind (arith, common_steps)
