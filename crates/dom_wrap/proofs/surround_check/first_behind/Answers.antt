use Rattle.std.proofs.Common.{ap, sym, ◌∙◌}
use Rattle.dom_model.specs.Definitions.{Point, Range}
use Rattle.dom_wrap.proofs.AllowCode.{common-held, next-behind-of}
use Rattle.dom_wrap.proofs.surround_check.first_behind.Goals as goal

pub child_at-requires : goal.child_at-requires
child_at-requires c =
    let range : Range = record { start = c.args.start; end = c.args.end } in
    common-held c.args.world.now c.requires.whole range c.requires.range c.args.common c.requires.common

pub returns-else-is_ancestor : goal.returns-else-is_ancestor
returns-else-is_ancestor c =
    let range : Range = record { start = c.args.start; end = c.args.end } in
    c.next.ensures
    ∙ next-behind-of c.args.world.now c.requires.whole range c.requires.range c.args.common c.requires.common c.start.inside.node c.end.inside.node
    (ap (λ (p : Point). p.node) c.start.view_is) (ap (λ (p : Point). p.node) c.end.view_is) c.requires.near (sym c.is_ancestor.ensures ∙ c.if-is_ancestor.false)
