use Rattle.std.proofs.Common.{◌++◌, ◌∷◌, [], ap, ◌∙◌, arith}
use Rattle.dom_model.specs.Definitions.{Point, Range}
use Rattle.dom_ranges.specs.StaticEnds.{end_count_at, with_end}
use Rattle.dom_ranges.proofs.AreCountsLemmas.{one_at-few, counts-few, kept-made}
use Rattle.dom_ranges.proofs.static_ranges.Statics.make.Goals as goal

pub add-requires-clause-few : goal.add-requires-clause-few
add-requires-clause-few c =
    let node = c.start.inside.node in
    omega (arith, ap (λ cs. end_count_at cs node) c.reserve-2.ensures.counts, counts-few c.state_law.ensures.slotted c.self.invariant c.state_law.ensures.few node)

pub add-requires-2-clause-few : goal.add-requires-2-clause-few
add-requires-2-clause-few c =
    let node = c.end.inside.node in
    omega (arith, c.add.ensures.added node, one_at-few node c.start.inside.node, ap (λ cs. end_count_at cs node) c.reserve-2.ensures.counts, counts-few c.state_law.ensures.slotted c.self.invariant c.state_law.ensures.few node)

pub invariant_of-self-2 : goal.invariant_of-self-2
invariant_of-self-2 c =
    let range : Range = record { start = c.args.start; end = c.args.end } in
    kept-made c.self.invariant range c.start.inside.node c.end.inside.node _ c.add.new.self.counts c.add-2.new.self.counts
    (ap (λ (p : Point). p.node) c.start.view_is) (ap (λ (p : Point). p.node) c.end.view_is)
    (λ n. c.add.ensures.added n ∙ ap (λ cs. with_end c.start.inside.node cs n) c.reserve-2.ensures.counts)
    c.add-2.ensures.added
    (c.push_reserved-number.ensures.items ∙ ap (λ rs. rs ++ range ∷ []) c.reserve.ensures.items)
