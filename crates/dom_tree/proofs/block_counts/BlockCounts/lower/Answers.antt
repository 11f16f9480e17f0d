-- The run of a block follows it, where any block is left.
use Rattle.std.proofs.Common.{◌/◌, ◌<◌, length, ap, sym, ◌∙◌, subst, arith}
use Rattle.dom_tree.specs.Blocks.{lowered, AreRuns}
use Rattle.dom_tree.proofs.BlockCountLemmas.{some-left, runs-lowered}
use Rattle.dom_tree.proofs.block_counts.BlockCounts.lower.Goals as goal

pub invariant_of-self-else-is_empty : goal.invariant_of-self-else-is_empty
invariant_of-self-else-is_empty c =
    let some : 0 < length (lowered c.self.inside.each.items c.args.block) = omega (arith, some-left _ (sym c.is_empty.ensures ∙ c.if-is_empty.false), ap length c.lower.ensures) in
    subst (λ ns. AreRuns ns c.lower.new.counts.items) (sym c.lower-2.ensures) (subst (AreRuns (lowered c.self.inside.runs.items (c.args.block / 256))) (sym c.lower.ensures) (runs-lowered c.self.inside.runs.items c.self.inside.each.items c.args.block c.self.invariant some))
