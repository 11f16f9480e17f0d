-- Whole runs first, then the blocks behind them.
use Rattle.std.proofs.Common.{◌*◌, ap, sym, arith}
use Rattle.dom_tree.specs.Blocks.{count_ahead, run_size}
use Rattle.dom_tree.proofs.BlockCountLemmas.{ahead-first, ahead-grows}
use Rattle.dom_tree.proofs.block_counts.BlockCounts.ahead_of.Goals as goal

pub add_up-ahead-requires-clause-ahead : goal.add_up-ahead-requires-clause-ahead
add_up-ahead-requires-clause-ahead c = sym (ahead-first c.deref.result.now)

pub add_up-ahead-requires-clause-few : goal.add_up-ahead-requires-clause-few
add_up-ahead-requires-clause-few c =
    let runs = c.self.invariant c.min-runs.result (omega (arith, c.min-runs.ensures, c.len.ensures)) in
    let grows = ahead-grows c.args.self.now (run_size * c.min-runs.result) c.args.block (omega (arith, c.min-runs.ensures)) in
    let here = ap (λ ns. count_ahead ns c.min-runs.result) c.deref.ensures.value in
    let each = ap (λ ns. count_ahead ns (run_size * c.min-runs.result)) c.self.view_is in
    omega (arith, runs, grows, here, each, c.requires.few)
