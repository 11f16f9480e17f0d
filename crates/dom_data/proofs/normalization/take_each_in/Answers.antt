-- Each Text takes its turn.
use Rattle.std.proofs.Common.{◌+◌, drop}
use Rattle.dom_data.proofs.{KeepsNumbersLemmas.numbers-none, KeepsNumbersLemmas.numbers-then, TakenInLemmas.taking-first, TakenInLemmas.taking-text, TakenInLemmas.taking-next, TakenInLemmas.taking-end}
use Rattle.dom_data.proofs.normalization.take_each_in.Goals as goal

pub loop-text-init : goal.loop-text-init
loop-text-init c = record {
  taking = taking-first c.args.world.now c.args.node c.args.parent c.args.base c.args.texts.now c.requires.whole c.requires.joinable;
  kept = numbers-none c.args.world.now;
}

pub take_in-requires-clause-next : goal.take_in-requires-clause-next
take_in-requires-clause-next c = record {
  rest = drop (c.loop-text.text-index + 1) c.args.texts.now;
  joinable = taking-text c.args.world.now c.loop-text.world c.args.node c.args.parent c.args.base c.args.texts.now c.loop-text.text-index c.loop-text.further c.loop-text.invariant.taking c.text-item.result c.text-item.is c.loop-text-test.true;
}

pub loop-text-preserved : goal.loop-text-preserved
loop-text-preserved c = record {
  taking = taking-next c.args.world.now c.loop-text.world c.args.node c.args.parent c.args.base c.args.texts.now c.loop-text.text-index c.loop-text.further c.loop-text.invariant.taking c.take_in.new.world c.text-item.result c.in_ok-further.further c.text-item.is
      c.loop-text-test.true c.in_ok-further.ensures.further c.in_ok-further.ensures.taken c.in_ok-further.ensures.whole;
  kept = numbers-then c.args.world.now c.loop-text.world c.take_in.new.world c.loop-text.invariant.kept c.in_ok-further.ensures.kept;
}

pub returns-clause-taken : goal.returns-clause-taken
returns-clause-taken c =
    taking-end c.args.world.now c.loop-text.world c.args.node c.args.parent c.args.base c.args.texts.now c.loop-text.text-index c.loop-text.further c.loop-text.invariant.taking c.loop-text-test.false
