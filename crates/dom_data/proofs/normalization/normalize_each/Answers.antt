-- Each Text takes its turn.
use Rattle.dom_data.proofs.{KeepsNumbersLemmas.numbers-none, KeepsNumbersLemmas.numbers-then, TextsInTurn.turn-first, TextsInTurn.turn-next, TextsInTurn.turn-text, TextsInTurn.turn-told, TextsInTurn.turn-end}
use Rattle.dom_data.proofs.normalization.normalize_each.Goals as goal

pub normalize_below-requires-clause-kind : goal.normalize_below-requires-clause-kind
normalize_below-requires-clause-kind c =
    turn-text c.args.world.now c.loop-text.world c.args.top c.args.texts.now c.loop-text.text-index c.loop-text.invariant.turn c.text-item.result c.text-item.is c.loop-text-test.true

pub normalize_below-requires-clause-told : goal.normalize_below-requires-clause-told
normalize_below-requires-clause-told c =
    turn-told c.args.world.now c.loop-text.world c.args.top c.args.texts.now c.loop-text.text-index c.loop-text.invariant.turn c.text-item.result c.text-item.is c.loop-text-test.true

pub loop-text-init : goal.loop-text-init
loop-text-init c = record {
  turn = turn-first c.args.world.now c.args.top c.args.texts.now c.requires.whole c.requires.kinds c.requires.told;
  kept = numbers-none c.args.world.now;
}

pub loop-text-preserved : goal.loop-text-preserved
loop-text-preserved c = record {
  turn = turn-next c.args.world.now c.loop-text.world c.args.top c.args.texts.now c.loop-text.text-index c.loop-text.invariant.turn c.normalize_below.new.world c.text-item.result c.text-item.is
      c.loop-text-test.true c.in_ok-normalize_below.ensures.normalized c.in_ok-normalize_below.ensures.whole;
  kept = numbers-then c.args.world.now c.loop-text.world c.normalize_below.new.world c.loop-text.invariant.kept c.in_ok-normalize_below.ensures.kept;
}

pub returns-clause-normalized : goal.returns-clause-normalized
returns-clause-normalized c =
    turn-end c.args.world.now c.loop-text.world c.args.top c.args.texts.now c.loop-text.text-index c.loop-text.invariant.turn c.loop-text-test.false
