-- One more key is gone through.
use Rattle.std.proofs.Common.{refl, inl}
use Rattle.dom_observe.specs.Registrations.{in_table}
use Rattle.dom_observe.proofs.{EndByNodeLemmas.out-next, TurnLemmas.fewer-two}
use Rattle.dom_observe.proofs.registration_removal.take_out_each.Goals as goal

pub loop-key-init : goal.loop-key-init
loop-key-init c = record { left = λ k. refl; fewer = λ k. inl refl }

pub loop-key-preserved : goal.loop-key-preserved
loop-key-preserved c = record {
  left = out-next c.args.ending.now (in_table c.args.table.now) (in_table c.loop-key.table) (in_table c.take_out.new.table) c.args.keys.now c.loop-key.key-index 0 c.loop-key-test.true c.loop-key.invariant.left c.take_out.ensures.left;
  fewer = fewer-two c.args.table.now c.loop-key.table c.take_out.new.table c.loop-key.invariant.fewer c.take_out.ensures.fewer;
}
