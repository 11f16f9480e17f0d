-- The Texts that were passed are taken in.
use Rattle.dom_data.specs.KeptNumbers.{KeepsNumbers}
use Rattle.dom_data.proofs.TakenInLemmas.{IsTaking}
use Rattle.dom_data.proofs.normalization.take_each_in.Given as goal

abbrev pub invariant-loop-text : goal.invariant-loop-text
invariant-loop-text l = record {
  taking : IsTaking l.initial.world l.world l.node l.parent l.base l.texts l.text-index l.further;
  kept : KeepsNumbers l.initial.world l.world;
}
