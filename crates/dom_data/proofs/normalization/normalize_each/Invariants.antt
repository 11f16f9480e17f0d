-- The Texts that were passed are done.
use Rattle.dom_data.specs.KeptNumbers.{KeepsNumbers}
use Rattle.dom_data.proofs.TextsInTurn.{IsInTurn}
use Rattle.dom_data.proofs.normalization.normalize_each.Given as goal

abbrev pub invariant-loop-text : goal.invariant-loop-text
invariant-loop-text l = record {
  turn : IsInTurn l.initial.world l.world l.top l.texts l.text-index;
  kept : KeepsNumbers l.initial.world l.world;
}
