-- Arguments that make no question: the handle stays, and the status is theirs, whether the session goes on or has ended.
use Rattle.std.proofs.Common.{◌≡◌, ℕ, Bool, true, false, refl, Err}
use Rattle.dom_c.specs.{Answers.AsksOrEnded, declared.handle_state.HandleState.HandleState}
use Rattle.dom_c.proofs.Spared.{steps-malformed}

pub refused-asked : (k : HandleState) (malformed : ℕ) → AsksOrEnded k.ended (Err malformed) k k malformed
refused-asked k malformed = at k.ended refl
  where
    at : (b : Bool) → k.ended ≡ b → AsksOrEnded b (Err malformed) k k malformed
    at true is = (refl, refl)
    at false is = steps-malformed malformed k is
