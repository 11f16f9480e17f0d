-- A queue: its records, and how many of the first have their nodes in its set.
use Rattle.std.specs.Prelude.{ℕ, List}
use Rattle.dom_model.specs.MutationObservers.Record.{Record}

pub record Queued : Type 0 where
  pub records : List Record
  pub caught_up : ℕ
