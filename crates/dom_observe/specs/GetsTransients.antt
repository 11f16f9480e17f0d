-- What a node has after transient registrations came in.
use Rattle.std.specs.Prelude.{◌≡◌, ◌++◌, true, List, is_some}
use Rattle.std.specs.List.{AllByRecursion}
use Rattle.dom_model.specs.Worlds.World.{Registration}

-- transient registrations came in last
pub record GetsTransients (old new : List Registration) : Type 0 where
  pub more : List Registration
  pub last : new ≡ old ++ more
  pub passing : AllByRecursion (λ (r : Registration). is_some r.source ≡ true) more
