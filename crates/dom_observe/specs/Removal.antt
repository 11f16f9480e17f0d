-- A node that left its parent, and the mutation that is noted of it.
use Rattle.std.specs.Prelude.{ℕ, List}
use Rattle.dom_model.specs.Worlds.World.{Mutation, Observing}
use Rattle.dom_model.specs.MutationObservers.Observing.{standing_on, noted, with_transients}

-- a mutation is noted with the registrations that stand on these nodes
abbrev pub noted_on : List ℕ → Mutation → Observing → Observing
noted_on above m x = noted (record m { standing = standing_on above x.registrations }) x

-- a node left its place under the first of these: first it gets transient registrations, then a mutation is noted
abbrev pub removed_below : ℕ → List ℕ → Mutation → Observing → Observing
removed_below node above m x = noted_on above m (with_transients node above x)
