-- What is noted of a node that left its parent. DOM Standard, "Mutation algorithms" (remove).
use Rattle.std.specs.Prelude.{ℕ, [], ◌∷◌, Option}
use Rattle.dom_model.specs.Worlds.World as model
use Rattle.dom_model.specs.MutationAlgorithms.Editing.{tree_record, transients_made}

-- transient registrations are left on the node, and then the record is queued
abbrev pub removal_noted : ℕ → ℕ → Option ℕ → Option ℕ → model.World → model.World
removal_noted n parent previous next w = tree_record parent [] (n ∷ []) previous next (transients_made n parent w)
