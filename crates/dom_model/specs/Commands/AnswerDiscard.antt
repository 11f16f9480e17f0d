-- The answer to the command that discards a tree. Ours.
use Rattle.std.specs.Prelude.{ℕ, [], ◌∷◌}
use Rattle.dom_model.specs.declared.OwnError.TheVariants.{InUse}
use Rattle.dom_model.specs.Worlds.World.{World}
use Rattle.dom_model.specs.Commands.Reply.{Own}
use Rattle.dom_model.specs.MutationAlgorithms.Discarding.{is_in_use, discarded}
use Rattle.dom_model.specs.Commands.Guards.{Bounds, Step, guarded, no_node, does}

abbrev pub answer_discard : Bounds → ℕ → World → Step
answer_discard b n w = guarded (no_node n w ∷ (is_in_use w n, Own InUse) ∷ []) w (does (discarded n w))
