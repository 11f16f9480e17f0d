-- The Texts among nodes, as a walk gathers them.
use Rattle.std.specs.Prelude.{ℕ, if◌then◌else◌, List, [], ◌∷◌, flat_map}
use Rattle.dom_model.specs.declared.Kind.TheVariants.{Text}
use Rattle.dom_model.specs.Forests.Forest.{Forest}
use Rattle.dom_model.specs.Worlds.World.{Content}
use Rattle.dom_model.specs.Forests.Nodes.{is_of_kind}

-- a Text; nothing of another node
abbrev pub alone : Forest Content → ℕ → List ℕ
alone f n = if is_of_kind Text f n then n ∷ [] else []

abbrev pub texts_among : Forest Content → List ℕ → List ℕ
texts_among f ns = flat_map (alone f) ns
