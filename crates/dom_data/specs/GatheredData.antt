-- The data of the Texts among nodes, one after another.
use Rattle.std.specs.Prelude.{ℕ, if◌then◌else◌, List, [], flat_map}
use Rattle.dom_model.specs.declared.Kind.TheVariants.{Text}
use Rattle.dom_model.specs.Forests.Forest.{Forest, entry_in}
use Rattle.dom_model.specs.Worlds.World.{Content}
use Rattle.dom_model.specs.Forests.Nodes.{is_of_kind}
use Rattle.dom_model.specs.DataAndCopies.Data.{content_in}

-- the data of a Text; nothing of another node
abbrev pub text_at : Forest Content → ℕ → List ℕ
text_at f n = if is_of_kind Text f n then (content_in (entry_in f n)).text else []

abbrev pub gathered : Forest Content → List ℕ → List ℕ
gathered f ns = flat_map (text_at f) ns
