-- An empty Text that was made for what is beyond an offset of another, and what goes over into it.
use Rattle.std.specs.Prelude.{◌≡◌, ℕ, ◌+◌, ◌-◌, ◌≤◌, true, [], drop, length, IfSome}
use Rattle.dom_model.specs.declared.Kind.TheVariants.{Text}
use Rattle.dom_model.specs.Worlds.World as model
use Rattle.dom_model.specs.Worlds.World.{Content}
use Rattle.dom_model.specs.Soundness.Sound.{IsSound}
use Rattle.dom_model.specs.Forests.Forest.{Forest, entry_in, parent_of, children_of, index_of, with_node}
use Rattle.dom_model.specs.Forests.Texts.{spliced}
use Rattle.dom_model.specs.Forests.Nodes.{is_of_kind}
use Rattle.dom_model.specs.MutationAlgorithms.Editing.{node_document}
use Rattle.dom_model.specs.Worlds.Making.{made_node, named, with_text}
use Rattle.dom_model.specs.DataAndCopies.Data.{content_in, with_data}
use Rattle.dom_edit.specs.declared.world.World.{World}
use Rattle.dom_edit.specs.Whole.{Keeps}

-- it is the last thing that was made: there is a world before, and in that a Text
pub record IsTail (v : World) (n new : ℕ) : Type 0 where
  pub before : model.World
  pub sound : IsSound before
  pub text : is_of_kind Text before.forest n ≡ true
  pub number : new ≡ before.made
  pub keeps : Keeps v (made_node (node_document before n) (named Text []) (with_text []) before)

-- where a node has a parent, another child comes after it
abbrev pub HasNextSibling : Forest Content → ℕ → Type 0
HasNextSibling f n = IfSome (parent_of f n) (λ p. index_of f n + 2 ≤ length (children_of f p))

-- what is beyond an offset goes from a node's data into another's
abbrev pub tail_in : ℕ → ℕ → ℕ → Forest Content → Forest Content
tail_in n offset new f =
    let units = (content_in (entry_in f n)).text in
    with_node new (with_data (drop offset units)) (with_node n (with_data (spliced offset (length units - offset) [] units)) f)
