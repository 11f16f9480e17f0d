-- Text content that is set: whether a Text is made for it.
use Rattle.std.specs.Prelude.{ℕ, Bool, false, ◌||◌, List, [], ◌∷◌}
use Rattle.dom_model.specs.declared.Kind.{Kind}
use Rattle.dom_model.specs.declared.Kind.TheVariants.{Element, DocumentFragment}
use Rattle.dom_model.specs.Forests.Kinds.{is_kind}
use Rattle.dom_model.specs.Forests.Nodes.{kind_passes}
use Rattle.dom_model.specs.Worlds.World.{World}

-- an element or a fragment
abbrev pub may_hold_text : Kind → Bool
may_hold_text k = is_kind Element k || is_kind DocumentFragment k

-- a text makes a Text below a node: the node is an element or a fragment, and the text is not empty
abbrev pub makes_text : World → ℕ → List ℕ → Bool
makes_text w n [] = false
makes_text w n (u ∷ us) = kind_passes may_hold_text w.forest n
