-- The checks that are one question, and what a refusal leaves. DOM Standard, "Interface Node" (removeChild), "Interface Document" (adoptNode),
-- "Interface ParentNode" (replaceChildren).
use Rattle.std.specs.Prelude.{◌≡◌, ℕ, not, [], ◌∷◌, Option, Some, None}
use Rattle.dom_model.specs.declared.Kind.TheVariants.{Document}
use Rattle.dom_model.specs.declared.DomError.{DomError}
use Rattle.dom_model.specs.declared.DomError.TheVariants.{NotFoundError, NotSupportedError}
use Rattle.dom_model.specs.PlainLists.Lists.{is_number, first_refusal}
use Rattle.dom_model.specs.Forests.Forest.{Forest, parent_of}
use Rattle.dom_model.specs.MutationAlgorithms.Checks.{check_insert}
use Rattle.dom_model.specs.Forests.Nodes.{is_of_kind}
use Rattle.dom_edit.specs.declared.world.World.{World}
use Rattle.dom_edit.specs.declared.refusal.Refusal.{Refusal}
use Rattle.dom_edit.specs.declared.refusal.Refusal.TheVariants.{Dom, Memory}

module _ {X : Type 0} where
  -- a child to be removed from a parent
  abbrev pub check_remove_child : Forest X → ℕ → ℕ → Option DomError
  check_remove_child f parent child = first_refusal ((not (is_number (parent_of f child) parent), NotFoundError) ∷ [])

  -- a node, or none, to be the only child
  abbrev pub check_only_child : Forest X → ℕ → Option ℕ → Option DomError
  check_only_child f parent None = None
  check_only_child f parent (Some n) = check_insert f parent n None

  -- a node to be adopted
  abbrev pub check_adopt : Forest X → ℕ → Option DomError
  check_adopt f n = first_refusal ((is_of_kind Document f n, NotSupportedError) ∷ [])

-- a name is the check's, and leaves the world as it was; of want of memory nothing is said
abbrev pub IsRefused : Refusal → Option DomError → World → World → Type 0
IsRefused (Dom e) check old new = (check ≡ Some e) × (new ≡ old)
IsRefused Memory check old new = Unit {0}
