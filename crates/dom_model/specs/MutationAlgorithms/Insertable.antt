-- Nodes that may come in under a parent. DOM Standard, "Mutation algorithms".
use Rattle.std.specs.Prelude.{◌≡◌, ℕ, ◌<◌, Bool, true, false, not, ◌&&◌, List, [], ◌∷◌, Option, Some, None, IfSome}
use Rattle.dom_model.specs.declared.Kind.TheVariants.{Document, DocumentType}
use Rattle.dom_model.specs.PlainLists.Lists.{hits}
use Rattle.dom_model.specs.Forests.Kinds.{may_be_parent, may_stand_in}
use Rattle.dom_model.specs.Forests.Forest.{Forest, occurs, parent_of, ancestors}
use Rattle.dom_model.specs.Worlds.World.{Content}
use Rattle.dom_model.specs.Forests.Nodes.{kind_passes, is_of_kind}

-- the kinds of two nodes let the second stand under the first
abbrev pub may_stand_at : Forest Content → ℕ → ℕ → Bool
may_stand_at f p c = kind_passes (λ k. kind_passes (may_stand_in k) f c) f p

-- a root that may be put under a parent that is not inside it
pub record IsPlaceable (f : Forest Content) (parent n : ℕ) : Type 0 where
  pub there : 0 < occurs n f
  pub root : parent_of f n ≡ None
  pub outside : hits n (ancestors parent f) ≡ 0
  pub fits : may_stand_at f parent n ≡ true

-- several of them, no one twice
abbrev pub ArePlaceable : Forest Content → ℕ → List ℕ → Type 0
ArePlaceable f parent [] = Unit {0}
ArePlaceable f parent (n ∷ ns) = IsPlaceable f parent n × (hits n ns ≡ 0) × ArePlaceable f parent ns

-- what they come in before: a child of the parent, or nothing
abbrev pub IsChildOf : Forest Content → ℕ → Option ℕ → Type 0
IsChildOf f parent child = IfSome child (λ c. parent_of f c ≡ Some parent)

-- A node that may be inserted: the parent is not inside it, their kinds fit, and what it comes in before is another child of the parent.
pub record IsInsertable (f : Forest Content) (n parent : ℕ) (child : Option ℕ) : Type 0 where
  pub there : 0 < occurs n f
  pub parent_there : 0 < occurs parent f
  pub outside : hits n (ancestors parent f) ≡ 0
  pub may_hold : kind_passes may_be_parent f parent ≡ true
  pub no_document : is_of_kind Document f n ≡ false
  pub doctype_fits : (is_of_kind DocumentType f n && not (is_of_kind Document f parent)) ≡ false
  pub before_child : IsChildOf f parent child
  pub before_other : IfSome child (λ c. c ≡ n → ⊥)
