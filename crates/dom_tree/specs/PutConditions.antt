-- What a node may be put under.
use Rattle.std.specs.Prelude.{◌≡◌, ◌≤◌, ℕ, ◌==◌, Bool, true, false, not, ◌&&◌, [], length, None, IfSome}
use Rattle.dom_model.specs.declared.Kind.{Kind}
use Rattle.dom_model.specs.declared.Kind.TheVariants.{Document}
use Rattle.dom_model.specs.Forests.Kinds.{is_kind, may_stand_in}
use Rattle.dom_model.specs.Forests.Forest.{Forest, HasNode, entry_in, parent_of, children_of}
use Rattle.dom_model.specs.Forests.Nodes.{kind_passes}
use Rattle.dom_tree.specs.NodeDocuments.{document_in}

-- the parent's kind lets a node of the child's kind stand under it
abbrev pub MayStand : {X : Type 0} → Forest X → ℕ → ℕ → Type 0
MayStand f parent child =
    IfSome (entry_in f parent) (λ p. IfSome (entry_in f child) (λ c. may_stand_in p.value.label.kind c.value.label.kind ≡ true))

-- A parent of the kind takes a node of the other as a child whatever children it has: it is no Document.
abbrev pub takes_leaf : Kind → Kind → Bool
takes_leaf parent leaf = may_stand_in parent leaf && not (is_kind parent Document)

-- A root with no children that may come in under the parent, where nothing else has to be asked or changed: both have one node document.
pub record IsLeafFor {X : Type 0} (f : Forest X) (parent leaf : ℕ) : Type 0 where
  pub parent_there : HasNode f parent
  pub leaf_there : HasNode f leaf
  pub kinds : kind_passes (λ p. kind_passes (takes_leaf p) f leaf) f parent ≡ true
  pub apart : (parent == leaf) ≡ false
  pub one_document : document_in f parent ≡ document_in f leaf
  pub root : parent_of f leaf ≡ None
  pub childless : children_of f leaf ≡ []

-- so many children that they may stand in blocks
abbrev pub HasManyChildren : {X : Type 0} → Forest X → ℕ → Type 0
HasManyChildren f n = 128 ≤ length (children_of f n)
