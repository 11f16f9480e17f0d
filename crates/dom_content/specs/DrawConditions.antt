-- What may go into a fragment while contents are drawn, and what may take it: what was there before the first of it goes into what was made since,
-- so that nothing comes to stand inside itself. DOM Standard, "Interface Range" (extract, clone the contents).
use Rattle.std.specs.Prelude.{◌≡◌, ℕ, ◌<◌, ◌≤◌, Bool, true, false, List, [], ◌∷◌, length, Some, IsSome}
use Rattle.dom_model.specs.declared.Kind.{Kind}
use Rattle.dom_model.specs.declared.Kind.TheVariants.{Element, Text, ProcessingInstruction, Comment, Document, DocumentType, DocumentFragment}
use Rattle.dom_model.specs.PlainLists.Lists.{hits}
use Rattle.dom_model.specs.Forests.Kinds.{is_character_data, may_be_parent}
use Rattle.dom_model.specs.Forests.Forest.{Forest, entry_in, parent_of}
use Rattle.dom_model.specs.Worlds.World.{Content}
use Rattle.dom_model.specs.Forests.Nodes.{kind_passes, is_of_kind}
use Rattle.dom_model.specs.DataAndCopies.Data.{content_in}
use Rattle.dom_edit.specs.declared.world.World.{World}
use Rattle.dom_content.specs.declared.partially_contained.Partial.{Partial}
use Rattle.dom_content.specs.Paths.{EndsStayOut}

-- of the nodes from a number on, each stands under one of them with a smaller number, or under none; and no end of a live range stands in a tree
-- of one of them
pub record HasRisingNumbers (low : ℕ) (v : World) : Type 0 where
  pub begun : low ≤ v.tree.made
  pub rising : (n q : ℕ) → low ≤ n → parent_of v.tree.forest n ≡ Some q → (low ≤ q) × (q < n)
  pub ends : EndsStayOut low v

-- one of them that may have children
pub record IsHolder (low : ℕ) (f : Forest Content) (into : ℕ) : Type 0 where
  pub fresh : low ≤ into
  pub kind : kind_passes may_be_parent f into ≡ true

-- kinds that may stand under a fragment
abbrev pub may_go_in : Kind → Bool
may_go_in Element = true
may_go_in Text = true
may_go_in ProcessingInstruction = true
may_go_in Comment = true
may_go_in Document = false
may_go_in DocumentType = false
may_go_in DocumentFragment = false

-- an older node of such a kind, that stands under a parent
pub record IsOld (low : ℕ) (f : Forest Content) (n : ℕ) : Type 0 where
  pub old : n < low
  pub kind : kind_passes may_go_in f n ≡ true
  pub child : IsSome (parent_of f n)

abbrev pub AreOld : ℕ → Forest Content → List ℕ → Type 0
AreOld low f ns = (n : ℕ) → 0 < hits n ns → IsOld low f n

-- these nodes may go into that one
pub record MayDraw (v : World) (into : ℕ) (ns : List ℕ) : Type 0 where
  pub low : ℕ
  pub rising : HasRisingNumbers low v
  pub holder : IsHolder low v.tree.forest into
  pub nodes : AreOld low v.tree.forest ns

-- a copy that is not finished: what is left may go into the further fragment, and that into the copy
pub record IsUnfinished (low : ℕ) (f : Forest Content) (p : Partial) : Type 0 where
  pub copy : IsHolder low f p.copy
  pub inner : is_of_kind DocumentFragment f p.inner ≡ true
  pub order : p.copy < p.inner
  pub children : AreOld low f p.children.items

abbrev pub AreUnfinished : ℕ → Forest Content → List Partial → Type 0
AreUnfinished low f [] = Unit {0}
AreUnfinished low f (p ∷ ps) = IsUnfinished low f p × AreUnfinished low f ps

pub record MayClose (v : World) (ps : List Partial) : Type 0 where
  pub low : ℕ
  pub rising : HasRisingNumbers low v
  pub parts : AreUnfinished low v.tree.forest ps

-- of the nodes on a path none has data but the last, and there the offset lies within
abbrev pub IsPathTo : Forest Content → ℕ → List ℕ → Type 0
IsPathTo f offset [] = Unit {0}
IsPathTo f offset (n ∷ []) = kind_passes is_character_data f n ≡ true → offset ≤ length (content_in (entry_in f n)).text
IsPathTo f offset (n ∷ m ∷ path) = (kind_passes is_character_data f n ≡ false) × IsPathTo f offset (m ∷ path)
