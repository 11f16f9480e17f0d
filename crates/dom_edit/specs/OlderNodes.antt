-- What steps on new nodes leave as it was. DOM Standard, "Interface Node" (clone), "Interface Document" (importNode), "Interface Range" (cloneContents).
use Rattle.std.specs.Prelude.{◌≡◌, ◌<◌, ◌≤◌, ℕ, false, List, None}
use Rattle.dom_model.specs.declared.Kind.TheVariants.{DocumentFragment}
use Rattle.dom_model.specs.PlainLists.Lists.{hits}
use Rattle.dom_model.specs.Forests.Forest.{Forest, beside, parent_of}
use Rattle.dom_model.specs.Forests.EachNode.{EachNode}
use Rattle.dom_model.specs.Forests.Nodes.{is_of_kind}
use Rattle.dom_model.specs.Worlds.World.{Content}
use Rattle.dom_edit.specs.declared.world.World.{World}
use Rattle.dom_edit.specs.Whole.{IsWhole}

-- Nothing that was there has changed. What is new are trees behind those that were there, of numbers that were not given out; so each node that was
-- held has its label, content, node document, parent and children. Registrations and the records that wait are the same, and so whatever the
-- observers stood for they stand for still.
pub record LeavesAll (old new : World) : Type 0 where
  pub trees : Forest Content
  pub forest : new.tree.forest ≡ beside old.tree.forest trees
  pub numbers : EachNode (λ x. old.tree.made ≤ x.number) trees
  pub made : old.tree.made ≤ new.tree.made
  pub ranges : new.ranges.ranges ≡ old.ranges.ranges
  pub static_ranges : new.statics ≡ old.statics
  pub iterators : new.iterators ≡ old.iterators
  pub walkers : new.walkers ≡ old.walkers
  pub observers : new.observers ≡ old.observers

-- each of these nodes was made after a world
abbrev pub AreNewer : World → List ℕ → Type 0
AreNewer v ns = (n : ℕ) → 0 < hits n ns → v.tree.made ≤ n

-- A step on these nodes: whatever world was left as it was, and is older than they are, is left so by the step too.
abbrev pub LeavesOlder : List ℕ → World → World → Type 0
LeavesOlder ns old new = (a : World) → IsWhole a → AreNewer a ns → LeavesAll a old → LeavesAll a new

-- a node that is no fragment has no parent
abbrev pub IsFragmentOrRoot : Forest Content → ℕ → Type 0
IsFragmentOrRoot f n = is_of_kind DocumentFragment f n ≡ false → parent_of f n ≡ None
