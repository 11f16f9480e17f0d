-- The steps of a walk that goes forwards or backwards through siblings, down into what is skipped, and up as far as its limit.
-- With the first side and each limit they are the steps to the first child, to the next sibling and to the next node; with the last side, mirrored.
use Rattle.std.specs.Prelude.{ℕ, ◌*◌, ◌==◌, Bool, false, ◌||◌, if◌then◌else◌, Option, None}
use Rattle.dom_model.specs.declared.Move.{Move}
use Rattle.dom_model.specs.declared.Move.TheVariants.{FirstChild, LastChild, PreviousSibling, NextSibling}
use Rattle.dom_model.specs.declared.Verdict.{Verdict}
use Rattle.dom_model.specs.declared.Verdict.TheVariants.{Accept, Skip, Reject}
use Rattle.dom_model.specs.PlainLists.Lists.{head_of, last_of}
use Rattle.dom_model.specs.Forests.Forest.{Forest, size, parent_of, children_of, next_of, previous_of}
use Rattle.dom_model.specs.Worlds.World.{Filter}
use Rattle.dom_model.specs.Traversal.Filters.{verdict_on, accepts}
use Rattle.dom_model.specs.Traversal.WalkSteps.{Stand, at, leaving, ended, at_or, come_to, up_to_parent, walked}
use Rattle.dom_model.specs.Traversal.Ending.{HasEnded, Leads, LeadsOn}
use Rattle.dom_traverse.specs.declared.sibling_walk.Side.{Side}
use Rattle.dom_traverse.specs.declared.sibling_walk.Side.TheVariants.{First, Last}
use Rattle.dom_traverse.specs.declared.sibling_walk.Limit.{Limit}
use Rattle.dom_traverse.specs.declared.sibling_walk.Limit.TheVariants.{Root, Current, Accepted}
use Rattle.dom_traverse.specs.declared.sibling_walk.SiblingWalk.{SiblingWalk}

-- the moves that begin at the children of the current node
abbrev pub child_move : Side → Move
child_move First = FirstChild
child_move Last = LastChild

-- and those that begin beside it
abbrev pub sibling_move : Side → Move
sibling_move First = NextSibling
sibling_move Last = PreviousSibling

-- the way into a node: by a child of it, where it is skipped
abbrev pub way_into : Verdict → Option ℕ → Option ℕ
way_into Accept child = None
way_into Skip child = child
way_into Reject child = None

-- the walk does not go past the node
abbrev pub blocks : Limit → ℕ → ℕ → Bool
blocks Root root n = n == root
blocks Current root n = false
blocks Accepted root n = false

module _ {X : Type 0} where
  -- the child that a walk comes to first
  abbrev pub child_on : Side → Forest X → ℕ → Option ℕ
  child_on First f n = head_of (children_of f n)
  child_on Last f n = last_of (children_of f n)

  -- the sibling that it comes to after a node
  abbrev pub sibling_on : Side → Forest X → ℕ → Option ℕ
  sibling_on First f n = next_of f n
  sibling_on Last f n = previous_of f n

  -- the walk does not go up past the node from what is under it
  abbrev pub stops : Limit → Forest X → Filter → ℕ → ℕ → ℕ → Bool
  stops Root f filter root current p = false
  stops Current f filter root current p = (p == root) || (p == current)
  stops Accepted f filter root current p = (p == root) || accepts f filter p

  module _ (f : Forest X) (filter : Filter) (c : SiblingWalk) where
    abbrev pub come_up_to : ℕ → Stand
    come_up_to p = if stops c.limit f filter c.root c.current p then ended None else leaving p

    -- past a node: on to its sibling, else up
    abbrev pub past_in : ℕ → Stand
    past_in n = if blocks c.limit c.root n then ended None else at_or (sibling_on c.side f n) (up_to_parent come_up_to (parent_of f n))

    abbrev pub course_step : Stand → Stand
    course_step (at n) = come_to (verdict_on f filter n) n (child_on c.side f n) (past_in n)
    course_step (leaving n) = past_in n
    course_step (ended found) = ended found

    -- the walk ends
    abbrev pub Ending : Stand → Type 0
    Ending stand = HasEnded course_step (4 * size f) stand

    -- the walk goes from one stand to the other, in one move or more
    abbrev pub GoesOnTo : Stand → Stand → Type 0
    GoesOnTo stand other = LeadsOn course_step (4 * size f) stand other

    -- or in none
    abbrev pub LeadsTo : Stand → Stand → Type 0
    LeadsTo stand other = Leads course_step (4 * size f) stand other

    -- what the walk finds
    abbrev pub found_from : Stand → Option ℕ
    found_from stand = walked course_step (4 * size f) stand
