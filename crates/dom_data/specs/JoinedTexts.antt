-- The Texts that follow a Text, found by a walk, and joined to it one after another.
use Rattle.std.specs.Prelude.{◌≡◌, ℕ, ◌+◌, false, List, [], ◌∷◌, drop, flat_map, take_while, if◌then◌else◌, length, Option, Some, None, is_some}
use Rattle.dom_model.specs.declared.Kind.TheVariants.{Text}
use Rattle.dom_model.specs.Forests.Arena.{siblings_in}
use Rattle.dom_model.specs.Forests.Forest.{Forest, entry_in, parent_of, next_of, inclusive_descendants}
use Rattle.dom_model.specs.Worlds.World.{Content, World}
use Rattle.dom_model.specs.PlainLists.Lists.{among, past}
use Rattle.dom_model.specs.Forests.Nodes.{is_of_kind}
use Rattle.dom_model.specs.MutationAlgorithms.Editing.{remove}
use Rattle.dom_model.specs.DataAndCopies.Data.{content_in, data_of, merged_ends}
use Rattle.dom_model.specs.DataAndCopies.Joinable.{AreJoinable}
use Rattle.dom_edit.specs.declared.world.World as code
use Rattle.dom_edit.specs.Whole.{unwatched}

-- a node that is a Text
abbrev pub if_text : Forest Content → Option ℕ → Option ℕ
if_text f None = None
if_text f (Some n) = if is_of_kind Text f n then Some n else None

-- the next sibling, where it is a Text
abbrev pub next_text : Forest Content → ℕ → Option ℕ
next_text f n = if_text f (next_of f n)

-- the Texts that follow a node among its siblings
abbrev pub texts_behind : Forest Content → ℕ → List ℕ
texts_behind f n = take_while (is_of_kind Text f) (past n (siblings_in (entry_in f) n))

-- the data of nodes, one after another
abbrev pub data_among : Forest Content → List ℕ → List ℕ
data_among f ns = flat_map (λ n. (content_in (entry_in f n)).text) ns

-- whether a node is below another is told by whether it has a parent
abbrev pub is_told_by_parent : Forest Content → ℕ → ℕ → Type 0
is_told_by_parent f top n = among n (drop 1 (inclusive_descendants f top)) ≡ is_some (parent_of f n)

-- the ends in a Text, and those at it, move into the one before it, and it leaves
abbrev pub taken_in : ℕ → ℕ → ℕ → World → World
taken_in into base t w = remove false t (merged_ends t into base (parent_of w.forest t) w)

-- the same of each of these Texts, the length so far growing by its own
abbrev pub each_taken_in : ℕ → ℕ → List ℕ → World → World
each_taken_in into base [] w = w
each_taken_in into base (t ∷ ts) w = each_taken_in into (base + length (data_of w t)) ts (taken_in into base t w)

-- a Text is the next to be taken in: others may follow it
pub record IsNextTaken (v : code.World) (into parent base t : ℕ) : Type 0 where
  pub rest : List ℕ
  pub joinable : AreJoinable (unwatched v) into parent base (t ∷ rest)
