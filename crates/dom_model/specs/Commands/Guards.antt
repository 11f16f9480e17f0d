-- Refusals in their order, and the steps that commands share.
use Rattle.std.specs.Prelude.{ℕ, ◌+◌, ◌*◌, nat_lt, Bool, false, not, if◌then◌else◌, List, [], ◌∷◌, map, Option, Some, None, is_none}
use Rattle.dom_model.specs.declared.Kind.{Kind}
use Rattle.dom_model.specs.declared.DomError.{DomError}
use Rattle.dom_model.specs.declared.DomError.TheVariants.{TypeError, InvalidCharacterError}
use Rattle.dom_model.specs.declared.OwnError.TheVariants.{NoSuchObject, Limit}
use Rattle.dom_model.specs.Forests.Kinds.{Label}
use Rattle.dom_model.specs.Forests.Forest.{Forest, Row, entry_in, rows, tree_at, size}
use Rattle.dom_model.specs.Worlds.World.{Content, World}
use Rattle.dom_model.specs.Commands.Reply.{TreeRow, Answer, Nothing, Number, Reply, Done, Dom, Own}
use Rattle.dom_model.specs.Forests.Nodes.{kind_passes}
pub use Rattle.dom_model.specs.Worlds.Making.{made_node, named, with_text}

-- how many numbers each kind of object has, and how many bytes a line may have
pub record Bounds : Type 0 where
  pub numbers : ℕ
  pub line : ℕ

pub record Step : Type 0 where
  pub reply : Reply
  pub world : World

-- a refusal leaves the world
abbrev pub refused : Reply → World → Step
refused r w = record { reply = r; world = w }

-- the first test that holds gives its refusal; where none holds, the step is taken
abbrev pub guarded : List (Bool × Reply) → World → Step → Step
guarded [] w s = s
guarded (c ∷ cs) w s = if c.0 then refused c.1 w else guarded cs w s

-- a check's refusal, or the step
abbrev pub checked : Option DomError → World → Step → Step
checked None w s = s
checked (Some e) w s = refused (Dom e) w

-- no node of that number
abbrev pub no_node : ℕ → World → Bool × Reply
no_node n w = (is_none (entry_in w.forest n), Own NoSuchObject)

-- a node of the wrong kind
abbrev pub wrong_kind : (Kind → Bool) → ℕ → World → Bool × Reply
wrong_kind test n w = (not (kind_passes test w.forest n), Dom TypeError)

-- fewer than `count` of the numbers are left
abbrev pub no_room : Bounds → ℕ → ℕ → Bool × Reply
no_room b made count = (nat_lt b.numbers (made + count), Own Limit)

abbrev pub bad_name : Bool → Bool × Reply
bad_name is_valid = (not is_valid, Dom InvalidCharacterError)

-- the answer is the new node's number
abbrev pub makes : ℕ → Label → Content → World → Step
makes document label body w = record { reply = Done (Number w.made); world = made_node document label body w }

abbrev pub answers : Answer → World → Step
answers a w = record { reply = Done a; world = w }

abbrev pub tree_row : Row Content → TreeRow
tree_row r = record { depth = r.depth; number = r.at.number; label = r.at.label; body = r.at.body }

-- the rows of a node's inclusive descendants, in tree order
abbrev pub tree_rows : Forest Content → ℕ → List TreeRow
tree_rows f n = map tree_row (rows 0 (tree_at n f))

-- a step whose answer is null
abbrev pub does : World → Step
does w = record { reply = Done Nothing; world = w }

-- no node of that number, where one is given
abbrev pub no_node_given : Option ℕ → World → Bool × Reply
no_node_given None w = (false, Own NoSuchObject)
no_node_given (Some n) w = no_node n w

-- the standard's exception, where the test holds
abbrev pub throws : Bool → DomError → Bool × Reply
throws test e = (test, Dom e)

-- twice the nodes in use, and eight: what a command that copies asks for (ours)
abbrev pub no_room_for_copies : Bounds → World → Bool × Reply
no_room_for_copies b w = no_room b w.made (2 * size w.forest + 8)
