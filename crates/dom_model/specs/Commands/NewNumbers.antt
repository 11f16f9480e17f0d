-- The new numbers that commands answer, by the kind of object. Ours; the standard has no numbers.
use Rattle.std.specs.Prelude.{◌≡◌, ℕ, ◌<◌, Option, Some, None}
use Rattle.dom_model.specs.Worlds.World.{World}
use Rattle.dom_model.specs.Commands.Command.{Command, NewDocument, CreateElement, CreateText, CreateComment, CreatePI, CreateDoctype, CreateFragment, ImportNode, CloneNode, SplitText, CreateRange, CloneRange, ExtractContents, CloneContents, CreateIterator, CreateWalker, CreateObserver, CreateStaticRange}
use Rattle.dom_model.specs.Commands.Counts.{counts_of}

-- the kinds of object that have numbers
pub data Numbered : Type 0 where
  Nodes : Numbered
  Ranges : Numbered
  Iterators : Numbered
  Walkers : Numbered
  Observers : Numbered
  StaticRanges : Numbered

-- how many numbers of a kind were given out
abbrev pub count_of : Numbered → World → ℕ
count_of Nodes w = (counts_of w).nodes
count_of Ranges w = (counts_of w).ranges
count_of Iterators w = (counts_of w).iterators
count_of Walkers w = (counts_of w).walkers
count_of Observers w = (counts_of w).observers
count_of StaticRanges w = (counts_of w).static_ranges

-- the kind of the object that a command makes, where its answer is that object's number
abbrev pub made_by : Command → Option Numbered
made_by NewDocument = Some Nodes
made_by (CreateElement d name) = Some Nodes
made_by (CreateText d text) = Some Nodes
made_by (CreateComment d text) = Some Nodes
made_by (CreatePI d target text) = Some Nodes
made_by (CreateDoctype d name public_id system_id) = Some Nodes
made_by (CreateFragment d) = Some Nodes
made_by (ImportNode d n deep) = Some Nodes
made_by (CloneNode n deep) = Some Nodes
made_by (SplitText t offset) = Some Nodes
made_by (ExtractContents r) = Some Nodes
made_by (CloneContents r) = Some Nodes
made_by (CreateRange d) = Some Ranges
made_by (CloneRange r) = Some Ranges
made_by (CreateIterator root filter) = Some Iterators
made_by (CreateWalker root filter) = Some Walkers
made_by CreateObserver = Some Observers
made_by (CreateStaticRange start end) = Some StaticRanges
made_by _ = None

-- the next number of its kind, from one world to another: as many were given out before it, and after it more
pub record IsNext (kind : Numbered) (n : ℕ) (before after : World) : Type 0 where
  pub next : n ≡ count_of kind before
  pub given_out : n < count_of kind after
