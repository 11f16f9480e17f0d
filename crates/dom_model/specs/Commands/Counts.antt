-- How many numbers of each kind are given out, and how many a command asks for. Ours; the standard has no numbers.
use Rattle.std.specs.Prelude.{ℕ, ◌+◌, ◌*◌, ◌≤◌, length}
use Rattle.dom_model.specs.Forests.Forest.{size}
use Rattle.dom_model.specs.Worlds.World.{World}
use Rattle.dom_model.specs.Commands.Command.{Command, NewDocument, CreateElement, CreateText, CreateComment, CreatePI, CreateDoctype, CreateFragment, ImportNode, CloneNode, SetTextContent, SplitText, CreateRange, CloneRange, ExtractContents, CloneContents, InsertNode, SurroundContents, CreateIterator, CreateWalker, CreateObserver, CreateStaticRange}

-- of each kind of object, how many numbers
pub record Counts : Type 0 where
  pub nodes : ℕ
  pub ranges : ℕ
  pub iterators : ℕ
  pub walkers : ℕ
  pub observers : ℕ
  pub static_ranges : ℕ

-- the numbers that were given out
abbrev pub counts_of : World → Counts
counts_of w = record {
  nodes = w.made;
  ranges = length w.ranges;
  iterators = length w.iterators;
  walkers = length w.walkers;
  observers = length w.observing.places;
  static_ranges = length w.static_ranges;
}

abbrev pub no_numbers : Counts
no_numbers = record { nodes = 0; ranges = 0; iterators = 0; walkers = 0; observers = 0; static_ranges = 0 }

abbrev pub node_numbers : ℕ → Counts
node_numbers count = record no_numbers { nodes = count }

-- twice the nodes in use, and eight
abbrev pub numbers_for_copies : World → Counts
numbers_for_copies w = node_numbers (2 * size w.forest + 8)

-- the numbers that a command asks for
abbrev pub asked : World → Command → Counts
asked w NewDocument = node_numbers 1
asked w (CreateElement d name) = node_numbers 1
asked w (CreateText d text) = node_numbers 1
asked w (CreateComment d text) = node_numbers 1
asked w (CreatePI d target text) = node_numbers 1
asked w (CreateDoctype d name public_id system_id) = node_numbers 1
asked w (CreateFragment d) = node_numbers 1
asked w (SplitText t offset) = node_numbers 1
asked w (SetTextContent n text) = node_numbers 1
asked w (InsertNode r n) = node_numbers 1
asked w (ImportNode d n deep) = numbers_for_copies w
asked w (CloneNode n deep) = numbers_for_copies w
asked w (ExtractContents r) = numbers_for_copies w
asked w (CloneContents r) = numbers_for_copies w
asked w (SurroundContents r n) = numbers_for_copies w
asked w (CreateRange d) = record no_numbers { ranges = 1 }
asked w (CloneRange r) = record no_numbers { ranges = 1 }
asked w (CreateIterator root filter) = record no_numbers { iterators = 1 }
asked w (CreateWalker root filter) = record no_numbers { walkers = 1 }
asked w CreateObserver = record no_numbers { observers = 1 }
asked w (CreateStaticRange start end) = record no_numbers { static_ranges = 1 }
asked w _ = no_numbers

-- the numbers of the one and of the other
abbrev pub plus : Counts → Counts → Counts
plus given more = record {
  nodes = given.nodes + more.nodes;
  ranges = given.ranges + more.ranges;
  iterators = given.iterators + more.iterators;
  walkers = given.walkers + more.walkers;
  observers = given.observers + more.observers;
  static_ranges = given.static_ranges + more.static_ranges;
}

-- as many of every kind
abbrev pub of_each : ℕ → Counts
of_each numbers = record {
  nodes = numbers;
  ranges = numbers;
  iterators = numbers;
  walkers = numbers;
  observers = numbers;
  static_ranges = numbers;
}

-- of no kind more
pub record AreAtMost (some most : Counts) : Type 0 where
  pub nodes : some.nodes ≤ most.nodes
  pub ranges : some.ranges ≤ most.ranges
  pub iterators : some.iterators ≤ most.iterators
  pub walkers : some.walkers ≤ most.walkers
  pub observers : some.observers ≤ most.observers
  pub static_ranges : some.static_ranges ≤ most.static_ranges
