-- The iterator, the walker, the static range and the observer that a command asks for by its number. Ours; the standard has no numbers.
use Rattle.std.specs.Prelude.{ℕ, Option, Some, None}
use Rattle.dom_model.specs.Commands.Command.{Command, DescribeIterator, NextNode, PreviousNode, ReleaseIterator, DescribeWalker, SetCurrent, Walk, ReleaseWalker, DescribeStaticRange, ReleaseStaticRange, Observe, Disconnect, TakeRecords, ReleaseObserver, TellObserver}

abbrev pub iterator_asked : Command → Option ℕ
iterator_asked (DescribeIterator i) = Some i
iterator_asked (NextNode i) = Some i
iterator_asked (PreviousNode i) = Some i
iterator_asked (ReleaseIterator i) = Some i
iterator_asked _ = None

abbrev pub walker_asked : Command → Option ℕ
walker_asked (DescribeWalker k) = Some k
walker_asked (SetCurrent k n) = Some k
walker_asked (Walk k move) = Some k
walker_asked (ReleaseWalker k) = Some k
walker_asked _ = None

abbrev pub static_range_asked : Command → Option ℕ
static_range_asked (DescribeStaticRange u) = Some u
static_range_asked (ReleaseStaticRange u) = Some u
static_range_asked _ = None

abbrev pub observer_asked : Command → Option ℕ
observer_asked (Observe o n options) = Some o
observer_asked (Disconnect o) = Some o
observer_asked (TakeRecords o) = Some o
observer_asked (ReleaseObserver o) = Some o
observer_asked (TellObserver o) = Some o
observer_asked _ = None
