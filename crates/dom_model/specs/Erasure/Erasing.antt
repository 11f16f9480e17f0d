-- Erasing: what is left of a list of commands, and of its replies, without some observers, or without all that watches the tree.
-- Two clients that observe one tree do not feel each other; nor does a tree feel its live ranges, iterators and walkers.
use Rattle.std.specs.Prelude.{ℕ, Bool, true, false, not, if◌then◌else◌, List, [], ◌∷◌, filter}
use Rattle.std.specs.List.{list_any}
use Rattle.dom_model.specs.Worlds.World.{World}
use Rattle.dom_model.specs.Commands.Command.{Command, CreateRange, CloneRange, DescribeRange, SetStart, SetEnd, SetStartBefore, SetStartAfter, SetEndBefore, SetEndAfter, Collapse, SelectNode, SelectNodeContents, CompareBoundaryPoints, ComparePoint, IsPointInRange, IntersectsNode, CommonAncestor, RangeText, DeleteContents, ExtractContents, CloneContents, InsertNode, SurroundContents, ReleaseRange, CreateIterator, CreateWalker, DescribeIterator, NextNode, PreviousNode, DescribeWalker, SetCurrent, Walk, Observe, Disconnect, TakeRecords, Notify, Pending, CreateStaticRange, DescribeStaticRange, ReleaseIterator, ReleaseWalker, ReleaseStaticRange, ReleaseObserver, TakePending, TellObserver, Discard}
use Rattle.dom_model.specs.Commands.Reply.{Answer, Numbers, Notified, Reply, Done, Dom, Own}
use Rattle.dom_model.specs.MutationObservers.Record.{Notification}
use Rattle.dom_model.specs.Commands.Guards.{Bounds}
use Rattle.dom_model.specs.Commands.Answer.{answer}

-- the replies to a list of commands, one after another
abbrev pub replies_to : Bounds → World → List Command → List Reply
replies_to b w [] = []
replies_to b w (c ∷ cs) = let s = answer b w c in s.reply ∷ replies_to b s.world cs

-- the commands that a test does not erase
abbrev pub commands_left : (Command → Bool) → List Command → List Command
commands_left erases cs = filter (λ c. not (erases c)) cs

-- the replies to the commands that a test does not erase, each as it is left
abbrev pub replies_left : (Command → Bool) → (Command → Reply → Reply) → List Command → List Reply → List Reply
replies_left erases left [] rs = []
replies_left erases left (c ∷ cs) [] = []
replies_left erases left (c ∷ cs) (r ∷ rs) =
    if erases c then replies_left erases left cs rs else left c r ∷ replies_left erases left cs rs

-- `discard` is left out of the laws of erasing: a registration, a record that is not taken or a range may be what refuses it.

abbrev pub discards : Command → Bool
discards (Discard n) = true
discards _ = false

abbrev pub makes_no_discard : List Command → Bool
makes_no_discard cs = not (list_any discards cs)

-- Observers, told by a test of their numbers: what they observe, disconnect and take is erased, that they are told one by one, and that they are
-- released; that they are made is not.

abbrev pub is_by_observer : (ℕ → Bool) → Command → Bool
is_by_observer erased (Observe o n options) = erased o
is_by_observer erased (Disconnect o) = erased o
is_by_observer erased (TakeRecords o) = erased o
is_by_observer erased (ReleaseObserver o) = erased o
is_by_observer erased (TellObserver o) = erased o
is_by_observer erased _ = false

abbrev pub parts_left : (ℕ → Bool) → Answer → Answer
parts_left erased (Notified ts) = Notified (filter (λ (t : Notification). not (erased t.observer)) ts)
parts_left erased (Numbers os) = Numbers (filter (λ o. not (erased o)) os)
parts_left erased a = a

abbrev pub reply_left : (ℕ → Bool) → Reply → Reply
reply_left erased (Done a) = Done (parts_left erased a)
reply_left erased (Dom e) = Dom e
reply_left erased (Own e) = Own e

-- their parts of what notify, pending and its taking answer are erased
abbrev pub left_by_observers : (ℕ → Bool) → Command → Reply → Reply
left_by_observers erased Notify r = reply_left erased r
left_by_observers erased Pending r = reply_left erased r
left_by_observers erased TakePending r = reply_left erased r
left_by_observers erased _ r = r

abbrev pub without_observers : (ℕ → Bool) → List Command → List Command
without_observers erased cs = commands_left (is_by_observer erased) cs

abbrev pub replies_without_observers : (ℕ → Bool) → List Command → List Reply → List Reply
replies_without_observers erased cs rs = replies_left (is_by_observer erased) (left_by_observers erased) cs rs

-- Watchers: the commands of ranges, iterators and walkers.

-- those that change the tree
abbrev pub edits_by_range : Command → Bool
edits_by_range (DeleteContents r) = true
edits_by_range (ExtractContents r) = true
edits_by_range (CloneContents r) = true
edits_by_range (InsertNode r n) = true
edits_by_range (SurroundContents r n) = true
edits_by_range _ = false

-- those that only watch
abbrev pub only_watches : Command → Bool
only_watches (CreateRange d) = true
only_watches (CloneRange r) = true
only_watches (DescribeRange r) = true
only_watches (SetStart r n k) = true
only_watches (SetEnd r n k) = true
only_watches (SetStartBefore r n) = true
only_watches (SetStartAfter r n) = true
only_watches (SetEndBefore r n) = true
only_watches (SetEndAfter r n) = true
only_watches (Collapse r to_start) = true
only_watches (SelectNode r n) = true
only_watches (SelectNodeContents r n) = true
only_watches (CompareBoundaryPoints r how s) = true
only_watches (ComparePoint r n k) = true
only_watches (IsPointInRange r n k) = true
only_watches (IntersectsNode r n) = true
only_watches (CommonAncestor r) = true
only_watches (RangeText r) = true
only_watches (ReleaseRange r) = true
only_watches (CreateIterator n filter) = true
only_watches (CreateWalker n filter) = true
only_watches (DescribeIterator i) = true
only_watches (NextNode i) = true
only_watches (PreviousNode i) = true
only_watches (DescribeWalker k) = true
only_watches (SetCurrent k n) = true
only_watches (Walk k move) = true
only_watches (CreateStaticRange start end) = true
only_watches (DescribeStaticRange s) = true
only_watches (ReleaseIterator i) = true
only_watches (ReleaseWalker k) = true
only_watches (ReleaseStaticRange s) = true
only_watches _ = false

-- watchers can be erased from a list that makes no edit by a range
abbrev pub makes_no_edit_by_range : List Command → Bool
makes_no_edit_by_range cs = not (list_any edits_by_range cs)

abbrev pub without_watchers : List Command → List Command
without_watchers cs = commands_left only_watches cs

abbrev pub replies_without_watchers : List Command → List Reply → List Reply
replies_without_watchers cs rs = replies_left only_watches (λ c r. r) cs rs
