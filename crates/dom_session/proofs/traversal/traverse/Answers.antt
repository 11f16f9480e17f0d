use Rattle.std.proofs.Common.{tests, rules}
use Rattle.dom_session.proofs.traversal.traverse.Goals as goal

pub returns-in-CreateIterator : goal.returns-in-CreateIterator
returns-in-CreateIterator c = search (tests, rules)

pub returns-in-CreateWalker : goal.returns-in-CreateWalker
returns-in-CreateWalker c = search (tests, rules)

pub returns-in-DescribeIterator : goal.returns-in-DescribeIterator
returns-in-DescribeIterator c = search (tests, rules)

pub returns-in-NextNode : goal.returns-in-NextNode
returns-in-NextNode c = search (tests, rules)

pub returns-in-PreviousNode : goal.returns-in-PreviousNode
returns-in-PreviousNode c = search (tests, rules)

pub returns-in-DescribeWalker : goal.returns-in-DescribeWalker
returns-in-DescribeWalker c = search (tests, rules)

pub returns-in-SetCurrent : goal.returns-in-SetCurrent
returns-in-SetCurrent c = search (tests, rules)

pub returns-in-Walk : goal.returns-in-Walk
returns-in-Walk c = search (tests, rules)

pub returns-in-ReleaseIterator : goal.returns-in-ReleaseIterator
returns-in-ReleaseIterator c = search (tests, rules)

pub returns-in-ReleaseWalker : goal.returns-in-ReleaseWalker
returns-in-ReleaseWalker c = search (tests, rules)
