-- Into the node, or past it.
use Rattle.std.proofs.Common.{◌≡◌, ap}
use Rattle.dom_model.proofs.Traversal.WalksEnd.{LeadsOn-then}
use Rattle.dom_tree.specs.Spots.{Spot, node_at}
use Rattle.dom_traverse.proofs.{SiblingWalkLemmas.goes_into, SiblingWalkLemmas.goes_past, SpotLemmas.for-one}
use Rattle.dom_traverse.proofs.sibling_walk.SiblingWalk.onward.Goals as goal

pub returns-in-Some-clause-tree : goal.returns-in-Some-clause-tree
returns-in-Some-clause-tree g c =
    for-one (λ (a : Spot g.row.X.Denot). a.tree ≡ c.args.node.tree) c.in-Some.child (c.way_into.ensures.tree c.in-Some.child c.in-Some.is)

pub returns-in-Some-clause-leads : goal.returns-in-Some-clause-leads
returns-in-Some-clause-leads g c =
    goes_into c.args.node.tree.forest c.args.filter.now c.args.self.now c.args.node.node c.in-Some.child.node c.args.verdict (node_at c.way_into.result) c.requires.verdict c.requires.not_accepted c.way_into.ensures.node (ap node_at c.in-Some.is)

pub past-requires : goal.past-requires
past-requires g c =
    (goes_past c.args.node.tree.forest c.args.filter.now c.args.self.now c.args.node.node c.args.verdict (node_at c.way_into.result) c.requires.verdict c.requires.not_accepted c.way_into.ensures.node (ap node_at c.in_default.is)).leads.ends c.requires.ends

pub returns-clause-leads : goal.returns-clause-leads
returns-clause-leads g c =
    LeadsOn-then
    (goes_past c.args.node.tree.forest c.args.filter.now c.args.self.now c.args.node.node c.args.verdict (node_at c.way_into.result) c.requires.verdict c.requires.not_accepted c.way_into.ensures.node (ap node_at c.in_default.is))
    c.past.ensures.leads
