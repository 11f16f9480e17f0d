-- From the one way to the other.
use Rattle.std.proofs.Common.{◌≡◌, ℕ, List, subst, IfOk}
use Rattle.dom_model.specs.Definitions.{children_of}
use Rattle.dom_model.proofs.Forests.Indices.{child-once}
use Rattle.dom_content.specs.DrawnParts.{index_behind}
use Rattle.dom_content.proofs.ChildrenBetween.{got-among, top-held, first-way, last-way, children-found}
use Rattle.dom_content.proofs.range_parts.contained_children.Goals as goal

pub child_behind-from-requires-clause-way : goal.child_behind-from-requires-clause-way
child_behind-from-requires-clause-way c =
    first-way c.args.tree.now c.state_law.ensures (record { start = c.args.start; end = c.args.end }) c.requires.range c.args.ancestor
    c.requires.ancestor
    c.args.first.now c.requires.first

pub child_at-until-requires-clause-way : goal.child_at-until-requires-clause-way
child_at-until-requires-clause-way c =
    last-way c.args.tree.now c.state_law.ensures (record { start = c.args.start; end = c.args.end }) c.requires.range c.args.ancestor
    c.requires.ancestor
    c.args.last.now c.requires.last

pub children_between-requires-clause-held : goal.children_between-requires-clause-held
children_between-requires-clause-held c =
    top-held c.args.tree.now c.state_law.ensures (record { start = c.args.start; end = c.args.end }) c.requires.range c.args.ancestor
    c.requires.ancestor

pub children_between-requires-clause-child : goal.children_between-requires-clause-child
children_between-requires-clause-child c =
    got-among (children_of c.args.tree.now.forest c.args.ancestor) (λ m. child-once c.args.tree.now.forest c.state_law.ensures.once m c.args.ancestor)
    (index_behind c.args.tree.now.forest c.args.start c.args.first.now) c.child_behind-from.result c.child_behind-from.ensures

pub returns : goal.returns
returns c =
    subst (λ (ns : List ℕ). IfOk c.children_between.result (λ list. list.items ≡ ns))
    (children-found c.args.tree.now c.state_law.ensures (record { start = c.args.start; end = c.args.end }) c.requires.range c.args.ancestor
    c.requires.ancestor
    c.child_behind-from.result c.child_at-until.result c.args.first.now c.args.last.now c.requires.first c.requires.last c.child_behind-from.ensures c.child_at-until.ensures)
    c.children_between.ensures
