use Rattle.std.proofs.Common.{refl, sym, ◌∙◌}
use Rattle.dom_model.specs.Definitions.{children_of}
use Rattle.dom_edit.proofs.{IsAmongLemmas.from-among, IsAmongLemmas.first-among, IsAmongLemmas.from_optional-given, IsAmongLemmas.HasNode-child, IsAmongLemmas.parent-among, InsertionPointLemmas.ahead-here, InsertionPointLemmas.ahead-none, InsertionPointLemmas.no-more}
use Rattle.dom_edit.proofs.insertion_point.found_between.Goals as goal

pub children_from-child-items-requires : goal.children_from-child-items-requires
children_from-child-items-requires c = parent-among c.args.tree.now c.state_law.ensures c.args.parent c.args.from c.requires.child

pub loop-child-init : goal.loop-child-init
loop-child-init c =
    let all = children_of c.args.tree.now.forest c.args.parent in
    rw (c.into_iter-child-iterator.ensures.into_iter_gives, from_optional-given c.args.from c.children_from-child-items.result all c.children_from-child-items.ensures)
    (record { element = refl; doctype = refl; within = from-among c.args.from all })

pub is_of_kind-element-requires : goal.is_of_kind-element-requires
is_of_kind-element-requires c =
    let within = rw c.in-Some.ensures.steps at c.loop-child.invariant.within in
    HasNode-child c.args.tree.now c.state_law.ensures c.args.parent c.in-Some.child (first-among c.in-Some.child c.next.new.self (children_of c.args.tree.now.forest c.args.parent) within)

pub is_of_kind-doctype-requires : goal.is_of_kind-doctype-requires
is_of_kind-doctype-requires c =
    let within = rw c.in-Some.ensures.steps at c.loop-child.invariant.within in
    HasNode-child c.args.tree.now c.state_law.ensures c.args.parent c.in-Some.child (first-among c.in-Some.child c.next.new.self (children_of c.args.tree.now.forest c.args.parent) within)

pub returns-then-is_number : goal.returns-then-is_number
returns-then-is_number c =
    let gone = ahead-here c.args.until c.in-Some.child c.next.new.self (sym c.is_number.ensures ∙ c.if-is_number.true) in
    let element = rw (c.in-Some.ensures.steps, gone) at c.loop-child.invariant.element in
    let doctype = rw (c.in-Some.ensures.steps, gone) at c.loop-child.invariant.doctype in
    record { element = no-more _ c.loop-child.found.element element; doctype = no-more _ c.loop-child.found.doctype doctype }

pub returns : goal.returns
returns c =
    let element = rw (c.in-None.ensures.steps.0, ahead-none c.args.until) at c.loop-child.invariant.element in
    let doctype = rw (c.in-None.ensures.steps.0, ahead-none c.args.until) at c.loop-child.invariant.doctype in
    record { element = no-more _ c.loop-child.found.element element; doctype = no-more _ c.loop-child.found.doctype doctype }
