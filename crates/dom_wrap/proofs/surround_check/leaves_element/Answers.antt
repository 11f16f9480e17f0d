use Rattle.std.proofs.Common.{Bool, refl, sym, ◌∙◌}
use Rattle.std.specs.List.{list_any}
use Rattle.dom_model.specs.Definitions.{children_of}
use Rattle.dom_model.proofs.Forests.{Chains.root-child, Indices.child-parent, Indices.child-there}
use Rattle.dom_edit.specs.Whole.{unwatched}
use Rattle.dom_edit.proofs.IsAmongLemmas.{first-among, HasNode-child}
use Rattle.dom_wrap.specs.SurroundRefusal.{is_left_element}
use Rattle.dom_wrap.proofs.AllowCode.{found-first}
use Rattle.dom_wrap.proofs.surround_check.leaves_element.Goals as goal

pub loop-child-init : goal.loop-child-init
loop-child-init c = rw (c.into_iter-child-iterator.ensures.into_iter_gives, c.children-child-items.ensures) (record { told = refl; within = λ m h. h })

pub is_left_element-requires-clause-held : goal.is_left_element-requires-clause-held
is_left_element-requires-clause-held c =
    let within = rw c.in-Some.ensures.steps at c.loop-child.invariant.within in
    let here = first-among c.in-Some.child c.next.new.self (children_of c.args.world.now.tree.forest c.args.parent) within in
    HasNode-child c.args.world.now.tree c.state_law.ensures c.args.parent c.in-Some.child here

pub is_left_element-requires-clause-start_root : goal.is_left_element-requires-clause-start_root
is_left_element-requires-clause-start_root c =
    let f = c.args.world.now.tree.forest in
    let once = c.state_law.ensures.once in
    let within = rw c.in-Some.ensures.steps at c.loop-child.invariant.within in
    let here = first-among c.in-Some.child c.next.new.self (children_of f c.args.parent) within in
    root-child f once c.in-Some.child c.args.parent (child-there f once c.in-Some.child c.args.parent here) (child-parent f once c.in-Some.child c.args.parent here) ∙ c.requires.start_root

pub is_left_element-requires-clause-end_root : goal.is_left_element-requires-clause-end_root
is_left_element-requires-clause-end_root c =
    let f = c.args.world.now.tree.forest in
    let once = c.state_law.ensures.once in
    let within = rw c.in-Some.ensures.steps at c.loop-child.invariant.within in
    let here = first-among c.in-Some.child c.next.new.self (children_of f c.args.parent) within in
    root-child f once c.in-Some.child c.args.parent (child-there f once c.in-Some.child c.args.parent here) (child-parent f once c.in-Some.child c.args.parent here) ∙ c.requires.end_root

pub returns-then-is_left_element : goal.returns-then-is_left_element
returns-then-is_left_element c =
    let left : _ → Bool = is_left_element (unwatched c.args.world.now) (record { start = c.args.start; end = c.args.end }) in
    let told = rw c.in-Some.ensures.steps at c.loop-child.invariant.told in
    found-first left c.in-Some.child c.next.new.self (list_any left (children_of c.args.world.now.tree.forest c.args.parent)) told (sym c.is_left_element.ensures ∙ c.if-is_left_element.true)

pub returns : goal.returns
returns c = (let told = rw c.in-None.ensures.steps.0 at c.loop-child.invariant.told in sym told)
