-- Each step takes one child, up to the one that ends the list.
use Rattle.std.proofs.Common.{true, false, [], ◌∷◌, refl, sym, ◌∙◌, append_assoc, append-nil}
use Rattle.dom_model.specs.Definitions.{children_of}
use Rattle.dom_edit.specs.InsertionPoints.{children_ahead}
use Rattle.dom_edit.proofs.{IsAmongLemmas.from_optional-given, IsAmongLemmas.parent-among, InsertionPointLemmas.ahead-here, InsertionPointLemmas.ahead-on, InsertionPointLemmas.ahead-none}
use Rattle.dom_content.proofs.{ChildrenBetween.given-is, child_slices.children_between.Goals.in-Some+then-eq, child_slices.children_between.Goals.in-None}
use Rattle.dom_content.proofs.child_slices.children_between.Goals as goal

pub children_from-child-items-requires : goal.children_from-child-items-requires
children_from-child-items-requires c = parent-among c.args.tree.now c.state_law.ensures c.args.parent c.args.from c.requires.child

pub loop-child-init : goal.loop-child-init
loop-child-init c =
    let all = children_of c.args.tree.now.forest c.args.parent in
    rw (c.new-list.ensures.items, c.into_iter-child-iterator.ensures.into_iter_gives, from_optional-given c.args.from c.children_from-child-items.result all c.children_from-child-items.ensures) refl

pub loop-child-preserved : goal.loop-child-preserved
loop-child-preserved c =
    let rest = c.next.new.self in
    let on = ahead-on c.args.until c.in-Some.child rest (given-is c.args.until c.in-Some.child false (sym c.eq.ensures ∙ c.if-eq.false)) in
    let so_far = rw (c.in-Some.ensures.steps, on) at c.loop-child.invariant in
    rw c.in_ok-push.ensures.items (append_assoc c.loop-child.list.items (c.in-Some.child ∷ []) (children_ahead c.args.until rest) ∙ so_far)

pub returns : goal.returns
returns c =
    elim c.match-next.branch [
      | in-Some+then-eq w ↦
          let gone = ahead-here c.args.until w.in-Some.child c.next.new.self (given-is c.args.until w.in-Some.child true (sym w.eq.ensures ∙ w.if-eq.true)) in
          let listed = rw (w.in-Some.ensures.steps, gone) at c.loop-child.invariant in
          sym (append-nil c.loop-child.list.items) ∙ listed
      | in-None w ↦
          let listed = rw (w.in-None.ensures.steps.0, ahead-none c.args.until) at c.loop-child.invariant in
          sym (append-nil c.loop-child.list.items) ∙ listed
    ]
