use Rattle.std.proofs.Common.{◌≡◌, ℕ, List, [], ◌∷◌, length, refl, ap, sym, ◌∙◌, subst, arith, unwrap_or}
use Rattle.dom_model.specs.Definitions.{size, original, with_copies}
use Rattle.dom_edit.specs.Whole.{Follows}
use Rattle.dom_clone.specs.declared.walk_stack.Waiting.{Waiting}
use Rattle.dom_clone.proofs.{LeavesAllLemmas.left-then, LeavesAllLemmas.left-copying, IsCopyingLemmas.some-copied, IsCopyingLemmas.first-held, IsCopyingLemmas.copying-starts, IsCopyingLemmas.copied-alone, IsCopyingLemmas.copying-ends, IsCopyingLemmas.next-held, IsCopyingLemmas.parent-held, IsCopyingLemmas.may-stand, IsCopyingLemmas.more-to_come, IsCopyingLemmas.original-held, IsCopyingLemmas.next-made, IsCopyingLemmas.copying-goes_on}
use Rattle.dom_clone.proofs.clones.copy_tree.Goals as goal

no_items : (ws : List (Waiting ℕ)) → length ws ≡ 0 → ws ≡ []
no_items [] e = refl
no_items (w ∷ ws) e = absurd (omega arith)

pub copy_node-requires-clause-room : goal.copy_node-requires-clause-room
copy_node-requires-clause-room c =
    let v = c.args.world.now in
    omega (arith, c.requires.room, some-copied v.tree.forest c.requires.whole.forest.once c.args.node c.requires.held c.args.deep)

pub returns-then-not-deep-clause-copied : goal.returns-then-not-deep-clause-copied
returns-then-not-deep-clause-copied c =
    let v = c.args.world.now in
    let d = unwrap_or c.args.document v.tree.made in
    let k = copied-alone v c.copy_node.new.world c.requires.whole c.args.node d c.requires.held c.in_ok-top.ensures.copied in
    subst (λ b. Follows v c.copy_node.new.world (λ w. with_copies d (original b c.args.node w.forest) w)) (sym c.if-not-deep.true) k

pub first-requires : goal.first-requires
first-requires c =
    let v = c.args.world.now in
    first-held v c.copy_node.new.world c.requires.whole c.args.node (unwrap_or c.args.document v.tree.made) c.requires.held c.in_ok-top.ensures.copied

pub loop-next-init : goal.loop-next-init
loop-next-init c =
    let v = c.args.world.now in
    let start = copying-starts v c.copy_node.new.world c.requires.whole c.args.node (unwrap_or c.args.document v.tree.made) c.requires.held c.in_ok-top.ensures.copied c.in_ok-top.ensures.whole in
    record {
      copying = rw (c.in_ok-wait_for.ensures, c.new-waiting.ensures.items, c.first.ensures, c.in_ok-top.ensures.number) start;
      observers = c.in_ok-top.ensures.left.observers;
    }

pub copy_under-requires-clause-held : goal.copy_under-requires-clause-held
copy_under-requires-clause-held c =
    let v = c.args.world.now in
    next-held v c.requires.whole c.args.node (unwrap_or c.args.document v.tree.made) c.loop-next.world c.pop.new.self.items c.in-Some.next (rw c.in-Some.ensures.items at c.loop-next.invariant.copying)

pub copy_under-requires-clause-parent_held : goal.copy_under-requires-clause-parent_held
copy_under-requires-clause-parent_held c =
    let v = c.args.world.now in
    parent-held v c.requires.whole c.args.node (unwrap_or c.args.document v.tree.made) c.loop-next.world c.pop.new.self.items c.in-Some.next (rw c.in-Some.ensures.items at c.loop-next.invariant.copying)

pub copy_under-requires-clause-room : goal.copy_under-requires-clause-room
copy_under-requires-clause-room c =
    let v = c.args.world.now in
    let more = more-to_come v c.requires.whole c.args.node (unwrap_or c.args.document v.tree.made) c.loop-next.world c.pop.new.self.items c.in-Some.next (rw c.in-Some.ensures.items at c.loop-next.invariant.copying) in
    let e = ap (λ b. size (original b c.args.node v.tree.forest)) c.if-not-deep.false in
    omega (arith, c.requires.room, more, e)

pub copy_under-requires-clause-kinds : goal.copy_under-requires-clause-kinds
copy_under-requires-clause-kinds c =
    let v = c.args.world.now in
    may-stand v c.requires.whole c.args.node (unwrap_or c.args.document v.tree.made) c.loop-next.world c.pop.new.self.items c.in-Some.next (rw c.in-Some.ensures.items at c.loop-next.invariant.copying)

pub next-requires : goal.next-requires
next-requires c =
    let v = c.args.world.now in
    original-held v c.requires.whole c.args.node (unwrap_or c.args.document v.tree.made) c.loop-next.world c.pop.new.self.items c.in-Some.next (rw c.in-Some.ensures.items at c.loop-next.invariant.copying) c.copy_under.new.world c.in_ok-copy.ensures.copied

pub first-requires-in-Some : goal.first-requires-in-Some
first-requires-in-Some c =
    let v = c.args.world.now in
    original-held v c.requires.whole c.args.node (unwrap_or c.args.document v.tree.made) c.loop-next.world c.pop.new.self.items c.in-Some.next (rw c.in-Some.ensures.items at c.loop-next.invariant.copying) c.copy_under.new.world c.in_ok-copy.ensures.copied

pub loop-next-smaller : goal.loop-next-smaller
loop-next-smaller c =
    let v = c.args.world.now in
    let i = rw c.in-Some.ensures.items at c.loop-next.invariant.copying in
    let more = more-to_come v c.requires.whole c.args.node (unwrap_or c.args.document v.tree.made) c.loop-next.world c.pop.new.self.items c.in-Some.next i in
    let made = next-made v c.requires.whole c.args.node (unwrap_or c.args.document v.tree.made) c.loop-next.world c.pop.new.self.items c.in-Some.next i c.copy_under.new.world c.in_ok-copy.ensures.copied in
    omega (arith, more, made)

pub loop-next-preserved : goal.loop-next-preserved
loop-next-preserved c =
    let v = c.args.world.now in
    let i = rw c.in-Some.ensures.items at c.loop-next.invariant.copying in
    let step = copying-goes_on v c.requires.whole c.args.node (unwrap_or c.args.document v.tree.made) c.loop-next.world c.pop.new.self.items c.in-Some.next i c.copy_under.new.world c.in_ok-copy.ensures.copied c.in_ok-copy.ensures.whole in
    record {
      copying = rw (c.in_ok-wait_for-3.ensures, c.in_ok-wait_for-2.ensures, c.next.ensures, c.first-in-Some.ensures, c.in_ok-copy.ensures.number) step;
      observers = c.in_ok-copy.ensures.observers ∙ c.loop-next.invariant.observers;
    }

pub returns-clause-copied : goal.returns-clause-copied
returns-clause-copied c =
    let v = c.args.world.now in
    let d = unwrap_or c.args.document v.tree.made in
    let none : c.loop-next.waiting.items ≡ [] = no_items c.loop-next.waiting.items (omega (arith, c.loop-next.waiting.ok, c.in_default.ensures.cases.0)) in
    let i = rw none at c.loop-next.invariant.copying in
    let k = copying-ends v c.args.node d c.loop-next.world i in
    subst (λ b. Follows v c.loop-next.world (λ w. with_copies d (original b c.args.node w.forest) w)) (sym c.if-not-deep.false) k

pub returns-in_err-copy-clause-left : goal.returns-in_err-copy-clause-left
returns-in_err-copy-clause-left c =
    let v = c.args.world.now in
    let so_far = left-copying v c.args.node (unwrap_or c.args.document v.tree.made) c.loop-next.world c.loop-next.invariant.copying c.loop-next.invariant.observers in
    left-then v c.loop-next.world c.copy_under.new.world so_far c.in_err-copy.ensures.failed

pub returns-in_err-wait_for-2-clause-left : goal.returns-in_err-wait_for-2-clause-left
returns-in_err-wait_for-2-clause-left c =
    let v = c.args.world.now in
    let i = rw c.in-Some.ensures.items at c.loop-next.invariant.copying in
    let step = copying-goes_on v c.requires.whole c.args.node (unwrap_or c.args.document v.tree.made) c.loop-next.world c.pop.new.self.items c.in-Some.next i c.copy_under.new.world c.in_ok-copy.ensures.copied c.in_ok-copy.ensures.whole in
    left-copying v c.args.node (unwrap_or c.args.document v.tree.made) c.copy_under.new.world step (c.in_ok-copy.ensures.observers ∙ c.loop-next.invariant.observers)

pub returns-in_err-wait_for-3-clause-left : goal.returns-in_err-wait_for-3-clause-left
returns-in_err-wait_for-3-clause-left c =
    let v = c.args.world.now in
    let i = rw c.in-Some.ensures.items at c.loop-next.invariant.copying in
    let step = copying-goes_on v c.requires.whole c.args.node (unwrap_or c.args.document v.tree.made) c.loop-next.world c.pop.new.self.items c.in-Some.next i c.copy_under.new.world c.in_ok-copy.ensures.copied c.in_ok-copy.ensures.whole in
    left-copying v c.args.node (unwrap_or c.args.document v.tree.made) c.copy_under.new.world step (c.in_ok-copy.ensures.observers ∙ c.loop-next.invariant.observers)

pub returns-clause-left : goal.returns-clause-left
returns-clause-left c =
    let v = c.args.world.now in
    left-copying v c.args.node (unwrap_or c.args.document v.tree.made) c.loop-next.world c.loop-next.invariant.copying c.loop-next.invariant.observers
