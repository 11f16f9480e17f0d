use Rattle.std.proofs.Common.{◌≡◌, Some, ◌∙◌, ap}
use Rattle.dom_model.specs.Definitions.{parent_of, taken_out}
use Rattle.dom_edit.specs.{declared.world.World.World, Whole.Follows}
use Rattle.dom_edit.proofs.{RemoveLemmas.it_is, RemoveLemmas.parent-held, RemoveLemmas.parent-apart, RemoveLemmas.follows-suppressed, RemoveLemmas.follows-noted, KeepsNodesLemmas.previous-held, KeepsNodesLemmas.next-held}
use Rattle.dom_edit.proofs.world.World.remove_node.Goals as goal

pub make_transients-requires-clause-held : goal.make_transients-requires-clause-held
make_transients-requires-clause-held c = parent-held c.args.self.now c.requires.whole c.args.node c.in-Some.seat.parent c.in-Some.ensures.parent

pub returns-then-suppressed-clause-removed : goal.returns-then-suppressed-clause-removed
returns-then-suppressed-clause-removed c =
    let v = c.args.self.now in
    let n = c.args.node in
    let p = c.in-Some.seat.parent in
    let mid = c.make_transients.new.self in
    let new = c.take_out.new.self in
    let e : parent_of v.tree.forest n ≡ Some p = c.in-Some.ensures.parent in
    let still : parent_of mid.tree.forest n ≡ Some p = ap (λ (w : World). parent_of w.tree.forest n) c.make_transients.ensures.parts ∙ e in
    let taken : Follows mid new (taken_out n p) = it_is _ (parent_of mid.tree.forest n) p still c.take_out.ensures.taken in
    rw c.if-suppressed.true (follows-suppressed v mid new n p c.requires.whole e c.in_ok-make_transients.ensures.made taken)

pub note_removal-requires-clause-held : goal.note_removal-requires-clause-held
note_removal-requires-clause-held c = parent-held c.args.self.now c.requires.whole c.args.node c.in-Some.seat.parent c.in-Some.ensures.parent

pub note_removal-requires-clause-apart : goal.note_removal-requires-clause-apart
note_removal-requires-clause-apart c = parent-apart c.args.self.now c.args.node c.in-Some.seat.parent c.requires.whole c.in-Some.ensures.parent

pub note_removal-requires-clause-previous : goal.note_removal-requires-clause-previous
note_removal-requires-clause-previous c = previous-held c.args.self.now c.requires.whole c.args.node c.requires.held c.in-Some.seat.previous c.in-Some.ensures.previous

pub note_removal-requires-clause-next : goal.note_removal-requires-clause-next
note_removal-requires-clause-next c = next-held c.args.self.now c.requires.whole c.args.node c.requires.held c.in-Some.seat.next c.in-Some.ensures.next

pub returns-clause-removed : goal.returns-clause-removed
returns-clause-removed c =
    let v = c.args.self.now in
    let n = c.args.node in
    let p = c.in-Some.seat.parent in
    let mid = c.note_removal.new.self in
    let new = c.take_out-2.new.self in
    let e : parent_of v.tree.forest n ≡ Some p = c.in-Some.ensures.parent in
    let still : parent_of mid.tree.forest n ≡ Some p = ap (λ (w : World). parent_of w.tree.forest n) c.note_removal.ensures.parts ∙ e in
    let taken : Follows mid new (taken_out n p) = it_is _ (parent_of mid.tree.forest n) p still c.take_out-2.ensures.taken in
    let noted = rw (c.in-Some.ensures.previous, c.in-Some.ensures.next) at c.in_ok-note_removal.ensures.noted in
    rw c.if-suppressed.false (follows-noted v mid new n p c.requires.whole e noted taken)

pub returns-then-suppressed-clause-unobserved : goal.returns-then-suppressed-clause-unobserved
returns-then-suppressed-clause-unobserved c none = c.take_out.ensures.observers ∙ ap (λ (w : World). w.observers) (c.make_transients.ensures.unobserved none)

pub returns-clause-unobserved : goal.returns-clause-unobserved
returns-clause-unobserved c none = c.take_out-2.ensures.observers ∙ ap (λ (w : World). w.observers) (c.note_removal.ensures.unobserved none)
