use Rattle.std.proofs.Common.{◌≡◌, ℕ, Some, [], ◌∷◌, ap, sym, ◌∙◌, subst, arith}
use Rattle.dom_model.specs.Definitions.{parent_of, taken_out}
use Rattle.dom_model.proofs.Forests.{Climbing.hits-first}
use Rattle.dom_edit.specs.{declared.world.World.World, Insertion.IsUnreferred, KeptNodes.present, OlderNodes.LeavesAll, Whole.Follows}
use Rattle.dom_edit.proofs.{RemoveLemmas.parent-held, RemoveLemmas.follows-cut_out, RemoveLemmas.whole-taken, RemoveLemmas.follows-suppressed, LeavesOlderLemmas.cut-left, LeavesOlderLemmas.quiet-above, LeavesOlderLemmas.same-left, IsUnreferredLemmas.ends-stay, KeepsNodesLemmas.nodes-then, KeepsNodesLemmas.nodes-observed, KeepsNodesLemmas.nodes-cut, KeepsWatchersLemmas.watchers-cut}
use Rattle.dom_edit.proofs.world.World.remove_unreferred.Goals as goal

-- the parent is the same, once transient registrations are made
still : (v mid : World) (n p : ℕ) → mid ≡ record v { observers = mid.observers } → parent_of v.tree.forest n ≡ Some p → parent_of mid.tree.forest n ≡ Some p
still v mid n p e child = ap (λ (w : World). parent_of w.tree.forest n) e ∙ child

pub make_transients-requires-clause-held : goal.make_transients-requires-clause-held
make_transients-requires-clause-held c = parent-held c.args.self.now c.requires.whole c.args.node c.args.parent c.requires.child

pub returns-in_err-make_transients-clause-left : goal.returns-in_err-make_transients-clause-left
returns-in_err-make_transients-clause-left c a h newer l =
    let v = c.args.self.now in
    let p = c.args.parent in
    same-left a h v c.make_transients.new.self (c.make_transients.ensures.quiet (quiet-above a h v l c.requires.whole.forest.once p (newer p (hits-first p (c.args.node ∷ []))))) l

pub returns-clause-removed : goal.returns-clause-removed
returns-clause-removed c =
    let v = c.args.self.now in
    let n = c.args.node in
    let p = c.args.parent in
    let mid = c.make_transients.new.self in
    let new = c.cut_out.new.self in
    let child = still v mid n p c.make_transients.ensures.parts c.requires.child in
    let free = subst (λ (w : World). IsUnreferred w p) (sym c.make_transients.ensures.parts) c.requires.unreferred in
    let taken : Follows mid new (taken_out n p) = follows-cut_out mid new n p mid.ranges (ends-stay mid c.make_transients.ensures.whole p n child free) c.cut_out.ensures in
    follows-suppressed v mid new n p c.requires.whole c.requires.child c.in_ok-make_transients.ensures.made taken

pub returns-clause-whole : goal.returns-clause-whole
returns-clause-whole c =
    let v = c.args.self.now in
    let n = c.args.node in
    let p = c.args.parent in
    let mid = c.make_transients.new.self in
    let new = c.cut_out.new.self in
    let child = still v mid n p c.make_transients.ensures.parts c.requires.child in
    let free = subst (λ (w : World). IsUnreferred w p) (sym c.make_transients.ensures.parts) c.requires.unreferred in
    let taken : Follows mid new (taken_out n p) = follows-cut_out mid new n p mid.ranges (ends-stay mid c.make_transients.ensures.whole p n child free) c.cut_out.ensures in
    whole-taken mid new n p c.make_transients.ensures.whole child taken (ap (λ (w : World). w.ranges.covered) c.cut_out.ensures) (ap (λ (w : World). w.observers) c.cut_out.ensures)

pub returns-clause-kept : goal.returns-clause-kept
returns-clause-kept c =
    let v = c.args.self.now in
    let mid = c.make_transients.new.self in
    let new = c.cut_out.new.self in
    nodes-then v mid new (nodes-observed v mid c.make_transients.ensures.parts c.make_transients.ensures.observers)
    (nodes-cut mid new c.args.node c.make_transients.ensures.whole (ap (λ (w : World). w.tree) c.cut_out.ensures) (ap (λ (w : World). w.statics) c.cut_out.ensures) (ap (λ (w : World). w.walkers) c.cut_out.ensures)
    (watchers-cut mid new c.args.node (ap (λ (w : World). present w.ranges.ranges) c.cut_out.ensures) (ap (λ (w : World). w.iterators) c.cut_out.ensures) (ap (λ (w : World). w.observers) c.cut_out.ensures)))

pub returns-clause-left : goal.returns-clause-left
returns-clause-left c a h newer l =
    let v = c.args.self.now in
    let p = c.args.parent in
    let n = c.args.node in
    let mid = c.make_transients.new.self in
    let m : LeavesAll a mid = same-left a h v mid (c.make_transients.ensures.quiet (quiet-above a h v l c.requires.whole.forest.once p (newer p (hits-first p (n ∷ []))))) l in
    cut-left a h mid m c.cut_out.new.self n (newer n (let i = hits-first n [] in omega arith)) c.cut_out.ensures
