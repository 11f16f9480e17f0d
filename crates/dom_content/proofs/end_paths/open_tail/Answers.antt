-- The children behind the next node are there.
use Rattle.std.proofs.Common.{[], ◌∙◌}
use Rattle.std.proofs.lemmas.Result.{IfOk-weaker}
use Rattle.dom_model.specs.Definitions.{past, children_of}
use Rattle.dom_model.proofs.RangesAndContents.DrawnPaths.{hits-past}
use Rattle.dom_content.specs.DrawConditions.{AreOld}
use Rattle.dom_content.proofs.MayDrawLemmas.{first-old, more-old, children-old}
use Rattle.dom_content.proofs.end_paths.open_tail.Goals as goal

pub open_partial-requires-clause-may : goal.open_partial-requires-clause-may
open_partial-requires-clause-may c =
    let v = c.args.world.now in
    let m = c.requires.may in
    let o = first-old m.low v.tree.forest c.args.node [] m.nodes in
    let kids = children-old v c.requires.whole m.low m.rising c.args.into m.holder c.args.node o c.requires.no_data (past c.args.next (children_of v.tree.forest c.args.node)) (λ x. hits-past x c.args.next (children_of v.tree.forest c.args.node)) in
    let listed : AreOld m.low v.tree.forest c.in_ok-behind.behind.items = rw c.in_ok-behind.ensures kids in
    record { low = m.low; rising = m.rising; holder = m.holder; nodes = more-old m.low v.tree.forest c.args.node c.in_ok-behind.behind.items o listed }

pub returns-clause-children : goal.returns-clause-children
returns-clause-children c = IfOk-weaker c.open_partial.result _ _ (λ p e. e ∙ c.in_ok-behind.ensures) c.open_partial.ensures.children

pub returns-in_err-behind-clause-left : goal.returns-in_err-behind-clause-left
returns-in_err-behind-clause-left c a h newer l = l

pub returns-clause-left : goal.returns-clause-left
returns-clause-left c = c.open_partial.ensures.left

pub returns-clause-begun : goal.returns-clause-begun
returns-clause-begun c = c.open_partial.ensures.begun
