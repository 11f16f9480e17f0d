use Rattle.std.proofs.Common.{◌≡◌, ℕ, Option, ap, sym, ◌∙◌, arith}
use Rattle.std.proofs.lemmas.Grind.{common_steps}
use Rattle.dom_model.specs.Definitions.{Point, root_of}
use Rattle.dom_ranges.proofs.SameRootLemmas.{one-root}
use Rattle.dom_session.proofs.RangeFacts.{range-held}
use Rattle.dom_session.proofs.range_queries.compare_boundary_points.Goals.{then-how-eq3, else-how-eq3, then-how-eq1, else-how-eq1}
use Rattle.dom_session.proofs.range_queries.compare_boundary_points.Goals as goal

pub same_root-requires-clause-a_held : goal.same_root-requires-clause-a_held
same_root-requires-clause-a_held c = grind (arith, common_steps)

pub same_root-requires-clause-b_held : goal.same_root-requires-clause-b_held
same_root-requires-clause-b_held c = grind (arith, common_steps)

pub found_order-requires-clause-a_held : goal.found_order-requires-clause-a_held
found_order-requires-clause-a_held c = grind (arith, common_steps)

pub found_order-requires-clause-b_held : goal.found_order-requires-clause-b_held
found_order-requires-clause-b_held c = grind (arith, common_steps)

pub found_order-requires-clause-one_root : goal.found_order-requires-clause-one_root
found_order-requires-clause-one_root c =
    let f = c.args.world.now.tree.forest in
    let whole = c.requires.shown.shows.whole in
    let root : (Point → Option ℕ) = λ q. root_of f q.node in
    let held = range-held c.args.world.now whole c.args.range _ c.ends.ensures.ends in
    let source = range-held c.args.world.now whole c.args.source _ c.ends-2.ensures.ends in
    let starts : root_of f c.start.inside.node ≡ root_of f c.source_start.inside.node = one-root f _ _ (sym c.same_root.ensures ∙ c.if-not-same_root.false) in
    let first : root_of f c.start.inside.node ≡ root_of f c.ends.result.1.node = ap root c.start.view_is ∙ held.one_root in
    let second : root_of f c.source_start.inside.node ≡ root_of f c.ends-2.result.1.node = ap root c.source_start.view_is ∙ source.one_root in
    let this : root_of f c.if-how-eq3.this.node ≡ root_of f c.start.inside.node =
    elim c.if-how-eq3.branch [ then-how-eq3 w ↦ ap root w.this-is ∙ sym (ap root c.start.view_is) | else-how-eq3 w ↦ ap root w.this-is ∙ sym first ] in
    let other : root_of f c.if-how-eq1.other.node ≡ root_of f c.source_start.inside.node =
    elim c.if-how-eq1.branch [ then-how-eq1 w ↦ ap root w.other-is ∙ sym (ap root c.source_start.view_is) | else-how-eq1 w ↦ ap root w.other-is ∙ sym second ] in
    this ∙ starts ∙ sym other
