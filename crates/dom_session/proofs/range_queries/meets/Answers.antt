use Rattle.std.proofs.Common.{sym, ap, ◌∙◌}
use Rattle.dom_model.specs.Definitions.{Point, root_of}
use Rattle.dom_model.proofs.Forests.Above.{above}
use Rattle.dom_ranges.proofs.SameRootLemmas.{one-root}
use Rattle.dom_session.proofs.RangeFacts.{around-parent, root-above}
use Rattle.dom_session.proofs.range_queries.meets.Goals as goal

pub found_before-requires-clause-a_held : goal.found_before-requires-clause-a_held
found_before-requires-clause-a_held c =
    let parent = around-parent c.args.tree.now.forest c.args.node _ (sym c.in-Some.ensures.around) in
    let held = (above c.state_law.ensures c.args.node _ c.requires.node_held parent.0).there in
    rw c.found_around.ensures.unchanged held

pub found_before-requires-clause-one_root : goal.found_before-requires-clause-one_root
found_before-requires-clause-one_root c =
    let f = c.args.tree.now.forest in
    let parent = around-parent f c.args.node _ (sym c.in-Some.ensures.around) in
    let root = sym (root-above c.state_law.ensures c.args.node _ c.requires.node_held parent.0)
    ∙ one-root f c.args.node c.start.inside.node (sym c.same_root.ensures ∙ c.if-not-same_root.false)
    ∙ ap (λ (q : Point). root_of f q.node) c.start.view_is
    ∙ c.requires.stands.one_root in
    rw c.found_around.ensures.unchanged root

pub found_before-requires-then-found_before-clause-b_held : goal.found_before-requires-then-found_before-clause-b_held
found_before-requires-then-found_before-clause-b_held c =
    let parent = around-parent c.args.tree.now.forest c.args.node _ (sym c.in-Some.ensures.around) in
    let held = (above c.state_law.ensures c.args.node _ c.requires.node_held parent.1).there in
    rw (c.found_before.ensures.unchanged, c.found_around.ensures.unchanged) held

pub found_before-requires-then-found_before-clause-one_root : goal.found_before-requires-then-found_before-clause-one_root
found_before-requires-then-found_before-clause-one_root c =
    let f = c.args.tree.now.forest in
    let parent = around-parent f c.args.node _ (sym c.in-Some.ensures.around) in
    let root = sym (one-root f c.args.node c.start.inside.node (sym c.same_root.ensures ∙ c.if-not-same_root.false)
    ∙ ap (λ (q : Point). root_of f q.node) c.start.view_is)
    ∙ root-above c.state_law.ensures c.args.node _ c.requires.node_held parent.1 in
    rw (c.found_before.ensures.unchanged, c.found_around.ensures.unchanged) root
