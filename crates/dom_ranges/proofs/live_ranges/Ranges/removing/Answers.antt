-- Where no range is live nothing is done; else the parent closes up, and what stands inside goes to where the node stood.
use Rattle.std.proofs.Common.{sym, ap, ◌∙◌}
use Rattle.dom_model.specs.Definitions.{inclusive_descendants, parent_of, index_of, after_splice, map_ranges}
use Rattle.dom_ranges.specs.Tables.{moved_in}
use Rattle.dom_ranges.proofs.ForgetInsideLemmas.{closed-fit, still-removed, idle-removed, closed-removed, gathered-removed, if-each, if-some}
use Rattle.dom_ranges.proofs.live_ranges.Ranges.removing.Goals as goal

pub returns-then-is_idle : goal.returns-then-is_idle
returns-then-is_idle g c =
    if-each (parent_of c.args.tree.now.forest c.args.node) _
    (λ p. idle-removed c.args.self.now (inclusive_descendants c.args.tree.now.forest c.args.node) p (index_of c.args.tree.now.forest c.args.node) (c.is_idle.ensures c.if-is_idle.true))

pub returns-then-not-stands_in : goal.returns-then-not-stands_in
returns-then-not-stands_in g c =
    if-some _ _ c.unwrap-parent.result (sym c.parent.ensures ∙ c.unwrap-parent.ensures)
    (still-removed c.args.self.now (inclusive_descendants c.args.tree.now.forest c.args.node) c.unwrap-parent.result (index_of c.args.tree.now.forest c.args.node)
    (sym c.refers_within-inside.ensures ∙ c.if-not-inside.true) (sym c.stands_in.ensures ∙ c.if-not-stands_in.true))

pub returns-then-inside : goal.returns-then-inside
returns-then-inside g c =
    let i = c.index-index.ensures in
    if-some _ _ c.unwrap-parent.result (sym c.parent.ensures ∙ c.unwrap-parent.ensures)
    (gathered-removed c.args.self.now (inclusive_descendants c.args.tree.now.forest c.args.node) c.unwrap-parent.result (index_of c.args.tree.now.forest c.args.node)
    c.spliced.new.self c.gather.new.self
    (c.spliced.ensures ∙ ap (λ n. record c.args.self.now { ranges = map_ranges (after_splice c.unwrap-parent.result n 1 0) c.args.self.now.ranges }) i)
    (c.gather.ensures ∙ ap (λ n. record c.spliced.new.self { ranges = map_ranges (moved_in (inclusive_descendants c.args.tree.now.forest c.args.node) (record { node = c.unwrap-parent.result; offset = n })) c.spliced.new.self.ranges }) i))

pub returns-else-inside : goal.returns-else-inside
returns-else-inside g c =
    if-some _ _ c.unwrap-parent.result (sym c.parent.ensures ∙ c.unwrap-parent.ensures)
    (closed-removed c.args.self.now (inclusive_descendants c.args.tree.now.forest c.args.node) c.unwrap-parent.result (index_of c.args.tree.now.forest c.args.node)
    c.spliced.new.self (sym c.refers_within-inside.ensures ∙ c.if-inside.false)
    (c.spliced.ensures ∙ ap (λ n. record c.args.self.now { ranges = map_ranges (after_splice c.unwrap-parent.result n 1 0) c.args.self.now.ranges }) c.index-index.ensures))

pub spliced-requires : goal.spliced-requires
spliced-requires g c = closed-fit c.unwrap-parent.result c.index-index.result c.args.self.now.ranges
