-- The sum fits, and is the offset.
use Rattle.std.proofs.Common.{◌+◌, ap, sym, ◌∙◌, arith}
use Rattle.dom_model.proofs.Forests.Entries.{occurs-HasNode}
use Rattle.dom_edit.specs.Whole.{unwatched}
use Rattle.dom_wrap.specs.Outcomes.{insertion_index}
use Rattle.dom_wrap.proofs.PlacesPast.{offset-sum, sum-within}
use Rattle.dom_wrap.proofs.insert_into_range.offset_past.Goals as goal

pub overflow_add-result : goal.overflow_add-result
overflow_add-result c =
    let v = c.args.world.now in
    let sum = sum-within v c.requires.whole c.args.parent c.args.node c.args.reference (occurs-HasNode v.tree.forest c.args.node c.requires.node_held) c.requires.allowed in
    omega (arith, sum, c.index_before-index.ensures, c.entering_count.ensures, c.live.ensures, c.live.type_inv)

pub returns : goal.returns
returns c =
    let w = unwatched c.args.world.now in
    ap (λ i. i + c.entering_count.result) c.index_before-index.ensures ∙ ap (λ k. insertion_index w c.args.parent c.args.reference + k) c.entering_count.ensures ∙ sym (offset-sum w c.args.parent c.args.reference c.args.node)
