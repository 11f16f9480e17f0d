-- Children in different blocks are ordered as their blocks are.
use Rattle.std.proofs.Common.{◌≡◌, ◌<◌, length, ap, sym, ◌∙◌, arith}
use Rattle.dom_links.specs.Placed.{slot_of}
use Rattle.dom_tree.specs.Blocks.{counts_in}
use Rattle.dom_tree.proofs.BlockSteps.{block-order}
use Rattle.dom_tree.proofs.block_updates.before_by_block.Goals as goal

pub returns : goal.returns
returns g c =
    let links = c.args.links.now in
    let p = slot_of links c.args.parent in
    let counts : c.in_ok-counts.counts.now ≡ counts_in c.args.blocks.now p = c.in_ok-counts.ensures ∙ ap (counts_in c.args.blocks.now) c.slot.ensures in
    let some : 0 < length (counts_in c.args.blocks.now p) = omega (arith, ap length counts, c.if-len-eq0.false, c.len.ensures) in
    let a = c.index_of-a_block.ensures in
    let b = c.index_of-b_block.ensures in
    let order = block-order c.requires.sound p (c.requires.blocked p some) (slot_of links c.args.a) (slot_of links c.args.b) c.requires.a_child c.requires.b_child (λ e. c.if-a_block-b_block.false (a ∙ e ∙ sym b)) in
    rw (a, b) order
