-- The start of a block has those of the blocks ahead before it.
use Rattle.std.proofs.Common.{◌≡◌, ◌<◌, length, refl, ap, ◌∙◌, arith}
use Rattle.dom_model.specs.Definitions.{entry_at, children_in, previous_in}
use Rattle.dom_model.proofs.PlainLists.Places.{place-there}
use Rattle.dom_links.specs.Placed.{slot_of}
use Rattle.dom_tree.specs.Blocks.{count_ahead, counts_in, if_in_block}
use Rattle.dom_tree.proofs.{BlockSteps.in-block, BlockSteps.block-few, BlockSteps.block-end, PlaceWalkLemmas.led, WrittenIndicesLemmas.listed_under, WrittenIndicesLemmas.ahead-next}
use Rattle.dom_tree.proofs.block_updates.index_in_block.Goals as goal

pub ahead_of-ahead-requires-clause-few : goal.ahead_of-ahead-requires-clause-few
ahead_of-ahead-requires-clause-few g c =
    let links = c.args.links.now in
    let p = slot_of links c.args.parent in
    let counts : c.in_ok-counts.counts.now ≡ counts_in c.args.blocks.now p = c.in_ok-counts.ensures ∙ ap (counts_in c.args.blocks.now) c.slot.ensures in
    let some : 0 < length (counts_in c.args.blocks.now p) = omega (arith, ap length counts, c.if-len-block.false, c.len.ensures) in
    omega (
      arith,
      ap (λ ns. count_ahead ns c.index_of-block.result) counts,
      ap (count_ahead (counts_in c.args.blocks.now p)) c.index_of-block.ensures,
      block-few c.requires.sound p (c.requires.blocked p some) (slot_of links c.args.child) c.requires.child (omega (arith, c.count.ensures, c.count.type_inv)),
    )

pub overflow_add-result : goal.overflow_add-result
overflow_add-result g c =
    let links = c.args.links.now in
    let p = slot_of links c.args.parent in
    let child = slot_of links c.args.child in
    let counts : c.in_ok-counts.counts.now ≡ counts_in c.args.blocks.now p = c.in_ok-counts.ensures ∙ ap (counts_in c.args.blocks.now) c.slot.ensures in
    let some : 0 < length (counts_in c.args.blocks.now p) = omega (arith, ap length counts, c.if-len-block.false, c.len.ensures) in
    let over = (led c.in-None.is c.prev_in_block.ensures).slot ∙ ap (if_in_block (entry_at links.arena) (previous_in (entry_at links.arena) (slot_of links c.loop-passed.here))) c.index_of-block.ensures in
    let end = block-end c.requires.sound p (c.requires.blocked p some) c.loop-passed.invariant.ahead c.requires.child c.loop-passed-test.true c.loop-passed.invariant.block over in
    omega (
      arith,
      end,
      c.ahead_of-ahead.ensures,
      ap (λ ns. count_ahead ns c.index_of-block.result) counts,
      ap (count_ahead (counts_in c.args.blocks.now p)) c.index_of-block.ensures,
      place-there child (children_in (entry_at links.arena p)) (listed_under c.requires.sound p child c.requires.child),
      c.count.ensures,
      c.count.type_inv,
    )

pub returns-in-None : goal.returns-in-None
returns-in-None g c =
    let links = c.args.links.now in
    let p = slot_of links c.args.parent in
    let counts : c.in_ok-counts.counts.now ≡ counts_in c.args.blocks.now p = c.in_ok-counts.ensures ∙ ap (counts_in c.args.blocks.now) c.slot.ensures in
    let some : 0 < length (counts_in c.args.blocks.now p) = omega (arith, ap length counts, c.if-len-block.false, c.len.ensures) in
    let over = (led c.in-None.is c.prev_in_block.ensures).slot ∙ ap (if_in_block (entry_at links.arena) (previous_in (entry_at links.arena) (slot_of links c.loop-passed.here))) c.index_of-block.ensures in
    let end = block-end c.requires.sound p (c.requires.blocked p some) c.loop-passed.invariant.ahead c.requires.child c.loop-passed-test.true c.loop-passed.invariant.block over in
    omega (arith, end, c.ahead_of-ahead.ensures, ap (λ ns. count_ahead ns c.index_of-block.result) counts, ap (count_ahead (counts_in c.args.blocks.now p)) c.index_of-block.ensures)

pub loop-passed-preserved : goal.loop-passed-preserved
loop-passed-preserved g c =
    let links = c.args.links.now in
    let p = slot_of links c.args.parent in
    let here = slot_of links c.loop-passed.here in
    let there = led c.in-Some.is c.prev_in_block.ensures in
    let b = in-block (entry_at links.arena) (previous_in (entry_at links.arena) here) c.index_of-block.result (slot_of links c.in-Some.prev) there.slot in
    record {
      ahead = ahead-next c.requires.sound p c.loop-passed.invariant.ahead c.loop-passed-test.true (slot_of links c.in-Some.prev) b.0;
      placed = there.placed c.in-Some.prev refl;
      block = b.1 ∙ c.index_of-block.ensures;
    }
