-- The children are in blocks, or those up to the child are numbered.
use Rattle.std.proofs.Common.{◌≡◌, ℕ, [], refl, sym, subst, arith}
use Rattle.dom_links.specs.Placed.{slot_of}
use Rattle.dom_tree.specs.{Places.AreRenumbered, Blocks.AreFilled, Blocks.counts_in, Blocks.counts_but}
use Rattle.dom_tree.proofs.BlocksKept.{blocked-filled, blocked-numbered}
use Rattle.dom_tree.proofs.block_updates.number_around.Goals as goal

pub returns-then-fill : goal.returns-then-fill
returns-then-fill g c =
    let links = c.args.links.now in
    let p = slot_of links c.args.parent in
    let table = c.fill.new.self in
    let filled = c.if-fill.ensures.filled refl in
    subst (AreRenumbered links c.number_blocks.new.links) (sym c.number_blocks.ensures.blocks) record {
      renumbered = blocked-filled c.requires.sound c.args.blocks.now c.requires.blocked c.number_blocks.new.links.arena p c.number_blocks.ensures.written.blocks c.requires.counted (omega (arith, c.count.ensures, c.count.type_inv)) table
          (subst (λ n. AreFilled (counts_in table p) n) c.count.ensures (subst (λ s. AreFilled (counts_in table s) c.count.result) c.slot-slot.ensures filled))
          (subst (λ s. (q : ℕ) → counts_in table q ≡ counts_but s (counts_in table s) c.args.blocks.now q) c.slot-slot.ensures c.fill.ensures.others);
      places = c.number_blocks.ensures.written.places;
    }

pub returns-else-fill : goal.returns-else-fill
returns-else-fill g c =
    let links = c.args.links.now in
    let p = slot_of links c.args.parent in
    let table = c.fill.new.self in
    subst (AreRenumbered links c.number_up_to.new.links) (sym c.cache_block-else-fill.ensures) record {
      renumbered = blocked-numbered c.requires.sound c.args.blocks.now c.requires.blocked c.number_up_to.new.links.arena p (slot_of links c.args.child) c.number_up_to.ensures.numbered table
          (subst (λ s. counts_in table s ≡ []) c.slot-slot.ensures (c.if-fill.ensures.none refl))
          (subst (λ s. (q : ℕ) → counts_in table q ≡ counts_but s (counts_in table s) c.args.blocks.now q) c.slot-slot.ensures c.fill.ensures.others);
      places = c.number_up_to.ensures.places;
    }
