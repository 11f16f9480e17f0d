-- The item has the next number, and stands at its root.
use Rattle.std.proofs.Common.{[], ◌∷◌, ◌++◌, length, ap, sym, ◌∙◌, arith}
use Rattle.dom_slots.proofs.{SlotEntryLemmas.length-by_slot, LiveEntryLemmas.items_few}
use Rattle.dom_traverse.proofs.LocatedLemmas.{found-few, found-more}
use Rattle.dom_traverse.proofs.located.Located.add.Goals as goal

pub add-requires : goal.add-requires
add-requires g c =
    omega (arith, c.requires.room, items_few c.state_law.ensures.slotted, length-by_slot c.self.inside.items.slots c.self.inside.items.items, ap length c.self.view_is, c.self.invariant.stand.long)

pub name-requires-clause-few : goal.name-requires-clause-few
name-requires-clause-few g c =
    omega (
      arith,
      c.requires.room,
      items_few c.state_law.ensures.slotted,
      length-by_slot c.self.inside.items.slots c.self.inside.items.items,
      ap length c.self.view_is,
      found-few g.T.Positioned.root_of g.T.Positioned.node_of c.self.inside.items.items c.self.inside.roots c.self.inside.whereabouts c.self.invariant c.reserve-2.new.self c.root-root.result c.reserve-2.ensures.entries,
    )

pub invariant_of-self-2 : goal.invariant_of-self-2
invariant_of-self-2 g c =
    found-more g.T.Positioned.root_of g.T.Positioned.node_of c.self.inside.items.items c.self.inside.roots c.self.inside.whereabouts c.self.invariant c.push_reserved.new.self.items c.reserve-2.new.self c.name.new.roots c.add.new.self
    c.args.item c.root-root.result c.reserve-2.ensures.entries (sym c.root-root.ensures) (c.requires.stands ∙ sym c.root-root.ensures) c.name.ensures c.in_ok-add.ensures.added (c.push_reserved.ensures.items ∙ ap (λ xs. xs ++ c.args.item ∷ []) c.reserve.ensures.items)
