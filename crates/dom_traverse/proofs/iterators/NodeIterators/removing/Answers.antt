-- Each iterator that was not released has taken the steps.
use Rattle.std.proofs.Common.{map, option_map, ap, ◌∙◌}
use Rattle.dom_model.specs.Definitions.{Iterator, pre_removed}
use Rattle.dom_slots.specs.Slotted.{by_slot}
use Rattle.dom_slots.proofs.SlotEntryLemmas.{by_slot-map}
use Rattle.dom_traverse.proofs.{LocatedLemmas.found-each, PreRemovedLemmas.root-stays}
use Rattle.dom_traverse.proofs.iterators.NodeIterators.removing.Goals as goal

pub removing-requires-clause-stand : goal.removing-requires-clause-stand
removing-requires-clause-stand g c = c.located.invariant.stand

pub invariant_of-located : goal.invariant_of-located
invariant_of-located g c =
    found-each (λ (i : Iterator). i.root) (λ (i : Iterator). i.reference) c.located.inside.items.items c.located.inside.roots c.located.inside.whereabouts c.located.invariant
    (pre_removed c.args.tree.now.forest c.args.node) (root-stays c.args.tree.now.forest c.args.node) c.removing.new.iterators.items c.removing.new.references c.removing.ensures.removed c.removing.ensures.stand

pub returns : goal.returns
returns g c =
    let step = pre_removed c.args.tree.now.forest c.args.node in
    ap (λ os. by_slot os c.removing.new.iterators.items) c.removing.ensures.slots
    ∙ ap (by_slot c.located.inside.items.slots) c.removing.ensures.removed
    ∙ by_slot-map step c.located.inside.items.slots c.located.inside.items.items
    ∙ ap (map (option_map step)) (c.located.view_is ∙ c.self.view_is)
