use Rattle.std.proofs.Common.{[], ◌∷◌, ◌++◌, length, is_some, ap, ◌∙◌, arith}
use Rattle.std.proofs.lemmas.{List.Sums.count_by-le-length}
use Rattle.dom_slots.proofs.SlotEntryLemmas.{length-by_slot}
use Rattle.dom_ranges.specs.{Ends.keyed_end, Ends.paired, Tables.RangeTable}
use Rattle.dom_ranges.proofs.RangeTableLemmas.{table-pushed}
use Rattle.dom_ranges.proofs.live_ranges.Ranges.make.Goals as goal

pub push_reserved-requires-clause-few : goal.push_reserved-requires-clause-few
push_reserved-requires-clause-few g c =
    omega (arith, ap length c.reserve-2.ensures.items, c.self.invariant, c.state_law.ensures.live, count_by-le-length is_some c.self.inside.slots.slots, length-by_slot c.self.inside.slots.slots (paired c.self.inside.chains.items), ap (λ (v : RangeTable). length v.ranges) c.self.view_is, c.requires.room)

pub returns-clause-made : goal.returns-clause-made
returns-clause-made g c =
    table-pushed c.state_law.ensures.fit c.self.inside.chains c.self.invariant _ c.self.view_is c.args.start c.args.end _ c.push_reserved-2.new.ends
    (rw (c.reserve.ensures.slots, c.reserve.ensures.numbers) at c.push_reserved-3.ensures.slots)
    (c.push_reserved-2.ensures.items ∙ ap (λ es. es ++ keyed_end c.args.end ∷ []) (c.push_reserved.ensures.items ∙ ap (λ es. es ++ keyed_end c.args.start ∷ []) c.reserve-2.ensures.items))
    (c.push_reserved-2.ensures.covered ∙ c.push_reserved.ensures.covered ∙ c.reserve-2.ensures.covered)
