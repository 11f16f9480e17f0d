use Rattle.std.proofs.Common.{length, ap, sym, ◌∙◌}
use Rattle.dom_slots.proofs.LiveEntryLemmas.{count_by-by_slot}
use Rattle.dom_slots.proofs.numbered_items.NumberedItems.count.Goals as goal

pub returns-clause-live : goal.returns-clause-live
returns-clause-live g c = c.len.ensures ∙ c.self.inside.items.ok.0 ∙ ap (λ v. length v.items) c.self.view_is ∙ sym (count_by-by_slot c.state_law.ensures.slotted)
