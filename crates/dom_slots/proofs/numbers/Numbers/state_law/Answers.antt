use Rattle.std.proofs.Common.{◌≡◌, length, is_some, count_by, subst}
use Rattle.dom_slots.proofs.LiveEntryLemmas.{count_by-slots}
use Rattle.dom_slots.proofs.numbers.Numbers.state_law.Goals as goal

pub returns-clause-live : goal.returns-clause-live
returns-clause-live c = subst (λ v. count_by is_some v.slots ≡ length v.numbers) c.self.view_is (count_by-slots c.self.invariant.fit)
