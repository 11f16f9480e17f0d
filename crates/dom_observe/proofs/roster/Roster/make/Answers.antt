-- One more observer, without keys and with an empty queue.
use Rattle.std.proofs.Common.{◌≡◌, [], ◌∷◌, ◌++◌, Some, ap, ◌∙◌}
use Rattle.dom_slots.specs.Slotted.{by_slot}
use Rattle.dom_observe.specs.Roster.{keys_by, queues_by}
use Rattle.dom_observe.proofs.RosterLemmas.{keys-made, queues-made}
use Rattle.dom_observe.proofs.roster.Roster.make.Goals as goal

pub returns-clause-keys : goal.returns-clause-keys
returns-clause-keys c =
    let new = c.push_reserved-number.new.self in
    let made : by_slot new.slots new.items ≡ c.args.self.now ++ Some c.new.result ∷ [] = rw (c.push_reserved-number.ensures.pushed, c.reserve.ensures.slots, c.reserve.ensures.items, c.self.view_is) in
    ap keys_by made ∙ keys-made c.args.self.now c.new.result c.new.ensures.lasting c.new.ensures.passing

pub returns-clause-queues : goal.returns-clause-queues
returns-clause-queues c =
    let new = c.push_reserved-number.new.self in
    let made : by_slot new.slots new.items ≡ c.args.self.now ++ Some c.new.result ∷ [] = rw (c.push_reserved-number.ensures.pushed, c.reserve.ensures.slots, c.reserve.ensures.items, c.self.view_is) in
    ap queues_by made ∙ queues-made c.args.self.now c.new.result c.new.ensures.queue
