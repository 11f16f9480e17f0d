use Rattle.std.proofs.Common.{[], refl, arith}
use Rattle.dom_links.proofs.ArenaAgainLemmas.{closes, stands-none}
use Rattle.dom_links.proofs.store.Store.new.Goals as goal

pub invariant_of-result : goal.invariant_of-result
invariant_of-result g c = rw (c.new.ensures.items, c.new-2.ensures.items, c.new-3.ensures) (record { stands = (closes [] stands-none refl).stands; room = omega arith; few = omega arith })

pub returns : goal.returns
returns g c = rw (c.new.ensures.items, c.new-2.ensures.items, c.new-3.ensures) (closes [] stands-none refl).view
