use Rattle.std.proofs.Common.{arith}
use Rattle.dom_chains.proofs.TableStepLemmas.{item-read, items-length, link-read}
use Rattle.dom_chains.proofs.table.Table.seat.Goals as goal

pub index-requires : goal.index-requires
index-requires g c = omega (arith, items-length c.args.self.now, c.args.self.now.seats.ok)

pub returns-clause-item : goal.returns-clause-item
returns-clause-item g c = item-read c.args.self.now.seats.items c.args.id c.index.result.now c.index.ensures (omega (arith, items-length c.args.self.now))

pub returns-clause-prev : goal.returns-clause-prev
returns-clause-prev g c = link-read c.args.self.now.seats.items c.args.id c.index.result.now c.index.ensures (λ s. s.prev) (omega (arith, items-length c.args.self.now))

pub returns-clause-next : goal.returns-clause-next
returns-clause-next g c = link-read c.args.self.now.seats.items c.args.id c.index.result.now c.index.ensures (λ s. s.next) (omega (arith, items-length c.args.self.now))
