use Rattle.std.proofs.Common.{length}
use Rattle.dom_links.specs.ArenaMemory.{Left}
use Rattle.dom_links.proofs.store.Store.drop.Given as goal

abbrev pub invariant-loop-link : goal.invariant-loop-link
invariant-loop-link g l = Left l.table.items l.pool.cells

abbrev pub decreases-loop-link : goal.decreases-loop-link
decreases-loop-link g l = length l.table.items
