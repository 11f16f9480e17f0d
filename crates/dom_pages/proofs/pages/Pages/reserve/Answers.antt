-- No more numbers are wanted than 32 bits can tell apart.
use Rattle.std.proofs.Common.{refl, arith, tests, rules}
use Rattle.dom_pages.proofs.pages.Pages.reserve.Goals as goal

pub loop-self-init : goal.loop-self-init
loop-self-init g c = record { same = refl; kept = omega arith; wanted = c.requires }

pub returns-clause-room : goal.returns-clause-room
returns-clause-room g c = search (tests, rules)

pub returns-clause-items : goal.returns-clause-items
returns-clause-items g c = search (tests, rules)
