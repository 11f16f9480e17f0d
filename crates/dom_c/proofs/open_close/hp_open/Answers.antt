use Rattle.std.proofs.Common.{tests, rules}
use Rattle.dom_c.proofs.open_close.hp_open.Goals as goal

pub returns-then-handle : goal.returns-then-handle
returns-then-handle c = search (tests, rules)

pub returns-then-numbers-lt1 : goal.returns-then-numbers-lt1
returns-then-numbers-lt1 c = search (tests, rules)

pub returns-in_default : goal.returns-in_default
returns-in_default c = search (tests, rules)

pub returns-in-Ok-new_kept : goal.returns-in-Ok-new_kept
returns-in-Ok-new_kept c = search (tests, rules)

pub returns-in-Err : goal.returns-in-Err
returns-in-Err c = search (tests, rules)
