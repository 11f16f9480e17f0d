-- Units of one node need no other node.
use Rattle.std.proofs.Common.{sym}
use Rattle.dom_content.proofs.{MayDrawLemmas.none-old, StaysLemmas.stays-none}
use Rattle.dom_content.proofs.extraction.fill.Goals as goal

pub draw_units-requires-clause-may : goal.draw_units-requires-clause-may
draw_units-requires-clause-may c = record { low = c.requires.may.low; rising = c.requires.may.rising; holder = c.requires.may.holder; nodes = none-old c.requires.may.low c.args.world.now.tree.forest }

pub draw_units-requires-clause-within : goal.draw_units-requires-clause-within
draw_units-requires-clause-within c = c.requires.within (sym c.if-is_in_one_data.ensures)

pub returns-then-eq-clause-stays : goal.returns-then-eq-clause-stays
returns-then-eq-clause-stays c = stays-none c.args.world.now

pub returns-then-eq-clause-left : goal.returns-then-eq-clause-left
returns-then-eq-clause-left c still a h newer l = l
