-- A collapsed range has no parts.
use Rattle.std.proofs.Common.{sym}
use Rattle.dom_content.proofs.PartsGathered.{collapsed-parts, same-points}
use Rattle.dom_content.proofs.range_parts.parts_of.Goals as goal

pub returns-then-eq : goal.returns-then-eq
returns-then-eq c =
    collapsed-parts c.args.tree.now c.state_law.ensures (record { start = c.args.start; end = c.args.end }) c.requires.range (same-points c.args.start c.args.end (sym c.if-eq.ensures))
    c.new.result.items c.new-then-eq.result.items c.new-then-eq-2.result.items c.new.ensures.items c.new-then-eq.ensures.items c.new-then-eq-2.ensures.items
