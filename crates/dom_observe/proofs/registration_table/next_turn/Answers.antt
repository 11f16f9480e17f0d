-- The last key has the highest turn.
use Rattle.std.proofs.Common.{ap, sym, ◌∙◌, option_copied, rules}
use Rattle.dom_observe.specs.Turns.{turn_at}
use Rattle.dom_observe.proofs.TurnLemmas.{later-turn}
use Rattle.dom_observe.proofs.registration_table.next_turn.Goals as goal

pub returns-in-Some : goal.returns-in-Some
returns-in-Some c =
    later-turn (turn_at c.args.table.now) c.args.keys.now c.in-Some.key.now c.checked_add.result c.ok_or.result
    (sym c.last.ensures.value ∙ ap option_copied c.in-Some.is) (search rules) c.ok_or.ensures.ok_part
