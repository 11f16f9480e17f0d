-- A Text that has a parent still is below the node.
use Rattle.std.proofs.Common.{is_some, ap, sym, ◌∙◌}
use Rattle.std.proofs.lemmas.Result.{on_ok_weaker}
use Rattle.dom_data.proofs.TextsInTurn.{follows-there, follows-gone}
use Rattle.dom_data.proofs.normalization.normalize_below.Goals as goal

pub returns-then-is_some-clause-normalized : goal.returns-then-is_some-clause-normalized
returns-then-is_some-clause-normalized c =
    on_ok_weaker c.normalize_text.result
    (follows-there c.args.world.now c.normalize_text.new.world c.args.top c.args.node c.requires.told (sym (ap (λ o. is_some o) c.parent.ensures) ∙ sym c.is_some.ensures ∙ c.if-is_some.true))
    c.normalize_text.ensures.normalized

pub returns-else-is_some-clause-normalized : goal.returns-else-is_some-clause-normalized
returns-else-is_some-clause-normalized c =
    follows-gone c.args.world.now c.args.top c.args.node c.requires.told (sym (ap (λ o. is_some o) c.parent.ensures) ∙ sym c.is_some.ensures ∙ c.if-is_some.false)
