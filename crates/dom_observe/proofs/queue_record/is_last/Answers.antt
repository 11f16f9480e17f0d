-- Who is last stays there.
use Rattle.std.proofs.Common.{◌≡◌, Some, option_copied, ap, sym, ◌∙◌}
use Rattle.std.proofs.lemmas.Bool.{eqb-true}
use Rattle.dom_observe.proofs.InterestedLemmas.{last-stays}
use Rattle.dom_observe.proofs.queue_record.is_last.Goals as goal

pub returns-in-Some : goal.returns-in-Some
returns-in-Some c is =
    let same : c.in-Some.last.now ≡ c.args.observer = eqb-true c.in-Some.last.now c.args.observer (sym c.eq.ensures ∙ is) in
    last-stays c.args.pending.now.keys _ c.args.observer (sym c.last.ensures.key ∙ ap option_copied c.in-Some.is ∙ ap Some same)
