-- The key goes from its place, and what stood under it.
use Rattle.std.proofs.Common.{◌==◌, not, filter, ap, sym, ◌∙◌, remove}
use Rattle.dom_observe.specs.Registrations.{in_table}
use Rattle.dom_observe.proofs.{EndByNodeLemmas.one-kept, TurnLemmas.fewer-one, TurnLemmas.one-left}
use Rattle.dom_observe.proofs.registration_removal.end_key.Goals as goal

pub returns-clause-fewer : goal.returns-clause-fewer
returns-clause-fewer c = fewer-one c.args.table.now c.try_remove.new.self c.args.key c.try_remove.ensures.updates.changed c.try_remove.ensures.updates.others

pub returns-clause-kept : goal.returns-clause-kept
returns-clause-kept c =
    let u = in_table c.args.table.now in
    let v = in_table c.try_remove.new.self in
    let keys = c.args.keys.now.items in
    let place = c.place_of-place.result in
    c.remove.ensures
    ∙ ap (λ ks. remove ks place) (sym c.as_slice.ensures)
    ∙ c.place_of-place.ensures.place
    ∙ ap (filter (λ k. not (k == c.args.key))) c.as_slice.ensures
    ∙ one-kept u v c.args.key (one-left c.args.table.now c.try_remove.new.self c.args.key c.try_remove.ensures.updates.changed c.try_remove.ensures.updates.others) keys c.requires.live
