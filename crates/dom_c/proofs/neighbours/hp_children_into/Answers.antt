use Rattle.std.proofs.Common.{◌≡◌, tests, rules, ap, Some, Err}
use Rattle.dom_model.specs.Definitions.{children_of, World}
use Rattle.dom_session.specs.Neighbours.{child_count_in, laid_over}
use Rattle.dom_session.specs.Sessions.{StandsFor, held_world}
use Rattle.dom_c.specs.Neighbours.{children_over, out_as}
use Rattle.dom_c.proofs.IsReadOrEndedLemmas.{reads-refused, refused-copies}
use Rattle.dom_c.proofs.neighbours.hp_children_into.Goals as goal

pub returns-in-Err-clause-copied : goal.returns-in-Err-clause-copied
returns-in-Err-clause-copied c =
    let k = c.kept.inside.kept in
    let n = c.args.node in
    let before = c.args.numbers.now in
    let after = c.copy_children.new.into in
    let e = c.in-Err.error in
    let is : c.args.handle.now.slot.kept ≡ Some k = search (tests, rules) in
    let none : (w : World) → StandsFor k.session w → Err e ≡ child_count_in w.forest n = search (tests, rules) in
    let held : Err e ≡ child_count_in (held_world k.session).forest n = search (tests, rules) in
    let copied : (w : World) → StandsFor k.session w → after ≡ laid_over (children_of w.forest n) before = search (tests, rules) in
    let own : after ≡ laid_over (children_of (held_world k.session).forest n) before = search (tests, rules) in
    reads-refused (children_over n before) k c.args.handle.now.slot.kept before after c.status_of_own.result e is c.status_of_own.ensures
    (λ w s. (ap (out_as (λ _. laid_over (children_of w.forest n) before)) (none w s), refused-copies before after e w.forest n (none w s) (copied w s)))
    (ap (out_as (λ _. laid_over (children_of (held_world k.session).forest n) before)) held, refused-copies before after e (held_world k.session).forest n held own)
