-- Each key gives one more listener, or none.
use Rattle.std.proofs.Common.{◌≡◌, ℕ, ◌++◌, Bool, Some, None, take, refl, ap, sym, ◌∙◌, subst, append-nil, arith, slice_index_or, option_to_list}
use Rattle.std.proofs.lemmas.List.{take_all}
use Rattle.dom_observe.specs.{Names.given_name, Registrations.at, Registrations.HasRegistration, Interested.listener_under, Interested.listeners}
use Rattle.dom_observe.proofs.{IsOnlyLemmas.AreAlone, IsOnlyLemmas.alone-joined, IsOnlyLemmas.joined-known, IsOnlyLemmas.only-of, InterestedLemmas.listener-there, RegistrationTableLemmas.all_at, RegistrationTableLemmas.found_more, queue_record.only_listener.Goals.in-Some+in_ok-joined, queue_record.only_listener.Goals.in_default}
use Rattle.dom_observe.proofs.queue_record.only_listener.Goals as goal

pub loop-key-init : goal.loop-key-init
loop-key-init c = record { alone = refl; known = tt }

pub loop-key-preserved : goal.loop-key-preserved
loop-key-preserved c =
    let q = c.args.question.now in
    let u = at c.args.registrations.now in
    let keys = c.args.standing.now in
    let i = c.loop-key.key-index in
    let inv = c.loop-key.invariant in
    let before = listeners u q.what q.target (given_name q.name) (take i keys) in
    let more = found_more (listener_under u q.what q.target (given_name q.name)) keys i 0 c.loop-key-test.true in
    elim c.match-listener_at.branch [
      | in-Some+in_ok-joined w ↦
          let l : ℕ × Bool = w.in-Some.listener in
          let some : listener_under u q.what q.target (given_name q.name) (slice_index_or keys i 0) ≡ Some l = sym c.listener_at.ensures ∙ w.in-Some.is in
          let next = more ∙ ap (λ v. before ++ option_to_list v) some in
          rw w.only-is (record {
            alone = subst (λ ls. AreAlone (Some w.in_ok-joined.field-0) ls) (sym next) (alone-joined c.loop-key.only l w.in_ok-joined.field-0 before (sym w.joined.ensures ∙ w.in_ok-joined.was) inv.alone);
            known = λ there s. joined-known c.loop-key.only l w.in_ok-joined.field-0 (sym w.joined.ensures ∙ w.in_ok-joined.was) there
                (listener-there u q.what q.target (given_name q.name) there _ l (all_at (HasRegistration u there) keys i 0 s c.loop-key-test.true) some);
          })
      | in_default w ↦
          let none : listener_under u q.what q.target (given_name q.name) (slice_index_or keys i 0) ≡ None = sym c.listener_at.ensures ∙ w.in_default.is in
          let next = more ∙ ap (λ v. before ++ option_to_list v) none ∙ append-nil before in
          rw w.only-is (record {
            alone = subst (AreAlone c.loop-key.only) (sym next) inv.alone;
            known = inv.known;
          })
    ]

pub returns-clause-only : goal.returns-clause-only
returns-clause-only c =
    let q = c.args.question.now in
    let whole = take_all c.loop-key.key-index c.args.standing.now (omega (arith, c.loop-key-test.false)) in
    only-of c.loop-key.only _ (subst (λ keys. AreAlone c.loop-key.only (listeners (at c.args.registrations.now) q.what q.target (given_name q.name) keys)) whole c.loop-key.invariant.alone)
