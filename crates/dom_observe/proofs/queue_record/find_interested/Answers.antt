-- Each key gives one more listener, or none.
use Rattle.std.proofs.Common.{◌≡◌, ℕ, ◌==◌, ◌||◌, ◌++◌, [], Bool, false, if◌then◌else◌, Some, None, take, nat_eq, ap, sym, ◌∙◌, subst, append-nil, arith, slice_index_or, unwrap_or, option_to_list}
use Rattle.std.proofs.lemmas.Grind.{common_steps}
use Rattle.std.specs.Map.{keys_of, lookup}
use Rattle.dom_model.specs.Definitions.{with_last, with_all_last}
use Rattle.dom_observe.specs.{Invariant.AllThere, Names.given_name, Registrations.at, Registrations.HasRegistration, Interested.listener_under, Interested.listeners, Interested.flag_of}
use Rattle.dom_observe.proofs.{RegistrationTableLemmas.all_at, RegistrationTableLemmas.found_more, InterestedLemmas.there-last, InterestedLemmas.listener-there, InterestedLemmas.flag-last, InterestedLemmas.keys_of-append, InterestedLemmas.all_last-append, queue_record.find_interested.Goals.in-Some+in_ok-note, queue_record.find_interested.Goals.in_default}
use Rattle.dom_observe.proofs.queue_record.find_interested.Goals as goal

pub loop-key-preserved : goal.loop-key-preserved
loop-key-preserved c =
    let q = c.args.question.now in
    let u = at c.args.registrations.now in
    let keys = c.args.standing.now in
    let i = c.loop-key.key-index in
    let inv = c.loop-key.invariant in
    let before = listeners u q.what q.target (given_name q.name) (take i keys) in
    let more = found_more (listener_under u q.what q.target (given_name q.name)) keys i 0 c.loop-key-test.true in
    elim c.match-listener_at.branch [
      | in-Some+in_ok-note w ↦
          let o = w.in-Some.listener.0 in
          let l : ℕ × Bool = w.in-Some.listener in
          let some : listener_under u q.what q.target (given_name q.name) (slice_index_or keys i 0) ≡ Some l = sym c.listener_at.ensures ∙ w.in-Some.is in
          let next = more ∙ ap (λ v. before ++ option_to_list v) some in
          rw w.heard-is (record {
            heard = λ p. w.in_ok-note.ensures.ok p
                ∙ ap (λ v. if o == p then Some (unwrap_or v false || w.in-Some.listener.1) else v) (inv.heard p)
                ∙ sym (ap (flag_of p) next ∙ flag-last p before l);
            order = w.in_ok-note.ensures.order
                ∙ ap (λ ks. with_last ks o) inv.order
                ∙ sym (ap (λ ls. with_all_last [] (keys_of ls)) next
                ∙ ap (with_all_last []) (keys_of-append before l)
                ∙ all_last-append [] (keys_of before) o);
            known = λ there s.
                subst (AllThere there) (sym w.in_ok-note.ensures.order)
                (there-last there o (keys_of c.loop-key.heard.entries) (inv.known there s) (listener-there u q.what q.target (given_name q.name) there _ l (all_at (HasRegistration u there) keys i 0 s c.loop-key-test.true) some));
            unique = w.note.ensures.unique;
          })
      | in_default w ↦
          let none : listener_under u q.what q.target (given_name q.name) (slice_index_or keys i 0) ≡ None = sym c.listener_at.ensures ∙ w.in_default.is in
          let next = more ∙ ap (λ v. before ++ option_to_list v) none ∙ append-nil before in
          rw w.heard-is (record {
            heard = λ p. inv.heard p ∙ sym (ap (flag_of p) next);
            order = inv.order ∙ sym (ap (λ ls. with_all_last [] (keys_of ls)) next);
            known = inv.known;
            unique = inv.unique;
          })
    ]

pub loop-key-init : goal.loop-key-init
loop-key-init c = record {
  heard = λ p. ap (lookup (nat_eq p)) c.new-heard.ensures.empty;
  order = ap keys_of c.new-heard.ensures.empty;
  known = λ there s. subst (λ es. AllThere there (keys_of es)) (sym c.new-heard.ensures.empty) tt;
  unique = c.new-heard.ensures.unique;
}

pub returns-clause-heard : goal.returns-clause-heard
returns-clause-heard c = grind (arith, common_steps)

pub returns-clause-order : goal.returns-clause-order
returns-clause-order c = grind (arith, common_steps)
