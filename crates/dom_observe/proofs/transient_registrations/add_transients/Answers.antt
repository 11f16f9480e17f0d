-- What was added is ended again if memory runs out.
use Rattle.std.proofs.Common.{◌≡◌, true, ◌++◌, length, take, drop, is_some, ap, sym, ◌∙◌, subst, arith}
use Rattle.std.specs.List.{AllByRecursion}
use Rattle.std.proofs.Math.Seq.{take-append_seam, drop-append_seam}
use Rattle.dom_model.specs.Definitions.{Registration}
use Rattle.dom_model.proofs.PlainLists.Numbers.{same_or, same, apart}
use Rattle.dom_observe.specs.{Watchers.on, Invariant.has_queue, Roster.is_there, Registrations.at, Registrations.found, Registrations.AllStand}
use Rattle.dom_observe.proofs.{AreRegisteredLemmas.are-live, OneGoneLemmas.live-length, NodeOrderLemmas.registered-alike}
use Rattle.dom_observe.proofs.transient_registrations.add_transients.Goals as goal

pub end_added-requires-clause-stand : goal.end_added-requires-clause-stand
end_added-requires-clause-stand c =
    let e = c.add_each_transient.ensures in
    let b = c.add_each_transient.new.registrations in
    subst (λ qs. AllStand (at b) (has_queue qs) b.lists) (sym e.queues) (e.all_stand (is_there c.args.roster.now) c.requires.there c.requires.stand)

pub end_added-requires-clause-passing : goal.end_added-requires-clause-passing
end_added-requires-clause-passing c =
    let a = c.args.registrations.now in
    let had = found a (on c.args.node a.lists) in
    let g = c.add_each_transient.ensures.added in
    let long : length c.keys_on-count.result.now ≡ length had = omega (arith, ap length c.keys_on-count.ensures, live-length (at a) (on c.args.node a.lists) (are-live c.state_law.ensures c.args.node)) in
    subst (AllByRecursion (λ (r : Registration). is_some r.source ≡ true))
    (sym (ap (drop (length c.keys_on-count.result.now)) g.last ∙ ap (λ j. drop j (had ++ g.more)) long ∙ drop-append_seam had g.more)) g.passing

pub returns-in-Err-clause-err : goal.returns-in-Err-clause-err
returns-in-Err-clause-err c =
    let a = c.args.registrations.now in
    let e = c.end_added.new.registrations in
    let had = found a (on c.args.node a.lists) in
    let g = c.add_each_transient.ensures.added in
    let counted : length (on c.args.node a.lists) ≡ length c.keys_on-count.result.now = omega (arith, ap length c.keys_on-count.ensures) in
    let long : length c.keys_on-count.result.now ≡ length had = omega (arith, counted, live-length (at a) (on c.args.node a.lists) (are-live c.state_law.ensures c.args.node)) in
    let here : found e (on c.args.node e.lists) ≡ had =
    c.end_added.ensures.kept ∙ ap (take (length c.keys_on-count.result.now)) g.last ∙ ap (λ j. take j (had ++ g.more)) long ∙ take-append_seam had g.more in
    registered-alike a e c.state_law.ensures.unique (c.end_added.ensures.nodes a.lists c.state_law.ensures.full counted c.add_each_transient.ensures.nodes)
    (λ n. elim (same_or n c.args.node) [
      | same d _ ↦ subst (λ m. found e (on m e.lists) ≡ found a (on m a.lists)) (sym d) here
      | apart ne _ ↦ c.end_added.ensures.elsewhere n ne ∙ c.add_each_transient.ensures.elsewhere n ne
    ])

pub returns-in-Err-clause-all_stand : goal.returns-in-Err-clause-all_stand
returns-in-Err-clause-all_stand c = λ p bounded all. c.end_added.ensures.all_stand p (c.add_each_transient.ensures.all_stand p bounded all)

pub returns-in-Err-clause-names : goal.returns-in-Err-clause-names
returns-in-Err-clause-names c = λ p here keys none. c.end_added.ensures.names p (c.add_each_transient.ensures.names p here keys none)

pub returns-in-Err-clause-indexed : goal.returns-in-Err-clause-indexed
returns-in-Err-clause-indexed c = λ lasts p bounded ix. c.end_added.ensures.indexed lasts c.add_each_transient.new.fleeting.keys p (c.add_each_transient.ensures.indexed lasts p bounded ix)

pub returns-in-Err-clause-sources : goal.returns-in-Err-clause-sources
returns-in-Err-clause-sources c = λ have. c.end_added.ensures.sources (c.add_each_transient.ensures.sources have)

pub returns-in-Err-clause-agree : goal.returns-in-Err-clause-agree
returns-in-Err-clause-agree c = λ have. c.end_added.ensures.agree (c.add_each_transient.ensures.agree have)

pub returns-in-Err-clause-lasting : goal.returns-in-Err-clause-lasting
returns-in-Err-clause-lasting c = c.end_added.ensures.lasting ∙ c.add_each_transient.ensures.lasting

pub returns-in-Err-clause-queues : goal.returns-in-Err-clause-queues
returns-in-Err-clause-queues c = c.end_added.ensures.queues ∙ c.add_each_transient.ensures.queues
