-- One key goes from the node, and from those of its observer.
use Rattle.std.proofs.Common.{◌≡◌, true, false, [], filter, Option, Some, None, is_some, IsSome, Bor, option_map, refl, ap, sym, ◌∙◌, slice_index_or, slice_set}
use Rattle.std.specs.Option.{option_copied, option_map_or}
use Rattle.dom_model.specs.Definitions.{Registration}
use Rattle.dom_model.proofs.PlainLists.Numbers.{same_or, same, apart}
use Rattle.dom_observe.specs.{declared.roster.Observer.Observer, declared.registration.Registration.Registration as Row, Registrations.plain, Registrations.at, Registrations.is_live, Registrations.is_on_node, Roster.passing_by, Roster.is_there}
use Rattle.dom_observe.proofs.{OneGoneLemmas.gone-indexed, RosterLemmas.has-kept, RosterLemmas.within-passing, RosterLemmas.passing-there, RosterLemmas.passing-set, RosterLemmas.lasting-same, RosterLemmas.queues-same}
use Rattle.dom_observe.proofs.transient_registrations.end_transient.Goals as goal

there : (r : Option (Bor Row)) (s : Registration) → option_map plain (option_copied r) ≡ Some s → IsSome r
there None s h = cc h
there (Some x) s h = refl

pub unwrap-requires : goal.unwrap-requires
unwrap-requires c = there c.get.result c.requires.stand.registration (c.get.ensures ∙ c.requires.stand.is)

-- whose it is
whose : (r : Option (Bor Row)) (x : Bor Row) (s : Registration) → r ≡ Some x → option_map plain (option_copied r) ≡ Some s → x.now.observer ≡ s.observer
whose r x s e h =
    let both : Some (plain x.now) ≡ Some s = sym (ap (λ q. option_map plain (option_copied q)) e) ∙ h in
    let one : plain x.now ≡ s = cc both in
    ap (λ (q : Registration). q.observer) one

pub get_mut-kept-requires : goal.get_mut-kept-requires
get_mut-kept-requires c =
    let s = c.requires.stand in
    let who = whose c.get.result c.unwrap.result s.registration c.unwrap.ensures (c.get.ensures ∙ s.is) in
    sym (has-kept c.args.roster.now c.unwrap.result.now.observer) ∙ ap (is_there c.args.roster.now) who ∙ s.observer

pub end_one-requires : goal.end_one-requires
end_one-requires c =
    let s = c.requires.stand in
    ap (is_on_node c.args.node) s.is ∙ elim (same_or s.registration.node c.args.node) [ same _ t ↦ t | apart ne _ ↦ absurd (ne s.node) ]

pub returns-clause-indexed : goal.returns-clause-indexed
returns-clause-indexed c = λ lasts some p ix.
    let s = c.requires.stand in
    let r = s.registration in
    let roster = c.args.roster.now in
    let o = c.unwrap.result.now.observer in
    let who : o ≡ r.observer = whose c.get.result c.unwrap.result r c.unwrap.ensures (c.get.ensures ∙ s.is) in
    let kept = c.get_mut-kept.result.now in
    let had = passing-there roster o kept c.get_mut-kept.ensures.value in
    let v = at c.end_one.new.self in
    let ps = passing_by roster in
    let kept' : Observer = record kept { passing = c.prune.new.keys } in
    let passing : is_some r.source ≡ true = sym (ap (λ q. option_map_or (λ (t : Registration). is_some t.source) q false) s.is) ∙ c.requires.passing in
    gone-indexed (at c.args.registrations.now) v c.args.key c.end_one.ensures.left lasts ps (passing_by (slice_set roster o (Some kept'))) some p r s.is passing
    (within-passing roster r.observer s.observer)
    (passing-set roster o kept' ∙ ap (slice_set ps o) (c.prune.ensures ∙ ap (filter (is_live v)) (sym had)) ∙ ap (λ j. slice_set ps j (filter (is_live v) (slice_index_or ps j []))) who)
    ix

pub returns-clause-lasting : goal.returns-clause-lasting
returns-clause-lasting c = lasting-same c.args.roster.now c.unwrap.result.now.observer c.get_mut-kept.result.now c.get_mut-kept.ensures.value (record c.get_mut-kept.result.now { passing = c.prune.new.keys }) refl

pub returns-clause-queues : goal.returns-clause-queues
returns-clause-queues c = queues-same c.args.roster.now c.unwrap.result.now.observer c.get_mut-kept.result.now c.get_mut-kept.ensures.value (record c.get_mut-kept.result.now { passing = c.prune.new.keys }) refl
