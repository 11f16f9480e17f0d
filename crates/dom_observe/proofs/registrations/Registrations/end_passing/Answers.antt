-- The keys of the next observer are gone through.
use Rattle.std.proofs.Common.{◌≡◌, ℕ, suc, ◌+◌, true, [], Some, None, take, refl, ap, sym, ◌∙◌, inl, option_copied, arith, slice_get, slice_index_or}
use Rattle.dom_model.specs.Definitions.{among}
use Rattle.dom_observe.specs.{Watchers.on, Registrations.at, Invariant.has_queue, Roster.passing_by, Roster.queues_by}
use Rattle.dom_observe.proofs.{LeftByLemmas.swept-none, LeftByLemmas.swept-two, LeftByLemmas.at-get, LeftByLemmas.among-last, GatherLemmas.take-next, InterestedLemmas.take-none, EndByNodeLemmas.every_transient, EndByNodeLemmas.between-two, EndByNodeLemmas.between-gone, EndByNodeLemmas.done-more, EndByNodeLemmas.take-whole, EndByNodeLemmas.transients-gone, RosterLemmas.has-kept, RosterLemmas.passing-there, registrations.Registrations.end_passing.Goals.in-Some, registrations.Registrations.end_passing.Goals.in_default}
use Rattle.dom_observe.proofs.registrations.Registrations.end_passing.Goals as goal

pub get-kept-requires : goal.get-kept-requires
get-kept-requires c =
    let next : slice_get c.args.fleeting.now.keys c.loop-index.index ≡ Some c.in-Some.observer.now = sym c.get_index.ensures.key ∙ ap option_copied c.in-Some.is in
    sym (has-kept c.args.roster.now c.in-Some.observer.now)
    ∙ at-get (λ o. has_queue (queues_by c.args.roster.now) o ≡ true) c.args.fleeting.now.keys c.loop-index.index c.in-Some.observer.now c.requires.there next

pub loop-index-init : goal.loop-index-init
loop-index-init c = record {
  between = λ k. inl refl;
  done = λ o h. let d : ⊥ = cc h in absurd d;
  swept = swept-none (at c.args.self.now) c.args.self.now.lists c.state_law.ensures.placed;
}

pub loop-index-preserved : goal.loop-index-preserved
loop-index-preserved c =
    let inv = c.loop-index.invariant in
    let keys = c.args.fleeting.now.keys in
    let i = c.loop-index.index in
    let next : i + 1 ≡ suc i = omega arith in
    let u0 = at c.args.self.now in
    let u = at c.loop-index.self in
    let ps = passing_by c.args.roster.now in
    elim c.match-get_index.branch [
      | in-Some w ↦
          let o = w.in-Some.observer.now in
          let there : slice_get keys i ≡ Some o = sym c.get_index.ensures.key ∙ ap option_copied w.in-Some.is in
          let v = at w.end_among.new.self in
          let own = passing-there c.args.roster.now o w.get-kept.result.now w.get-kept.ensures in
          let either = λ (k : ℕ). between-gone every_transient (w.end_among.ensures.between k) in
          let now = λ (k : ℕ) (m : among k (slice_index_or ps o []) ≡ true). w.end_among.ensures.done k (ap (among k) (w.as_slice.ensures.value ∙ sym own) ∙ m) in
          rw w.self-is (record {
            between = λ k. between-two every_transient (inv.between k) (w.end_among.ensures.between k);
            done = λ p h. done-more every_transient u0 u v ps (take i keys) o inv.between w.end_among.ensures.between inv.done now p
                (sym (ap (among p) (ap (λ j. take j keys) next ∙ take-next keys i o there) ∙ among-last p o (take i keys)) ∙ h);
            swept = λ n. swept-two u v (on n c.args.self.now.lists) (on n c.loop-index.self.lists) (on n w.end_among.new.self.lists) either (inv.swept n) (w.end_among.ensures.swept n);
          })
      | in_default w ↦
          let none : slice_get keys i ≡ None = sym c.get_index.ensures.key ∙ ap option_copied w.in_default.is in
          let same_keys : take (i + 1) keys ≡ take i keys = ap (λ j. take j keys) next ∙ take-none keys i none in
          rw w.self-is (record {
            between = inv.between;
            done = λ p h. inv.done p (ap (among p) (sym same_keys) ∙ h);
            swept = inv.swept;
          })
    ]

pub returns-clause-left : goal.returns-clause-left
returns-clause-left c =
    let inv = c.loop-index.invariant in
    let keys = c.args.fleeting.now.keys in
    let whole = take-whole keys c.loop-index.index (omega (arith, c.loop-index-test.false, c.len-index-end.ensures.len)) in
    transients-gone (at c.args.self.now) (at c.loop-index.self) (passing_by c.args.roster.now) keys c.requires.owned c.requires.all inv.between
    (λ o h. inv.done o (ap (among o) whole ∙ h))
