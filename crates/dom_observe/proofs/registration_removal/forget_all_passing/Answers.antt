-- The next observer has no keys of transient registrations any more.
use Rattle.std.proofs.Common.{◌≡◌, ℕ, suc, ◌+◌, ◌<◌, ◌==◌, Bool, true, false, List, [], Some, None, length, take, refl, ap, sym, ◌∙◌, option_copied, arith, if◌then◌else◌, slice_get, slice_index_or, slice_set}
use Rattle.std.proofs.lemmas.List.{get_or-set_same, get_or-set_other}
use Rattle.dom_model.specs.Definitions.{among}
use Rattle.dom_model.proofs.PlainLists.Numbers.{same_or, same, apart}
use Rattle.dom_observe.specs.{Invariant.has_queue, Roster.passing_by, Roster.queues_by}
use Rattle.dom_observe.proofs.{LeftByLemmas.at-get, LeftByLemmas.among-last, GatherLemmas.take-next, InterestedLemmas.take-none, EndByNodeLemmas.take-whole, RosterLemmas.within-passing, registration_removal.forget_all_passing.Goals.in-Some, registration_removal.forget_all_passing.Goals.in_default}
use Rattle.dom_observe.proofs.registration_removal.forget_all_passing.Goals as goal

pub forget_passing-requires : goal.forget_passing-requires
forget_passing-requires c =
    let next : slice_get c.args.fleeting.now.keys c.loop-index.index ≡ Some c.in-Some.observer.now = sym c.get_index.ensures.key ∙ ap option_copied c.in-Some.is in
    ap (λ qs. has_queue qs c.in-Some.observer.now) c.loop-index.invariant.queues
    ∙ at-get (λ o. has_queue (queues_by c.args.roster.now) o ≡ true) c.args.fleeting.now.keys c.loop-index.index c.in-Some.observer.now c.requires.there next

pub loop-index-init : goal.loop-index-init
loop-index-init c = record {
  ended = λ o h. let d : ⊥ = cc h in absurd d;
  none = λ o h. h;
  lasting = refl;
  queues = refl;
}

module _ (o : ℕ) (old new : List (List ℕ)) (set : new ≡ slice_set old o []) (lt : o < length old) where
  here : slice_index_or new o [] ≡ []
  here = ap (λ ls. slice_index_or ls o []) set ∙ get_or-set_same old o [] [] lt

  still_none : (p : ℕ) → slice_index_or old p [] ≡ [] → slice_index_or new p [] ≡ []
  still_none p none = elim (same_or p o) [
    | same e t ↦ ap (λ q. slice_index_or new q []) e ∙ here
    | apart ne t ↦ ap (λ ls. slice_index_or ls p []) set ∙ get_or-set_other old o p [] [] ne ∙ none
  ]

  now_none : (keys : List ℕ) (p : ℕ) → ((q : ℕ) → among q keys ≡ true → slice_index_or old q [] ≡ []) → (if o == p then true else among p keys) ≡ true → slice_index_or new p [] ≡ []
  now_none keys p before h = elim (same_or o p) [
    | same e t ↦ ap (λ q. slice_index_or new q []) (sym e) ∙ here
    | apart ne t ↦ let k = rw t at h in still_none p (before p k)
  ]

pub loop-index-preserved : goal.loop-index-preserved
loop-index-preserved c =
    let inv = c.loop-index.invariant in
    let keys = c.args.fleeting.now.keys in
    let i = c.loop-index.index in
    let next : i + 1 ≡ suc i = omega arith in
    let ps = passing_by c.loop-index.roster in
    elim c.match-get_index.branch [
      | in-Some w ↦
          let o = w.in-Some.observer.now in
          let there : slice_get keys i ≡ Some o = sym c.get_index.ensures.key ∙ ap option_copied w.in-Some.is in
          let held_there = ap (λ qs. has_queue qs o) inv.queues ∙ at-get (λ o. has_queue (queues_by c.args.roster.now) o ≡ true) keys i o c.requires.there there in
          let lt : o < length ps = within-passing c.loop-index.roster o held_there in
          let new = passing_by w.forget_passing.new.roster in
          rw w.roster-is (record {
            ended = λ p h. now_none o ps new w.forget_passing.ensures.keys lt (take i keys) p inv.ended
                (sym (ap (among p) (ap (λ j. take j keys) next ∙ take-next keys i o there) ∙ among-last p o (take i keys)) ∙ h);
            none = λ p h. still_none o ps new w.forget_passing.ensures.keys lt p (inv.none p h);
            lasting = w.forget_passing.ensures.lasting ∙ inv.lasting;
            queues = w.forget_passing.ensures.queues ∙ inv.queues;
          })
      | in_default w ↦
          let none : slice_get keys i ≡ None = sym c.get_index.ensures.key ∙ ap option_copied w.in_default.is in
          let same_keys : take (i + 1) keys ≡ take i keys = ap (λ j. take j keys) next ∙ take-none keys i none in
          rw w.roster-is (record {
            ended = λ p h. inv.ended p (ap (among p) (sym same_keys) ∙ h);
            none = inv.none;
            lasting = inv.lasting;
            queues = inv.queues;
          })
    ]

-- those that were gone through have none any more, the others had none
pub returns-clause-none : goal.returns-clause-none
returns-clause-none c = λ o. go o (among o c.args.fleeting.now.keys) refl
  where
    go : (o : ℕ) (b : Bool) → among o c.args.fleeting.now.keys ≡ b → slice_index_or (passing_by c.loop-index.roster) o [] ≡ []
    go o true e =
        let whole = take-whole c.args.fleeting.now.keys c.loop-index.index (omega (arith, c.loop-index-test.false, c.len-index-end.ensures.len)) in
        c.loop-index.invariant.ended o (ap (among o) whole ∙ e)
    go o false e = c.loop-index.invariant.none o (c.requires.all o e)
