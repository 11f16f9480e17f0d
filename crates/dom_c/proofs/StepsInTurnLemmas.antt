-- What a call for steps in turn does, by what its session did.
use Rattle.std.proofs.Common.{◌≡◌, ◌∙◌, ℕ, if◌then◌else◌, Bool, true, false, List, length, Option, Some, None, option_map, Result, Ok, Err, refl, sym, ap, subst}
use Rattle.std.specs.Option.{ForSome}
use Rattle.std.proofs.lemmas.Bool.{false≢true, ne_eqb}
use Rattle.dom_model.specs.Definitions.{Command, World}
use Rattle.dom_model.specs.Commands.Reply as model
use Rattle.dom_commands.specs.{declared.brief.Brief.Brief, Brief.reply_of}
use Rattle.dom_session.specs.Sessions.{SessionView, StandsFor, reply_view}
use Rattle.dom_session.specs.StepsInTurn.{Steps, steps_in_turn, last_view, AreMade}
use Rattle.dom_session.specs.declared.steps.StepsMade.{StepsMade}
use Rattle.dom_c.specs.{Answers.at_end, Statuses.status_of, Statuses.out_of_memory, StepsInTurn.status_of_last, StepsInTurn.reply_after, StepsInTurn.count_after, StepsInTurn.AreTaken, StepsInTurn.with_last_reply, StepsInTurn.EndsOrSteps, StepsInTurn.TakesStepsState, declared.handle_state.HandleState.HandleState}
use Rattle.dom_c.proofs.Spared.{with_session, had_ended}

abbrev pub made_by : ℕ → Option Brief → StepsMade
made_by count last = record { count = count; last = last }

-- a reply whose status is not that of an answer is a refusal
refusal-of : (r : model.Reply) → (status_of r ≡ 0 → ⊥) → model.is_refusal r ≡ true
refusal-of (model.Done a) not = absurd (not refl)
refusal-of (model.Dom e) not = refl
refusal-of (model.Own e) not = refl

-- the count of a call that is refused
unwritten : (status found before : ℕ) → (status ≡ 0 → ⊥) → count_after status found before ≡ before
unwritten status found before not = ap (λ (b : Bool). if b then found else before) (ne_eqb status 0 not)

-- a call after the end
pub none-after_end : (c : Result Command ℕ) (k : HandleState) (nodes : List ℕ) (count : ℕ) → k.ended ≡ true → TakesStepsState c k k nodes nodes count count out_of_memory
none-after_end c k nodes count ended = record {
  ends = subst (λ (q : Bool). EndsOrSteps q c k k nodes nodes count count out_of_memory) (sym ended) (refl, refl);
  refused = λ _. record { session = refl; nodes = refl; count_is = refl };
  goes_on = λ _. refl;
  is_open = λ is_open _. is_open;
  bounds = refl;
  limit = refl;
  line = refl;
}

-- arguments that make no command
pub none-malformed : (malformed : ℕ) (k : HandleState) (nodes : List ℕ) (count : ℕ) → k.ended ≡ false → TakesStepsState (Err malformed) k k nodes nodes count count malformed
none-malformed malformed k nodes count on = record {
  ends = subst (λ (q : Bool). EndsOrSteps q (Err malformed) k k nodes nodes count count malformed) (sym on) (on, (refl, refl));
  refused = λ _. record { session = refl; nodes = refl; count_is = refl };
  goes_on = λ _. refl;
  is_open = λ is_open _. is_open;
  bounds = refl;
  limit = refl;
  line = refl;
}

-- a session that has ended
pub none-ended : (c : Result Command ℕ) (k : HandleState) (s : SessionView) (before after : List ℕ) (count : ℕ) → s ≡ k.session → s.ended ≡ true → after ≡ before → TakesStepsState c k (at_end (with_session k s)) before after count count out_of_memory
none-ended c k s before after count same ended unwritten = record {
  ends = (refl, refl);
  refused = λ _. record { session = same; nodes = unwritten; count_is = refl };
  goes_on = λ is_open. absurd (had_ended k.session s same is_open ended);
  is_open = λ _ e. absurd (false≢true (sym e));
  bounds = ap (λ (q : SessionView). q.bounds) same;
  limit = refl;
  line = refl;
}

module _ (c : Command) (k : HandleState) (s : SessionView) (before after : List ℕ) (count_before found count : ℕ) (on : k.ended ≡ false) (is_open : s.ended ≡ false) (bounds : s.bounds ≡ k.session.bounds) where
  taken : (last : Option Brief) (w : World) → AreMade (steps_in_turn k.session.bounds c (length before) w) s.world (made_by found last) before after
      → count ≡ count_after (status_of_last (last_view last)) found count_before → (new : HandleState) → new.session ≡ s → option_map reply_view new.reply ≡ reply_after (last_view last) (option_map reply_view k.reply)
      → AreTaken (steps_in_turn k.session.bounds c (length before) w) k new before after count_before count (status_of_last (last_view last))
  taken last w m written new session reply =
      let st = steps_in_turn k.session.bounds c (length before) w in
      record {
        world_is = subst (λ (q : SessionView). StandsFor q st.world) (sym session) m.world_is;
        reply_is = reply ∙ ap (λ (o : Option model.Reply). reply_after o (option_map reply_view k.reply)) m.last_is;
        nodes_are = m.nodes_are;
        count_is = written ∙ ap (λ (n : ℕ). count_after (status_of_last (last_view last)) n count_before) m.count_is;
        status_is = ap status_of_last m.last_is;
      }

  -- a session that took the steps
  pub steps-are-taken : (last : Option Brief) → count ≡ count_after (status_of_last (last_view last)) found count_before
      → ((w : World) → StandsFor k.session w → AreMade (steps_in_turn k.session.bounds c (length before) w) s.world (made_by found last) before after)
      → ForSome last (λ b. model.is_refusal (reply_view (reply_of b)) ≡ true → (s ≡ k.session) × (after ≡ before))
      → TakesStepsState (Ok c) k (with_last_reply (with_session k s) last) before after count_before count (status_of_last (last_view last))
  steps-are-taken None written made refused = record {
    ends = subst (λ (q : Bool). EndsOrSteps q (Ok c) k (with_session k s) before after count_before count 0) (sym on) (on, (λ w stands. taken None w (made w stands) written (with_session k s) refl refl));
    refused = λ not. absurd (not refl);
    goes_on = λ _. refl;
    is_open = λ _ _. is_open;
    bounds = bounds;
    limit = refl;
    line = refl;
  }
  steps-are-taken (Some b) written made refused = record {
    ends = subst (λ (q : Bool). EndsOrSteps q (Ok c) k (with_last_reply (with_session k s) (Some b)) before after count_before count (status_of (reply_view (reply_of b)))) (sym on) (
      on,
      (λ w stands. taken (Some b) w (made w stands) written (with_last_reply (with_session k s) (Some b)) refl refl),
    );
    refused = λ not.
        let r = refused b refl (refusal-of (reply_view (reply_of b)) not) in
        record {
          session = r.0;
          nodes = r.1;
          count_is = written ∙ unwritten (status_of (reply_view (reply_of b))) found count_before not;
        };
    goes_on = λ _. refl;
    is_open = λ _ _. is_open;
    bounds = bounds;
    limit = refl;
    line = refl;
  }
