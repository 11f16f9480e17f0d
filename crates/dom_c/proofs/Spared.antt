-- What a call does: it takes a step, or is refused memory, and leaves its session as before or ends it.
use Rattle.std.proofs.Common.{◌≡◌, ◌∙◌, ℕ, Bool, true, false, List, Ok, Err, refl, sym, ap, subst, inl, inr, Result}
use Rattle.std.proofs.lemmas.Bool.{false≢true}
use Rattle.dom_model.specs.Definitions.{Command, World}
use Rattle.dom_model.specs.Commands.Reply.{is_refusal}
use Rattle.dom_commands.specs.declared.reply.Reply.{Reply}
use Rattle.dom_session.specs.SessionViews.{IsAnswered}
use Rattle.dom_session.specs.Sessions.{SessionView, StandsFor, IsAsBefore, reply_view}
use Rattle.dom_c.specs.{Answers.Ends, Answers.StepsState, Answers.leaves_open, Answers.step_for, Answers.with_reply, Answers.at_end, Lines.TakesLine, Lines.step_for_line, Statuses.status_of, Statuses.out_of_memory, declared.handle_state.HandleState.HandleState}

-- a session that is as before is open if it was open
pub stays_open : (old new : SessionView) → IsAsBefore old new → new.ended ≡ old.ended
stays_open old new kept = ap (λ (s : SessionView). s.ended) kept.is

-- so the call has not ended it
pub not_ended : (old new : SessionView) → IsAsBefore old new → old.ended ≡ false → new.ended ≡ true → ⊥
not_ended old new kept is_open ended = false≢true (sym is_open ∙ sym (stays_open old new kept) ∙ ended)

-- a session that is as it was, and has ended, had ended before
pub had_ended : (old new : SessionView) → new ≡ old → old.ended ≡ false → new.ended ≡ true → ⊥
had_ended old new same is_open ended = false≢true (sym is_open ∙ sym (ap (λ (s : SessionView). s.ended) same) ∙ ended)

abbrev pub with_session : HandleState → SessionView → HandleState
with_session k s = record { session = s; reply = k.reply; line = k.line; limit = k.limit; ended = k.ended; alloc = k.alloc }

-- a call after the end
pub steps-after_end : (c : Result Command ℕ) (k : HandleState) → k.ended ≡ true → StepsState c k k out_of_memory
steps-after_end c k ended = record {
  ends = subst (λ (q : Bool). Ends q (step_for k c) k k out_of_memory) (sym ended) refl;
  goes_on = λ _ _. refl;
  is_open = λ is_open _. is_open;
  bounds = refl;
  limit = refl;
  line = refl;
}

-- arguments that make no command
pub steps-malformed : (malformed : ℕ) (k : HandleState) → k.ended ≡ false → StepsState (Err malformed) k k malformed
steps-malformed malformed k on = record {
  ends = subst (λ (q : Bool). Ends q (step_for k (Err malformed)) k k malformed) (sym on) (on, inl (refl, refl));
  goes_on = λ _ _. refl;
  is_open = λ is_open _. is_open;
  bounds = refl;
  limit = refl;
  line = refl;
}

-- a session that took the step of a command
pub steps-taken : (c : Command) (k : HandleState) (s : SessionView) (reply : Reply) → k.ended ≡ false → ((w : World) → StandsFor k.session w → IsAnswered reply w k.session s c) → (is_refusal (reply_view reply) ≡ true → s ≡ k.session) → s.ended ≡ false → s.bounds ≡ k.session.bounds → StepsState (Ok c) k (with_reply (with_session k s) reply) (status_of (reply_view reply))
steps-taken c k s reply on answers refused is_open bounds = record {
  ends = subst (λ (q : Bool). Ends q (step_for k (Ok c)) k (with_reply (with_session k s) reply) (status_of (reply_view reply))) (sym on) (
    on,
    inl (record {
      reply_is = λ w stands. (answers w stands).reply_is;
      world_is = λ w stands. (answers w stands).world_is;
      status_is = refl;
      refused = refused;
    }),
  );
  goes_on = λ _ _. refl;
  is_open = λ _ _. is_open;
  bounds = bounds;
  limit = refl;
  line = refl;
}

-- a session that goes on
pub steps-spared : (c : Result Command ℕ) (k : HandleState) (s : SessionView) → k.ended ≡ false → IsAsBefore k.session s → s.bounds ≡ k.session.bounds → StepsState c k (with_session k s) out_of_memory
steps-spared c k s on kept bounds = record {
  ends = subst (λ (q : Bool). Ends q (step_for k c) k (with_session k s) out_of_memory) (sym on) (on, inr (record { status_is = refl; session = kept; reply = refl; line = refl }));
  goes_on = λ _ _. refl;
  is_open = λ was _. stays_open k.session s kept ∙ was;
  bounds = bounds;
  limit = refl;
  line = refl;
}

-- a session that has ended, which a command that leaves it open does only if it had ended before
pub steps-ended : (c : Result Command ℕ) (k : HandleState) (s : SessionView) → s.bounds ≡ k.session.bounds → (leaves_open k.session c ≡ true → k.session.ended ≡ false → true ≡ k.ended) → StepsState c k (at_end (with_session k s)) out_of_memory
steps-ended c k s bounds going = record {
  ends = refl;
  goes_on = going;
  is_open = λ _ e. absurd (false≢true (sym e));
  bounds = bounds;
  limit = refl;
  line = refl;
}

-- a line that is refused memory before anything has changed
pub takes_line-spared : (line : List ℕ) (k : HandleState) (s : SessionView) → k.ended ≡ false → IsAsBefore k.session s → s.bounds ≡ k.session.bounds → TakesLine line k (with_session k s) out_of_memory
takes_line-spared line k s on kept bounds = record {
  ends = subst (λ (q : Bool). Ends q (step_for_line line k) k (with_session k s) out_of_memory) (sym on) (on, inr (record { status_is = refl; session = kept; reply = refl; line = refl }));
  bounds = bounds;
  limit = refl;
}
