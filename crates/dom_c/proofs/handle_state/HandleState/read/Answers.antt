use Rattle.std.proofs.Common.{◌≡◌, ◌∙◌, Bool, false, Ok, refl, sym, ap, subst, inl}
use Rattle.dom_model.specs.Definitions.{Command, World}
use Rattle.dom_commands.specs.{declared.reply.Reply.Reply, Views.reading_view}
use Rattle.dom_session.specs.{SessionViews.IsAnswered}
use Rattle.dom_session.specs.Sessions.{SessionView, StandsFor, reply_view}
use Rattle.dom_c.specs.{Answers.Ends, Answers.StepsState, Answers.AsksOrEnded, Answers.step_for, Answers.with_reply, Statuses.status_of, declared.handle_state.HandleState.HandleState}
use Rattle.dom_c.proofs.Spared.{with_session}
use Rattle.dom_c.proofs.handle_state.HandleState.read.Goals as goal

steps-read : (c : Command) (k : HandleState) (s : SessionView) (reply : Reply) → k.ended ≡ false → ((w : World) → StandsFor k.session w → IsAnswered reply w k.session s c) → s ≡ k.session → StepsState (Ok c) k (with_reply (with_session k s) reply) (status_of (reply_view reply))
steps-read c k s reply on answers same = record {
  ends = subst (λ (q : Bool). Ends q (step_for k (Ok c)) k (with_reply (with_session k s) reply) (status_of (reply_view reply))) (sym on) (
    on,
    inl (record {
      reply_is = λ w stands. (answers w stands).reply_is;
      world_is = λ w stands. (answers w stands).world_is;
      status_is = refl;
      refused = λ _. same;
    }),
  );
  goes_on = λ _ _. refl;
  is_open = λ is_open _. ap (λ (v : SessionView). v.ended) same ∙ is_open;
  bounds = ap (λ (v : SessionView). v.bounds) same;
  limit = refl;
  line = refl;
}

pub returns : goal.returns
returns c =
    let on : c.args.self.now.ended ≡ false = cc in
    let steps = steps-read (reading_view c.args.question) c.args.self.now c.read-reply.new.self c.read-reply.result on c.read-reply.ensures.answers c.read-reply.ensures.unchanged in
    subst (λ (q : Bool). AsksOrEnded q (Ok (reading_view c.args.question)) c.args.self.now c.keep.new.self c.keep.result) (sym on)
    (rw (c.keep.ensures.kept, c.keep.ensures.status) steps)
