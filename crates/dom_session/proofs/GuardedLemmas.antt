-- What each command's proof is made of: a refusal, an answer that leaves the world, and a step that the world of the code follows.
use Rattle.std.proofs.Common.{◌≡◌, Bool, true, false, List, [], ◌∷◌, ◌++◌, Option, Some, None, refl, sym, ap, subst, if◌then◌else◌, Result, Ok, Err, IfOk}
use Rattle.std.specs.declared.alloc.AllocError.{AllocError}
use Rattle.dom_model.specs.declared.DomError.{DomError}
use Rattle.dom_model.specs.Definitions.{Command, is_refusal, Bounds, Step, guarded, refused, answer, first_refusal, IsSound}
use Rattle.dom_model.specs.Worlds.World as model
use Rattle.dom_model.specs.Commands.Reply as model_reply
use Rattle.dom_model.proofs.Soundness.SoundAnswers.{sound-answer}
use Rattle.dom_edit.specs.{declared.world.World.World, declared.refusal.Refusal.Refusal, Whole.IsWhole, Whole.Shows, Whole.Follows, Refusals.IsRefused}
use Rattle.dom_edit.specs.declared.refusal.Refusal.TheVariants as refusal
use Rattle.dom_commands.specs.{declared.reply.Reply.Reply, declared.brief.Brief.TheVariants.Dom, Views.reply_view, declared.brief.Brief.Brief, Brief.reply_of}
use Rattle.dom_session.specs.{Refusals.reply_to, Refusals.brief_to, SessionViews.IsStep}

-- where none of the first tests holds, those behind them decide
pub guarded-none : (cs ds : List (Bool × model_reply.Reply)) (w : model.World) (s : Step) → first_refusal cs ≡ None → guarded (cs ++ ds) w s ≡ guarded ds w s
guarded-none [] ds w s h = refl
guarded-none (c ∷ cs) ds w s h = at c.0 (first_refusal cs) (guarded (cs ++ ds) w s) c.1 (guarded-none cs ds w s) h
  where
    at : (t : Bool) (o : Option model_reply.Reply) (rest : Step) (r : model_reply.Reply) → (o ≡ None → rest ≡ guarded ds w s) → (if t then Some r else o) ≡ None → (if t then refused r w else rest) ≡ guarded ds w s
    at true o rest r more e = absurd (cc e)
    at false o rest r more e = more e

-- where one of them holds, its refusal is the answer
pub guarded-some : (cs ds : List (Bool × model_reply.Reply)) (w : model.World) (s : Step) (r : model_reply.Reply) → first_refusal cs ≡ Some r → guarded (cs ++ ds) w s ≡ refused r w
guarded-some [] ds w s r h = absurd (cc h)
guarded-some (c ∷ cs) ds w s r h = at c.0 (first_refusal cs) (guarded (cs ++ ds) w s) c.1 (guarded-some cs ds w s r) h
  where
    at : (t : Bool) (o : Option model_reply.Reply) (rest : Step) (x : model_reply.Reply) → (o ≡ Some r → rest ≡ refused r w) → (if t then Some x else o) ≡ Some r → (if t then refused x w else rest) ≡ refused r w
    at true o rest x more e = let same : x ≡ r = cc e in ap (λ y. refused y w) same
    at false o rest x more e = more e

module _ (b : Bounds) (c : Command) (reply : Reply) where
  -- A step that the world of the code follows, where the reply is no refusal. What the reply is may be read off the world that is shown.
  pub step-follows : (old new : World) (step : model.World → model.World) → is_refusal (reply_view reply) ≡ false → ((w : model.World) → Shows old w → answer b w c ≡ record { reply = reply_view reply; world = step w }) → Follows old new step → IsWhole new → IsStep old new b c reply
  step-follows old new step done e f whole = record {
    reply_is = λ w shown. sym (ap (λ (s : Step). s.reply) (e w shown));
    world_is = λ w shown.
        let P : model.World → Type 0 = λ v. IsSound v in
        let same : (answer b w c).world ≡ step w = ap (λ (s : Step). s.world) (e w shown) in
        let sound : IsSound (step w) = subst P same (sound-answer b w c shown.sound) in
        let Q : model.World → Type 0 = λ v. Shows new v in
        let next : Shows new (step w) = record {
          keeps = f.keeps w shown.keeps;
          watched = f.watches w shown.keeps shown.watched;
          sound = sound;
          whole = whole;
        } in
        subst Q (sym same) next;
    refused = λ r. absurd (cc (done, r));
  }

  -- an answer, or a refusal, that leaves the world
  pub step-stays : (v : World) → ((w : model.World) → Shows v w → answer b w c ≡ record { reply = reply_view reply; world = w }) → IsStep v v b c reply
  step-stays v e = record {
    reply_is = λ w shown. sym (ap (λ (s : Step). s.reply) (e w shown));
    world_is = λ w shown.
        let Q : model.World → Type 0 = λ u. Shows v u in
        subst Q (sym (ap (λ (s : Step). s.world) (e w shown))) shown;
    refused = λ _. refl;
  }

-- the reply to a refusal of the world of the code: where the check names an exception, that is the answer, and it leaves the world
module _ (old new : World) (c : Command) (r : Refusal) (check : Option DomError) (reply : Result Reply AllocError) (is : reply ≡ reply_to r) (left : IsRefused r check old new) where
  pub step-refused : (b : Bounds) → ((e : DomError) → check ≡ Some e → (w : model.World) → Shows old w → answer b w c ≡ refused (model_reply.Dom e) w) → IfOk reply (IsStep old new b c)
  step-refused b named = rw is (at r left)
    where
      at : (x : Refusal) → IsRefused x check old new → IfOk (reply_to x) (IsStep old new b c)
      at (refusal.Dom e) h = rw h.1 (step-stays b c (reply_of (Dom e)) old (named e h.0))
      at refusal.Memory h = tt

  -- the same within any bounds
  pub steps-refused : ((b : Bounds) (e : DomError) → check ≡ Some e → (w : model.World) → Shows old w → answer b w c ≡ refused (model_reply.Dom e) w) → IfOk reply (λ x. (b : Bounds) → IsStep old new b c x)
  steps-refused named = each reply (λ b. step-refused b (named b))
    where
      each : (x : Result Reply AllocError) → ((b : Bounds) → IfOk x (IsStep old new b c)) → IfOk x (λ y. (b : Bounds) → IsStep old new b c y)
      each (Ok y) h = h
      each (Err e) h = tt

-- the same of a reply whose answer is small
module _ (old new : World) (c : Command) (r : Refusal) (check : Option DomError) (reply : Result Brief AllocError) (is : reply ≡ brief_to r) (left : IsRefused r check old new) where
  pub steps-refused-briefly : ((b : Bounds) (e : DomError) → check ≡ Some e → (w : model.World) → Shows old w → answer b w c ≡ refused (model_reply.Dom e) w) → IfOk reply (λ x. (b : Bounds) → IsStep old new b c (reply_of x))
  steps-refused-briefly named = rw is (at r left)
    where
      at : (x : Refusal) → IsRefused x check old new → IfOk (brief_to x) (λ y. (b : Bounds) → IsStep old new b c (reply_of y))
      at (refusal.Dom e) h = λ b. rw h.1 (step-stays b c (reply_of (Dom e)) old (named b e h.0))
      at refusal.Memory h = tt
