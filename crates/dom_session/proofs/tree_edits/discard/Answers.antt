use Rattle.std.proofs.Common.{◌≡◌, true, refl, sym, subst, ◌∙◌, is_some}
use Rattle.std.proofs.lemmas.Bool.{not-false, not-true}
use Rattle.dom_model.specs.declared.OwnError.TheVariants.{InUse}
use Rattle.dom_model.specs.Definitions.{entry_in, Discard, is_in_use, discarded}
use Rattle.dom_edit.specs.{declared.world.World.World, UsedNodes.is_used}
use Rattle.dom_commands.specs.{declared.brief.Brief.TheVariants.Nothing, declared.brief.Brief.TheVariants.Own, declared.reply.Reply.TheVariants.Brief}
use Rattle.dom_session.specs.{SessionViews.IsStep}
use Rattle.dom_session.proofs.{GuardedLemmas.step-follows, GuardedLemmas.step-stays, TreeEdits.answer-discard, TreeEdits.refused-discard}
use Rattle.dom_session.proofs.tree_edits.discard.Goals as goal

pub discard-requires-clause-unused : goal.discard-requires-clause-unused
discard-requires-clause-unused c = not-true (is_used c.flush_pending.new.self c.args.top) (sym c.can_discard.ensures.unused ∙ c.if-not-can_discard.false)

pub returns-then-not-can_discard : goal.returns-then-not-can_discard
returns-then-not-can_discard c =
    let u = c.flush_pending.new.self in
    let n = c.args.top in
    let held : is_some (entry_in u.tree.forest n) ≡ true = rw c.flush_pending.ensures (sym c.holds.ensures ∙ c.if-not-holds.false) in
    record {
      step = λ b.
          let P : World → Type 0 = λ old. IsStep old u b (Discard n) (Brief (Own InUse)) in
          subst P c.flush_pending.ensures (step-stays b (Discard n) (Brief (Own InUse)) u
          (λ w shown. refused-discard u b n w shown held (not-false (is_in_use w n) (sym (c.can_discard.ensures.shown w shown) ∙ c.if-not-can_discard.true))));
    }

pub returns : goal.returns
returns c =
    let u = c.flush_pending.new.self in
    let n = c.args.top in
    let held : is_some (entry_in u.tree.forest n) ≡ true = rw c.flush_pending.ensures (sym c.holds.ensures ∙ c.if-not-holds.false) in
    record {
      step = λ b.
          let P : World → Type 0 = λ old. IsStep old c.discard.new.self b (Discard n) (Brief Nothing) in
          subst P c.flush_pending.ensures (step-follows b (Discard n) (Brief Nothing) u c.discard.new.self (discarded n) refl
          (λ w shown. answer-discard u b n w shown held (not-true (is_in_use w n) (sym (c.can_discard.ensures.shown w shown) ∙ c.if-not-can_discard.false)))
          c.discard.ensures.discarded c.discard.ensures.whole);
    }
