use Rattle.std.proofs.Common.{◌≡◌, ◌||◌, true, IfOk, OnErr, None, refl, sym, subst}
use Rattle.dom_model.specs.Definitions.{AppendChild, Bounds, append}
use Rattle.dom_edit.specs.{declared.world.World.World, Whole.IsShown}
use Rattle.dom_commands.specs.{declared.brief.Brief.TheVariants.Number, declared.reply.Reply.TheVariants.Brief, Brief.reply_of}
use Rattle.dom_session.specs.{OutOfMemory.KeepsWholeWorld, GoingOn.is_unobserved, GoingOn.is_lone, SessionViews.IsStep}
use Rattle.dom_session.proofs.{GuardedLemmas.step-follows, TreeEdits.answer-append_child}
use Rattle.dom_session.proofs.tree_edits.append_child.Goals as goal

pub returns-then-append_leaf : goal.returns-then-append_leaf
returns-then-append_leaf c =
    let old = c.args.world.now in
    let p = c.args.parent in
    let n = c.args.node in
    let done = c.if-append_leaf.true in
    record {
      step = λ b. rw c.number.ensures (step-follows b (AppendChild p n) (Brief (Number n)) old c.append_leaf.new.self (append n p) refl
          (λ w shown. answer-append_child old b p n w None shown (c.append_leaf.ensures.parent_held done) (c.append_leaf.ensures.node_held done) (c.append_leaf.ensures.allowed done))
          (c.append_leaf.ensures.appended done) c.append_leaf.ensures.whole);
      left = tt;
      same = λ may. tt;
    }

pub append_any-requires : goal.append_any-requires
append_any-requires c = record { shown = subst IsShown (sym (c.append_leaf.ensures.left c.if-append_leaf.false)) c.requires.shown }

pub returns : goal.returns
returns c =
    let same = c.append_leaf.ensures.left c.if-append_leaf.false in
    let new = c.append_any.new.world in
    record {
      step = subst (λ (v : World). IfOk c.append_any.result (λ reply. (b : Bounds) → IsStep v new b (AppendChild c.args.parent c.args.node) (reply_of reply))) same c.append_any.ensures.step;
      left = subst (λ (v : World). OnErr c.append_any.result (KeepsWholeWorld v new)) same c.append_any.ensures.left;
      same = subst (λ (v : World). (is_unobserved v || is_lone v c.args.node) ≡ true → OnErr c.append_any.result (new ≡ v)) same c.append_any.ensures.same;
    }
