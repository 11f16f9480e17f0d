use Rattle.std.proofs.Common.{◌≡◌, true, refl, sym, ◌∙◌, is_some}
use Rattle.dom_model.specs.Definitions.{entry_in}
use Rattle.dom_observe.specs.Watchers.{queue_in}
use Rattle.dom_commands.specs.{declared.brief.Brief.TheVariants.Nothing, declared.brief.Brief.TheVariants.Dom, declared.reply.Reply.TheVariants.Brief}
use Rattle.dom_session.proofs.ObserverSteps.{step-observe, step-not_observed, settled-ok, settled-err}
use Rattle.dom_session.proofs.observers.observe.Goals as goal

pub returns-in_ok-observe-in-Ok : goal.returns-in_ok-observe-in-Ok
returns-in_ok-observe-in-Ok c =
    let v = c.args.world.now in
    let there : is_some (queue_in v.observers c.args.observer) ≡ true = cc in
    let held : is_some (entry_in v.tree.forest c.args.node) ≡ true = cc in
    let options = settled-ok c.args.options c.in-Ok.options (sym c.resolve_options.ensures ∙ c.in-Ok.is) in
    record {
      step = λ b. step-observe v c.requires.shown.shows.whole b c.args.observer c.args.node c.args.options c.observe.new.self (Brief Nothing) there held options.0 refl
          (rw options.1 at c.in_ok-observe-in-Ok.ensures.ok) c.observe.ensures.names;
      left = tt;
      unchanged = tt;
    }

pub returns-in-Err : goal.returns-in-Err
returns-in-Err c =
    let v = c.args.world.now in
    let there : is_some (queue_in v.observers c.args.observer) ≡ true = cc in
    let held : is_some (entry_in v.tree.forest c.args.node) ≡ true = cc in
    record {
      step = λ b. step-not_observed v c.requires.shown.shows.whole b c.args.observer c.args.node c.args.options c.in-Err.error (Brief (Dom c.in-Err.error)) there held (settled-err c.args.options c.in-Err.error (sym c.resolve_options.ensures ∙ c.in-Err.is)) refl;
      left = tt;
      unchanged = tt;
    }
