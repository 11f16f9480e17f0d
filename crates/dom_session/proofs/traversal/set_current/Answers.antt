use Rattle.std.proofs.Common.{refl, ◌≡◌, true, is_some}
use Rattle.dom_model.specs.Definitions.{entry_in}
use Rattle.dom_traverse.specs.Items.{walker_in}
use Rattle.dom_commands.specs.{declared.brief.Brief.TheVariants.Nothing, declared.reply.Reply.TheVariants.Brief}
use Rattle.dom_session.proofs.TraversalSteps.{step-set_current}
use Rattle.dom_session.proofs.traversal.set_current.Goals as goal

pub returns : goal.returns
returns c =
    let v = c.args.world.now in
    let inside : is_some (walker_in v.walkers c.args.walker) ≡ true = cc in
    let there : is_some (entry_in v.tree.forest c.args.node) ≡ true = cc in
    record {
      step = λ b. step-set_current v c.requires.shown b c.args.walker c.args.node c.set_current.new.self (Brief Nothing) inside there refl c.set_current.ensures;
    }
