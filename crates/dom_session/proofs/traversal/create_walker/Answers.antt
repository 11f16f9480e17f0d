use Rattle.std.proofs.Common.{refl, ◌≡◌, ◌+◌, ◌∙◌, nat_lt, length, true, false, arith, is_some}
use Rattle.std.proofs.lemmas.Bool.Decides.{nat_tests}
use Rattle.dom_model.specs.Definitions.{entry_in}
use Rattle.dom_commands.specs.{declared.brief.Brief.TheVariants.Number, declared.reply.Reply.TheVariants.Brief}
use Rattle.dom_session.proofs.TraversalSteps.{step-create_walker}
use Rattle.dom_session.proofs.traversal.create_walker.Goals as goal

pub returns : goal.returns
returns c =
    let v = c.args.world.now in
    let there : is_some (entry_in v.tree.forest c.args.root) ≡ true = cc in
    let room : nat_lt c.args.numbers (length v.walkers + 1) ≡ false = grind (arith, nat_tests) in
    record {
      step = step-create_walker v c.requires.shown c.args.numbers c.args.root c.number.result c.args.filter c.make.new.self (Brief (Number c.number.result)) there room (c.number.ensures ∙ c.in_ok-id.ensures.number) refl c.in_ok-id.ensures.made;
      left = tt;
      unchanged = tt;
    }
