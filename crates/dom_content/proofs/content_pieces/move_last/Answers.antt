-- What is moved stays, and so do all others.
use Rattle.std.proofs.lemmas.Result.{on_ok_weaker}
use Rattle.dom_content.proofs.StaysLemmas.{stays-moved}
use Rattle.dom_content.proofs.content_pieces.move_last.Goals as goal

pub returns-clause-stays : goal.returns-clause-stays
returns-clause-stays c =
    on_ok_weaker c.insert.result (λ i. stays-moved c.args.world.now c.insert.new.self c.requires.whole c.args.parent c.args.node c.requires.allowed i c.requires.child) c.insert.ensures.inserted
