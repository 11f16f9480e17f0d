-- What is put stays, and so do all others.
use Rattle.std.proofs.Common.{refl}
use Rattle.std.proofs.lemmas.Result.{on_ok_weaker}
use Rattle.dom_content.proofs.{PieceSteps.kinds-appended, PieceSteps.data-appended, StaysLemmas.stays-appended}
use Rattle.dom_content.proofs.content_pieces.put_last.Goals as goal

pub returns-clause-stays : goal.returns-clause-stays
returns-clause-stays c =
    on_ok_weaker c.insert_unreferred.result
    (λ i. stays-appended c.args.world.now c.insert_unreferred.new.self c.requires.whole c.args.parent c.args.node c.requires.allowed i c.requires.unreferred) c.insert_unreferred.ensures.inserted

pub returns-clause-kinds : goal.returns-clause-kinds
returns-clause-kinds c =
    on_ok_weaker c.insert_unreferred.result (kinds-appended c.args.world.now c.insert_unreferred.new.self c.requires.whole c.args.parent c.args.node c.requires.allowed) c.insert_unreferred.ensures.inserted

pub returns-clause-texts : goal.returns-clause-texts
returns-clause-texts c =
    on_ok_weaker c.insert_unreferred.result (data-appended c.args.world.now c.insert_unreferred.new.self c.requires.whole c.args.parent c.args.node c.requires.allowed) c.insert_unreferred.ensures.inserted

pub returns-clause-left : goal.returns-clause-left
returns-clause-left c = c.insert_unreferred.ensures.left refl
