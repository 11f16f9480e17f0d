-- A cut keeps all nodes where they stand.
use Rattle.std.proofs.Common.{refl}
use Rattle.std.proofs.lemmas.Result.{on_ok_weaker}
use Rattle.dom_content.proofs.{AreNewerLemmas.no_moves, StaysLemmas.stays-none, StaysLemmas.stays-cut}
use Rattle.dom_content.proofs.content_pieces.cut_if.Goals as goal

pub returns-clause-stays : goal.returns-clause-stays
returns-clause-stays c =
    on_ok_weaker c.replace_data_checked.result
    (stays-cut c.args.world.now c.replace_data_checked.new.world c.args.node c.args.offset c.args.count)
    c.replace_data_checked.ensures.replaced

pub returns-then-not-moves-clause-stays : goal.returns-then-not-moves-clause-stays
returns-then-not-moves-clause-stays c = stays-none c.args.world.now

pub returns-then-not-moves-clause-left : goal.returns-then-not-moves-clause-left
returns-then-not-moves-clause-left c still = refl

pub returns-clause-left : goal.returns-clause-left
returns-clause-left c still = no_moves c.args.moves c.if-not-moves.false still
