-- The copy is there beside all others.
use Rattle.std.proofs.Common.{ap, rules}
use Rattle.std.proofs.lemmas.Result.{on_ok_weaker}
use Rattle.dom_content.proofs.{PieceSteps.room-copied, PieceSteps.follows-copied, PieceSteps.kinds-copied, PieceSteps.data-copied, PieceSteps.copied-held, AreNewerLemmas.root-part, StaysLemmas.stays-copied}
use Rattle.dom_edit.specs.declared.world.World.{World}
use Rattle.dom_clone.proofs.LeavesAllLemmas.{left-same, left-covered, left-made, either-way}
use Rattle.dom_content.proofs.content_pieces.copy_with.Goals as goal

pub make-requires-clause-room : goal.make-requires-clause-room
make-requires-clause-room c = room-copied c.args.world.now c.requires.whole c.args.node c.requires.held c.args.units c.requires.room

pub returns-clause-copied : goal.returns-clause-copied
returns-clause-copied c =
    follows-copied c.args.world.now c.requires.whole c.args.node c.requires.held c.args.units c.make.result c.make.new.self
    (search rules)

pub returns-clause-copy_held : goal.returns-clause-copy_held
returns-clause-copy_held c = on_ok_weaker c.make.result (copied-held c.args.world.now c.make.new.self c.args.units c.args.node c.requires.whole c.requires.held) (returns-clause-copied c)

pub returns-clause-stays : goal.returns-clause-stays
returns-clause-stays c = on_ok_weaker c.make.result (stays-copied c.args.world.now c.make.new.self c.args.units c.args.node) (returns-clause-copied c)

pub returns-clause-kinds : goal.returns-clause-kinds
returns-clause-kinds c = on_ok_weaker c.make.result (kinds-copied c.args.world.now c.make.new.self c.args.units c.args.node) (returns-clause-copied c)

pub returns-clause-texts : goal.returns-clause-texts
returns-clause-texts c = on_ok_weaker c.make.result (data-copied c.args.world.now c.make.new.self c.args.units c.args.node) (returns-clause-copied c)

pub returns-clause-root : goal.returns-clause-root
returns-clause-root c = on_ok_weaker c.make.result (root-part c.args.world.now c.make.new.self c.requires.whole c.args.units c.args.node) (returns-clause-copied c)

pub returns-in_err-label-clause-left : goal.returns-in_err-label-clause-left
returns-in_err-label-clause-left c = left-same c.args.world.now

pub returns-in_err-attrs-clause-left : goal.returns-in_err-attrs-clause-left
returns-in_err-attrs-clause-left c = left-same c.args.world.now

pub returns-in_err-content-clause-left : goal.returns-in_err-content-clause-left
returns-in_err-content-clause-left c = left-same c.args.world.now

pub returns-clause-left : goal.returns-clause-left
returns-clause-left c =
    either-way c.make.result c.make.ensures.made c.make.ensures.kept
    (left-made c.args.world.now c.make.new.self _ _ _ (ap (λ (w : World). w.observers) c.make.ensures.parts))
    (left-covered c.args.world.now c.make.new.self)
