-- The fragment is there beside all others.
use Rattle.std.proofs.Common.{[], ap, rules, OnOk}
use Rattle.dom_edit.specs.{declared.world.World.World, Whole.Follows}
use Rattle.dom_clone.proofs.LeavesAllLemmas.{left-covered, left-made, either-way}
use Rattle.dom_model.specs.declared.Kind.TheVariants.{DocumentFragment}
use Rattle.dom_model.specs.Definitions.{no_content, made_node, named}
use Rattle.std.proofs.lemmas.Result.{on_ok_weaker}
use Rattle.dom_content.proofs.{PieceSteps.room-fragment, PieceSteps.data-fragment, PieceSteps.fragment-held, StaysLemmas.stays-fragment}
use Rattle.dom_content.proofs.content_pieces.new_fragment.Goals as goal

pub make-requires-clause-room : goal.make-requires-clause-room
make-requires-clause-room c = room-fragment c.args.world.now c.args.document c.requires.room

pub returns-clause-made : goal.returns-clause-made
returns-clause-made c =
    let made : OnOk c.make.result (Follows c.args.world.now c.make.new.self (made_node c.args.document (named DocumentFragment []) no_content)) = search rules in
    made

pub returns-clause-made_held : goal.returns-clause-made_held
returns-clause-made_held c = on_ok_weaker c.make.result (fragment-held c.args.world.now c.make.new.self c.args.document c.requires.whole) (returns-clause-made c)

pub returns-clause-stays : goal.returns-clause-stays
returns-clause-stays c = on_ok_weaker c.make.result (stays-fragment c.args.world.now c.make.new.self c.args.document) (returns-clause-made c)

pub returns-clause-texts : goal.returns-clause-texts
returns-clause-texts c = on_ok_weaker c.make.result (data-fragment c.args.world.now c.make.new.self c.args.document) (returns-clause-made c)

pub returns-clause-left : goal.returns-clause-left
returns-clause-left c =
    either-way c.make.result (returns-clause-made c) c.make.ensures.kept
    (left-made c.args.world.now c.make.new.self c.args.document (named DocumentFragment []) no_content (ap (λ (w : World). w.observers) c.make.ensures.parts))
    (left-covered c.args.world.now c.make.new.self)
