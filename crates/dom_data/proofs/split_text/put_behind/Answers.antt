-- The new Text comes in behind the old one.
use Rattle.std.proofs.Common.{false, sym, subst}
use Rattle.std.proofs.lemmas.Result.{on_ok_weaker}
use Rattle.dom_model.specs.Definitions.{insert, IsInsertable}
use Rattle.dom_edit.specs.Whole.{Follows}
use Rattle.dom_data.proofs.PutBehindLemmas.{held-behind, insertable-new, parent-mid, room-mid}
use Rattle.dom_data.proofs.split_text.put_behind.Goals as goal

pub parent-requires : goal.parent-requires
parent-requires c = held-behind c.args.world.now c.args.node c.args.new c.requires.tail

pub insert-requires-clause-allowed : goal.insert-requires-clause-allowed
insert-requires-clause-allowed c =
    subst (IsInsertable c.args.world.now.tree.forest c.args.new c.in-Some.parent) (sym c.next-next.ensures)
    (insertable-new c.args.world.now c.args.node c.args.new c.requires.tail c.in-Some.parent (sym c.in-Some.ensures))

pub returns-in-Some-clause-parent : goal.returns-in-Some-clause-parent
returns-in-Some-clause-parent c =
    on_ok_weaker c.insert.result
    (λ (inserted : Follows c.args.world.now c.insert.new.self (insert false c.args.new c.in-Some.parent c.next-next.result)).
    parent-mid c.args.world.now c.args.node c.args.new c.requires.tail c.in-Some.parent (sym c.in-Some.ensures) c.insert.new.self
    (subst (λ d. Follows c.args.world.now c.insert.new.self (insert false c.args.new c.in-Some.parent d)) c.next-next.ensures inserted))
    c.insert.ensures.inserted

pub returns-in-Some-clause-room : goal.returns-in-Some-clause-room
returns-in-Some-clause-room c =
    on_ok_weaker c.insert.result
    (λ (inserted : Follows c.args.world.now c.insert.new.self (insert false c.args.new c.in-Some.parent c.next-next.result)).
    room-mid c.args.world.now c.args.node c.args.new c.requires.tail c.in-Some.parent (sym c.in-Some.ensures) c.insert.new.self
    (subst (λ d. Follows c.args.world.now c.insert.new.self (insert false c.args.new c.in-Some.parent d)) c.next-next.ensures inserted))
    c.insert.ensures.inserted
