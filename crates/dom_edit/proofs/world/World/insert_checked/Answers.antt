use Rattle.std.proofs.Common.{tests, rules}
use Rattle.std.proofs.lemmas.Result.{on_ok_weaker}
use Rattle.dom_edit.proofs.{StandByEditsLemmas.stand-by_pre_insert, ReplaceLemmas.insertable-checked, ReplaceLemmas.follows-pre_insert}
use Rattle.dom_edit.proofs.world.World.insert_checked.Goals as goal

pub insert-requires-clause-allowed : goal.insert-requires-clause-allowed
insert-requires-clause-allowed c =
    insertable-checked c.args.self.now c.requires.whole c.args.parent c.args.node c.args.child c.reference_child-reference.result c.requires.node_held c.requires.allowed c.reference_child-reference.ensures

pub returns-clause-markers : goal.returns-clause-markers
returns-clause-markers c =
    let v = c.args.self.now in
    on_ok_weaker c.insert.result
    (λ f. stand-by_pre_insert v c.insert.new.self c.requires.whole c.insert.ensures.whole c.args.node c.args.parent c.args.child c.requires.node_held c.requires.allowed
    (follows-pre_insert v c.insert.new.self c.args.node c.args.parent c.args.child c.reference_child-reference.result c.reference_child-reference.ensures f))
    c.insert.ensures.inserted

pub returns-clause-inserted : goal.returns-clause-inserted
returns-clause-inserted c = search (tests, rules)

pub returns-clause-whole : goal.returns-clause-whole
returns-clause-whole c = search (tests, rules)
