use Rattle.std.proofs.Common.{tests, rules}
use Rattle.std.proofs.lemmas.Result.{on_ok_weaker}
use Rattle.dom_model.proofs.Forests.Entries.{HasNode-occurs}
use Rattle.dom_edit.proofs.StandByEditsLemmas.{stand-by_insert}
use Rattle.dom_edit.proofs.world.World.insert.Goals as goal

pub is_of_kind-requires : goal.is_of_kind-requires
is_of_kind-requires c = HasNode-occurs c.args.self.now.tree.forest c.args.node c.requires.allowed.there

pub children-requires : goal.children-requires
children-requires c = HasNode-occurs c.args.self.now.tree.forest c.args.node c.requires.allowed.there

pub returns-clause-inserted : goal.returns-clause-inserted
returns-clause-inserted c = search (tests, rules)

pub returns-clause-whole : goal.returns-clause-whole
returns-clause-whole c = search (tests, rules)

pub returns-clause-markers : goal.returns-clause-markers
returns-clause-markers c =
    on_ok_weaker c.enter_children.result
    (stand-by_insert c.args.self.now c.enter_children.new.self c.requires.whole c.enter_children.ensures.whole c.args.node c.args.parent c.args.child c.requires.allowed) c.enter_children.ensures.inserted

pub returns-then-not-is_of_kind-clause-markers : goal.returns-then-not-is_of_kind-clause-markers
returns-then-not-is_of_kind-clause-markers c =
    on_ok_weaker c.enter_alone.result
    (stand-by_insert c.args.self.now c.enter_alone.new.self c.requires.whole c.enter_alone.ensures.whole c.args.node c.args.parent c.args.child c.requires.allowed) c.enter_alone.ensures.inserted
