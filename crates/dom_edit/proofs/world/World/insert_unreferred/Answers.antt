use Rattle.std.proofs.Common.{tests, rules}
use Rattle.std.proofs.lemmas.Result.{on_ok_weaker}
use Rattle.dom_model.proofs.Forests.Entries.{HasNode-occurs}
use Rattle.dom_edit.proofs.StandByEditsLemmas.{stand-by_insert}
use Rattle.dom_edit.proofs.world.World.insert_unreferred.Goals as goal

pub entering-requires : goal.entering-requires
entering-requires c = HasNode-occurs c.args.self.now.tree.forest c.args.node c.requires.allowed.there

pub returns-clause-inserted : goal.returns-clause-inserted
returns-clause-inserted c = search (tests, rules)

pub returns-clause-whole : goal.returns-clause-whole
returns-clause-whole c = search (tests, rules)

pub returns-clause-markers : goal.returns-clause-markers
returns-clause-markers c =
    on_ok_weaker c.enter_unreferred.result
    (stand-by_insert c.args.self.now c.enter_unreferred.new.self c.requires.whole c.enter_unreferred.ensures.whole c.args.node c.args.parent c.args.child c.requires.allowed) c.enter_unreferred.ensures.inserted

pub returns-in_err-incoming-clause-left : goal.returns-in_err-incoming-clause-left
returns-in_err-incoming-clause-left c last root a h newer l = l

pub returns-clause-left : goal.returns-clause-left
returns-clause-left c = c.enter_unreferred.ensures.left
