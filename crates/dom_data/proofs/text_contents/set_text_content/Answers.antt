use Rattle.std.proofs.Common.{rules}
use Rattle.std.proofs.lemmas.Result.{on_ok_weaker}
use Rattle.dom_data.proofs.StandByEditsLemmas.{stand-by_set_text_content}
use Rattle.dom_data.proofs.text_contents.set_text_content.Goals as goal

pub returns-in-Element-clause-set : goal.returns-in-Element-clause-set
returns-in-Element-clause-set c = search rules

pub returns-in-Element-clause-markers : goal.returns-in-Element-clause-markers
returns-in-Element-clause-markers c =
    on_ok_weaker c.string_replace_all.result
    (stand-by_set_text_content c.args.world.now c.string_replace_all.new.world c.requires.whole c.string_replace_all.ensures.whole c.args.node c.args.text c.requires.held) (returns-in-Element-clause-set c)

pub returns-in-Document-clause-set : goal.returns-in-Document-clause-set
returns-in-Document-clause-set c = search rules

pub returns-in-Document-clause-markers : goal.returns-in-Document-clause-markers
returns-in-Document-clause-markers c =
    stand-by_set_text_content c.args.world.now c.args.world.now c.requires.whole c.requires.whole c.args.node c.args.text c.requires.held (returns-in-Document-clause-set c)

pub returns-in-Text-clause-set : goal.returns-in-Text-clause-set
returns-in-Text-clause-set c = search rules

pub returns-in-Text-clause-markers : goal.returns-in-Text-clause-markers
returns-in-Text-clause-markers c =
    on_ok_weaker c.set_data.result
    (stand-by_set_text_content c.args.world.now c.set_data.new.world c.requires.whole c.set_data.ensures.whole c.args.node c.args.text c.requires.held) (returns-in-Text-clause-set c)
