-- The markers stand by the edits of the token text, and what lay between them is gone.
use Rattle.std.proofs.lemmas.Result.{on_ok_weaker}
use Rattle.dom_content.proofs.{ContentsMarked.markers-deleted, ContentsLeft.left-deleted}
use Rattle.dom_content.proofs.deletion.delete_contents.Goals as goal

pub returns-clause-markers : goal.returns-clause-markers
returns-clause-markers c =
    on_ok_weaker c.delete_range.result (markers-deleted c.args.world.now c.delete_range.new.world c.args.range c.requires.whole c.delete_range.ensures.whole) c.delete_range.ensures.deleted

pub returns-clause-left : goal.returns-clause-left
returns-clause-left c = on_ok_weaker c.delete_range.result (left-deleted c.args.world.now c.delete_range.new.world c.args.range c.requires.whole) c.delete_range.ensures.deleted
