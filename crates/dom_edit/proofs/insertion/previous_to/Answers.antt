use Rattle.dom_model.proofs.Forests.Entries.{HasNode-occurs}
use Rattle.dom_edit.proofs.insertion.previous_to.Goals as goal

pub last-requires : goal.last-requires
last-requires c = HasNode-occurs c.args.tree.now.forest c.args.parent c.requires.parent_there
