use Rattle.dom_model.specs.Definitions.{units_of}
use Rattle.uses.proofs.edit.ends_after_removal.Goals as goal

pub remove_text-requires-clause-keeps : goal.remove_text-requires-clause-keeps
remove_text-requires-clause-keeps c = (units_of c.args.text.now, c.in_ok-world.ensures.keeps)
