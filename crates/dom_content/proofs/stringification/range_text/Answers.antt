-- What lies between the markers is the text that was gathered.
use Rattle.std.proofs.lemmas.Result.{IfOk-weaker}
use Rattle.dom_content.proofs.ContentsMarked.{text-between}
use Rattle.dom_content.proofs.stringification.range_text.Goals as goal

pub returns-clause-between : goal.returns-clause-between
returns-clause-between c = IfOk-weaker c.gather_text.result _ _ (λ text. text-between c.args.world.now c.args.range text c.requires.whole) c.gather_text.ensures
