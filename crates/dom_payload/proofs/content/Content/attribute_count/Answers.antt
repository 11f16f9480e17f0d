use Rattle.std.proofs.Common.{sym}
use Rattle.dom_payload.proofs.NoAttributes.{distinct-none}
use Rattle.dom_payload.proofs.content.Content.attribute_count.Goals as goal

pub returns-in-None-clause-distinct : goal.returns-in-None-clause-distinct
returns-in-None-clause-distinct c = distinct-none c.args.self.now.attributes (sym c.in-None.ensures)
