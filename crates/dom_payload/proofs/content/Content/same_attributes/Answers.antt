use Rattle.std.proofs.Common.{sym}
use Rattle.dom_payload.proofs.NoAttributes.{none-are-same, same-are-none}
use Rattle.dom_payload.proofs.content.Content.same_attributes.Goals as goal

pub returns-in-None : goal.returns-in-None
returns-in-None c =
    none-are-same c.args.self.now.attributes c.args.other.now.attributes c.attribute_count.result (sym c.in-None.ensures) c.attribute_count.ensures.len

pub returns-in-None-attrs : goal.returns-in-None-attrs
returns-in-None-attrs c =
    same-are-none c.args.self.now.attributes c.args.other.now.attributes c.attribute_count-in-None-attrs.result (sym c.in-None-attrs.ensures) c.attribute_count-in-None-attrs.ensures.len
