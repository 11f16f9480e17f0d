use Rattle.std.proofs.Common.{codes}
use Rattle.dom_model.specs.Definitions.{units_of}
use Rattle.uses.proofs.SetAttributes.{attribute_value-with_attribute}
use Rattle.uses.proofs.attrs.set_title.Goals as goal

pub returns-clause-reads : goal.returns-clause-reads
returns-clause-reads c =
    rw (c.in_ok-set.ensures.ok, c.in_ok-name.ensures.ok, c.in_ok-value.ensures)
    (attribute_value-with_attribute (codes "title") (units_of c.args.text.now) c.args.attrs.now)
