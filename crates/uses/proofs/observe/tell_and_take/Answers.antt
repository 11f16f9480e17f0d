use Rattle.std.proofs.Common.{◌∙◌}
use Rattle.dom_model.specs.Definitions.{standing_on, noted, ancestors}
use Rattle.uses.proofs.observe.tell_and_take.Goals as goal

pub take-requires : goal.take-requires
take-requires g c = record { held = c.in_ok-queue_record.ensures.made.there c.args.observer ∙ c.requires.held }

pub returns : goal.returns
returns g c = record {
  records = λ x w. c.take.ensures.records
      (noted (record (c.args.change.now) { standing = standing_on (ancestors c.args.change.now.target c.args.tree.now.forest) x.registrations }) x)
      (c.in_ok-queue_record.ensures.queued x w);
}
