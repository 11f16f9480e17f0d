-- What the ways meet in.
use Rattle.dom_point.proofs.MeetingLemmas.{ways-common}
use Rattle.dom_point.proofs.ancestors.common.Goals as goal

pub returns : goal.returns
returns g c = ways-common c.state_law.ensures c.args.a c.args.b c.meeting.result.node c.meeting.result.first c.meeting.result.second c.requires.a_held c.requires.b_held c.meeting.ensures.first c.meeting.ensures.second c.meeting.ensures.apart
