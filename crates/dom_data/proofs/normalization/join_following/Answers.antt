-- Nothing follows a root.
use Rattle.std.proofs.Common.{sym, ◌∙◌}
use Rattle.std.proofs.lemmas.Result.{on_ok_weaker}
use Rattle.dom_data.proofs.JoinedTexts.{follows-root}
use Rattle.dom_data.proofs.normalization.join_following.Goals as goal

pub returns-in-None-clause-joined : goal.returns-in-None-clause-joined
returns-in-None-clause-joined c =
    on_ok_weaker c.append_units.result (follows-root c.args.world.now c.append_units.new.world c.args.node (sym c.parent.ensures ∙ c.in-None.is)) c.append_units.ensures.appended
