-- Nothing is taken out behind the last unit.
use Rattle.std.proofs.Common.{ℕ, List, length, ap}
use Rattle.std.proofs.lemmas.Result.{on_ok_weaker}
use Rattle.dom_data.proofs.JoinedTexts.{follows-appended}
use Rattle.dom_data.proofs.normalization.append_units.Goals as goal

pub returns-clause-appended : goal.returns-clause-appended
returns-clause-appended c =
    on_ok_weaker c.replace_units.result
    (follows-appended c.args.world.now c.replace_units.new.world c.args.node (length c.data_in-end.result.now) c.args.added.now (ap (λ (units : List ℕ). length units) c.data_in-end.ensures))
    c.replace_units.ensures.replaced
