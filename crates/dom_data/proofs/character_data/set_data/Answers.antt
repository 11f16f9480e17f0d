-- All units, from the first on.
use Rattle.std.proofs.Common.{ℕ, List, length, ap, tests, rules}
use Rattle.std.proofs.lemmas.Result.{on_ok_weaker}
use Rattle.dom_data.proofs.{StandByEditsLemmas.stand-by_set_data, IsWholeLemmas.follows-set}
use Rattle.dom_data.proofs.character_data.set_data.Goals as goal

pub returns-clause-set : goal.returns-clause-set
returns-clause-set c =
    on_ok_weaker c.replace_units.result (follows-set c.args.world.now c.replace_units.new.world c.args.node (length c.data_in-length.result.now) c.args.text.now (ap (λ (units : List ℕ). length units) c.data_in-length.ensures)) c.replace_units.ensures.replaced

pub returns-clause-markers : goal.returns-clause-markers
returns-clause-markers c =
    on_ok_weaker c.replace_units.result (stand-by_set_data c.args.world.now c.replace_units.new.world c.requires.whole c.replace_units.ensures.whole c.args.node c.args.text.now c.requires.kind) (returns-clause-set c)

pub returns-clause-whole : goal.returns-clause-whole
returns-clause-whole c = search (tests, rules)
