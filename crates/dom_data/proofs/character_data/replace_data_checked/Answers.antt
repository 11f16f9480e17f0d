-- A count that is cut at the end.
use Rattle.std.proofs.Common.{◌≤◌, ℕ, List, length, sym, ap, ◌∙◌, subst, tests, rules}
use Rattle.std.proofs.lemmas.Result.{on_ok_weaker}
use Rattle.dom_model.specs.Definitions.{cut_count}
use Rattle.dom_data.proofs.{StandByEditsLemmas.stand-by_replace_data, IsWholeLemmas.count-cut, IsWholeLemmas.follows-cut}
use Rattle.dom_data.proofs.character_data.replace_data_checked.Goals as goal

pub returns-clause-replaced : goal.returns-clause-replaced
returns-clause-replaced c =
    let long = length c.data_in-length.result.now in
    let whole = ap (λ (units : List ℕ). length units) c.data_in-length.ensures in
    let within : c.args.offset ≤ long = subst (λ l. c.args.offset ≤ l) (sym whole) c.requires.within in
    on_ok_weaker c.replace_units.result
    (follows-cut c.args.world.now c.replace_units.new.world c.args.node c.args.offset c.args.count c.min-count.result c.args.added.now
    (c.min-count.ensures ∙ count-cut long c.args.offset c.args.count within ∙ ap (λ l. cut_count l c.args.offset c.args.count) whole))
    c.replace_units.ensures.replaced

pub returns-clause-markers : goal.returns-clause-markers
returns-clause-markers c =
    on_ok_weaker c.replace_units.result
    (stand-by_replace_data c.args.world.now c.replace_units.new.world c.requires.whole c.replace_units.ensures.whole c.args.node c.args.offset c.args.count c.args.added.now c.requires.kind
    c.requires.within) (returns-clause-replaced c)

pub returns-clause-whole : goal.returns-clause-whole
returns-clause-whole c = search (tests, rules)
