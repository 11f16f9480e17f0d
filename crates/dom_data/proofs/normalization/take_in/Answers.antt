-- The ends move, and the Text leaves.
use Rattle.std.proofs.Common.{ℕ, ◌^◌, ◌<◌, List, length, subst, arith, tests, rules}
use Rattle.std.proofs.lemmas.Grind.{common_steps}
use Rattle.dom_model.proofs.Forests.Entries.{occurs-HasNode}
use Rattle.dom_data.proofs.{TextHeldLemmas.text-held, PutBehindLemmas.covered-there, TakenInLemmas.first-fits, TakenInLemmas.whole-merged, TakenInLemmas.follows-taken, KeepsNumbersLemmas.numbers-merged}
use Rattle.dom_data.proofs.normalization.take_in.Goals as goal

pub merged-requires-clause-fit : goal.merged-requires-clause-fit
merged-requires-clause-fit c =
    let small : length c.data_in.result.now < 2 ^ 64 = search (tests, rules) in
    first-fits c.args.world.now c.requires.whole c.args.node c.args.parent c.args.base c.args.next c.requires.next.rest c.requires.next.joinable
    (subst (λ (units : List ℕ). length units < 2 ^ 64) c.data_in.ensures small) c.index_if_needed-index.result

pub merged-requires-clause-into_covered : goal.merged-requires-clause-into_covered
merged-requires-clause-into_covered c =
    let f = c.args.world.now.tree.forest in
    covered-there c.args.world.now c.requires.whole c.args.node (occurs-HasNode f c.args.node (text-held f c.args.node c.requires.next.joinable.text))

pub remove-requires-clause-whole : goal.remove-requires-clause-whole
remove-requires-clause-whole c =
    whole-merged c.args.world.now c.requires.whole c.args.node c.args.parent c.args.base c.args.next c.requires.next.rest c.requires.next.joinable c.merged.new.self c.index_if_needed-index.result c.index_if_needed-index.ensures.asked c.merged.ensures

pub returns-clause-taken : goal.returns-clause-taken
returns-clause-taken c =
    follows-taken c.args.world.now c.requires.whole c.args.node c.args.parent c.args.base c.args.next c.requires.next.rest c.requires.next.joinable c.merged.new.self c.index_if_needed-index.result c.index_if_needed-index.ensures.asked c.merged.ensures c.remove.new.self c.in_ok-remove.ensures.removed

pub overflow_add-result : goal.overflow_add-result
overflow_add-result c = grind (arith, common_steps)

pub returns-clause-further : goal.returns-clause-further
returns-clause-further c = search (tests, rules)

pub returns-clause-whole : goal.returns-clause-whole
returns-clause-whole c = search (tests, rules)

pub returns-clause-kept : goal.returns-clause-kept
returns-clause-kept c = numbers-merged c.args.world.now c.merged.new.self c.remove.new.self _ c.merged.ensures c.remove.ensures.kept

pub returns-in_err-remove-clause-kept : goal.returns-in_err-remove-clause-kept
returns-in_err-remove-clause-kept c = numbers-merged c.args.world.now c.merged.new.self c.remove.new.self _ c.merged.ensures c.remove.ensures.kept
