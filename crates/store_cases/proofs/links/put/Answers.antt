use Rattle.std.proofs.Common.{◌≡◌, length, arith}
use Rattle.dom_model.specs.Definitions.{entry_at, children_in}
use Rattle.dom_links.proofs.LeafLemmas.{leaf_alone}
use Rattle.store_cases.proofs.links.put.Goals as goal

pub link-requires-clause-no_cycle : goal.link-requires-clause-no_cycle
link-requires-clause-no_cycle c s =
    let leaf : length (children_in (entry_at c.args.links.now c.args.child)) ≡ 0 = grind arith in
    let e : c.args.parent ≡ c.args.child = leaf_alone (entry_at c.args.links.now) c.args.child c.args.parent c.state_law.ensures.linked leaf s in
    grind arith

pub link-requires-in-None-clause-no_cycle : goal.link-requires-in-None-clause-no_cycle
link-requires-in-None-clause-no_cycle c s =
    let leaf : length (children_in (entry_at c.args.links.now c.args.child)) ≡ 0 = grind arith in
    let e : c.args.parent ≡ c.args.child = leaf_alone (entry_at c.args.links.now) c.args.child c.args.parent c.state_law.ensures.linked leaf s in
    grind arith
