use Rattle.std.proofs.Common.{ap}
use Rattle.dom_edit.proofs.FirstWorldLemmas.{whole-empty, shows-first}
use Rattle.dom_edit.proofs.world.World.new.Goals as goal

pub make-requires-clause-whole : goal.make-requires-clause-whole
make-requires-clause-whole c =
    let e = c.empty-world.ensures in
    whole-empty c.empty-world.result e.tree e.ranges e.statics e.iterators e.walkers e.observers

pub returns : goal.returns
returns c =
    let e = c.empty-world.ensures in
    shows-first c.empty-world.result c.make.new.self _ _ _ e.tree e.ranges e.statics e.iterators e.walkers e.observers
    (ap (λ t. t.made) e.tree) c.nameless-label.ensures c.nothing.ensures c.in_ok-make.ensures.made c.in_ok-make.ensures.whole
