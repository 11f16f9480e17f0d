use Rattle.std.proofs.Common.{refl, tests, rules}
use Rattle.dom_edit.specs.declared.world.World.{World}
use Rattle.dom_edit.proofs.IsUsedLemmas.{no-end-inside, whole-left}
use Rattle.dom_edit.proofs.world.World.discard.Goals as goal

pub forget-requires-clause-empty : goal.forget-requires-clause-empty
forget-requires-clause-empty c = no-end-inside c.args.self.now c.args.top c.requires.unused

pub returns-clause-whole : goal.returns-clause-whole
returns-clause-whole c =
    let v = c.args.self.now in
    let new : World = record { tree = c.free.new.self; ranges = c.forget.new.self; statics = v.statics; iterators = v.iterators; walkers = v.walkers; observers = v.observers } in
    whole-left v new c.args.top c.requires.whole c.requires.unused c.free.ensures c.forget.ensures refl refl refl refl

pub returns-clause-discarded : goal.returns-clause-discarded
returns-clause-discarded c = search (tests, rules)

pub returns-clause-ranges : goal.returns-clause-ranges
returns-clause-ranges c = c.forget.ensures
