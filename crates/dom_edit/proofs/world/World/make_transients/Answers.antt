use Rattle.dom_edit.proofs.{RemoveLemmas.follows-idle, KeepsNodesLemmas.one-there, AreThereLemmas.whole-named, KeepsWatchersLemmas.observers-same}
use Rattle.std.proofs.Common.{[], ◌∷◌, refl, ap}
use Rattle.std.proofs.lemmas.Result.{on_err_weaker}
use Rattle.dom_observe.specs.Watchers.{Watchers}
use Rattle.dom_edit.proofs.world.World.make_transients.Goals as goal

pub returns-then-is_idle-clause-made : goal.returns-then-is_idle-clause-made
returns-then-is_idle-clause-made c =
    follows-idle c.args.self.now c.args.node c.args.parent (λ x o. c.is_idle.ensures.idle x o c.if-is_idle.true)

pub returns-clause-whole : goal.returns-clause-whole
returns-clause-whole c =
    let v = c.args.self.now in
    let n = c.args.node in
    whole-named v (record v { observers = c.transients.new.self }) (n ∷ []) refl c.requires.whole c.transients.ensures.names (one-there v.tree.forest n c.requires.node_held)

pub returns-then-is_idle-clause-quiet : goal.returns-then-is_idle-clause-quiet
returns-then-is_idle-clause-quiet c unnamed = refl

pub returns-clause-quiet : goal.returns-clause-quiet
returns-clause-quiet c unnamed = ap (λ (o : Watchers). record c.args.self.now { observers = o }) (c.transients.ensures.quiet unnamed)

pub returns-then-is_idle-clause-observers : goal.returns-then-is_idle-clause-observers
returns-then-is_idle-clause-observers c = observers-same c.args.self.now.observers c.args.self.now.observers refl

pub returns-clause-observers : goal.returns-clause-observers
returns-clause-observers c = c.transients.ensures.made

pub returns-clause-err : goal.returns-clause-err
returns-clause-err c = on_err_weaker c.transients.result (λ err. ap (λ (o : Watchers). record c.args.self.now { observers = o }) err) c.transients.ensures.err
