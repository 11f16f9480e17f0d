use Rattle.std.proofs.Common.{◌∷◌, ◌++◌, refl, ap}
use Rattle.dom_observe.specs.Watchers.{Watchers}
use Rattle.dom_model.specs.Definitions.{if_any}
use Rattle.dom_edit.proofs.{AreThereLemmas.there-told, AreThereLemmas.whole-named, UnobservedLemmas.follows-unheard_record}
use Rattle.dom_edit.proofs.world.World.queue_tree_record.Goals as goal

pub returns-clause-whole : goal.returns-clause-whole
returns-clause-whole c =
    let v = c.args.self.now in
    let r = c.requires in
    let a = c.args in
    whole-named v (record v { observers = c.queue_record.new.self }) (a.target ∷ (a.added.now ++ (a.removed.now ++ (if_any a.previous ++ if_any a.next)))) refl c.requires.whole c.queue_record.ensures.names
    (there-told v.tree.forest a.target a.added.now a.removed.now a.previous a.next r.held r.added r.removed r.previous r.next)

pub returns-clause-quiet : goal.returns-clause-quiet
returns-clause-quiet c unnamed = ap (λ (o : Watchers). record c.args.self.now { observers = o }) (c.queue_record.ensures.quiet unnamed)

pub returns-clause-observers : goal.returns-clause-observers
returns-clause-observers c = c.queue_record.ensures.made

pub returns-then-is_idle-clause-queued : goal.returns-then-is_idle-clause-queued
returns-then-is_idle-clause-queued c =
    follows-unheard_record c.args.self.now c.args.target c.args.added.now c.args.removed.now c.args.previous c.args.next (λ x o. c.is_idle.ensures.idle x o c.if-is_idle.true)
