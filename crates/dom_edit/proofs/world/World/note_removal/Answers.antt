-- The node is named, and those that the record names.
use Rattle.std.proofs.Common.{[], ◌∷◌, ◌++◌, refl, ap}
use Rattle.std.proofs.lemmas.Result.{on_err_weaker}
use Rattle.dom_observe.specs.Watchers.{Watchers}
use Rattle.dom_model.specs.Definitions.{if_any}
use Rattle.dom_edit.proofs.{AreThereLemmas.there-append, AreThereLemmas.there-told, AreThereLemmas.whole-named, KeepsNodesLemmas.none-there, KeepsNodesLemmas.one-there, UnobservedLemmas.follows-unheard_removal}
use Rattle.dom_edit.proofs.world.World.note_removal.Goals as goal

pub returns-clause-whole : goal.returns-clause-whole
returns-clause-whole c =
    let v = c.args.self.now in
    let a = c.args in
    let r = c.requires in
    let f = v.tree.forest in
    let told = a.parent ∷ ([] ++ ((a.node ∷ []) ++ (if_any a.previous ++ if_any a.next))) in
    whole-named v (record v { observers = c.removed.new.self }) (a.node ∷ told) refl r.whole c.removed.ensures.names
    (there-append f (a.node ∷ []) told (one-there f a.node r.node_held)
    (there-told f a.parent [] (a.node ∷ []) a.previous a.next r.held (none-there f) (one-there f a.node r.node_held) r.previous r.next))

pub returns-clause-observers : goal.returns-clause-observers
returns-clause-observers c = c.removed.ensures.made

pub returns-then-is_idle-clause-noted : goal.returns-then-is_idle-clause-noted
returns-then-is_idle-clause-noted c =
    follows-unheard_removal c.args.self.now c.args.node c.args.parent c.args.previous c.args.next (λ x o. c.is_idle.ensures.idle x o c.if-is_idle.true)

pub returns-clause-err : goal.returns-clause-err
returns-clause-err c = on_err_weaker c.removed.result (λ err. ap (λ (o : Watchers). record c.args.self.now { observers = o }) err) c.removed.ensures.err
