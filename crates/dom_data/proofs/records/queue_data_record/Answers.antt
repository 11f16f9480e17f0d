-- The record of changed data.
use Rattle.std.proofs.Common.{◌∷◌, [], None, Some, refl, ap, sym, ◌∙◌, subst}
use Rattle.std.proofs.lemmas.Result.{on_ok_weaker, on_err_weaker}
use Rattle.dom_model.specs.declared.RecordType.TheVariants.{CharacterData}
use Rattle.dom_model.specs.Definitions.{Forest, entry_in, ancestors, Content, Mutation, Observing, standing_on, noted, content_in, data_of}
use Rattle.dom_edit.specs.declared.world.World.{World}
use Rattle.dom_edit.proofs.{KeepsNodesLemmas.one-there, AreThereLemmas.whole-named, UnobservedLemmas.follows-unheard_mutation}
use Rattle.dom_observe.specs.{ObservedNodes.nodes_of_mutation, ObservedNodes.NamesOnly, Undoing.IsQueued, Watchers.Watchers, Watchers.Watches}
use Rattle.dom_data.specs.Changes.{change_of}
use Rattle.dom_data.proofs.QueuesMutationLemmas.{follows-told, queued-unheard}
use Rattle.dom_data.proofs.records.queue_data_record.Goals as goal

pub returns-clause-told : goal.returns-clause-told
returns-clause-told c =
    let v = c.args.world.now in
    let n = c.args.node in
    let new : World = record v { observers = c.queue_record.new.self } in
    on_ok_weaker c.queue_record.result
    (λ told. follows-told v new CharacterData n None (λ (f : Forest Content). Some (content_in (entry_in f n)).text) refl
    (subst (λ (m : Mutation). (x : Observing) → Watches v.observers x → Watches new.observers (noted (record m { standing = standing_on (ancestors m.target v.tree.forest) x.registrations }) x)) c.data_change-mutation.ensures told))
    c.queue_record.ensures.queued

pub returns-clause-own : goal.returns-clause-own
returns-clause-own c =
    let v = c.args.world.now in
    on_ok_weaker c.queue_record.result
    (λ own. subst (λ (m : Mutation). IsQueued (ancestors m.target v.tree.forest) m v.observers c.queue_record.new.self) c.data_change-mutation.ensures own)
    c.queue_record.ensures.own

pub returns-clause-err : goal.returns-clause-err
returns-clause-err c =
    on_err_weaker c.queue_record.result (λ err. ap (λ (o : Watchers). record c.args.world.now { observers = o }) err) c.queue_record.ensures.err

pub returns-clause-whole : goal.returns-clause-whole
returns-clause-whole c =
    let v = c.args.world.now in
    let n = c.args.node in
    let new : World = record v { observers = c.queue_record.new.self } in
    whole-named v new (n ∷ []) refl c.requires.whole
    (subst (λ (m : Mutation). NamesOnly (nodes_of_mutation m) v.observers new.observers) c.data_change-mutation.ensures c.queue_record.ensures.names) (one-there v.tree.forest n c.requires.held)

pub returns-clause-observers : goal.returns-clause-observers
returns-clause-observers c = c.queue_record.ensures.made

pub returns-then-is_idle-clause-told : goal.returns-then-is_idle-clause-told
returns-then-is_idle-clause-told c =
    let n = c.args.node in
    follows-unheard_mutation c.args.world.now (λ w. change_of CharacterData n None (Some (data_of w n))) (λ x o. c.is_idle.ensures.idle x o c.if-is_idle.true)

pub returns-then-is_idle-clause-own : goal.returns-then-is_idle-clause-own
returns-then-is_idle-clause-own c =
    queued-unheard (ancestors c.args.node c.args.world.now.tree.forest) _ c.args.world.now.observers (sym c.is_idle.ensures.own ∙ c.if-is_idle.true)
