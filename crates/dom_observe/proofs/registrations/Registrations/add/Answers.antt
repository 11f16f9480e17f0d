-- What comes in has a turn behind those of its node; a refusal leaves all as it was.
use Rattle.std.proofs.Common.{Some, refl, ap, sym, ◌∙◌, subst}
use Rattle.slab.specs.Slab.{Updates}
use Rattle.dom_model.specs.Definitions.{among}
use Rattle.dom_observe.specs.{Invariant.AreRegistered, declared.registration.Registration.Registration, Watchers.on, Registrations.Registered, Registrations.listed, Turns.turn_at, Turns.Rises}
use Rattle.dom_observe.proofs.{ResultLemmas.at_err, AreRegisteredLemmas.unique-in, AreRegisteredLemmas.put-last, AreRegisteredLemmas.put-among, AreRegisteredLemmas.registered-put, AreRegisteredLemmas.seen-same}
use Rattle.dom_observe.proofs.registrations.Registrations.add.Goals as goal

pub put_key-requires : goal.put_key-requires
put_key-requires c = unique-in c.self.inside.nodes.entries c.self.invariant.unique

pub invariant_of-self : goal.invariant_of-self
invariant_of-self c = subst AreRegistered (sym (seen-same c.self.inside.table c.reserve.new.self c.self.inside.nodes.entries c.self.inside.nodes.entries (ap (λ t. t.slots) c.reserve.ensures.rest_kept) refl)) c.self.invariant

pub returns-in_err-reserve-clause-err : goal.returns-in_err-reserve-clause-err
returns-in_err-reserve-clause-err c = at_err c.from_residual-in_err-reserve.result (seen-same c.self.inside.table c.reserve.new.self c.self.inside.nodes.entries c.self.inside.nodes.entries (ap (λ t. t.slots) c.reserve.ensures.rest_kept) refl ∙ c.self.view_is)

pub invariant_of-self-in_err-insert : goal.invariant_of-self-in_err-insert
invariant_of-self-in_err-insert c = subst AreRegistered (sym (seen-same c.self.inside.table c.reserve.new.self c.self.inside.nodes.entries c.self.inside.nodes.entries (ap (λ t. t.slots) c.reserve.ensures.rest_kept) refl)) c.self.invariant

pub returns-in_err-insert-clause-err : goal.returns-in_err-insert-clause-err
returns-in_err-insert-clause-err c = at_err c.from_residual-in_err-insert.result (seen-same c.self.inside.table c.reserve.new.self c.self.inside.nodes.entries c.self.inside.nodes.entries (ap (λ t. t.slots) c.reserve.ensures.rest_kept) refl ∙ c.self.view_is)

pub invariant_of-self-in-Err : goal.invariant_of-self-in-Err
invariant_of-self-in-Err c = subst AreRegistered (sym (seen-same c.self.inside.table c.reserve.new.self c.self.inside.nodes.entries c.put_key.new.nodes.entries (ap (λ t. t.slots) c.reserve.ensures.rest_kept) c.in-Err.ensures.err)) c.self.invariant

pub returns-in-Err-clause-err : goal.returns-in-Err-clause-err
returns-in-Err-clause-err c = seen-same c.self.inside.table c.reserve.new.self c.self.inside.nodes.entries c.put_key.new.nodes.entries (ap (λ t. t.slots) c.reserve.ensures.rest_kept) c.in-Err.ensures.err ∙ c.self.view_is

pub invariant_of-self-2 : goal.invariant_of-self-2
invariant_of-self-2 c =
    let a = c.self.inside in
    let mid = c.reserve.new.self in
    let new = c.insert_reserved.new.self in
    let key = c.vacant_key-key.result in
    let made : Registration = record c.args.registration { turn = c.in_ok-registration.field-0 } in
    let updates : Updates mid new key (Some made) = subst (λ k. Updates mid new k (Some made)) (c.insert_reserved.ensures.key ∙ sym c.vacant_key-key.ensures.value) c.insert_reserved.ensures.updates in
    let own = c.keys_on.ensures ∙ sym (ap (λ (r : Registered). on c.args.registration.node r.lists) c.self.view_is) in
    registered-put a.table mid new (ap (λ t. t.slots) c.reserve.ensures.rest_kept) made key c.vacant_key-key.ensures.vacant updates a.nodes.entries c.self.invariant
    c.put_key.new.nodes.entries c.put_key.ensures.unique (c.put_key.ensures.full c.self.invariant.full) c.in_default.ensures.ok
    (λ k m. c.in_ok-registration.ensures (subst (Rises (turn_at a.table)) (sym own) (c.self.invariant.rising c.args.registration.node)) k (ap (among k) own ∙ m))

pub returns-clause-ok : goal.returns-clause-ok
returns-clause-ok c =
    let a = c.self.inside in
    let mid = c.reserve.new.self in
    let new = c.insert_reserved.new.self in
    let key = c.vacant_key-key.result in
    let made : Registration = record c.args.registration { turn = c.in_ok-registration.field-0 } in
    let updates : Updates mid new key (Some made) = subst (λ k. Updates mid new k (Some made)) (c.insert_reserved.ensures.key ∙ sym c.vacant_key-key.ensures.value) c.insert_reserved.ensures.updates in
    rw (← c.self.view_is) (put-last a.table mid new (ap (λ t. t.slots) c.reserve.ensures.rest_kept) made key c.vacant_key-key.ensures.vacant updates (listed a.nodes.entries) (listed c.put_key.new.nodes.entries) c.in_default.ensures.ok)

pub returns-clause-own : goal.returns-clause-own
returns-clause-own c =
    let a = c.self.inside in
    let mid = c.reserve.new.self in
    let new = c.insert_reserved.new.self in
    let key = c.vacant_key-key.result in
    let made : Registration = record c.args.registration { turn = c.in_ok-registration.field-0 } in
    let updates : Updates mid new key (Some made) = subst (λ k. Updates mid new k (Some made)) (c.insert_reserved.ensures.key ∙ sym c.vacant_key-key.ensures.value) c.insert_reserved.ensures.updates in
    rw (← c.self.view_is) (put-among a.table mid new (ap (λ t. t.slots) c.reserve.ensures.rest_kept) made key c.vacant_key-key.ensures.vacant updates c.args.place c.args.keys.now.items c.insert.new.self.items c.in_ok-insert.ensures.items)

pub returns-clause-nodes : goal.returns-clause-nodes
returns-clause-nodes c = rw (← c.self.view_is) c.in_default.ensures.nodes
