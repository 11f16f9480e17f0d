-- A node that has keys gets one more, and another its first.
use Rattle.std.proofs.Common.{◌≡◌, ◌==◌, ◌++◌, [], ◌∷◌, if◌then◌else◌, ap, sym, ◌∙◌, subst, nat_eq}
use Rattle.std.proofs.lemmas.Result.{err_from_is_err_and}
use Rattle.std.specs.Map.{lookup, keys_of}
use Rattle.indexmap.specs.IndexMap.{insert_entry}
use Rattle.dom_model.specs.Definitions.{with_last}
use Rattle.dom_observe.specs.{Watchers.on, Registrations.listed, Registrations.HaveKeys}
use Rattle.dom_observe.proofs.KeysLemmas.{listed-set_value, on-set_value, on-insert_entry, looked-set, looked-insert, full-changed, some_key}
use Rattle.dom_observe.proofs.NodeOrderLemmas.{nodes-set, nodes-had, nodes-insert}
use Rattle.dom_observe.proofs.node_keys.put_key.Goals as goal

pub returns-in_err-push-in-Some-clause-err : goal.returns-in_err-push-in-Some-clause-err
returns-in_err-push-in-Some-clause-err c =
    let p = err_from_is_err_and c.from_residual.result c.from_residual.ensures.1 in
    let written = c.get_mut.follows.holds c.push.new.self in
    rw (p.1) (ap listed written.0 ∙ listed-set_value c.number-number.result c.args.nodes.now.entries c.in-Some.keys.now c.push.new.self (sym c.in-Some.ensures.value) c.in_err-push-in-Some.ensures.err)

pub returns-in_ok-push-in-Some-clause-ok : goal.returns-in_ok-push-in-Some-clause-ok
returns-in_ok-push-in-Some-clause-ok c = λ n.
    let written = c.get_mut.follows.holds c.push.new.self in
    ap (λ es. on n (listed es)) written.0
    ∙ on-set_value n c.number-number.result c.args.key c.args.nodes.now.entries c.in-Some.keys.now c.push.new.self (sym c.in-Some.ensures.value) c.in_ok-push-in-Some.ensures.ok
    ∙ ap (λ k. on n (listed c.args.nodes.now.entries) ++ (if n == k then c.args.key ∷ [] else [])) c.number-number.ensures

pub returns-in_ok-insert-in-None-clause-ok : goal.returns-in_ok-insert-in-None-clause-ok
returns-in_ok-insert-in-None-clause-ok c = λ n.
    let same = c.get_mut.follows.holds-at-none in
    let added : c.insert.new.self.entries ≡ insert_entry nat_eq c.args.nodes.now.entries c.number-number.result c.in_ok-keys-in-None.keys =
    c.in_ok-insert-in-None.ensures.entries ∙ ap (λ m. insert_entry nat_eq m.entries c.number-number.result c.in_ok-keys-in-None.keys) same in
    ap (λ es. on n (listed es)) added
    ∙ on-insert_entry n c.number-number.result c.args.key c.args.nodes.now.entries c.in_ok-keys-in-None.keys (sym c.in-None.ensures.value) c.in_ok-keys-in-None.ensures
    ∙ ap (λ k. on n (listed c.args.nodes.now.entries) ++ (if n == k then c.args.key ∷ [] else [])) c.number-number.ensures

pub returns-in_err-push-in-Some-clause-full : goal.returns-in_err-push-in-Some-clause-full
returns-in_err-push-in-Some-clause-full c =
    let written = c.get_mut.follows.holds c.push.new.self in
    subst HaveKeys (sym (ap listed written.0 ∙ listed-set_value c.number-number.result c.args.nodes.now.entries c.in-Some.keys.now c.push.new.self (sym c.in-Some.ensures.value) c.in_err-push-in-Some.ensures.err))

pub returns-in_ok-push-in-Some-clause-full : goal.returns-in_ok-push-in-Some-clause-full
returns-in_ok-push-in-Some-clause-full c =
    let written = c.get_mut.follows.holds c.push.new.self in
    full-changed c.number-number.result c.push.new.self.items (listed c.args.nodes.now.entries) _
    (λ n. ap (λ es. lookup (nat_eq n) (listed es)) written.0 ∙ looked-set n c.number-number.result c.args.nodes.now.entries c.in-Some.keys.now c.push.new.self (sym c.in-Some.ensures.value))
    (some_key c.in-Some.keys.now.items c.push.new.self.items c.args.key c.in_ok-push-in-Some.ensures.ok)

pub returns-in_ok-insert-in-None-clause-full : goal.returns-in_ok-insert-in-None-clause-full
returns-in_ok-insert-in-None-clause-full c =
    let same = c.get_mut.follows.holds-at-none in
    let added : c.insert.new.self.entries ≡ insert_entry nat_eq c.args.nodes.now.entries c.number-number.result c.in_ok-keys-in-None.keys =
    c.in_ok-insert-in-None.ensures.entries ∙ ap (λ m. insert_entry nat_eq m.entries c.number-number.result c.in_ok-keys-in-None.keys) same in
    full-changed c.number-number.result c.in_ok-keys-in-None.keys.items (listed c.args.nodes.now.entries) _
    (λ n. ap (λ es. lookup (nat_eq n) (listed es)) added ∙ looked-insert n c.number-number.result c.args.nodes.now.entries c.in_ok-keys-in-None.keys (sym c.in-None.ensures.value))
    (some_key [] c.in_ok-keys-in-None.keys.items c.args.key c.in_ok-keys-in-None.ensures)

-- the node comes last, unless it has keys

pub returns-in_ok-push-in-Some-clause-nodes : goal.returns-in_ok-push-in-Some-clause-nodes
returns-in_ok-push-in-Some-clause-nodes c =
    let written = c.get_mut.follows.holds c.push.new.self in
    ap (λ es. keys_of (listed es)) written.0
    ∙ nodes-set c.number-number.result c.args.nodes.now.entries c.push.new.self
    ∙ sym (nodes-had c.number-number.result c.args.nodes.now.entries c.in-Some.keys.now c.in-Some.ensures.value)
    ∙ ap (λ k. with_last (keys_of (listed c.args.nodes.now.entries)) k) c.number-number.ensures

pub returns-in_ok-insert-in-None-clause-nodes : goal.returns-in_ok-insert-in-None-clause-nodes
returns-in_ok-insert-in-None-clause-nodes c =
    let same = c.get_mut.follows.holds-at-none in
    let added : c.insert.new.self.entries ≡ insert_entry nat_eq c.args.nodes.now.entries c.number-number.result c.in_ok-keys-in-None.keys =
    c.in_ok-insert-in-None.ensures.entries ∙ ap (λ m. insert_entry nat_eq m.entries c.number-number.result c.in_ok-keys-in-None.keys) same in
    ap (λ es. keys_of (listed es)) added
    ∙ nodes-insert c.number-number.result c.args.nodes.now.entries c.in_ok-keys-in-None.keys
    ∙ ap (λ k. with_last (keys_of (listed c.args.nodes.now.entries)) k) c.number-number.ensures
