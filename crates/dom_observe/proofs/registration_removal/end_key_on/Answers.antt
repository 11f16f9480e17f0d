-- The node has the keys under which something is left.
use Rattle.std.proofs.Common.{◌≡◌, [], false, ap, sym, ◌∙◌, subst, nat_eq}
use Rattle.std.specs.Map.{lookup, keys_of}
use Rattle.std.proofs.lemmas.Bool.{true≢false}
use Rattle.dom_model.specs.Definitions.{among}
use Rattle.dom_observe.specs.{Watchers.on, Registrations.in_table, Registrations.listed, Registrations.is_live, Registrations.AllLive, Registrations.KeysLeft, Turns.turn_at, Turns.Rises}
use Rattle.dom_observe.proofs.KeysLemmas.{items_in, on-lookup, keys-left, keys-absent, keys-of_entry}
use Rattle.dom_observe.proofs.NodeOrderLemmas.{nodes-set}
use Rattle.dom_observe.proofs.registration_removal.end_key_on.Goals as goal

-- a node with the key is listed
pub returns-in-None-clause-left : goal.returns-in-None-clause-left
returns-in-None-clause-left c =
    let none : on c.args.node (listed c.args.nodes.now.entries) ≡ [] =
    on-lookup c.args.node c.args.nodes.now.entries ∙ ap (λ n. items_in (lookup (nat_eq n) c.args.nodes.now.entries)) (sym c.number.ensures) ∙ ap items_in (sym c.in-None.ensures.value) in
    absurd (true≢false (sym c.requires.there ∙ ap (among c.args.key) none))

pub returns-in-Some-clause-keys : goal.returns-in-Some-clause-keys
returns-in-Some-clause-keys c =
    let stays = is_live (in_table c.end_key.new.table) in
    let written = c.get_mut.follows.holds c.end_key.new.keys in
    subst (λ es. KeysLeft c.args.node stays (listed c.args.nodes.now.entries) (listed es) c.end_key.result) (sym written.0)
    (keys-left c.number.result stays c.args.nodes.now.entries c.in-Some.keys.now c.end_key.new.keys (sym c.in-Some.ensures.value) c.end_key.ensures.kept c.args.node c.number.ensures c.end_key.result c.end_key.ensures.bare)

pub returns-in-None-clause-keys : goal.returns-in-None-clause-keys
returns-in-None-clause-keys c =
    let stays = is_live (in_table c.args.table.now) in
    subst (λ m. KeysLeft c.args.node stays (listed c.args.nodes.now.entries) (listed m.entries) false) (sym c.get_mut.follows.holds-at-none)
    (keys-absent c.number.result stays c.args.nodes.now.entries (sym c.in-None.ensures.value) c.args.node c.number.ensures)

-- the keys of the node

pub end_key-requires-clause-rising : goal.end_key-requires-clause-rising
end_key-requires-clause-rising c =
    let had = keys-of_entry c.number.result c.args.nodes.now.entries c.in-Some.keys.now c.in-Some.ensures.value c.args.node c.number.ensures in
    subst (Rises (turn_at c.args.table.now)) (sym had) c.requires.rising

pub end_key-requires-clause-live : goal.end_key-requires-clause-live
end_key-requires-clause-live c =
    let had = keys-of_entry c.number.result c.args.nodes.now.entries c.in-Some.keys.now c.in-Some.ensures.value c.args.node c.number.ensures in
    subst (AllLive (in_table c.args.table.now)) (sym had) c.requires.live

pub end_key-requires-clause-there : goal.end_key-requires-clause-there
end_key-requires-clause-there c = ap (among c.args.key) (keys-of_entry c.number.result c.args.nodes.now.entries c.in-Some.keys.now c.in-Some.ensures.value c.args.node c.number.ensures) ∙ c.requires.there

-- the nodes stay, with fewer keys or not

pub returns-in-Some-clause-nodes : goal.returns-in-Some-clause-nodes
returns-in-Some-clause-nodes c =
    let written = c.get_mut.follows.holds c.end_key.new.keys in
    ap (λ es. keys_of (listed es)) written.0 ∙ nodes-set c.number.result c.args.nodes.now.entries c.end_key.new.keys

pub returns-in-None-clause-nodes : goal.returns-in-None-clause-nodes
returns-in-None-clause-nodes c = ap (λ m. keys_of (listed m.entries)) c.get_mut.follows.holds-at-none
