-- The node has the keys under which something is left.
use Rattle.std.proofs.Common.{◌≡◌, [], if◌then◌else◌, false, ap, sym, ◌∙◌, subst, nat_eq}
use Rattle.std.specs.Map.{lookup}
use Rattle.dom_model.specs.Definitions.{among}
use Rattle.dom_observe.specs.{Watchers.on, Registrations.in_table, Registrations.listed, Registrations.is_live, Registrations.unless_ending, Registrations.KeysLeft}
use Rattle.dom_observe.proofs.KeysLemmas.{items_in, on-lookup, keys-left, keys-absent, keys-of_entry}
use Rattle.dom_observe.proofs.registration_removal.end_keys_on.Goals as goal

pub returns-in-Some-clause-left : goal.returns-in-Some-clause-left
returns-in-Some-clause-left c = λ k.
    let had = keys-of_entry c.number.result c.args.nodes.now.entries c.in-Some.keys.now c.in-Some.ensures.value c.args.node c.number.ensures in
    c.end_keys.ensures.left k ∙ ap (λ ks. if among k ks then unless_ending c.args.ending.now (in_table c.args.table.now k) else in_table c.args.table.now k) had

pub returns-in-None-clause-left : goal.returns-in-None-clause-left
returns-in-None-clause-left c = λ k.
    let none : on c.args.node (listed c.args.nodes.now.entries) ≡ [] =
    on-lookup c.args.node c.args.nodes.now.entries ∙ ap (λ n. items_in (lookup (nat_eq n) c.args.nodes.now.entries)) (sym c.number.ensures) ∙ ap items_in (sym c.in-None.ensures.value) in
    sym (ap (λ ks. if among k ks then unless_ending c.args.ending.now (in_table c.args.table.now k) else in_table c.args.table.now k) none)

pub returns-in-Some-clause-keys : goal.returns-in-Some-clause-keys
returns-in-Some-clause-keys c =
    let stays = is_live (in_table c.end_keys.new.table) in
    let written = c.get_mut.follows.holds c.end_keys.new.keys in
    subst (λ es. KeysLeft c.args.node stays (listed c.args.nodes.now.entries) (listed es) c.end_keys.result) (sym written.0)
    (keys-left c.number.result stays c.args.nodes.now.entries c.in-Some.keys.now c.end_keys.new.keys (sym c.in-Some.ensures.value) c.end_keys.ensures.kept c.args.node c.number.ensures c.end_keys.result c.end_keys.ensures.bare)

pub returns-in-None-clause-keys : goal.returns-in-None-clause-keys
returns-in-None-clause-keys c =
    let stays = is_live (in_table c.args.table.now) in
    subst (λ m. KeysLeft c.args.node stays (listed c.args.nodes.now.entries) (listed m.entries) false) (sym c.get_mut.follows.holds-at-none)
    (keys-absent c.number.result stays c.args.nodes.now.entries (sym c.in-None.ensures.value) c.args.node c.number.ensures)
