-- The keys that a look-up finds.
use Rattle.std.proofs.Common.{ap, sym, ◌∙◌, nat_eq}
use Rattle.std.specs.Map.{lookup}
use Rattle.dom_observe.specs.{Watchers.on, Registrations.Registered}
use Rattle.dom_observe.proofs.KeysLemmas.{items_in, on-lookup}
use Rattle.dom_observe.proofs.registrations.Registrations.keys_on.Goals as goal

pub returns-in-Some : goal.returns-in-Some
returns-in-Some c =
    let es = c.self.inside.nodes.entries in
    c.as_slice.ensures
    ∙ ap items_in c.in-Some.ensures.value
    ∙ ap (λ k. items_in (lookup (nat_eq k) es)) c.number.ensures
    ∙ sym (on-lookup c.args.node es)
    ∙ ap (λ (r : Registered). on c.args.node r.lists) c.self.view_is

pub returns-in-None : goal.returns-in-None
returns-in-None c =
    let es = c.self.inside.nodes.entries in
    ap items_in c.in-None.ensures.value
    ∙ ap (λ k. items_in (lookup (nat_eq k) es)) c.number.ensures
    ∙ sym (on-lookup c.args.node es)
    ∙ ap (λ (r : Registered). on c.args.node r.lists) c.self.view_is
