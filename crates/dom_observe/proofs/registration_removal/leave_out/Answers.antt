-- The other nodes keep their keys.
use Rattle.std.proofs.Common.{[], ◌∷◌, ◌++◌, inl, inr, refl, ap, sym, ◌∙◌}
use Rattle.std.specs.Map.{keys_of}
use Rattle.dom_observe.specs.{Watchers.on, Registrations.listed}
use Rattle.dom_observe.proofs.{KeysLemmas.gone-on, KeysLemmas.gone-full, KeysLemmas.still-full, NodeOrderLemmas.nodes-removed}
use Rattle.dom_observe.proofs.registration_removal.leave_out.Goals as goal

pub returns-then-is_bare-clause-kept : goal.returns-then-is_bare-clause-kept
returns-then-is_bare-clause-kept c =
    gone-on c.number.result c.args.nodes.now.entries c.swap_remove.new.self.entries c.swap_remove.ensures.updates.0
    (ap (λ k. on k (listed c.args.nodes.now.entries)) c.number.ensures ∙ c.requires.bare c.if-is_bare.true)

pub returns-then-is_bare-clause-full : goal.returns-then-is_bare-clause-full
returns-then-is_bare-clause-full c = λ lists full others.
    gone-full c.number.result c.args.nodes.now.entries c.swap_remove.new.self.entries c.swap_remove.ensures.updates.0 lists (λ n ne. others n (λ e. ne (e ∙ sym c.number.ensures))) full

pub returns-else-is_bare-clause-full : goal.returns-else-is_bare-clause-full
returns-else-is_bare-clause-full c = λ lists full others. still-full c.args.node lists (listed c.args.nodes.now.entries) others (c.requires.some c.if-is_bare.false) full

-- the last node goes from its place

pub returns-then-is_bare-clause-nodes : goal.returns-then-is_bare-clause-nodes
returns-then-is_bare-clause-nodes c = inr (record {
  bare = gone-on c.number.result c.args.nodes.now.entries c.swap_remove.new.self.entries c.swap_remove.ensures.updates.0
      (ap (λ k. on k (listed c.args.nodes.now.entries)) c.number.ensures ∙ c.requires.bare c.if-is_bare.true) c.args.node ∙ c.requires.bare c.if-is_bare.true;
  others = λ ns ends.
      ap (λ es. keys_of (listed es)) c.swap_remove.ensures.entries
      ∙ nodes-removed c.number.result c.args.nodes.now.entries c.requires.unique ns (ends ∙ ap (λ k. ns ++ k ∷ []) (sym c.number.ensures));
})

pub returns-else-is_bare-clause-nodes : goal.returns-else-is_bare-clause-nodes
returns-else-is_bare-clause-nodes c = inl refl
