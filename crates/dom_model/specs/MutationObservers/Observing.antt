-- Mutation observers: registrations, mutations, and what is told of them. DOM Standard, "Mutation observers".
use Rattle.std.specs.Prelude.{ℕ, ◌==◌, List, [], ◌∷◌, ◌++◌, map, filter, flat_map, Some, unwrap_or}
use Rattle.dom_model.specs.Worlds.World.{Registration, Mutation, Observing}

-- the registrations on a node, in their order
abbrev pub registered_on : ℕ → List Registration → List Registration
registered_on n rs = filter (λ (r : Registration). r.node == n) rs

-- the registrations on the nodes of a list, from its first node on
abbrev pub standing_on : List ℕ → List Registration → List Registration
standing_on ns rs = flat_map (λ n. registered_on n rs) ns

-- a change is put on the one list of mutations, with the registrations that stand
abbrev pub noted : Mutation → Observing → Observing
noted m o = record o { mutations = o.mutations ++ m ∷ [] }

-- the transient registration that `node` gets from a registration with subtree; one from a transient has the first source (ours)
abbrev pub transient_of : ℕ → Registration → Registration
transient_of n r = record { node = n; observer = r.observer; options = r.options; source = Some (unwrap_or r.source r.node) }

-- `node` leaves its place under the first of `ancestors`: each registration with subtree on them gives a transient one on it
abbrev pub with_transients : ℕ → List ℕ → Observing → Observing
with_transients n ancestors o = record o {
  registrations = o.registrations
      ++ map (transient_of n) (filter (λ (r : Registration). r.options.subtree) (standing_on ancestors o.registrations));
}
