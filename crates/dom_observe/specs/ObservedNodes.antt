-- What observers name: the nodes of registrations and of the records that wait, and the observers of registrations and of the pending list.
use Rattle.std.specs.Prelude.{◌≡◌, ℕ, ◌<◌, true, false, List, [], ◌∷◌, ◌++◌, length, map, flat_map, Option, IsSome, is_some, unwrap_or}
use Rattle.dom_model.specs.PlainLists.Lists.{hits, among}
use Rattle.dom_model.specs.Forests.Forest.{Forest, HasNode}
use Rattle.dom_model.specs.Worlds.World.{Registration, Mutation}
use Rattle.dom_model.specs.MutationObservers.Record.{Record}
use Rattle.dom_model.specs.MutationAlgorithms.Discarding.{if_any, nodes_of_registration, nodes_of_record}
use Rattle.dom_observe.specs.Watchers.{Watchers, queue_in}

-- the nodes of registrations, with the sources of transient ones, and those of the records that wait
abbrev pub referred_nodes : Watchers → List ℕ
referred_nodes o =
    flat_map (λ (e : ℕ × List Registration). flat_map nodes_of_registration e.1) o.nodes
    ++ flat_map (λ (queue : Option (List Record)). flat_map nodes_of_record (unwrap_or queue [])) o.queues

-- the observers of registrations, and the pending ones
abbrev pub watching : Watchers → List ℕ
watching o = flat_map (λ (e : ℕ × List Registration). map (λ (r : Registration). r.observer) e.1) o.nodes ++ o.pending

-- the nodes that a record of a mutation has
abbrev pub nodes_of_mutation : Mutation → List ℕ
nodes_of_mutation m = m.target ∷ (m.added ++ (m.removed ++ (if_any m.previous ++ if_any m.next)))

-- each node that is named is held, and each observer is there
pub record NamesHeld {X : Type 0} (f : Forest X) (o : Watchers) : Type 0 where
  pub nodes : (n : ℕ) → among n (referred_nodes o) ≡ true → HasNode f n
  pub observers : (i : ℕ) → among i (watching o) ≡ true → IsSome (queue_in o i)

-- none of these nodes is named
abbrev pub NamesNoneOf : List ℕ → Watchers → Type 0
NamesNoneOf ns o = (n : ℕ) → 0 < hits n ns → among n (referred_nodes o) ≡ false

-- after a step only those nodes are named that were named before, and these; and each observer is there
pub record NamesOnly (these : List ℕ) (old new : Watchers) : Type 0 where
  pub nodes : (n : ℕ) → among n (referred_nodes new) ≡ true → among n (referred_nodes old ++ these) ≡ true
  pub observers : (i : ℕ) → among i (watching new) ≡ true → IsSome (queue_in new i)

-- after a step as many observers were made, and the same are there
pub record SameObservers (old new : Watchers) : Type 0 where
  pub made : length new.queues ≡ length old.queues
  pub there : (i : ℕ) → is_some (queue_in new i) ≡ is_some (queue_in old i)
