-- Discarding a tree: when its nodes are in use, and the world without them. Ours; the standard leaves it to garbage collection.
use Rattle.std.specs.Prelude.{ℕ, suc, Bool, ◌||◌, List, [], ◌∷◌, ◌++◌, map, flat_map, Option, Some, None, is_some}
use Rattle.std.specs.List.{list_any}
use Rattle.dom_model.specs.PlainLists.Lists.{among}
use Rattle.dom_model.specs.Forests.Forest.{Row, Forest, rows, parent_of, without, inclusive_descendants}
use Rattle.dom_model.specs.Worlds.World.{Range, Iterator, Walker, Registration, Observing, World}
use Rattle.dom_model.specs.MutationObservers.Record.{Record}
use Rattle.dom_model.specs.MutationObservers.Records.{queue_of}

abbrev pub if_any : Option ℕ → List ℕ
if_any None = []
if_any (Some n) = n ∷ []

-- the node documents of all nodes of a forest
abbrev pub documents : {X : Type 0} → Forest X → List ℕ
documents {X} f = map (λ (r : Row X). r.at.document) (rows 0 f)

-- the nodes that each part of the world names
abbrev pub nodes_of_range : Range → List ℕ
nodes_of_range r = r.start.node ∷ r.end.node ∷ []

abbrev pub nodes_of_iterator : Iterator → List ℕ
nodes_of_iterator i = i.root ∷ i.reference ∷ []

abbrev pub nodes_of_walker : Walker → List ℕ
nodes_of_walker k = k.root ∷ k.current ∷ []

-- the node of a registration, and of the source of a transient one
abbrev pub nodes_of_registration : Registration → List ℕ
nodes_of_registration r = r.node ∷ if_any r.source

-- what was released names no node
abbrev pub nodes_unless_released : {A : Type 0} → (A → List ℕ) → Option A → List ℕ
nodes_unless_released nodes None = []
nodes_unless_released nodes (Some a) = nodes a

abbrev pub nodes_of_record : Record → List ℕ
nodes_of_record r = r.target ∷ (r.added ++ (r.removed ++ (if_any r.previous ++ if_any r.next)))

-- the records that observers from `o` on have not taken; one place for each observer, and no record where it was released
abbrev pub queues_from : ℕ → List (Option ℕ) → Observing → List Record
queues_from o [] x = []
queues_from o (place ∷ places) x = queue_of o x ++ queues_from (suc o) places x

abbrev pub queued_records : Observing → List Record
queued_records x = queues_from 0 x.places x

abbrev pub observed_nodes : Observing → List ℕ
observed_nodes x = flat_map nodes_of_registration x.registrations ++ flat_map nodes_of_record (queued_records x)

-- every node that something else than a tree names
abbrev pub named_nodes : World → List ℕ
named_nodes w =
    flat_map (nodes_unless_released nodes_of_range) w.ranges
    ++ (flat_map (nodes_unless_released nodes_of_range) w.static_ranges
    ++ (flat_map (nodes_unless_released nodes_of_iterator) w.iterators
    ++ (flat_map (nodes_unless_released nodes_of_walker) w.walkers
    ++ observed_nodes w.observing)))

-- a node outside has the node as a child, or one of its inclusive descendants as its node document
abbrev pub is_held_outside : {X : Type 0} → Forest X → ℕ → Bool
is_held_outside f n = is_some (parent_of f n) || list_any (λ m. among m (inclusive_descendants f n)) (documents (without n f))

abbrev pub is_in_use : World → ℕ → Bool
is_in_use w n = is_held_outside w.forest n || list_any (λ m. among m (inclusive_descendants w.forest n)) (named_nodes w)

-- the world without the node and its descendants; their numbers are not used again
abbrev pub discarded : ℕ → World → World
discarded n w = record w { forest = without n w.forest }
