-- What a slot holds: a node, what is kept of its index among its siblings, and how many nodes have it as their node document.
use Rattle.std.specs.Prelude.{◌≡◌, ℕ, refl, ◌+◌, ◌-◌, ◌<◌, ◌≤◌, min, Bool, false, List, length, map, Option, Some, None, option_map}
use Rattle.std.specs.Coded.{Coded, code_by, coded×, coded_ℕ}
use Rattle.dom_model.specs.PlainLists.Lists.{hits, place_in}
use Rattle.dom_model.specs.Forests.Arena.{Arena, Entry, entry_at, children_in, with_value, altered}
use Rattle.dom_model.specs.Forests.Forest.{Node, in_document}
use Rattle.dom_model.specs.Forests.ForestCode.{node_code}
use Rattle.dom_tree.specs.NodeDocuments.{document_in, AreDocumentsCounted}
use Rattle.dom_tree.specs.SpelledForest.{slot_in, shown, IsKept}

-- a node, its kept index, how many of its first children have a right one, how many of them may have one at all, and how many nodes have it as
-- their node document
pub record Kept (X : Type 0) : Type 0 where
  pub node : Node X
  pub index : ℕ
  pub sure : ℕ
  pub reach : ℕ
  pub owned : ℕ

abbrev pub kept_code : {X : Type 0} → Coded X → Coded (Kept X)
kept_code {X} c =
    code_by (Node X × (ℕ × (ℕ × (ℕ × ℕ)))) (coded× (node_code c) (coded× coded_ℕ (coded× coded_ℕ (coded× coded_ℕ coded_ℕ))))
    (λ k. (k.node, (k.index, (k.sure, (k.reach, k.owned)))))
    (λ p. record { node = p.0; index = p.1.0; sure = p.1.1.0; reach = p.1.1.1.0; owned = p.1.1.1.1 }) (λ _. refl)

-- the index of a child of which none is known
abbrev pub unknown : ℕ
unknown = 4294967295

-- What a kept index tells of a child's place: it is the place where either is below the parent's count of right ones, and else both are beyond that;
-- and it is unknown from the parent's reach on.
abbrev pub IsIndexCached : ℕ → ℕ → ℕ → ℕ → Type 0
IsIndexCached index place sure reach = (min index sure ≡ min place sure) × (reach ≤ place → index ≡ unknown)

module _ {X : Type 0} where
  abbrev pub with_index : ℕ → Kept X → Kept X
  with_index i k = record k { index = i }

  abbrev pub with_sure : ℕ → ℕ → Kept X → Kept X
  with_sure n r k = record k { sure = n; reach = r }

  abbrev pub with_owned : ℕ → Kept X → Kept X
  with_owned n k = record k { owned = n }

  abbrev pub with_document : ℕ → Kept X → Kept X
  with_document d k = record k { node = in_document d k.node }

  abbrev pub index_in : Option (Entry (Kept X)) → ℕ
  index_in None = 0
  index_in (Some e) = e.value.index

  abbrev pub sure_in : Option (Entry (Kept X)) → ℕ
  sure_in None = 0
  sure_in (Some e) = e.value.sure

  abbrev pub reach_in : Option (Entry (Kept X)) → ℕ
  reach_in None = 0
  reach_in (Some e) = e.value.reach

  abbrev pub owned_in : Option (Entry (Kept X)) → ℕ
  owned_in None = 0
  owned_in (Some e) = e.value.owned

  abbrev pub document_in_slot : Option (Entry (Kept X)) → Option ℕ
  document_in_slot o = option_map (λ (e : Entry (Kept X)). e.value.node.document) o

  -- the entry of the node alone
  abbrev pub node_entry : Entry (Kept X) → Entry (Node X)
  node_entry e = record { value = e.value.node; parent = e.parent; children = e.children }

  -- the store of the nodes alone
  abbrev pub nodes_alone : Arena (Kept X) → Arena (Node X)
  nodes_alone a = record { slots = map (option_map node_entry) a.slots; free = a.free }

  -- a slot's kept index set
  abbrev pub indexed : Arena (Kept X) → ℕ → ℕ → Arena (Kept X)
  indexed a slot i = altered (λ (e : Entry (Kept X)). with_value (with_index i e.value) e) a slot

  -- a slot's counts of children with a right index, and with any, set
  abbrev pub assured : Arena (Kept X) → ℕ → ℕ → ℕ → Arena (Kept X)
  assured a slot n r = altered (λ (e : Entry (Kept X)). with_value (with_sure n r e.value) e) a slot

  -- each child's kept index tells what it is to tell
  abbrev pub IsCounted : (ℕ → Option (Entry (Kept X))) → Type 0
  IsCounted at =
      (p c : ℕ) → 0 < hits c (children_in (at p)) → IsIndexCached (index_in (at c)) (place_in c (children_in (at p))) (sure_in (at p)) (reach_in (at p))

  -- a slot's count of nodes that have its node as their node document set
  abbrev pub owning : Arena (Kept X) → ℕ → ℕ → Arena (Kept X)
  owning a slot n = altered (λ (e : Entry (Kept X)). with_value (with_owned n e.value) e) a slot

  -- one node more for a slot's node document
  abbrev pub one_more : Arena (Kept X) → ℕ → Arena (Kept X)
  one_more a slot = owning a slot (owned_in (entry_at a slot) + 1)

  -- and one less
  abbrev pub one_less : Arena (Kept X) → ℕ → Arena (Kept X)
  one_less a slot = owning a slot (owned_in (entry_at a slot) - 1)

  -- the node document of a slot's node set
  abbrev pub homed : Arena (Kept X) → ℕ → ℕ → Arena (Kept X)
  homed a slot d = altered (λ (e : Entry (Kept X)). with_value (with_document d e.value) e) a slot

  -- what a tree keeps of its store, its table and its count of nodes
  pub record IsStored (a : Arena (Kept X)) (table : List (Option ℕ)) (live : ℕ) : Type 0 where
    pub kept : IsKept (nodes_alone a) table live
    pub counted : IsCounted (entry_at a)
    pub room : length a.slots ≤ length table

  -- the node documents of the nodes are nodes, and counted
  abbrev pub Owns : Arena (Kept X) → List (Option ℕ) → Type 0
  Owns a table = AreDocumentsCounted (document_in (shown (nodes_alone a) table)) (slot_in table) (λ s. owned_in (entry_at a s)) (length table)

  -- what a tree keeps: the counts of node documents as long as no node document can be missing
  pub record IsTree (a : Arena (Kept X)) (table : List (Option ℕ)) (live : ℕ) (strays : Bool) : Type 0 where
    pub stored : IsStored a table live
    pub owned : strays ≡ false → Owns a table
