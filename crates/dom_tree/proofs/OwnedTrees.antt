-- The counts of node documents over the steps of a tree.
use Rattle.std.proofs.Common.{◌≡◌, ℕ, Bool, false, List, length, Option, Some, None, refl, ap, sym, ◌∙◌, subst, arith}
use Rattle.dom_model.specs.Definitions.{among, Arena, Entry, entry_at, with_value, altered, linked, unlinked, Node, Forest, Grove, occurs, HasNode, parent_of, ancestors, tree_at, cut, put, IsForest}
use Rattle.dom_model.proofs.Forests.{Climbing.hits-ancestors, Climbing.not_among-hits, Entries.occurs-HasNode}
use Rattle.dom_tree.specs.{NodeDocuments.document_in, SpelledForest.slot_in, SpelledForest.shown, SpelledForest.IsKept, Slots.Kept, Slots.nodes_alone, Slots.with_owned, Slots.owned_in, Slots.owning, Slots.IsStored, Slots.IsTree, CachedIndices.numbered_put, CachedIndices.numbered_cut, Blocks.IsRenumbered}
use Rattle.dom_tree.proofs.{Nodes.unaltered-nodes, Nodes.room-altered, CachedIndexLemmas.counted-altered, OwnedSlots.altered-owned, OwnedSlots.linked-owned, OwnedSlots.unlinked-owned, OwnedSlots.put-owned, OwnedSlots.cut-owned, IsOwnedLemmas.owned-same, DocumentsKept.documents-cut, DocumentsKept.documents-put, DocumentsKept.documents-with_node, SlotStepLemmas.Stays, SlotStepLemmas.forest-read, SlotStepLemmas.alter-done, SlotStepLemmas.numbered-done}

-- a count written to a slot leaves the rest
module _ {X : Type 0} where
  pub owning-nodes : (a : Arena (Kept X)) (s n : ℕ) → nodes_alone (owning a s n) ≡ nodes_alone a
  owning-nodes a s n = unaltered-nodes (λ (e : Entry (Kept X)). with_value (with_owned n e.value) e) (λ e. refl) a s

  pub owning-stored : (a : Arena (Kept X)) (table : List (Option ℕ)) (live s n : ℕ) → IsStored a table live → IsStored (owning a s n) table live
  owning-stored a table live s n k =
      record {
        kept = subst (λ (b : Arena (Node X)). IsKept b table live) (sym (owning-nodes a s n)) k.kept;
        counted = counted-altered (with_owned n) (λ q. refl) (λ q. refl) (λ q. refl) a s k.counted;
        room = (let r = k.room in omega (arith, r, room-altered (λ (e : Entry (Kept X)). with_value (with_owned n e.value) e) a s));
      }

  pub owning-stays : (a : Arena (Kept X)) (table : List (Option ℕ)) (live s n : ℕ) (f : Forest X) → Stays a table live f → Stays (owning a s n) table live f
  owning-stays a table live s n f k =
      record { kept = owning-stored a table live s n k.kept; same = ap (λ (b : Arena (Node X)). shown b table) (owning-nodes a s n) ∙ k.same }

module _ {X : Type 0} {a : Arena (Kept X)} {table : List (Option ℕ)} {live : ℕ} {strays : Bool} (k : IsTree a table live strays) where
  whole : IsForest (record { forest = shown (nodes_alone a) table; made = length table })
  whole = forest-read k refl

  -- the node documents and the counts are the same
  pub stays-same : {b : Arena (Kept X)} {f : Forest X} → Stays b table live f → ((n : ℕ) → document_in f n ≡ document_in (shown (nodes_alone a) table) n) → ((s : ℕ) → owned_in (entry_at b s) ≡ owned_in (entry_at a s)) → IsTree b table live strays
  stays-same {b} {f} st h c =
      record {
        stored = st.kept;
        owned =
            λ e. owned-same (document_in (shown (nodes_alone a) table)) (document_in (shown (nodes_alone b) table)) (slot_in table) (λ s. owned_in (entry_at a s)) (λ s. owned_in (entry_at b s)) (length table)
            (λ n. ap (λ (g : Forest X). document_in g n) st.same ∙ h n) (λ n s _. c s) (k.owned e);
      }

  pub numbered-tree : (b : Arena (Kept X)) (blocks : List (ℕ × List ℕ)) → IsRenumbered a b blocks → IsTree b table live strays
  numbered-tree b blocks n =
      stays-same (record { kept = numbered-done k refl b blocks n; same = ap (λ (d : Arena (Node X)). shown d table) n.nodes }) (λ m. refl) n.owned

  pub alter-tree : (n s : ℕ) → slot_in table n ≡ Some s → (h : Node X → Node X) → ((q : Node X) → (h q).number ≡ q.number) → ((q : Node X) → (h q).label ≡ q.label) → ((q : Node X) → (h q).document ≡ q.document) → IsTree (altered (λ (e : Entry (Kept X)). with_value (record e.value { node = h e.value.node }) e) a s) table live strays
  alter-tree n s i h hn hl hd =
      stays-same (alter-done k refl n s i h hn hl) (documents-with_node (shown (nodes_alone a) table) whole.once n h hn hd)
      (altered-owned (λ (e : Entry (Kept X)). with_value (record e.value { node = h e.value.node }) e) (λ e. refl) a s)

  pub cut-tree : (n s : ℕ) (d b : Arena (Kept X)) → d ≡ numbered_cut a s → b ≡ unlinked d s → Stays b table live (cut n (shown (nodes_alone a) table)) → IsTree b table live strays
  cut-tree n s d b ed eb st =
      stays-same st (documents-cut (shown (nodes_alone a) table) whole.once n)
      (λ t. ap (λ (q : Arena (Kept X)). owned_in (entry_at q t)) eb ∙ unlinked-owned d s t ∙ ap (λ (q : Arena (Kept X)). owned_in (entry_at q t)) ed ∙ cut-owned a s t)

module _ {X : Type 0} {a : Arena (Kept X)} {table : List (Option ℕ)} {live : ℕ} {strays : Bool} (k : IsTree a table live strays) {w : Grove X} (v : record { forest = shown (nodes_alone a) table; made = length table } ≡ w) where
  pub put-tree : (np sp nc sc : ℕ) (nb sb : Option ℕ) → HasNode w.forest np → HasNode w.forest nc → parent_of w.forest nc ≡ None → among nc (ancestors np w.forest) ≡ false → (d b : Arena (Kept X)) → d ≡ linked a sp sc sb → b ≡ numbered_put d sp sc sb → Stays b table live (put np nc nb (shown (nodes_alone a) table)) → IsTree b table live strays
  put-tree np sp nc sc nb sb hp hc root cy d b ed eb st =
      let o : IsForest w = forest-read k v in
      let far : occurs np (tree_at nc w.forest) ≡ 0 = sym (hits-ancestors nc np w.forest o.once) ∙ not_among-hits nc (ancestors np w.forest) cy in
      let same = documents-put w.forest o.once np nc nb (occurs-HasNode w.forest np hp) (occurs-HasNode w.forest nc hc) root far in
      stays-same k st
      (subst (λ (g : Grove X). (n : ℕ) → document_in (put np nc nb g.forest) n ≡ document_in g.forest n) (sym v) same)
      (λ t. ap (λ (q : Arena (Kept X)). owned_in (entry_at q t)) eb ∙ put-owned d sp sc sb t ∙ ap (λ (q : Arena (Kept X)). owned_in (entry_at q t)) ed ∙ linked-owned a sp sc sb t)
