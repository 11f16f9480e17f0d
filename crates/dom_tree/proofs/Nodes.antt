-- The store of the nodes alone: it changes as the store with the kept indices does.
use Rattle.std.proofs.Common.{◌≡◌, ℕ, ◌+◌, nat_lt, if◌then◌else◌, List, [], ◌∷◌, length, map, slice_set, Option, Some, None, option_map, IsSome, refl, ap, sym, ◌∙◌}
use Rattle.std.proofs.lemmas.List.{length-map, map-set, set-get_or, length-set, map-append}
use Rattle.std.proofs.Math.ListN.{get_or-map}
use Rattle.dom_model.specs.Definitions.{hits, after, before, entered, left_out, Arena, Entry, entry_at, held, names, parent_in, children_in, list_under, siblings_in, next_in, previous_in, with_value, with_parent, with_children, alone, altered, linked, unlinked, unlinked_from, added, added_from, taken, next_slot, StandsUnder, IsHeld, Node}
use Rattle.dom_model.specs.Forests.Arena.{itself, below, IsSound}
use Rattle.dom_tree.specs.Slots.{Kept, with_index, with_sure, node_entry, nodes_alone, indexed, assured}

module _ {X : Type 0} where
  pub entry-nodes : (a : Arena (Kept X)) (n : ℕ) → entry_at (nodes_alone a) n ≡ option_map node_entry (entry_at a n)
  entry-nodes a n = get_or-map (option_map node_entry) a.slots n None

  parent_in-nodes : (o : Option (Entry (Kept X))) → parent_in (option_map node_entry o) ≡ parent_in o
  parent_in-nodes None = refl
  parent_in-nodes (Some e) = refl

  children_in-nodes : (o : Option (Entry (Kept X))) → children_in (option_map node_entry o) ≡ children_in o
  children_in-nodes None = refl
  children_in-nodes (Some e) = refl

  held_in-nodes : (o : Option (Entry (Kept X))) → held (option_map node_entry o) ≡ held o
  held_in-nodes None = refl
  held_in-nodes (Some e) = refl

  some-nodes : (o : Option (Entry (Kept X))) → IsSome o → IsSome (option_map node_entry o)
  some-nodes None h = h
  some-nodes (Some e) h = refl

  some-back : (o : Option (Entry (Kept X))) → IsSome (option_map node_entry o) → IsSome o
  some-back None h = h
  some-back (Some e) h = refl

  pub parent-nodes : (a : Arena (Kept X)) (n : ℕ) → parent_in (entry_at (nodes_alone a) n) ≡ parent_in (entry_at a n)
  parent-nodes a n = ap parent_in (entry-nodes a n) ∙ parent_in-nodes (entry_at a n)

  pub children-nodes : (a : Arena (Kept X)) (n : ℕ) → children_in (entry_at (nodes_alone a) n) ≡ children_in (entry_at a n)
  children-nodes a n = ap children_in (entry-nodes a n) ∙ children_in-nodes (entry_at a n)

  pub none-nodes : (a : Arena (Kept X)) (n : ℕ) → entry_at a n ≡ None → entry_at (nodes_alone a) n ≡ None
  none-nodes a n e = entry-nodes a n ∙ ap (option_map node_entry) e

  under-nodes : (a : Arena (Kept X)) (o : Option ℕ) → list_under (entry_at (nodes_alone a)) o ≡ list_under (entry_at a) o
  under-nodes a None = refl
  under-nodes a (Some p) = children-nodes a p

  pub siblings-nodes : (a : Arena (Kept X)) (n : ℕ) → siblings_in (entry_at (nodes_alone a)) n ≡ siblings_in (entry_at a) n
  siblings-nodes a n = ap (list_under (entry_at (nodes_alone a))) (parent-nodes a n) ∙ under-nodes a (parent_in (entry_at a n))

  pub next-nodes : (a : Arena (Kept X)) (n : ℕ) → next_in (entry_at (nodes_alone a)) n ≡ next_in (entry_at a) n
  next-nodes a n = ap (after n) (siblings-nodes a n)

  pub previous-nodes : (a : Arena (Kept X)) (n : ℕ) → previous_in (entry_at (nodes_alone a)) n ≡ previous_in (entry_at a) n
  previous-nodes a n = ap (before n) (siblings-nodes a n)

  pub held-nodes : (a : Arena (Kept X)) (n : ℕ) → IsHeld a n → IsHeld (nodes_alone a) n
  held-nodes a n h = rw (entry-nodes a n) (some-nodes (entry_at a n) h)

  pub held-back : (a : Arena (Kept X)) (n : ℕ) → IsHeld (nodes_alone a) n → IsHeld a n
  held-back a n h = (let k = rw (entry-nodes a n) at h in some-back (entry_at a n) k)

  pub sound-nodes : {a : Arena (Kept X)} → IsSound a → IsSound (nodes_alone a)
  sound-nodes {a} s =
      record {
        linked = λ n c. ap (hits c) (children-nodes a n) ∙ s.linked n c ∙ ap (λ p. names p n) (sym (parent-nodes a c));
        freed = λ n. ap (λ h. hits n a.free + h) (ap held (entry-nodes a n) ∙ held_in-nodes (entry_at a n)) ∙ s.freed n ∙ ap (λ l. if nat_lt n l then 1 else 0) (sym (length-map a.slots (option_map node_entry)));
      }

  pub stands-nodes : (a : Arena (Kept X)) (top n : ℕ) → StandsUnder (entry_at a) top n → StandsUnder (entry_at (nodes_alone a)) top n
  stands-nodes a top n itself = itself
  stands-nodes a top n (below {p = q} e u) = below (parent-nodes a n ∙ e) (stands-nodes a top q u)

  pub next_slot-nodes : (a : Arena (Kept X)) → next_slot (nodes_alone a) ≡ next_slot a
  next_slot-nodes a = go a.free
    where
      go : (free : List ℕ) → next_slot (nodes_alone (record a { free = free })) ≡ next_slot (record a { free = free })
      go [] = length-map a.slots (option_map node_entry)
      go (i ∷ rest) = refl

  pub altered-nodes : (f : Entry (Kept X) → Entry (Kept X)) (g : Entry (Node X) → Entry (Node X)) → ((e : Entry (Kept X)) → node_entry (f e) ≡ g (node_entry e)) → (a : Arena (Kept X)) (n : ℕ) → nodes_alone (altered f a n) ≡ altered g (nodes_alone a) n
  altered-nodes f g h a n =
      λ i. record { slots = slots i; free = a.free }
    where
      each : (o : Option (Entry (Kept X))) → option_map node_entry (option_map f o) ≡ option_map g (option_map node_entry o)
      each None = refl
      each (Some e) = ap Some (h e)

      slots : map (option_map node_entry) (slice_set a.slots n (option_map f (entry_at a n))) ≡ slice_set (map (option_map node_entry) a.slots) n (option_map g (entry_at (nodes_alone a) n))
      slots =
          map-set (option_map node_entry) a.slots n (option_map f (entry_at a n))
          ∙ ap (slice_set (map (option_map node_entry) a.slots) n) (each (entry_at a n) ∙ ap (option_map g) (sym (entry-nodes a n)))

  pub unaltered-nodes : (f : Entry (Kept X) → Entry (Kept X)) → ((e : Entry (Kept X)) → node_entry (f e) ≡ node_entry e) → (a : Arena (Kept X)) (n : ℕ) → nodes_alone (altered f a n) ≡ nodes_alone a
  unaltered-nodes f h a n =
      altered-nodes f (λ e. e) h a n ∙ (λ i. record { slots = slots i; free = a.free })
    where
      each : (o : Option (Entry (Node X))) → option_map (λ (e : Entry (Node X)). e) o ≡ o
      each None = refl
      each (Some e) = refl

      slots : slice_set (nodes_alone a).slots n (option_map (λ (e : Entry (Node X)). e) (entry_at (nodes_alone a) n)) ≡ (nodes_alone a).slots
      slots = ap (slice_set (nodes_alone a).slots n) (each (entry_at (nodes_alone a) n)) ∙ set-get_or (nodes_alone a).slots n None

  pub indexed-nodes : (a : Arena (Kept X)) (n i : ℕ) → nodes_alone (indexed a n i) ≡ nodes_alone a
  indexed-nodes a n i = unaltered-nodes (λ (e : Entry (Kept X)). with_value (with_index i e.value) e) (λ e. refl) a n

  pub assured-nodes : (a : Arena (Kept X)) (n s r : ℕ) → nodes_alone (assured a n s r) ≡ nodes_alone a
  assured-nodes a n s r = unaltered-nodes (λ (e : Entry (Kept X)). with_value (with_sure s r e.value) e) (λ e. refl) a n

  pub linked-nodes : (a : Arena (Kept X)) (p c : ℕ) (b : Option ℕ) → nodes_alone (linked a p c b) ≡ linked (nodes_alone a) p c b
  linked-nodes a p c b =
      altered-nodes (λ (e : Entry (Kept X)). with_children (entered b c e.children) e) (λ (e : Entry (Node X)). with_children (entered b c e.children) e) (λ e. refl) (altered (with_parent (Some p)) a c) p
      ∙ ap (λ (d : Arena (Node X)). altered (λ (e : Entry (Node X)). with_children (entered b c e.children) e) d p) (altered-nodes (with_parent (Some p)) (with_parent (Some p)) (λ e. refl) a c)

  pub unlinked-nodes : (a : Arena (Kept X)) (c : ℕ) → nodes_alone (unlinked a c) ≡ unlinked (nodes_alone a) c
  unlinked-nodes a c =
      go (parent_in (entry_at a c)) ∙ ap (λ o. unlinked_from o (nodes_alone a) c) (sym (parent-nodes a c))
    where
      go : (o : Option ℕ) → nodes_alone (unlinked_from o a c) ≡ unlinked_from o (nodes_alone a) c
      go None = refl
      go (Some p) =
          altered-nodes (λ (e : Entry (Kept X)). with_children (left_out c e.children) e) (λ (e : Entry (Node X)). with_children (left_out c e.children) e) (λ e. refl) (altered (with_parent None) a c) p
          ∙ ap (λ (d : Arena (Node X)). altered (λ (e : Entry (Node X)). with_children (left_out c e.children) e) d p) (altered-nodes (with_parent None) (with_parent None) (λ e. refl) a c)

  pub added-nodes : (a : Arena (Kept X)) (v : Kept X) → nodes_alone (added a v) ≡ added (nodes_alone a) v.node
  added-nodes a v = go a.free
    where
      go : (free : List ℕ) → nodes_alone (added_from free a.slots v) ≡ added_from free (nodes_alone a).slots v.node
      go [] = λ i. record { slots = map-append (option_map node_entry) a.slots (Some (alone v) ∷ []) i; free = [] }
      go (s ∷ rest) = λ i. record { slots = map-set (option_map node_entry) a.slots s (Some (alone v)) i; free = rest }

  pub taken-nodes : (a : Arena (Kept X)) (n : ℕ) → nodes_alone (taken a n) ≡ taken (nodes_alone a) n
  taken-nodes a n = λ i. record { slots = map-set (option_map node_entry) a.slots n None i; free = n ∷ a.free }

  -- no change makes more slots, but for one more node
  pub room-altered : (f : Entry (Kept X) → Entry (Kept X)) (a : Arena (Kept X)) (n : ℕ) → length (altered f a n).slots ≡ length a.slots
  room-altered f a n = length-set a.slots n (option_map f (entry_at a n))
