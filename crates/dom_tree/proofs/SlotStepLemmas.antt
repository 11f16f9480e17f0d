-- What is read and changed by slot, where a tree keeps indices beside its nodes.
use Rattle.std.proofs.Common.{◌≡◌, ℕ, ◌+◌, ◌-◌, ◌<◌, ◌≤◌, nat_lt, Bool, false, if◌then◌else◌, List, [], ◌∷◌, ◌++◌, length, slice_set, Option, Some, None, option_map, IsSome, is_some, IfSome, refl, ap, sym, ◌∙◌, subst, arith, ⊎_elim, length-append}
use Rattle.std.proofs.lemmas.{Bool.cases_lt, Bool.le-ltb, Bool.false≢true, List.length-set, List.length-map}
use Rattle.std.specs.Option.{ForSome}
use Rattle.dom_model.specs.Definitions.{hits, among, head_of, last_of, place_in, Arena, Entry, entry_at, held, names, parent_in, children_in, list_under, siblings_in, next_in, previous_in, with_value, altered, linked, unlinked, unlinked_from, added, added_from, taken, next_slot, next_from, StandsUnder, IsHeld, Node, Forest, empty, node, Grove, beside, size, entry_in, HasNode, parent_of, children_of, next_of, previous_of, index_of, ancestors, cut, put, without, with_node, IsForest}
use Rattle.dom_model.specs.Forests.Arena.{IsSound}
use Rattle.dom_model.proofs.PlainLists.Numbers.{same_or, same, apart}
use Rattle.dom_model.proofs.Forests.Changes.{seen, nothing, just}
use Rattle.dom_tree.specs.{PutConditions.MayStand, SpelledForest.number_in_slot, SpelledForest.slot_in, SpelledForest.slot_for, SpelledForest.shown, SpelledForest.IsKept, Slots.Kept, Slots.node_entry, Slots.nodes_alone, Slots.indexed, Slots.index_in, Slots.sure_in, Slots.IsCounted, Slots.IsStored, Slots.IsTree, CachedIndices.index_put, CachedIndices.sure_put, CachedIndices.reach_put, CachedIndices.numbered_put, CachedIndices.numbered_cut_from, CachedIndices.numbered_cut, Blocks.IsRenumbered}
use Rattle.dom_tree.proofs.{TreeInvariantLemmas.Keeps, TreeInvariantLemmas.index-slot, TakeLemmas.taken-kept, TakeLemmas.taken-live, Nodes.entry-nodes, Nodes.parent-nodes, Nodes.children-nodes, Nodes.siblings-nodes, Nodes.next-nodes, Nodes.previous-nodes, Nodes.none-nodes, Nodes.held-back, Nodes.sound-nodes, Nodes.stands-nodes, Nodes.next_slot-nodes, Nodes.altered-nodes, Nodes.indexed-nodes, Nodes.assured-nodes, Nodes.linked-nodes, Nodes.unlinked-nodes, Nodes.added-nodes, Nodes.taken-nodes, Nodes.room-altered, CachedIndexLemmas.counted-put, CachedIndexLemmas.counted-cut, CachedIndexLemmas.counted-added, CachedIndexLemmas.counted-taken, CachedIndexLemmas.counted-altered, CachedIndexLemmas.held-linked}
use Rattle.dom_tree.proofs.MakeLemmas as making
use Rattle.dom_tree.proofs.SlotReadLemmas as reading
use Rattle.dom_links.proofs.UnlinkLemmas.{names-same}

-- a store and a table that spell a forest, with indices that are right
pub record Stays {X : Type 0} (a : Arena (Kept X)) (table : List (Option ℕ)) (live : ℕ) (f : Forest X) : Type 0 where
  pub kept : IsStored a table live
  pub same : shown (nodes_alone a) table ≡ f

pub stays : {X : Type 0} (a : Arena (Kept X)) (b : Arena (Node X)) (table : List (Option ℕ)) (live : ℕ) (f : Forest X) → nodes_alone a ≡ b → Keeps b table live f → IsCounted (entry_at a) → length a.slots ≤ length table → Stays a table live f
stays {X} a b table live f e k c r =
    let k2 : Keeps (nodes_alone a) table live f = subst (λ (d : Arena (Node X)). Keeps d table live f) (sym e) k in
    record { kept = record { kept = k2.kept; counted = c; room = r }; same = k2.same }

-- what a reading of the links names is held
module _ {X : Type 0} {a : Arena (Kept X)} (l : IsSound a) where
  pub parent-named : (s : ℕ) (o : Option ℕ) → o ≡ parent_in (entry_at a s) → (x : ℕ) → o ≡ Some x → IsHeld (nodes_alone a) x
  parent-named s o e = reading.parent-named (sound-nodes l) s o (e ∙ sym (parent-nodes a s))

  pub first-named : (s : ℕ) (o : Option ℕ) → o ≡ head_of (children_in (entry_at a s)) → (x : ℕ) → o ≡ Some x → IsHeld (nodes_alone a) x
  first-named s o e = reading.first-named (sound-nodes l) s o (e ∙ ap head_of (sym (children-nodes a s)))

  pub last-named : (s : ℕ) (o : Option ℕ) → o ≡ last_of (children_in (entry_at a s)) → (x : ℕ) → o ≡ Some x → IsHeld (nodes_alone a) x
  last-named s o e = reading.last-named (sound-nodes l) s o (e ∙ ap last_of (sym (children-nodes a s)))

  pub next-named : (s : ℕ) (o : Option ℕ) → o ≡ next_in (entry_at a) s → (x : ℕ) → o ≡ Some x → IsHeld (nodes_alone a) x
  next-named s o e = reading.next-named (sound-nodes l) s o (e ∙ sym (next-nodes a s))

  pub previous-named : (s : ℕ) (o : Option ℕ) → o ≡ previous_in (entry_at a) s → (x : ℕ) → o ≡ Some x → IsHeld (nodes_alone a) x
  previous-named s o e = reading.previous-named (sound-nodes l) s o (e ∙ sym (previous-nodes a s))

  pub next-within : next_slot a ≤ length a.slots
  next-within = go a.free (λ n. l.freed n)
    where
      go : (free : List ℕ) → ((n : ℕ) → hits n free + held (entry_at a n) ≡ (if nat_lt n (length a.slots) then 1 else 0)) → next_from free (length a.slots) ≤ length a.slots
      go [] f = omega arith
      go (i ∷ rest) f =
          ⊎_elim
          (λ (lt : i < length a.slots). omega arith)
          (λ (le : length a.slots ≤ i). absurd (let h = f i in let t : nat_lt i (length a.slots) ≡ false = le-ltb i (length a.slots) le in let h2 = rw t at h in elim (same_or i i) [ same _ v ↦ (let h3 = rw v at h2 in omega arith) | apart ne v ↦ ne refl ]))
          (cases_lt i (length a.slots))

  pub room-added : (v : Kept X) → length (added a v).slots ≤ length a.slots + 1
  room-added v = go a.free
    where
      go : (free : List ℕ) → length (added_from free a.slots v).slots ≤ length a.slots + 1
      go [] = omega (arith, length-append a.slots (Some (record { value = v; parent = None; children = [] }) ∷ []))
      go (i ∷ rest) = omega (arith, length-set a.slots i (Some (record { value = v; parent = None; children = [] })))

module _ {X : Type 0} where
  pub room-linked : (a : Arena (Kept X)) (p c : ℕ) (b : Option ℕ) → length (linked a p c b).slots ≡ length a.slots
  room-linked a p c b = room-altered _ (altered _ a c) p ∙ room-altered _ a c

  pub room-unlinked : (a : Arena (Kept X)) (c : ℕ) → length (unlinked a c).slots ≡ length a.slots
  room-unlinked a c = go (parent_in (entry_at a c))
    where
      go : (o : Option ℕ) → length (unlinked_from o a c).slots ≡ length a.slots
      go None = refl
      go (Some p) = room-altered _ (altered _ a c) p ∙ room-altered _ a c

  pub room-put : (a : Arena (Kept X)) (p c : ℕ) (b : Option ℕ) → length (numbered_put a p c b).slots ≡ length a.slots
  room-put a p c b = room-altered _ (indexed a c (index_put (entry_at a) p b)) p ∙ room-altered _ a c

  pub put-nodes : (a : Arena (Kept X)) (p c : ℕ) (b : Option ℕ) → nodes_alone (numbered_put a p c b) ≡ nodes_alone a
  put-nodes a p c b =
      assured-nodes (indexed a c (index_put (entry_at a) p b)) p (sure_put (entry_at a) p b (index_put (entry_at a) p b)) (reach_put (entry_at a) p b) ∙ indexed-nodes a c (index_put (entry_at a) p b)

  pub room-cut : (a : Arena (Kept X)) (c : ℕ) → length (numbered_cut a c).slots ≡ length a.slots
  room-cut a c = go (parent_in (entry_at a c))
    where
      go : (o : Option ℕ) → length (numbered_cut_from o a c).slots ≡ length a.slots
      go None = refl
      go (Some p) = room-altered _ a p

  pub cut-nodes : (a : Arena (Kept X)) (c : ℕ) → nodes_alone (numbered_cut a c) ≡ nodes_alone a
  cut-nodes a c = go (parent_in (entry_at a c))
    where
      go : (o : Option ℕ) → nodes_alone (numbered_cut_from o a c) ≡ nodes_alone a
      go None = refl
      go (Some p) = assured-nodes a p _ _

module _ {X : Type 0} {a : Arena (Kept X)} {table : List (Option ℕ)} {live : ℕ} {strays : Bool} (k : IsTree a table live strays) {w : Grove X} (v : record { forest = shown (nodes_alone a) table; made = length table } ≡ w) where
  pub slot-held : (n : ℕ) → HasNode w.forest n → IsSome (slot_in table n)
  slot-held = reading.slot-held k.stored.kept v

  pub slot-of_child : (n : ℕ) → IsSome (parent_of w.forest n) → IsSome (slot_in table n)
  slot-of_child = reading.slot-of_child k.stored.kept v

  pub slots-held : (nb : Option ℕ) (p : ℕ) → ForSome nb (λ b. parent_of w.forest b ≡ Some p) → (n : ℕ) → nb ≡ Some n → IsSome (slot_in table n)
  slots-held = reading.slots-held k.stored.kept v

  -- a slot of the table is held
  pub held-slot : (n s : ℕ) → slot_in table n ≡ Some s → IsHeld a s
  held-slot n s i = held-back a s (k.stored.kept.tabled.named n s i).0

  -- a parent that is named is held
  pub parents-held : IsSound a → (s : ℕ) → (p : ℕ) → parent_in (entry_at a s) ≡ Some p → IsHeld a p
  parents-held l s p e = held-back a p (parent-named l s (parent_in (entry_at a s)) refl p e)

  nodes-some : (P : Node X → Type 0) (s : ℕ) → IfSome (entry_at a s) (λ e. P e.value.node) → IfSome (entry_at (nodes_alone a) s) (λ e. P e.value)
  nodes-some P s h = rw (entry-nodes a s) (go (entry_at a s) h)
    where
      go : (o : Option (Entry (Kept X))) → IfSome o (λ e. P e.value.node) → IfSome (option_map node_entry o) (λ e. P e.value)
      go None i = tt
      go (Some e) i = i

  pub value-read : {B : Type 0} (p : Node X → B) (n s : ℕ) → slot_in table n ≡ Some s → (x y : Kept X) → y ≡ x → IfSome (entry_at a s) (λ e. x ≡ e.value) → IfSome (entry_in w.forest n) (λ e. p y.node ≡ p e.value)
  value-read p n s i x y yx h =
      reading.value-read k.stored.kept v p n s i x.node y.node (ap (λ (q : Kept X). q.node) yx) (nodes-some (λ q. x.node ≡ q) s (go (entry_at a s) h))
    where
      go : (o : Option (Entry (Kept X))) → IfSome o (λ e. x ≡ e.value) → IfSome o (λ e. x.node ≡ e.value.node)
      go None j = tt
      go (Some d) j = ap (λ (q : Kept X). q.node) j

  pub part-read : {B : Type 0} (p : Node X → B) (n s : ℕ) → slot_in table n ≡ Some s → (b : B) → IfSome (entry_at a s) (λ e. b ≡ p e.value.node) → IfSome (entry_in w.forest n) (λ e. b ≡ p e.value)
  part-read p n s i b h = reading.part-read k.stored.kept v p n s i b (nodes-some (λ q. b ≡ p q) s h)

  pub parent-read : (n s : ℕ) (o r : Option ℕ) → slot_in table n ≡ Some s → o ≡ parent_in (entry_at a s) → r ≡ option_map (number_in_slot (entry_at (nodes_alone a))) o → r ≡ parent_of w.forest n
  parent-read n s o r i h = reading.parent-read k.stored.kept v n s o r i (h ∙ sym (parent-nodes a s))

  pub first-read : (n s : ℕ) (o r : Option ℕ) → slot_in table n ≡ Some s → o ≡ head_of (children_in (entry_at a s)) → r ≡ option_map (number_in_slot (entry_at (nodes_alone a))) o → r ≡ head_of (children_of w.forest n)
  first-read n s o r i h = reading.first-read k.stored.kept v n s o r i (h ∙ ap head_of (sym (children-nodes a s)))

  pub last-read : (n s : ℕ) (o r : Option ℕ) → slot_in table n ≡ Some s → o ≡ last_of (children_in (entry_at a s)) → r ≡ option_map (number_in_slot (entry_at (nodes_alone a))) o → r ≡ last_of (children_of w.forest n)
  last-read n s o r i h = reading.last-read k.stored.kept v n s o r i (h ∙ ap last_of (sym (children-nodes a s)))

  pub count-read : (n s : ℕ) (r : ℕ) → slot_in table n ≡ Some s → r ≡ length (children_in (entry_at a s)) → r ≡ length (children_of w.forest n)
  count-read n s r i h = reading.count-read k.stored.kept v n s r i (h ∙ ap length (sym (children-nodes a s)))

  pub next-read : IsSound a → (n s : ℕ) (o r : Option ℕ) → slot_in table n ≡ Some s → o ≡ next_in (entry_at a) s → r ≡ option_map (number_in_slot (entry_at (nodes_alone a))) o → r ≡ next_of w.forest n
  next-read l n s o r i h = reading.next-read k.stored.kept v (sound-nodes l) n s o r i (h ∙ sym (next-nodes a s))

  pub previous-read : IsSound a → (n s : ℕ) (o r : Option ℕ) → slot_in table n ≡ Some s → o ≡ previous_in (entry_at a) s → r ≡ option_map (number_in_slot (entry_at (nodes_alone a))) o → r ≡ previous_of w.forest n
  previous-read l n s o r i h = reading.previous-read k.stored.kept v (sound-nodes l) n s o r i (h ∙ sym (previous-nodes a s))

  pub index-slots : IsSound a → (n s : ℕ) → slot_in table n ≡ Some s → index_of w.forest n ≡ place_in s (siblings_in (entry_at a) s)
  index-slots l n s i =
      ap (λ (g : Grove X). index_of g.forest n) (sym v) ∙ index-slot k.stored.kept (sound-nodes l) n s i ∙ ap (place_in s) (siblings-nodes a s)

  -- a kept index below the parent's count is right
  pub kept-read : IsSound a → (n s p : ℕ) → slot_in table n ≡ Some s → parent_in (entry_at a s) ≡ Some p → (x y z u : Kept X) → z ≡ x → u ≡ y → IfSome (entry_at a s) (λ e. x ≡ e.value) → IfSome (entry_at a p) (λ e. y ≡ e.value) → z.index < u.sure → z.index ≡ index_of w.forest n
  kept-read l n s p i ep x y z u zx uy hx hy lt =
      let listed : 0 < hits s (children_in (entry_at a p)) = omega (arith, l.linked p s, ap (λ o. names o p) ep, names-same p) in
      let c = (k.stored.counted p s listed).0 in
      let place : index_of w.forest n ≡ place_in s (children_in (entry_at a p)) = index-slots l n s i ∙ ap (λ o. place_in s (list_under (entry_at a) o)) ep in
      let zi : z.index ≡ index_in (entry_at a s) = ap (λ (q : Kept X). q.index) zx ∙ index_is (entry_at a s) (held-slot n s i) hx in
      let us : u.sure ≡ sure_in (entry_at a p) = ap (λ (q : Kept X). q.sure) uy ∙ sure_is (entry_at a p) (parents-held l s p ep) hy in
      omega (arith, place, c, zi, us, lt)
    where
      index_is : (o : Option (Entry (Kept X))) → IsSome o → IfSome o (λ e. x ≡ e.value) → x.index ≡ index_in o
      index_is None i h = absurd (false≢true i)
      index_is (Some d) i h = ap (λ (q : Kept X). q.index) h

      sure_is : (o : Option (Entry (Kept X))) → IsSome o → IfSome o (λ e. y ≡ e.value) → y.sure ≡ sure_in o
      sure_is None i h = absurd (false≢true i)
      sure_is (Some d) i h = ap (λ (q : Kept X). q.sure) h

  pub holds-read : (n : ℕ) → is_some (slot_in table n) ≡ is_some (entry_in w.forest n)
  holds-read = reading.holds-read k.stored.kept v

  pub forest-read : IsForest w
  forest-read = reading.forest-read k.stored.kept v

  pub live-read : live ≡ size w.forest
  live-read = reading.live-read k.stored.kept v

  -- the value after a change of the forest alone
  pub changed-shown : (a' : Arena (Kept X)) (change : Forest X → Forest X) → shown (nodes_alone a') table ≡ change (shown (nodes_alone a) table) → ◌≡◌ {A = Grove X} (record { forest = shown (nodes_alone a') table; made = length table }) (record { forest = change w.forest; made = w.made })
  changed-shown a' change h = reading.changed-shown k.stored.kept v (nodes_alone a') change h

  pub keeps-shown : {a' : Arena (Kept X)} (change : Forest X → Forest X) → Stays a' table live (change (shown (nodes_alone a) table)) → ◌≡◌ {A = Grove X} (record { forest = shown (nodes_alone a') table; made = length table }) (record { forest = change w.forest; made = w.made })
  keeps-shown {a'} change h = changed-shown a' change h.same

  pub parent-there : (n s : ℕ) → slot_in table n ≡ Some s → IsSome (parent_of w.forest n) → IsSome (parent_in (entry_at a s))
  parent-there n s i h = (let j = reading.parent-there k.stored.kept v n s i h in subst IsSome (parent-nodes a s) j)

  pub parent-none : (n s : ℕ) → slot_in table n ≡ Some s → parent_of w.forest n ≡ None → parent_in (entry_at a s) ≡ None
  parent-none n s i h = sym (parent-nodes a s) ∙ reading.parent-none k.stored.kept v n s i h

  pub parent-same : IsSound a → (nb : Option ℕ) (np sp : ℕ) (sb : Option ℕ) → slot_in table np ≡ Some sp → slot_for table nb ≡ sb → ForSome nb (λ b. parent_of w.forest b ≡ Some np) → (x : ℕ) → sb ≡ Some x → parent_in (entry_at a x) ≡ Some sp
  parent-same l nb np sp sb ep eb h x d =
      sym (parent-nodes a x) ∙ reading.parent-same k.stored.kept v (sound-nodes l) nb np sp sb ep eb h x d

  pub no_cycle-slots : IsSound a → (np sp nc sc : ℕ) → slot_in table np ≡ Some sp → slot_in table nc ≡ Some sc → among nc (ancestors np w.forest) ≡ false → StandsUnder (entry_at a) sc sp → ⊥
  no_cycle-slots l np sp nc sc ep ec h st =
      reading.no_cycle-slots k.stored.kept v (sound-nodes l) np sp nc sc ep ec h (stands-nodes a sc sp st)

  -- the indices are kept first, and then the child is unlinked
  pub parent-still : (s : ℕ) (d : Arena (Kept X)) → d ≡ numbered_cut a s → IsSome (parent_in (entry_at a s)) → IsSome (parent_in (entry_at d s))
  parent-still s d e h =
      let i : parent_in (entry_at d s) ≡ parent_in (entry_at a s) = ap (λ (b : Arena (Kept X)). parent_in (entry_at b s)) e ∙ sym (parent-nodes (numbered_cut a s) s) ∙ ap (λ (b : Arena (Node X)). parent_in (entry_at b s)) (cut-nodes a s) ∙ parent-nodes a s in
      rw i h

  pub cut-done : IsSound a → (n s : ℕ) → slot_in table n ≡ Some s → IsSome (parent_of w.forest n) → (d a' : Arena (Kept X)) → d ≡ numbered_cut a s → a' ≡ unlinked d s → Stays a' table live (cut n (shown (nodes_alone a) table))
  cut-done l n s i h d a' ed ea =
      let ee : a' ≡ unlinked (numbered_cut a s) s = ea ∙ ap (λ (b : Arena (Kept X)). unlinked b s) ed in
      rw ee (stays (unlinked (numbered_cut a s) s) (unlinked (nodes_alone a) s) table live (cut n (shown (nodes_alone a) table))
      (unlinked-nodes (numbered_cut a s) s ∙ ap (λ (b : Arena (Node X)). unlinked b s) (cut-nodes a s))
      (reading.cut-done k.stored.kept v (sound-nodes l) n s i h (unlinked (nodes_alone a) s) refl)
      (elim (seen (parent_in (entry_at a s))) [
        | nothing z ↦ absurd (let j = parent-there n s i h in let j2 = rw z at j in cc j2)
        | just p z ↦ counted-cut l k.stored.counted s p z (parents-held l s p z)
      ])
      (omega (arith, k.stored.room, room-unlinked (numbered_cut a s) s, room-cut a s)))

  -- the child behind one that was put in is there
  pub put-before : IsSound a → (nb : Option ℕ) (np sp sc : ℕ) (sb : Option ℕ) → slot_in table np ≡ Some sp → slot_for table nb ≡ sb → ForSome nb (λ b. parent_of w.forest b ≡ Some np) → (d : Arena (Kept X)) → d ≡ linked a sp sc sb → (q : ℕ) → sb ≡ Some q → IsHeld d q
  put-before l nb np sp sc sb ep eb h d ed q eq =
      let i = parent-same l nb np sp sb ep eb h q eq in
      let there : IsHeld a q = some_parent (entry_at a q) sp i in
      rw ed (held-linked a sp sc sb q there)
    where
      some_parent : (o : Option (Entry (Kept X))) (p : ℕ) → parent_in o ≡ Some p → IsSome o
      some_parent None p j = absurd (cc j)
      some_parent (Some c) p j = refl

  pub put-done : IsSound a → (np sp nc sc : ℕ) (nb sb : Option ℕ) → slot_in table np ≡ Some sp → slot_in table nc ≡ Some sc → slot_for table nb ≡ sb → parent_of w.forest nc ≡ None → among nc (ancestors np w.forest) ≡ false → ForSome nb (λ b. parent_of w.forest b ≡ Some np) → MayStand w.forest np nc → (d a' : Arena (Kept X)) → d ≡ linked a sp sc sb → a' ≡ numbered_put d sp sc sb → Stays a' table live (put np nc nb (shown (nodes_alone a) table))
  put-done l np sp nc sc nb sb ep ec eb root cy under may d a' ed ea =
      let ee : a' ≡ numbered_put (linked a sp sc sb) sp sc sb = ea ∙ ap (λ (b : Arena (Kept X)). numbered_put b sp sc sb) ed in
      rw ee (stays (numbered_put (linked a sp sc sb) sp sc sb) (linked (nodes_alone a) sp sc sb) table live (put np nc nb (shown (nodes_alone a) table))
      (put-nodes (linked a sp sc sb) sp sc sb ∙ linked-nodes a sp sc sb)
      (reading.put-done k.stored.kept v (sound-nodes l) np sp nc sc nb sb ep ec eb root cy under may (linked (nodes_alone a) sp sc sb) refl)
      (counted-put l k.stored.counted sp sc sb (held-slot np sp ep) (held-slot nc sc ec) (parent-none nc sc ec root) (parent-same l nb np sp sb ep eb under))
      (omega (arith, k.stored.room, room-put (linked a sp sc sb) sp sc sb, room-linked a sp sc sb)))

  pub alter-done : (n s : ℕ) → slot_in table n ≡ Some s → (h : Node X → Node X) → ((q : Node X) → (h q).number ≡ q.number) → ((q : Node X) → (h q).label ≡ q.label) → Stays (altered (λ (e : Entry (Kept X)). with_value (record e.value { node = h e.value.node }) e) a s) table live (with_node n h (shown (nodes_alone a) table))
  alter-done n s i h hn hl =
      stays (altered (λ (d : Entry (Kept X)). with_value (record d.value { node = h d.value.node }) d) a s) (altered (λ (d : Entry (Node X)). with_value (h d.value) d) (nodes_alone a) s) table live (with_node n h (shown (nodes_alone a) table))
      (altered-nodes (λ (d : Entry (Kept X)). with_value (record d.value { node = h d.value.node }) d) (λ (d : Entry (Node X)). with_value (h d.value) d) (λ d. refl) a s)
      (reading.alter-done k.stored.kept v n s i h hn hl)
      (counted-altered (λ (q : Kept X). record q { node = h q.node }) (λ q. refl) (λ q. refl) (λ q. refl) a s k.stored.counted)
      (omega (arith, k.stored.room, room-altered (λ (d : Entry (Kept X)). with_value (record d.value { node = h d.value.node }) d) a s))

  -- a node written to its slot, with the number and the label that stood there
  pub write-done : (n s : ℕ) → slot_in table n ≡ Some s → (x y z : Kept X) (h : Node X → Node X) → ((q : Node X) → (h q).number ≡ q.number) → ((q : Node X) → (h q).label ≡ q.label) → y ≡ x → z ≡ record y { node = h y.node } → IfSome (entry_at a s) (λ e. x ≡ e.value) → Stays (altered (with_value z) a s) table live (with_node n h (shown (nodes_alone a) table))
  write-done n s i x y z h hn hl yx zh j =
      subst (λ (b : Arena (Kept X)). Stays b table live (with_node n h (shown (nodes_alone a) table))) (sym same_store) (alter-done n s i h hn hl)
    where
      each : (o : Option (Entry (Kept X))) → IfSome o (λ e. x ≡ e.value) → option_map (with_value z) o ≡ option_map (λ (d : Entry (Kept X)). with_value (record d.value { node = h d.value.node }) d) o
      each None q = refl
      each (Some d) q = ap (λ (m : Kept X). Some (with_value m d)) (zh ∙ ap (λ (m : Kept X). record m { node = h m.node }) (yx ∙ q))

      same_store : altered (with_value z) a s ≡ altered (λ (d : Entry (Kept X)). with_value (record d.value { node = h d.value.node }) d) a s
      same_store = ap (λ o. record a { slots = slice_set a.slots s o }) (each (entry_at a s) j)

  pub numbered-done : (d : Arena (Kept X)) (blocks : List (ℕ × List ℕ)) → IsRenumbered a d blocks → IsStored d table live
  numbered-done d blocks n =
      record {
        kept = subst (λ (b : Arena (Node X)). IsKept b table live) (sym n.nodes) k.stored.kept;
        counted = n.counted;
        room = (let r = k.stored.room in omega (arith, r, n.room));
      }

  pub numbered-shown : (d : Arena (Kept X)) (blocks : List (ℕ × List ℕ)) → IsRenumbered a d blocks → ◌≡◌ {A = Grove X} (record { forest = shown (nodes_alone d) table; made = length table }) w
  numbered-shown d blocks n = (λ i. record { forest = shown (n.nodes i) table; made = length table }) ∙ v

  pub children-none : (n s : ℕ) → slot_in table n ≡ Some s → children_of w.forest n ≡ [] → children_in (entry_at a s) ≡ []
  children-none n s i h =
      none (children_in (entry_at a s)) (omega (arith, length-map (children_in (entry_at (nodes_alone a) s)) (number_in_slot (entry_at (nodes_alone a))), ap length (reading.children-read k.stored.kept v n s i ∙ h), ap length (children-nodes a s)))
    where
      none : (l : List ℕ) → length l ≡ 0 → l ≡ []
      none [] z = refl
      none (x ∷ xs) z = absurd (omega arith)

  module _ (l : IsSound a) (n s : ℕ) (i : slot_in table n ≡ Some s) (root : parent_of w.forest n ≡ None) (childless : children_of w.forest n ≡ []) (d : Arena (Kept X)) (ed : d ≡ taken a s) (ld : IsSound d) where
    nodes_d : nodes_alone d ≡ taken (nodes_alone a) s
    nodes_d = ap nodes_alone ed ∙ taken-nodes a s

    sound_d : IsSound (taken (nodes_alone a) s)
    sound_d = subst IsSound nodes_d (sound-nodes ld)

    root_s : parent_in (entry_at (nodes_alone a) s) ≡ None
    root_s = parent-nodes a s ∙ parent-none n s i root

    bare_s : children_in (entry_at (nodes_alone a) s) ≡ []
    bare_s = children-nodes a s ∙ children-none n s i childless

    pub take-live : 1 ≤ live
    take-live = taken-live k.stored.kept n s i sound_d root_s bare_s

    pub take-done : (m : ℕ) (table' : List (Option ℕ)) → m ≡ n → table' ≡ slice_set table m None → Stays d table' (live - 1) (without n (shown (nodes_alone a) table))
    take-done m table' em et =
        rw (et, em) (stays d (taken (nodes_alone a) s) (slice_set table n None) (live - 1) (without n (shown (nodes_alone a) table))
        nodes_d
        (taken-kept k.stored.kept n s i sound_d root_s bare_s (live - 1) (let z = take-live in omega arith))
        (rw ed (counted-taken l k.stored.counted s (parent-none n s i root)))
        (let r = k.stored.room in omega (arith, r, ap (λ (b : Arena (Kept X)). length b.slots) ed, length-set a.slots s None, length-set table n None)))

    pub take-shown : (m : ℕ) (table' : List (Option ℕ)) → m ≡ n → table' ≡ slice_set table m None → ◌≡◌ {A = Grove X} (record { forest = shown (nodes_alone d) table'; made = length table' }) (record { forest = without n w.forest; made = w.made })
    take-shown m table' em et =
        λ j. record {
          forest = ((take-done m table' em et).same ∙ ap (λ (g : Grove X). without n g.forest) v) j;
          made = (ap length et ∙ length-set table m None ∙ ap (λ (g : Grove X). g.made) v) j;
        }

  pub made-is : length table ≡ w.made
  made-is = making.made-is k.stored.kept v

  pub fresh-small : IsSound a → (s : ℕ) → s ≡ next_slot a → w.made < 4294967295 → s < 4294967296
  fresh-small l s e room = (let r = k.stored.room in omega (arith, next-within l, made-is, r))

  pub made-keeps : IsSound a → (x : Kept X) (a' : Arena (Kept X)) (table' : List (Option ℕ)) (s : ℕ) → x.node.number ≡ length table → entry_at a s ≡ None → w.made < 4294967295 → a' ≡ added a x → s ≡ next_slot a → table' ≡ table ++ Some s ∷ [] → Stays a' table' (live + 1) (beside (shown (nodes_alone a) table) (node x.node empty empty))
  made-keeps l x a' table' s nx fresh room ea es et =
      rw ea (stays (added a x) (added (nodes_alone a) x.node) table' (live + 1) (beside (shown (nodes_alone a) table) (node x.node empty empty))
      (added-nodes a x)
      (making.made-keeps k.stored.kept v (sound-nodes l) x.node (added (nodes_alone a) x.node) table' s nx (none-nodes a s fresh) room refl (es ∙ sym (next_slot-nodes a)) et)
      (counted-added l k.stored.counted x (ap (entry_at a) (sym es) ∙ fresh))
      (let r = k.stored.room in omega (arith, r, room-added l x, ap length et, length-append table (Some s ∷ []))))

  pub made-shown : (x y : Kept X) (a' : Arena (Kept X)) (table' : List (Option ℕ)) (s : ℕ) → x.node ≡ y.node → table' ≡ table ++ Some s ∷ [] → Stays a' table' (live + 1) (beside (shown (nodes_alone a) table) (node x.node empty empty)) → ◌≡◌ {A = Grove X} (record { forest = shown (nodes_alone a') table'; made = length table' }) (record { forest = beside w.forest (node y.node empty empty); made = w.made + 1 })
  made-shown x y a' table' s xy et h = making.made-shown k.stored.kept v x.node y.node (nodes_alone a') table' s xy et (record { kept = h.kept.kept; same = h.same })
