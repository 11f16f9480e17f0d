-- Places, the slots for which they stand, and what the nodes there tell.
use Rattle.std.proofs.Common.{◌≡◌, ℕ, ◌≤◌, ◌<◌, zero, suc, Bool, true, false, cond, eqb, List, [], ◌∷◌, length, Option, Some, None, refl, sym, ap, ◌∙◌, subst, ⊎_elim, IsSome, is_some, IfSome, option_map}
use Rattle.std.proofs.lemmas.{Bool.cases_Bool, Bool.cases_lt, Bool.true≢false, Bool.false≢true, List.get_or_past}
use denote.RawPtr.{Ptr}
use Rattle.dom_model.specs.Definitions.{head_of, last_of, Entry, Arena, entry_at, parent_in, children_in, next_in, previous_in, with_value}
use Rattle.dom_links.specs.{Cells.look, declared.node.Node.Node, Placed.Placed, Placed.index_of, Placed.slot_of, Placed.slots_of, Placed.IsPlaced, Placed.StaysPlaced, Placed.KeepsPlaces, ArenaMemory.pointer_in, ArenaMemory.link_in, ArenaMemory.node_behind, ArenaMemory.node_in, ArenaMemory.Stands, LinkSteps.leads_to, Borrows.revalued_at}
use Rattle.dom_links.proofs.{CellsLemmas.same_ptr_refl, CellsLemmas.same_ptr_eq, ArenaMemoryLemmas.Known, ArenaMemoryLemmas.known_parent, ArenaMemoryLemmas.known_first, ArenaMemoryLemmas.known_last, ArenaMemoryLemmas.known_next, ArenaMemoryLemmas.known_previous, ArenaMemoryLemmas.place_held, ArenaMemoryLemmas.node_held, ArenaAgainLemmas.one_slot, ArenaAgainLemmas.entry_at-altered, NodeReadLemmas.parent_link, NodeReadLemmas.first_link, NodeReadLemmas.last_link, NodeReadLemmas.next_link, NodeReadLemmas.previous_link, NodeReadLemmas.count_read, NodeReadLemmas.value_read, LinkUnlinkLemmas.Lies, LinkUnlinkLemmas.lies_at}

leads : (o : Option Ptr) (p : Ptr) → leads_to o p ≡ true → o ≡ Some p
leads None p e = absurd (false≢true e)
leads (Some q) p e = ap Some (same_ptr_eq q p e)

-- a place that is there is found
pub found_at : (ps : List (Option Ptr)) (p : Ptr) (n : ℕ) → pointer_in ps n ≡ Some p → pointer_in ps (index_of ps p) ≡ Some p
found_at [] p n h = let e : ◌≡◌ {A = Option Ptr} None (Some p) = h in cc
found_at (o ∷ os) p zero h = let t : leads_to o p ≡ true = ap (λ l. leads_to l p) h ∙ same_ptr_refl p in rw t h
found_at (o ∷ os) p (suc n) h =
    ⊎_elim (λ (e : leads_to o p ≡ true). rw e (leads o p e)) (λ (e : leads_to o p ≡ false). rw e (found_at os p n h)) (cases_Bool (leads_to o p))

module _ {T : Type 0} where
  -- a link leads to the place of an optional slot
  pub record Leads (v : Placed T) (l : Option Ptr) (o : Option ℕ) : Type 0 where
    pub slot : slots_of v l ≡ o
    pub placed : (p : Ptr) → l ≡ Some p → IsPlaced v p

  -- what the node at a place tells
  pub record Told (v : Placed T) (p : Ptr) (n : Node T) : Type 0 where
    pub slot : n.slot ≡ slot_of v p
    pub parent : Leads v n.parent (parent_in (entry_at v.arena (slot_of v p)))
    pub first : Leads v n.first (head_of (children_in (entry_at v.arena (slot_of v p))))
    pub last : Leads v n.last (last_of (children_in (entry_at v.arena (slot_of v p))))
    pub next : Leads v n.next (next_in (entry_at v.arena) (slot_of v p))
    pub prev : Leads v n.prev (previous_in (entry_at v.arena) (slot_of v p))
    pub count : n.count ≡ length (children_in (entry_at v.arena (slot_of v p)))
    pub value : IfSome (entry_at v.arena (slot_of v p)) (λ (e : Entry T). n.value ≡ e.value)

  module _ (ps : List (Option Ptr)) (cs : List (Ptr × Node T)) (a : Arena T) (s : Stands ps cs a) where
    abbrev pub shown : Placed T
    shown = record { arena = a; places = ps }

    held_at : (n : ℕ) (p : Ptr) → pointer_in ps n ≡ Some p → IsSome (entry_at a n)
    held_at n p h = sym (s.held n) ∙ ap is_some h

    pub index_is : (n : ℕ) (p : Ptr) → pointer_in ps n ≡ Some p → index_of ps p ≡ n
    index_is n p h = let f = found_at ps p n h in one_slot ps cs cs a s (index_of ps p) n p f h (held_at (index_of ps p) p f) (held_at n p h)

    pub placed_at : (n : ℕ) (p : Ptr) → pointer_in ps n ≡ Some p → IsPlaced shown p
    placed_at n p h = let f = found_at ps p n h in record { held = held_at (index_of ps p) p f; lies = f }

    pub leads_at : (o : Option ℕ) → Known (entry_at a) o → Leads shown (link_in ps o) o
    leads_at None k = record { slot = refl; placed = λ p e. cc }
    leads_at (Some n) k = at_place (pointer_in ps n) refl (place_held ps cs a s n (k n refl))
      where
        at_place : (l : Option Ptr) → pointer_in ps n ≡ l → IsSome l → Leads shown l (Some n)
        at_place None e h = cc
        at_place (Some p) e h = record { slot = ap Some (index_is n p e); placed = λ q f. let g : p ≡ q = cc in subst (λ r. IsPlaced shown r) g (placed_at n p e) }

    leads_from : (l : Option Ptr) (o : Option ℕ) → l ≡ link_in ps o → Known (entry_at a) o → Leads shown l o
    leads_from l o e k = subst (λ m. Leads shown m o) (sym e) (leads_at o k)

    pub node_found : (p : Ptr) → IsPlaced shown p → IsSome (look p cs)
    node_found p h =
        let k = node_held ps cs a s (index_of ps p) h.held in
        let f : node_behind cs (Some p) ≡ node_in ps cs (index_of ps p) = ap (node_behind cs) (sym h.lies) in
        rw f k

    pub lies : (p : Ptr) (n : Node T) → IsPlaced shown p → look p cs ≡ Some n → Lies ps cs a (index_of ps p) p n
    lies p n h found = lies_at ps cs a s (index_of ps p) p n h.held h.lies found

    pub told_at : (p : Ptr) (n : Node T) → IsPlaced shown p → look p cs ≡ Some n → Told shown p n
    told_at p n h found =
        let k = index_of ps p in
        let r = (lies p n h found).reads in
        let at = entry_at a in
        let l = s.sound.linked in
        record {
          slot = ap (λ (m : Node T). m.slot) r.node;
          parent = leads_from n.parent (parent_in (at k)) (parent_link r) (known_parent at l k);
          first = leads_from n.first (head_of (children_in (at k))) (first_link r) (known_first at l k);
          last = leads_from n.last (last_of (children_in (at k))) (last_link r) (known_last at l k);
          next = leads_from n.next (next_in at k) (next_link r) (known_next at l k);
          prev = leads_from n.prev (previous_in at k) (previous_link r) (known_previous at l k);
          count = count_read r;
          value = value_read r;
        }

  -- the same of what a store shows
  module _ {ps : List (Option Ptr)} {cs : List (Ptr × Node T)} {a : Arena T} {v : Placed T} (s : Stands ps cs a) (view : shown ps cs a s ≡ v) where
    pub placed_node : {p q : Ptr} → IsPlaced v p → q ≡ p → IsSome (look q cs)
    placed_node {p} {q} placed e = rw e (subst (λ (u : Placed T). IsPlaced u p → IsSome (look p cs)) view (node_found ps cs a s p) placed)

    pub told : {p q : Ptr} {n : Node T} → IsPlaced v p → q ≡ p → look q cs ≡ Some n → Told v p n
    told {p} {q} {n} placed e found =
        let at : look p cs ≡ Some n = subst (λ r. look r cs ≡ Some n) e found in
        subst (λ (u : Placed T). IsPlaced u p → Told u p n) view (λ h. told_at ps cs a s p n h at) placed

    pub sits : {p q : Ptr} {n : Node T} → IsPlaced v p → q ≡ p → look q cs ≡ Some n → Lies ps cs v.arena (slot_of v p) q n
    sits {p} {q} {n} placed e found =
        let at : look p cs ≡ Some n = subst (λ r. look r cs ≡ Some n) e found in
        subst (λ r. Lies ps cs v.arena (slot_of v p) r n) (sym e) (subst (λ (u : Placed T). IsPlaced u p → Lies ps cs u.arena (slot_of u p) p n) view (λ h. lies ps cs a s p n h at) placed)

    pub arena_is : a ≡ v.arena
    arena_is = ap (λ (u : Placed T). u.arena) view

    pub places_is : ps ≡ v.places
    places_is = ap (λ (u : Placed T). u.places) view

    pub within_table : {i n : ℕ} → i ≡ n → IsSome (entry_at v.arena n) → i < length ps
    within_table {i} {n} e held =
        let there : is_some (pointer_in ps i) ≡ true = s.held i ∙ ap (λ (b : Arena T). is_some (entry_at b i)) arena_is ∙ (ap (λ j. is_some (entry_at v.arena j)) e ∙ held) in
        ⊎_elim (λ (lt : i < length ps). lt) (λ (le : length ps ≤ i). let none : is_some (pointer_in ps i) ≡ false = ap is_some (get_or_past ps i None le) in absurd (true≢false (sym there ∙ none))) (cases_lt i (length ps))

    pub some_at : {i n : ℕ} → i ≡ n → is_some (pointer_in ps i) ≡ is_some (entry_at v.arena n)
    some_at {i} {n} e = s.held i ∙ (ap (λ (b : Arena T). is_some (entry_at b i)) arena_is ∙ ap (λ j. is_some (entry_at v.arena j)) e)

    -- a slot's place stands for it
    pub place_slot : {i n : ℕ} {p : Ptr} → i ≡ n → pointer_in ps i ≡ Some p → slot_of v p ≡ n
    place_slot {i} {n} {p} e h = subst (λ (u : Placed T). slot_of u p ≡ n) view (index_is ps cs a s i p h ∙ e)

    pub place_placed : (i : ℕ) {p : Ptr} → pointer_in ps i ≡ Some p → IsPlaced v p
    place_placed i {p} h = subst (λ (u : Placed T). IsPlaced u p) view (placed_at ps cs a s i p h)

    -- and lies in the table
    pub placed_lies : {p q : Ptr} → IsPlaced v p → q ≡ p → pointer_in ps (slot_of v p) ≡ Some q
    placed_lies {p} {q} placed e = subst (λ r. pointer_in ps (slot_of v p) ≡ Some r) (sym e) (subst (λ qs. pointer_in qs (slot_of v p) ≡ Some p) (sym places_is) placed.lies)

    pub links_lie : (o : Option Ptr) → ((p : Ptr) → o ≡ Some p → IsPlaced v p) → o ≡ link_in ps (slots_of v o)
    links_lie None h = refl
    links_lie (Some p) h = sym (placed_lies (h p refl) refl)

    -- a place that is in the table at the same slot as in that of u
    pub stays : {u : Placed T} {q : Ptr} → pointer_in ps (slot_of u q) ≡ Some q → StaysPlaced u v q
    stays h = record { placed = place_placed _ h; slot = place_slot refl h }

  pub slots_under : (v : Placed T) (P : ℕ → Type 0) (o : Option Ptr) → ((q : Ptr) → o ≡ Some q → P (slot_of v q)) → (n : ℕ) → slots_of v o ≡ Some n → P n
  slots_under v P None h n e = cc
  slots_under v P (Some q) h n e = let g : slot_of v q ≡ n = cc in subst P g (h q refl)

  -- where the places are the same, and the same slots held
  pub keeps_places : (v u : Placed T) → u.places ≡ v.places → ((n : ℕ) → is_some (entry_at u.arena n) ≡ is_some (entry_at v.arena n)) → KeepsPlaces v u
  keeps_places v u same held p placed =
      let slot : slot_of u p ≡ slot_of v p = ap (λ ps. index_of ps p) same in
      let at : is_some (entry_at u.arena (slot_of u p)) ≡ true = held (slot_of u p) ∙ (ap (λ n. is_some (entry_at v.arena n)) slot ∙ placed.held) in
      record { placed = record { held = at; lies = ap (λ ps. pointer_in ps (index_of ps p)) same ∙ placed.lies }; slot = slot }

  some_still : (f : Entry T → Entry T) (b : Bool) (o : Option (Entry T)) → is_some (cond b (option_map f o) o) ≡ is_some o
  some_still f true None = refl
  some_still f false None = refl
  some_still f true (Some e) = refl
  some_still f false (Some e) = refl

  -- as where a value is written
  pub keeps_revalued : (v : Placed T) (p : Ptr) (w : T) → KeepsPlaces v (revalued_at v p w)
  keeps_revalued v p w =
      let k = slot_of v p in
      keeps_places v (revalued_at v p w) refl (λ n. ap is_some (entry_at-altered (with_value w) v.arena k n) ∙ some_still (with_value w) (eqb k n) (entry_at v.arena n))

  pub shown_is : {a b : Arena T} {ps qs : List (Option Ptr)} → a ≡ b → ps ≡ qs → ◌≡◌ {A = Placed T} (record { arena = a; places = ps }) (record { arena = b; places = qs })
  shown_is e f = λ i. record { arena = e i; places = f i }
