-- The memory once a slot is filled, and once it is emptied.
use Rattle.std.proofs.Common.{◌≡◌, ℕ, ◌+◌, ◌≤◌, ◌<◌, true, false, cond, eqb, ltb, List, [], ◌∷◌, ◌++◌, length, Option, Some, None, refl, sym, ap, ◌∙◌, subst, zero, suc, inl, inr, ⊎_elim, arith, reverse, IsSome, is_some, option_map, slice_index_or, slice_set, count_by}
use Rattle.std.proofs.lemmas.{Bool.cases_eq, Bool.cases_lt, Bool.eq-eqb, Bool.ne_eqb, Bool.lt-ltb, Bool.le-ltb, Bool.true≢false, Bool.false≢true, List.get_or-set_same, List.get_or-set_other, List.get_or_past, List.length-set, List.length_push, List.set_at, List.length-reverse, List.reverse-append, List.Sums.sum_by-set, List.Sums.sum_by_push}
use denote.RawPtr.{Ptr}
use Rattle.dom_model.specs.Definitions.{hits, head_of, last_of, after, before, Entry, Arena, names, held, alone, entry_at, parent_in, children_in, list_under, siblings_in, next_in, previous_in, next_from, next_slot, added, added_from, taken, IsLinked}
use Rattle.dom_model.specs.Forests.Arena.{IsSound}
use Rattle.dom_links.specs.{Cells.same_ptr, Cells.look, Cells.without, declared.node.Node.Node, ArenaMemory.pointer_in, ArenaMemory.link_in, ArenaMemory.node_behind, ArenaMemory.node_in, ArenaMemory.wired, ArenaMemory.Stands, LinkSteps.alone_node, LinkSteps.GivesSlot}
use Rattle.dom_links.proofs.{CellsLemmas.same_ptr_symm, CellsLemmas.differs, CellsLemmas.look_head, CellsLemmas.look_tail, CellsLemmas.look_past_without, CellsLemmas.without_length, ListLengthLemmas.length-le_from_once, ArenaMemoryLemmas.Known, ArenaMemoryLemmas.node_of, ArenaMemoryLemmas.known_parent, ArenaMemoryLemmas.known_next, ArenaMemoryLemmas.known_previous, ArenaMemoryLemmas.known_first, ArenaMemoryLemmas.known_last, ArenaAgainLemmas.Closes, ArenaAgainLemmas.closes, ArenaAgainLemmas.one_slot, LinkUnlinkLemmas.same_node, LinkUnlinkLemmas.Lies}

pub index-set : {A : Type 0} (xs : List (Option A)) (n : ℕ) (y : Option A) (i : ℕ) → n < length xs → slice_index_or (slice_set xs n y) i None ≡ cond (eqb n i) y (slice_index_or xs i None)
index-set xs n y i h =
    ⊎_elim (λ (e : n ≡ i). rw (eq-eqb n i e) (subst (λ j. slice_index_or (slice_set xs n y) j None ≡ y) e (get_or-set_same xs n y None h)))
    (λ (d : n ≡ i → ⊥). rw (ne_eqb n i d) (get_or-set_other xs n i y None (λ e. d (sym e)))) (cases_eq n i)

index-push : {A : Type 0} (xs : List (Option A)) (i : ℕ) → slice_index_or (xs ++ None ∷ []) i None ≡ slice_index_or xs i None
index-push [] zero = refl
index-push [] (suc i) = refl
index-push (x ∷ xs) zero = refl
index-push (x ∷ xs) (suc i) = index-push xs i

pub filled : {A : Type 0} (xs : List (Option A)) (n : ℕ) (y : A) → n < length xs → slice_index_or xs n None ≡ None → count_by is_some (slice_set xs n (Some y)) ≡ count_by is_some xs + 1
filled {A} xs n y h none =
    let s : count_by is_some (slice_set xs n (Some y)) + cond (is_some (slice_index_or xs n None)) 1 0 ≡ count_by is_some xs + 1 = sum_by-set (λ (o : Option A). cond (is_some o) 1 0) xs n (Some y) None h in
    let z : ◌≡◌ {A = ℕ} (cond (is_some (slice_index_or xs n None)) 1 0) 0 = ap (λ (o : Option A). cond (is_some o) 1 0) none in
    omega arith

emptied : {A : Type 0} (xs : List (Option A)) (n : ℕ) (y : A) → n < length xs → slice_index_or xs n None ≡ Some y → count_by is_some (slice_set xs n None) + 1 ≡ count_by is_some xs
emptied {A} xs n y h one =
    let s : count_by is_some (slice_set xs n None) + cond (is_some (slice_index_or xs n None)) 1 0 ≡ count_by is_some xs + 0 = sum_by-set (λ (o : Option A). cond (is_some o) 1 0) xs n None None h in
    let z : ◌≡◌ {A = ℕ} (cond (is_some (slice_index_or xs n None)) 1 0) 1 = ap (λ (o : Option A). cond (is_some o) 1 0) one in
    omega arith

reverse-push : (xs : List ℕ) (n : ℕ) → reverse (xs ++ n ∷ []) ≡ n ∷ reverse xs
reverse-push xs n = reverse-append xs (n ∷ [])

not_placed : (o : Option Ptr) → is_some o ≡ false → o ≡ None
not_placed None h = refl
not_placed (Some p) h = absurd (true≢false h)

module _ {T : Type 0} where
  -- at is rest with the entry e in the slot n, linked to nothing
  record Beside (at rest : ℕ → Option (Entry T)) (n : ℕ) (e : Entry T) : Type 0 where
    with_it : (i : ℕ) → at i ≡ cond (eqb n i) (Some e) (rest i)
    gone : rest n ≡ None
    root : e.parent ≡ None
    leaf : e.children ≡ []

  module _ (at rest : ℕ → Option (Entry T)) (n : ℕ) (e : Entry T) (b : Beside at rest n e) where
    at_it : at n ≡ Some e
    at_it = b.with_it n ∙ rw (eq-eqb n n refl)

    at_other : (i : ℕ) → (n ≡ i → ⊥) → at i ≡ rest i
    at_other i d = b.with_it i ∙ rw (ne_eqb n i d)

    kids_same : (i : ℕ) → children_in (at i) ≡ children_in (rest i)
    kids_same i = ⊎_elim (λ (q : n ≡ i). subst (λ j. children_in (at j) ≡ children_in (rest j)) q (ap children_in at_it ∙ (b.leaf ∙ sym (ap children_in b.gone)))) (λ (d : n ≡ i → ⊥). ap children_in (at_other i d)) (cases_eq n i)

    parents_same : (i : ℕ) → parent_in (at i) ≡ parent_in (rest i)
    parents_same i = ⊎_elim (λ (q : n ≡ i). subst (λ j. parent_in (at j) ≡ parent_in (rest j)) q (ap parent_in at_it ∙ (b.root ∙ sym (ap parent_in b.gone)))) (λ (d : n ≡ i → ⊥). ap parent_in (at_other i d)) (cases_eq n i)

    linked_to : IsLinked rest → IsLinked at
    linked_to l m c = ap (hits c) (kids_same m) ∙ (l m c ∙ ap (λ o. names o m) (sym (parents_same c)))

    linked_from : IsLinked at → IsLinked rest
    linked_from l m c = ap (hits c) (sym (kids_same m)) ∙ (l m c ∙ ap (λ o. names o m) (parents_same c))

    under_same : (o : Option ℕ) → list_under at o ≡ list_under rest o
    under_same None = refl
    under_same (Some q) = kids_same q

    siblings_same : (i : ℕ) → siblings_in at i ≡ siblings_in rest i
    siblings_same i = ap (list_under at) (parents_same i) ∙ under_same (parent_in (rest i))

    -- the table with the slot and the one without it
    module _ (ps qs : List (Option Ptr)) (place : Option Ptr) (places : (i : ℕ) → pointer_in ps i ≡ cond (eqb n i) place (pointer_in qs i)) where
      link_same : (o : Option ℕ) → Known rest o → link_in ps o ≡ link_in qs o
      link_same None k = refl
      link_same (Some m) k =
          ⊎_elim (λ (q : n ≡ m). let h : IsSome (rest n) = rw q (k m refl) in let j : IsSome {T = Entry T} None = rw b.gone at h in absurd (false≢true j))
          (λ (d : n ≡ m → ⊥). places m ∙ rw (ne_eqb n m d)) (cases_eq n m)

      wired_same : IsLinked rest → (i : ℕ) (x : Entry T) → rest i ≡ Some x → wired ps at i x ≡ wired qs rest i x
      wired_same l i x h =
          same_node refl refl (link_same x.parent (subst (λ (o : Option (Entry T)). Known rest (parent_in o)) h (known_parent rest l i)))
          (ap (λ xs. link_in ps (before i xs)) (siblings_same i) ∙ link_same (previous_in rest i) (known_previous rest l i))
          (ap (λ xs. link_in ps (after i xs)) (siblings_same i) ∙ link_same (next_in rest i) (known_next rest l i))
          (link_same (head_of x.children) (subst (λ (o : Option (Entry T)). Known rest (head_of (children_in o))) h (known_first rest l i)))
          (link_same (last_of x.children) (subst (λ (o : Option (Entry T)). Known rest (last_of (children_in o))) h (known_last rest l i))) refl

  within : (a : Arena T) (n : ℕ) → IsSound a → 0 < hits n a.free + held (entry_at a n) → n < length a.slots
  within a n s h =
      ⊎_elim (λ (lt : n < length a.slots). lt)
      (λ (le : length a.slots ≤ n). let z : hits n a.free + held (entry_at a n) ≡ cond false 1 0 = s.freed n ∙ rw (le-ltb n (length a.slots) le) in absurd (omega arith)) (cases_lt n (length a.slots))

  held_some : (o : Option (Entry T)) → IsSome o → held o ≡ 1
  held_some None h = cc
  held_some (Some e) h = refl

  not_held : (o : Option (Entry T)) → held o ≡ 0 → o ≡ None
  not_held None h = refl
  not_held (Some e) h = absurd (omega arith)

  module _ (ps : List (Option Ptr)) (cs : List (Ptr × Node T)) (a : Arena T) (s : Stands ps cs a) where
    -- the first free slot
    module _ (n : ℕ) (rest : List ℕ) (free_is : a.free ≡ n ∷ rest) where
      hits_first : hits n a.free ≡ 1 + hits n rest
      hits_first = ap (hits n) free_is ∙ rw (eq-eqb n n refl)

      pub first_within : n < length a.slots
      first_within = within a n s.sound (omega (arith, hits_first))

      first_once : 1 + hits n rest + held (entry_at a n) ≡ 1
      first_once = omega (arith, hits_first, let z : hits n a.free + held (entry_at a n) ≡ cond true 1 0 = s.sound.freed n ∙ rw (lt-ltb n (length a.slots) first_within) in z)

      pub first_free : entry_at a n ≡ None
      first_free = not_held (entry_at a n) (omega (arith, first_once))

      -- the slot filled by a node that lies apart from all
      module _ (p : Ptr) (x : T) (fresh : look p cs ≡ None) where
        abbrev full : Arena T
        full = record { slots = slice_set a.slots n (Some (alone x)); free = rest }

        beside : Beside (entry_at full) (entry_at a) n (alone x)
        beside = record { with_it = λ i. index-set a.slots n (Some (alone x)) i first_within; gone = first_free; root = refl; leaf = refl }

        places : (i : ℕ) → pointer_in (slice_set ps n (Some p)) i ≡ cond (eqb n i) (Some p) (pointer_in ps i)
        places i = index-set ps n (Some p) i (omega (arith, s.long, first_within))

        abbrev ps' : List (Option Ptr)
        ps' = slice_set ps n (Some p)

        abbrev cs' : List (Ptr × Node T)
        cs' = (p, alone_node n x) ∷ cs

        elsewhere : (q : Ptr) (m : Node T) → look q cs ≡ Some m → look q cs' ≡ Some m
        elsewhere q m h = look_tail q p (alone_node n x) cs (differs p q (λ e. let g : look p cs ≡ Some m = rw e h in let f : ◌≡◌ {A = Option (Node T)} None (Some m) = sym fresh ∙ g in cc)) ∙ h

        node_at : (i : ℕ) → (n ≡ i → ⊥) → (o : Option (Entry T)) → entry_at a i ≡ o → (l : Option Ptr) → pointer_in ps i ≡ l → is_some l ≡ is_some o → node_behind cs' l ≡ option_map (wired ps' (entry_at full) i) o
        node_at i d None f None g h = refl
        node_at i d None f (Some q) g h = cc
        node_at i d (Some e) f None g h = cc
        node_at i d (Some e) f (Some q) g h =
            elsewhere q (wired ps (entry_at a) i e) (ap (node_behind cs) (sym g) ∙ node_of ps cs a s i e f)
            ∙ ap Some (sym (wired_same (entry_at full) (entry_at a) n (alone x) beside ps' ps (Some p) places s.sound.linked i e f))

        nodes' : (i : ℕ) → node_in ps' cs' i ≡ option_map (wired ps' (entry_at full) i) (entry_at full i)
        nodes' i =
            ⊎_elim (λ (e : n ≡ i). subst (λ j. node_in ps' cs' j ≡ option_map (wired ps' (entry_at full) j) (entry_at full j)) e
            (ap (node_behind cs') (let g : pointer_in ps' n ≡ Some p = places n ∙ rw (eq-eqb n n refl) in g) ∙ (look_head p (alone_node n x) cs ∙ alone_is (entry_at full n) (at_it (entry_at full) (entry_at a) n (alone x) beside))))
            (λ (d : n ≡ i → ⊥). ap (node_behind cs') (let g : pointer_in ps' i ≡ pointer_in ps i = places i ∙ rw (ne_eqb n i d) in g) ∙ (node_at i d (entry_at a i) refl (pointer_in ps i) refl (s.held i)
            ∙ ap (option_map (wired ps' (entry_at full) i)) (sym (at_other (entry_at full) (entry_at a) n (alone x) beside i d)))) (cases_eq n i)
          where
            alone_is : (o : Option (Entry T)) → o ≡ Some (alone x) → Some (alone_node n x) ≡ option_map (wired ps' (entry_at full) n) o
            alone_is o h = rw h (ap Some (same_node refl refl refl
                (ap (λ (z : Option (Entry T)). link_in ps' (before n (list_under (entry_at full) (parent_in z)))) (sym (at_it (entry_at full) (entry_at a) n (alone x) beside)))
                (ap (λ (z : Option (Entry T)). link_in ps' (after n (list_under (entry_at full) (parent_in z)))) (sym (at_it (entry_at full) (entry_at a) n (alone x) beside))) refl refl refl))

        pub stands-full : Stands (slice_set ps n (Some p)) ((p, alone_node n x) ∷ cs) (record { slots = slice_set a.slots n (Some (alone x)); free = rest })
        stands-full = record {
          long = length-set a.slots n (Some (alone x)) ∙ (s.long ∙ sym (length-set ps n (Some p)));
          held = λ i. rw (places i, index-set a.slots n (Some (alone x)) i first_within) (⊎_elim (λ (e : n ≡ i). rw (eq-eqb n i e)) (λ (d : n ≡ i → ⊥). rw (ne_eqb n i d) (s.held i)) (cases_eq n i));
          nodes = nodes';
          sound = record {
            linked = linked_to (entry_at full) (entry_at a) n (alone x) beside s.sound.linked;
            freed = λ i. let len = length-set a.slots n (Some (alone x)) in let old : hits i (n ∷ rest) + held (entry_at a i) ≡ cond (ltb i (length a.slots)) 1 0 = ap (λ fs. hits i fs + held (entry_at a i)) (sym free_is) ∙ s.sound.freed i in
                rw (len, index-set a.slots n (Some (alone x)) i first_within) (⊎_elim
                (λ (e : n ≡ i). rw (eq-eqb n i e) (let h : held (entry_at a i) ≡ 0 = rw (← e) (ap held first_free) in let o2 : cond true 1 0 + hits i rest + held (entry_at a i) ≡ cond (ltb i (length a.slots)) 1 0 = rw (eq-eqb n i e) at old in omega arith))
                (λ (d : n ≡ i → ⊥). rw (ne_eqb n i d) (let o2 : cond false 1 0 + hits i rest + held (entry_at a i) ≡ cond (ltb i (length a.slots)) 1 0 = rw (ne_eqb n i d) at old in omega arith)) (cases_eq n i));
          };
          many = omega (arith, s.many, filled ps n p (omega (arith, s.long, first_within)) (not_placed (pointer_in ps n) (s.held n ∙ ap is_some first_free)));
        }

    -- a table and an arena in which no slot is free, with a new one that is
    module _ (free_is : a.free ≡ []) where
      abbrev wide : Arena T
      wide = record { slots = a.slots ++ None ∷ []; free = length a.slots ∷ [] }

      at_same : entry_at wide ≡ entry_at a
      at_same = λ j i. index-push a.slots i j

      link_push : (o : Option ℕ) → link_in (ps ++ None ∷ []) o ≡ link_in ps o
      link_push None = refl
      link_push (Some m) = index-push ps m

      wired_push : (i : ℕ) (e : Entry T) → wired ps (entry_at a) i e ≡ wired (ps ++ None ∷ []) (entry_at a) i e
      wired_push i e = sym (same_node refl refl (link_push e.parent) (link_push (previous_in (entry_at a) i)) (link_push (next_in (entry_at a) i)) (link_push (head_of e.children)) (link_push (last_of e.children)) refl)

      mapped_push : (i : ℕ) (o : Option (Entry T)) → option_map (wired ps (entry_at a) i) o ≡ option_map (wired (ps ++ None ∷ []) (entry_at a) i) o
      mapped_push i None = refl
      mapped_push i (Some e) = ap Some (wired_push i e)

      freed_wide : (i : ℕ) → hits i (length a.slots ∷ []) + held (entry_at a i) ≡ cond (ltb i (length a.slots + 1)) 1 0
      freed_wide i =
          let n = length a.slots in
          let old : hits i [] + held (entry_at a i) ≡ cond (ltb i n) 1 0 = ap (λ fs. hits i fs + held (entry_at a i)) (sym free_is) ∙ s.sound.freed i in
          ⊎_elim (λ (e : n ≡ i). rw (eq-eqb n i e, lt-ltb i (n + 1) (omega arith)) (let o2 : 0 + held (entry_at a i) ≡ cond false 1 0 = rw (le-ltb i n (omega arith)) at old in omega arith))
          (λ (d : n ≡ i → ⊥). rw (ne_eqb n i d) (⊎_elim
          (λ (lt : i < n). rw (lt-ltb i (n + 1) (omega arith)) (let o2 : 0 + held (entry_at a i) ≡ cond true 1 0 = rw (lt-ltb i n lt) at old in omega arith))
          (λ (le : n ≤ i). rw (le-ltb i (n + 1) (omega arith)) (let o2 : 0 + held (entry_at a i) ≡ cond false 1 0 = rw (le-ltb i n le) at old in omega arith)) (cases_lt i n))) (cases_eq n i)

      pub stands-wide : Stands (ps ++ None ∷ []) cs (record { slots = a.slots ++ None ∷ []; free = length a.slots ∷ [] })
      stands-wide = record {
        long = length_push a.slots None ∙ (ap (λ m. m + 1) s.long ∙ sym (length_push ps None));
        held = λ i. ap is_some (index-push ps i) ∙ (s.held i ∙ ap is_some (sym (index-push a.slots i)));
        nodes = λ i. ap (node_behind cs) (index-push ps i) ∙ (s.nodes i ∙ (mapped_push i (entry_at a i) ∙ ap (λ (f : ℕ → Option (Entry T)). option_map (wired (ps ++ None ∷ []) f i) (f i)) (sym at_same)));
        sound = record {
          linked = subst (λ (f : ℕ → Option (Entry T)). IsLinked f) (sym at_same) s.sound.linked;
          freed = λ i. rw (index-push a.slots i, length_push a.slots None) (freed_wide i);
        };
        many = omega (arith, s.many, let z : count_by is_some (ps ++ None ∷ []) ≡ count_by is_some ps + 0 = sum_by_push (λ (o : Option Ptr). cond (is_some o) 1 0) ps None in z);
      }

    -- a slot that is linked to nothing, emptied
    module _ (k : ℕ) (e : Entry T) (ptr : Ptr) (n : Node T) (is : entry_at a k ≡ Some e) (root : e.parent ≡ None) (leaf : e.children ≡ []) (at_k : pointer_in ps k ≡ Some ptr) (found : look ptr cs ≡ Some n) where
      held_k : held (entry_at a k) ≡ 1
      held_k = ap held is

      pub taken_within : k < length a.slots
      taken_within = within a k s.sound (omega (arith, held_k))

      abbrev bare : ℕ → Option (Entry T)
      bare = entry_at (taken a k)

      abbrev qs : List (Option Ptr)
      qs = slice_set ps k None

      bare_at : (i : ℕ) → bare i ≡ cond (eqb k i) None (entry_at a i)
      bare_at i = index-set a.slots k None i taken_within

      bare_place : (i : ℕ) → pointer_in qs i ≡ cond (eqb k i) None (pointer_in ps i)
      bare_place i = index-set ps k None i (omega (arith, s.long, taken_within))

      besides : Beside (entry_at a) bare k e
      besides = record {
        with_it = λ i. rw (bare_at i) (⊎_elim (λ (q : k ≡ i). rw (eq-eqb k i q) (rw (← q) is)) (λ (d : k ≡ i → ⊥). rw (ne_eqb k i d)) (cases_eq k i));
        gone = bare_at k ∙ rw (eq-eqb k k refl);
        root = root;
        leaf = leaf;
      }

      back_places : (i : ℕ) → pointer_in ps i ≡ cond (eqb k i) (Some ptr) (pointer_in qs i)
      back_places i = rw (bare_place i) (⊎_elim (λ (q : k ≡ i). rw (eq-eqb k i q) (rw (← q) at_k)) (λ (d : k ≡ i → ⊥). rw (ne_eqb k i d)) (cases_eq k i))

      bare_linked : IsLinked bare
      bare_linked = linked_from (entry_at a) bare k e besides s.sound.linked

      bare_node : (i : ℕ) → (k ≡ i → ⊥) → (o : Option (Entry T)) → entry_at a i ≡ o → (l : Option Ptr) → pointer_in ps i ≡ l → is_some l ≡ is_some o → node_behind (without ptr cs) l ≡ option_map (wired qs bare i) o
      bare_node i d None f None g h = refl
      bare_node i d None f (Some q) g h = cc
      bare_node i d (Some x) f None g h = cc
      bare_node i d (Some x) f (Some q) g h =
          let far : same_ptr ptr q ≡ false = differs ptr q (λ t. d (one_slot ps cs cs a s k i q (at_k ∙ ap Some t) g (rw is) (rw f))) in
          look_past_without ptr q cs (same_ptr_symm q ptr ∙ far) ∙ (ap (node_behind cs) (sym g) ∙ (node_of ps cs a s i x f
          ∙ ap Some (wired_same (entry_at a) bare k e besides ps qs (Some ptr) back_places bare_linked i x (sym (at_other (entry_at a) bare k e besides i d) ∙ f))))

      bare_nodes : (i : ℕ) → node_in qs (without ptr cs) i ≡ option_map (wired qs bare i) (bare i)
      bare_nodes i =
          ⊎_elim (λ (q : k ≡ i). let g : pointer_in qs i ≡ None = bare_place i ∙ rw (eq-eqb k i q) in let f : bare i ≡ None = bare_at i ∙ rw (eq-eqb k i q) in rw (g, f))
          (λ (d : k ≡ i → ⊥). ap (node_behind (without ptr cs)) (let g : pointer_in qs i ≡ pointer_in ps i = bare_place i ∙ rw (ne_eqb k i d) in g)
          ∙ (bare_node i d (entry_at a i) refl (pointer_in ps i) refl (s.held i) ∙ ap (option_map (wired qs bare i)) (at_other (entry_at a) bare k e besides i d))) (cases_eq k i)

      pub stands-taken : Stands (slice_set ps k None) (without ptr cs) (taken a k)
      stands-taken = record {
        long = length-set a.slots k None ∙ (s.long ∙ sym (length-set ps k None));
        held = λ i. rw (bare_place i, bare_at i) (⊎_elim (λ (q : k ≡ i). rw (eq-eqb k i q)) (λ (d : k ≡ i → ⊥). rw (ne_eqb k i d) (s.held i)) (cases_eq k i));
        nodes = bare_nodes;
        sound = record {
          linked = bare_linked;
          freed = λ i. let old = s.sound.freed i in rw (length-set a.slots k None, bare_at i) (⊎_elim
              (λ (q : k ≡ i). rw (eq-eqb k i q) (let h : held (entry_at a i) ≡ 1 = rw (← q) held_k in omega arith))
              (λ (d : k ≡ i → ⊥). rw (ne_eqb k i d) (omega arith)) (cases_eq k i));
        };
        many = omega (arith, s.many, without_length ptr cs (rw found), emptied ps k ptr (omega (arith, s.long, taken_within)) at_k);
      }

      none_k : hits k a.free ≡ 0
      none_k = let z : hits k a.free + held (entry_at a k) ≡ cond true 1 0 = s.sound.freed k ∙ rw (lt-ltb k (length a.slots) taken_within) in omega (arith, held_k)

      -- there is room for one more free slot
      pub room_left : 1 + length a.free ≤ length a.slots
      room_left = let few : length (k ∷ a.free) ≤ length a.slots = length-le_from_once (length a.slots) (k ∷ a.free)
          (λ i. ⊎_elim (λ (q : k ≡ i). rw (eq-eqb k i q) (let h : hits i a.free ≡ 0 = rw (← q) none_k in omega arith))
          (λ (d : k ≡ i → ⊥). rw (ne_eqb k i d) (freed_le i)) (cases_eq k i))
          (λ i h. ⊎_elim (λ (q : k ≡ i). absurd (omega (arith, taken_within))) (λ (d : k ≡ i → ⊥). rw (ne_eqb k i d) (let z : hits i a.free + held (entry_at a i) ≡ cond false 1 0 = s.sound.freed i ∙ rw (le-ltb i (length a.slots) h) in omega arith)) (cases_eq k i)) in omega arith
        where
          freed_le : (i : ℕ) → 0 + hits i a.free ≤ 1
          freed_le i = ⊎_elim (λ (lt : i < length a.slots). let z : hits i a.free + held (entry_at a i) ≡ cond true 1 0 = s.sound.freed i ∙ rw (lt-ltb i (length a.slots) lt) in omega arith)
              (λ (le : length a.slots ≤ i). let z : hits i a.free + held (entry_at a i) ≡ cond false 1 0 = s.sound.freed i ∙ rw (le-ltb i (length a.slots) le) in omega arith) (cases_lt i (length a.slots))

  module _ (ps : List (Option Ptr)) (cs : List (Ptr × Node T)) (v : Arena T) where
    no_parent : (o : Option (Entry T)) (e : Entry T) → o ≡ Some e → parent_in o ≡ None → e.parent ≡ None
    no_parent o e h z = ap parent_in (sym h) ∙ z

    no_child : (o : Option (Entry T)) (e : Entry T) → o ≡ Some e → children_in o ≡ [] → e.children ≡ []
    no_child o e h z = ap children_in (sym h) ∙ z

    pub take_room : (k : ℕ) (ptr : Ptr) (n : Node T) (free : List ℕ) → Lies ps cs v k ptr n → v.free ≡ reverse free → parent_in (entry_at v k) ≡ None → children_in (entry_at v k) ≡ [] → length free + 1 ≤ length ps
    take_room k ptr n free lies free_is root leaf =
        let s = lies.reads.stands in
        let e = lies.reads.entry in
        let r = room_left ps cs v s k e ptr n lies.reads.is (no_parent (entry_at v k) e lies.reads.is root) (no_child (entry_at v k) e lies.reads.is leaf) lies.at lies.found in
        let len : length v.free ≡ length free = ap length free_is ∙ length-reverse free in
        omega (arith, s.long)

    pub take_closes : (k : ℕ) (ptr : Ptr) (n : Node T) (free : List ℕ) → Lies ps cs v k ptr n → v.free ≡ reverse free → parent_in (entry_at v k) ≡ None → children_in (entry_at v k) ≡ [] → Closes (slice_set ps k None) (without ptr cs) (free ++ k ∷ []) (taken v k)
    take_closes k ptr n free lies free_is root leaf =
        let e = lies.reads.entry in
        closes (free ++ k ∷ []) (stands-taken ps cs v lies.reads.stands k e ptr n lies.reads.is (no_parent (entry_at v k) e lies.reads.is root) (no_child (entry_at v k) e lies.reads.is leaf) lies.at lies.found)
        (ap (λ fs. k ∷ fs) free_is ∙ sym (reverse-push free k))

    -- what `add` makes of the slot that is given
    pub record Given (ps' : List (Option Ptr)) (free' : List ℕ) (n : ℕ) : Type 0 where
      pub within : n < length ps'
      pub next : n ≡ next_slot v
      pub none : entry_at v n ≡ None
      -- the other places stay
      pub stays : (p : Ptr) (k : ℕ) (q : Ptr) → pointer_in ps k ≡ Some q → pointer_in (slice_set ps' n (Some p)) k ≡ Some q
      pub fills : (p : Ptr) (x : T) → look p cs ≡ None → Closes (slice_set ps' n (Some p)) ((p, alone_node n x) ∷ cs) free' (added v x)

    given_free : (free' : List ℕ) (n : ℕ) → Stands ps cs v → v.free ≡ n ∷ reverse free' → Given ps free' n
    given_free free' n s free_is = record {
      within = omega (arith, s.long, first_within ps cs v s n (reverse free') free_is);
      next = sym (ap (λ fs. next_from fs (length v.slots)) free_is);
      none = first_free ps cs v s n (reverse free') free_is;
      stays = λ p k q h.
          let apart : k ≡ n → ⊥ = λ e.
          let there : is_some (entry_at v n) ≡ true = sym (s.held n) ∙ ap is_some (subst (λ j. pointer_in ps j ≡ Some q) e h) in
          true≢false (sym there ∙ ap is_some (first_free ps cs v s n (reverse free') free_is)) in
          get_or-set_other ps n k (Some p) None apart ∙ h;
      fills = λ p x fresh. subst (λ (b : Arena T). Closes (slice_set ps n (Some p)) ((p, alone_node n x) ∷ cs) free' b) (sym (ap (λ fs. added_from fs v.slots x) free_is))
          (closes free' (stands-full ps cs v s n (reverse free') free_is p x fresh) refl);
    }

  given_new : (ps : List (Option Ptr)) (cs : List (Ptr × Node T)) (v : Arena T) → Stands ps cs v → v.free ≡ [] → Given ps cs v (ps ++ None ∷ []) [] (length ps)
  given_new ps cs v s free_is =
      let wide : Arena T = record { slots = v.slots ++ None ∷ []; free = length v.slots ∷ [] } in
      let g : Given (ps ++ None ∷ []) cs wide (ps ++ None ∷ []) [] (length v.slots) = given_free (ps ++ None ∷ []) cs wide [] (length v.slots) (stands-wide ps cs v s free_is) refl in
      let same : (x : T) → added wide x ≡ added v x = λ (x : T).
      (λ i. record { slots = set_at v.slots None [] (Some (alone x)) (length v.slots) refl i; free = [] }) ∙ sym (ap (λ fs. added_from fs v.slots x) free_is) in
      subst (λ n. Given ps cs v (ps ++ None ∷ []) [] n) s.long (record {
        within = g.within;
        next = sym (ap (λ fs. next_from fs (length v.slots)) free_is);
        none = get_or_past v.slots (length v.slots) None (omega arith);
        stays = λ p k q h. g.stays p k q (index-push ps k ∙ h);
        fills = λ p x fresh. subst (λ (b : Arena T). Closes (slice_set (ps ++ None ∷ []) (length v.slots) (Some p)) ((p, alone_node (length v.slots) x) ∷ cs) [] b) (same x) (g.fills p x fresh);
      })

  pub given_slot : (ps : List (Option Ptr)) (cs : List (Ptr × Node T)) {a v : Arena T} (free : List ℕ) (qs : List (Option Ptr)) (left : List ℕ) (n : ℕ) → Stands ps cs a → a ≡ v → v.free ≡ reverse free → GivesSlot ps free qs left n → Given ps cs v qs left n
  given_slot ps cs {a} {v} free qs left n s view free_is h = by_case (subst (λ (b : Arena T). Stands ps cs b) view s) h
    where
      by_case : Stands ps cs v → GivesSlot ps free qs left n → Given ps cs v qs left n
      by_case s (inl h) = subst (λ (rs : List (Option Ptr)). Given ps cs v rs left n) (sym h.1) (given_free ps cs v left n s (free_is ∙ (ap reverse h.0 ∙ reverse-push left n)))
      by_case s (inr h) =
          subst (λ (rs : List (Option Ptr)). Given ps cs v rs left n) (sym h.3) (subst (λ fs. Given ps cs v (ps ++ None ∷ []) fs n) (sym h.1)
          (subst (λ m. Given ps cs v (ps ++ None ∷ []) [] m) (sym h.2) (given_new ps cs v s (free_is ∙ ap reverse h.0))))

  pub add_closes : (ps : List (Option Ptr)) (cs : List (Ptr × Node T)) (v : Arena T) (qs : List (Option Ptr)) (left : List ℕ) (n : ℕ) (g : Given ps cs v qs left n) (p : Ptr) (x : T) (node : Node T) (ds : List (Ptr × Node T))
      → look p cs ≡ None → node ≡ alone_node n x → ds ≡ (p, node) ∷ cs → Closes (slice_set qs n (Some p)) ds left (added v x)
  add_closes ps cs v qs left n g p x node ds fresh is cells =
      subst (λ (es : List (Ptr × Node T)). Closes (slice_set qs n (Some p)) es left (added v x)) (sym (cells ∙ ap (λ (m : Node T). (p, m) ∷ cs) is)) (g.fills p x fresh)

  pub take_ends : (ps : List (Option Ptr)) (cs : List (Ptr × Node T)) (v : Arena T) {i k : ℕ} (ptr : Ptr) (n : Node T) (free : List ℕ) (ds : List (Ptr × Node T)) (more : List ℕ) → i ≡ k → Lies ps cs v k ptr n → v.free ≡ reverse free → parent_in (entry_at v k) ≡ None → children_in (entry_at v k) ≡ []
      → ds ≡ without ptr cs → more ≡ free ++ n.slot ∷ [] → Closes (slice_set ps i None) ds more (taken v k)
  take_ends ps cs v {i} {k} ptr n free ds more number lies free_is root leaf cells items =
      subst (λ (es : List (Ptr × Node T)). Closes (slice_set ps i None) es more (taken v k)) (sym cells) (subst (λ fs. Closes (slice_set ps i None) (without ptr cs) fs (taken v k)) (sym (items ∙ ap (λ j. free ++ j ∷ []) (ap (λ (m : Node T). m.slot) lies.reads.node)))
      (subst (λ j. Closes (slice_set ps j None) (without ptr cs) (free ++ k ∷ []) (taken v k)) (sym number) (take_closes ps cs v k ptr n free lies free_is root leaf)))
