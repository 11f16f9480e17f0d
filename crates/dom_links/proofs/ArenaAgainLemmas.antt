-- When the memory, changed, stands for the changed arena.
use Rattle.std.proofs.Common.{◌≡◌, ℕ, ◌≤◌, ◌<◌, false, cond, eqb, List, [], length, Option, Some, None, refl, sym, ap, ◌∙◌, subst, inl, inr, ⊎_elim, ◌⊎◌, arith, reverse, IsSome, is_some, option_map}
use Rattle.std.proofs.lemmas.{Bool.cases_eq, Bool.cases_lt, Bool.eq-eqb, Bool.ne_eqb, Bool.le-ltb, List.get_or-set_same, List.get_or-set_other, List.get_or_past, List.set_past, List.length-set}
use denote.RawPtr.{Ptr}
use Rattle.dom_model.specs.Definitions.{is_number, Entry, Arena, held, entry_at, altered, no_slots, IsLinked}
use Rattle.dom_links.specs.{Cells.same_ptr, Cells.look, declared.node.Node.Node, ArenaMemory.pointer_in, ArenaMemory.link_in, ArenaMemory.node_behind, ArenaMemory.arena_of, ArenaMemory.wired, ArenaMemory.Stands, LinkSteps.leads_to, LinkSteps.link_unless}
use Rattle.dom_links.proofs.{CellsLemmas.same_ptr_refl, CellsLemmas.differs, ArenaMemoryLemmas.Known, ArenaMemoryLemmas.arena_read, ArenaMemoryLemmas.node_of, ArenaMemoryLemmas.place_held, ArenaMemoryLemmas.held_entry}

module _ {T : Type 0} where
  pub free_read : (ps : List (Option Ptr)) (cs : List (Ptr × Node T)) (free : List ℕ) {a : Arena T} → arena_of ps cs free ≡ a → a.free ≡ reverse free
  unfolding arena_of
  free_read ps cs free h = sym (ap (λ (b : Arena T). b.free) h)

  pub record Closes (ps : List (Option Ptr)) (cs : List (Ptr × Node T)) (free : List ℕ) (a : Arena T) : Type 0 where
    pub stands : Stands ps cs (arena_of ps cs free)
    pub view : arena_of ps cs free ≡ a

  -- memory that stands for an arena may be closed, and then shows it
  pub closes : {ps : List (Option Ptr)} {cs : List (Ptr × Node T)} {a : Arena T} (free : List ℕ) → Stands ps cs a → a.free ≡ reverse free → Closes ps cs free a
  closes {ps} {cs} {a} free s h =
      let v = arena_read ps cs a s free h in
      record { stands = subst (λ (b : Arena T). Stands ps cs b) (sym v) s; view = v }

  pub stands-none : Stands {T = T} [] [] no_slots
  stands-none = record { long = refl; held = λ n. refl; nodes = λ n. refl; sound = record { linked = λ n c. refl; freed = λ n. rw (le-ltb n 0 (omega arith)) }; many = omega arith }

  pub entry_at-altered : (f : Entry T → Entry T) (a : Arena T) (k n : ℕ) → entry_at (altered f a k) n ≡ cond (eqb k n) (option_map f (entry_at a n)) (entry_at a n)
  entry_at-altered f a k n =
      ⊎_elim (λ (e : k ≡ n). rw (eq-eqb k n e) (subst (λ j. entry_at (altered f a k) j ≡ option_map f (entry_at a j)) e (at_same (cases_lt k (length a.slots)))))
      (λ (d : k ≡ n → ⊥). rw (ne_eqb k n d) (get_or-set_other a.slots k n (option_map f (entry_at a k)) None (λ e. d (sym e)))) (cases_eq k n)
    where
      at_same : (k < length a.slots) ⊎ (length a.slots ≤ k) → entry_at (altered f a k) k ≡ option_map f (entry_at a k)
      at_same (inl lt) = get_or-set_same a.slots k (option_map f (entry_at a k)) None lt
      at_same (inr le) =
          let none : entry_at a k ≡ None = get_or_past a.slots k None le in
          rw (set_past a.slots k (option_map f (entry_at a k)) le) (rw none)

  pub length-altered : (f : Entry T → Entry T) (a : Arena T) (k : ℕ) → length (altered f a k).slots ≡ length a.slots
  length-altered f a k = length-set a.slots k (option_map f (entry_at a k))

  held_same : (f : Entry T → Entry T) (o : Option (Entry T)) → held (option_map f o) ≡ held o
  held_same f None = refl
  held_same f (Some e) = refl

  is_some_same : (f : Entry T → Entry T) (o : Option (Entry T)) → is_some (option_map f o) ≡ is_some o
  is_some_same f None = refl
  is_some_same f (Some e) = refl

  module _ (ps : List (Option Ptr)) (cs cs' : List (Ptr × Node T)) (a : Arena T) (s : Stands ps cs a) where
    -- one place has one slot
    pub one_slot : (i j : ℕ) (q : Ptr) → pointer_in ps i ≡ Some q → pointer_in ps j ≡ Some q → IsSome (entry_at a i) → IsSome (entry_at a j) → i ≡ j
    one_slot i j q e f h k =
        let x = held_entry (entry_at a i) h in
        let y = held_entry (entry_at a j) k in
        let m : ◌≡◌ {A = Option (Node T)} (Some (wired ps (entry_at a) i x.entry)) (Some (wired ps (entry_at a) j y.entry)) =
        sym (node_of ps cs a s i x.entry x.is) ∙ (ap (node_behind cs) e ∙ (ap (node_behind cs) (sym f) ∙ node_of ps cs a s j y.entry y.is)) in
        let slot : Option (Node T) → ℕ = λ (o : Option (Node T)). elim o as (λ _. ℕ) [ None ↦ 0 | Some n ↦ n.slot ] in
        ap slot m

    -- a link leads to the node of a slot just where it is the link to that slot
    pub leads_to-link_in : (o : Option ℕ) (i : ℕ) (q : Ptr) → Known (entry_at a) o → IsSome (entry_at a i) → pointer_in ps i ≡ Some q → leads_to (link_in ps o) q ≡ is_number o i
    leads_to-link_in None i q k h e = refl
    leads_to-link_in (Some m) i q k h e = at_place (pointer_in ps m) refl (place_held ps cs a s m (k m refl))
      where
        at_place : (o : Option Ptr) → pointer_in ps m ≡ o → IsSome o → leads_to o q ≡ eqb m i
        at_place None f held = cc
        at_place (Some p) f held =
            ⊎_elim (λ (same : m ≡ i). let g : ◌≡◌ {A = Option Ptr} (Some p) (Some q) = sym f ∙ (ap (pointer_in ps) same ∙ e) in
            let g' : p ≡ q = cc in rw (eq-eqb m i same) (ap (λ r. same_ptr r q) g' ∙ same_ptr_refl q))
            (λ (other : m ≡ i → ⊥). rw (ne_eqb m i other) (differs p q (λ g. other (one_slot m i q (f ∙ ap Some g) e (k m refl) h)))) (cases_eq m i)

    pub leads_to-link_unless : (o : Option ℕ) (t i : ℕ) (q top : Ptr) → Known (entry_at a) o → IsSome (entry_at a t) → pointer_in ps t ≡ Some top → IsSome (entry_at a i) → pointer_in ps i ≡ Some q → leads_to (link_unless (link_in ps o) top) q ≡ is_number (link_unless o t) i
    leads_to-link_unless None t i q top k ht et h e = ap (λ l. leads_to l q) (sym et) ∙ leads_to-link_in (Some t) i q (λ n g. let g' : t ≡ n = cc in subst (λ m. IsSome (entry_at a m)) g' ht) h e
    leads_to-link_unless (Some m) t i q top k ht et h e = unled (pointer_in ps m) (place_held ps cs a s m (k m refl))
      where
        unled : (o : Option Ptr) → IsSome o → leads_to (link_unless o top) q ≡ false
        unled None held = cc
        unled (Some p) held = refl

    -- nodes changed each by itself, and entries likewise
    module _ (F : Ptr → Node T → Node T) (looks : (q : Ptr) → look q cs' ≡ option_map (F q) (look q cs))
        (a' : Arena T) (G : ℕ → Entry T → Entry T) (entries : (i : ℕ) → entry_at a' i ≡ option_map (G i) (entry_at a i))
        (same : (i : ℕ) (q : Ptr) (e : Entry T) → pointer_in ps i ≡ Some q → entry_at a i ≡ Some e → F q (wired ps (entry_at a) i e) ≡ wired ps (entry_at a') i (G i e)) where
      renode : (i : ℕ) (o : Option (Entry T)) → entry_at a i ≡ o → (p : Option Ptr) → pointer_in ps i ≡ p → is_some p ≡ is_some o → node_behind cs' p ≡ option_map (wired ps (entry_at a') i) (option_map (G i) o)
      renode i None f None g h = refl
      renode i None f (Some q) g h = cc
      renode i (Some e) f None g h = cc
      renode i (Some e) f (Some q) g h =
          let n : look q cs ≡ Some (wired ps (entry_at a) i e) = ap (node_behind cs) (sym g) ∙ node_of ps cs a s i e f in
          looks q ∙ (ap (option_map (F q)) n ∙ ap Some (same i q e g f))

      pub restands : length cs' ≡ length cs → a'.free ≡ a.free → length a'.slots ≡ length a.slots → IsLinked (entry_at a') → Stands ps cs' a'
      restands many free long linked = record {
        long = long ∙ s.long;
        held = λ n. s.held n ∙ (sym (is_some_same (G n) (entry_at a n)) ∙ ap is_some (sym (entries n)));
        nodes = λ n. renode n (entry_at a n) refl (pointer_in ps n) refl (s.held n) ∙ ap (option_map (wired ps (entry_at a') n)) (sym (entries n));
        sound = record {
          linked = linked;
          freed = λ n. let h : held (entry_at a' n) ≡ held (entry_at a n) = ap held (entries n) ∙ held_same (G n) (entry_at a n) in rw (free, h, long) (s.sound.freed n);
        };
        many = rw many s.many;
      }
