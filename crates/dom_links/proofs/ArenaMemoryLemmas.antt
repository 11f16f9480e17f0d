-- What stands in memory for an arena reads back as that arena.
use Rattle.std.proofs.Common.{◌≡◌, ℕ, ◌+◌, ◌<◌, false, List, [], ◌∷◌, ◌++◌, length, map, Option, Some, None, refl, sym, ap, ◌∙◌, subst, ⊎_elim, arith, append_assoc, reverse, IsSome, option_map}
use Rattle.std.proofs.lemmas.{Bool.cases_eq, Bool.eq-eqb, Bool.true≢false, List.ext_get_or, List.length-map, List.get_or-map}
use denote.RawPtr.{Ptr}
use Rattle.dom_model.specs.Definitions.{hits, is_number, head_of, last_of, after, before, Entry, Arena, names, entry_at, parent_in, children_in, list_under, siblings_in, next_in, previous_in, IsLinked}
use Rattle.dom_model.proofs.Forests.{Climbing.hits-append, Standing.after-ahead}
use Rattle.dom_links.specs.{Cells.look, declared.node.Node.Node, ArenaMemory.pointer_in, ArenaMemory.link_in, ArenaMemory.node_behind, ArenaMemory.node_in, ArenaMemory.slot_behind, ArenaMemory.slots_from, ArenaMemory.slots_along, ArenaMemory.entry_from, ArenaMemory.arena_of, ArenaMemory.wired, ArenaMemory.Stands}
use Rattle.dom_links.proofs.{ListNeighbourLemmas.after-none, ListNeighbourLemmas.before_from-none, ListNeighbourLemmas.head_of-none, ListNeighbourLemmas.last_from-none, ListNeighbourLemmas.last_of-last_from, UnlinkLemmas.names-same, UnlinkLemmas.names-other, UnlinkLemmas.hits-le}

pub names-positive : (o : Option ℕ) (n : ℕ) → 0 < names o n → o ≡ Some n
names-positive None n h = absurd (omega arith)
names-positive (Some m) n h = ⊎_elim (λ (e : m ≡ n). ap Some e) (λ (e : m ≡ n → ⊥). absurd (omega (arith, names-other m n e))) (cases_eq m n)

-- what stands beside something in a list stands in it
stands_in : (xs : List ℕ) (o : Option ℕ) (n : ℕ) → (hits n xs ≡ 0 → is_number o n ≡ false) → o ≡ Some n → 0 < hits n xs
stands_in xs o n f e =
    ⊎_elim (λ (z : hits n xs ≡ 0). let g : is_number (Some n) n ≡ false = rw e at (f z) in absurd (true≢false (sym (eq-eqb n n refl) ∙ g)))
    (λ (z : hits n xs ≡ 0 → ⊥). omega arith) (cases_eq (hits n xs) 0)

module _ {T : Type 0} where
  -- each slot that is named is held
  abbrev pub Known : (ℕ → Option (Entry T)) → Option ℕ → Type 0
  Known at o = (n : ℕ) → o ≡ Some n → IsSome (at n)

  pub held-parent : (o : Option (Entry T)) (p : ℕ) → parent_in o ≡ Some p → IsSome o
  held-parent None p h = cc
  held-parent (Some e) p h = refl

  pub held-child : (o : Option (Entry T)) (n : ℕ) → 0 < hits n (children_in o) → IsSome o
  held-child None n h = absurd (omega arith)
  held-child (Some e) n h = refl

  pub the_parent : (at : ℕ → Option (Entry T)) → IsLinked at → (q n : ℕ) → 0 < hits n (children_in (at q)) → parent_in (at n) ≡ Some q
  the_parent at l q n h = names-positive (parent_in (at n)) q (omega (arith, l q n))

  pub known_child : (at : ℕ → Option (Entry T)) → IsLinked at → (q n : ℕ) → 0 < hits n (children_in (at q)) → IsSome (at n)
  known_child at l q n h = held-parent (at n) q (the_parent at l q n h)

  known_under : (at : ℕ → Option (Entry T)) → IsLinked at → (o : Option ℕ) (n : ℕ) → 0 < hits n (list_under at o) → IsSome (at n)
  known_under at l None n h = absurd (omega arith)
  known_under at l (Some q) n h = known_child at l q n h

  pub known_parent : (at : ℕ → Option (Entry T)) → IsLinked at → (n : ℕ) → Known at (parent_in (at n))
  known_parent at l n p e = held-child (at p) n (let k : hits n (children_in (at p)) ≡ 1 = l p n ∙ (ap (λ o. names o p) e ∙ names-same p) in omega arith)

  pub known_first : (at : ℕ → Option (Entry T)) → IsLinked at → (q : ℕ) → Known at (head_of (children_in (at q)))
  known_first at l q n e = let xs = children_in (at q) in known_child at l q n (stands_in xs (head_of xs) n (head_of-none n xs) e)

  pub known_last : (at : ℕ → Option (Entry T)) → IsLinked at → (q : ℕ) → Known at (last_of (children_in (at q)))
  known_last at l q n e =
      let xs = children_in (at q) in
      known_child at l q n (stands_in xs (last_of xs) n (λ h. rw (last_of-last_from xs) (last_from-none None n xs h refl)) e)

  pub known_next : (at : ℕ → Option (Entry T)) → IsLinked at → (m : ℕ) → Known at (next_in at m)
  known_next at l m n e = let xs = siblings_in at m in known_under at l (parent_in (at m)) n (stands_in xs (after m xs) n (after-none m n xs) e)

  pub known_previous : (at : ℕ → Option (Entry T)) → IsLinked at → (m : ℕ) → Known at (previous_in at m)
  known_previous at l m n e = let xs = siblings_in at m in known_under at l (parent_in (at m)) n (stands_in xs (before m xs) n (λ h. before_from-none None m n xs h refl) e)

  pub record Held (o : Option (Entry T)) : Type 0 where
    pub entry : Entry T
    pub is : o ≡ Some entry

  pub held_entry : (o : Option (Entry T)) → IsSome o → Held o
  held_entry None h = cc
  held_entry (Some e) h = record { entry = e; is = refl }

  module _ (ps : List (Option Ptr)) (cs : List (Ptr × Node T)) (a : Arena T) (s : Stands ps cs a) where
    pub node_of : (n : ℕ) (e : Entry T) → entry_at a n ≡ Some e → node_in ps cs n ≡ Some (wired ps (entry_at a) n e)
    node_of n e h = s.nodes n ∙ ap (option_map (wired ps (entry_at a) n)) h

    pub node_held : (n : ℕ) → IsSome (entry_at a n) → IsSome (node_in ps cs n)
    node_held n h = let e = held_entry (entry_at a n) h in rw (node_of n e.entry e.is)

    pub place_held : (n : ℕ) → IsSome (entry_at a n) → IsSome (pointer_in ps n)
    place_held n h = s.held n ∙ h

    slot_of : (n : ℕ) (o : Option (Entry T)) → IsSome o → option_map (λ (m : Node T). m.slot) (option_map (wired ps (entry_at a) n) o) ≡ Some n
    slot_of n None h = cc
    slot_of n (Some e) h = refl

    -- the slot behind a link is the slot that it was made for
    pub slot_read : (o : Option ℕ) → Known (entry_at a) o → slot_behind cs (link_in ps o) ≡ o
    slot_read None k = refl
    slot_read (Some n) k = ap (option_map (λ (m : Node T). m.slot)) (s.nodes n) ∙ slot_of n (entry_at a n) (k n refl)

    pub found_in : (o : Option ℕ) → Known (entry_at a) o → (p : Ptr) → link_in ps o ≡ Some p → IsSome (look p cs)
    found_in None k p e = cc
    found_in (Some n) k p e = let h = node_held n (k n refl) in let f : node_behind cs (Some p) ≡ node_in ps cs n = ap (node_behind cs) (sym e) in rw f h

    step : (n : ℕ) (rest : Option Ptr → List ℕ) (o : Option (Entry T)) → IsSome o → slots_from (option_map (wired ps (entry_at a) n) o) rest ≡ n ∷ rest (link_in ps (next_in (entry_at a) n))
    step n rest None h = cc
    step n rest (Some e) h = refl

    chain : (p : ℕ) (us xs : List ℕ) → children_in (entry_at a p) ≡ us ++ xs → slots_along cs (length xs) (link_in ps (head_of xs)) ≡ xs
    chain p us [] h = refl
    chain p us (x ∷ xs) h =
        let at = entry_at a in
        let l = s.sound.linked in
        let parts : hits x (us ++ x ∷ xs) ≡ hits x us + hits x (x ∷ xs) = hits-append x us (x ∷ xs) in
        let one : hits x (x ∷ xs) ≡ 1 + hits x xs = rw (eq-eqb x x refl) in
        let whole : hits x (children_in (at p)) ≡ hits x (us ++ x ∷ xs) = ap (hits x) h in
        let most = hits-le at l p x in
        let positive : 0 < hits x (children_in (at p)) = omega arith in
        let under = the_parent at l p x positive in
        let beside : next_in at x ≡ head_of xs = ap (λ o. after x (list_under at o)) under ∙ (ap (after x) h ∙ after-ahead x us xs (omega arith)) in
        let rest : Option Ptr → List ℕ = λ (o : Option Ptr). slots_along cs (length xs) o in
        ap (λ o. slots_from o rest) (s.nodes x) ∙ (step x rest (at x) (known_child at l p x positive)
        ∙ ap (λ ys. x ∷ ys) (ap (λ o. rest (link_in ps o)) beside ∙ chain p (us ++ x ∷ []) xs (h ∙ sym (append_assoc us (x ∷ []) xs))))

    entry_read : (n : ℕ) (e : Entry T) → entry_at a n ≡ Some e → entry_from cs (wired ps (entry_at a) n e) ≡ e
    entry_read n e h =
        let l = s.sound.linked in
        let up : slot_behind cs (link_in ps e.parent) ≡ e.parent = slot_read e.parent (subst (λ (o : Option (Entry T)). Known (entry_at a) (parent_in o)) h (known_parent (entry_at a) l n)) in
        let down : slots_along cs (length e.children) (link_in ps (head_of e.children)) ≡ e.children = chain n [] e.children (ap children_in h) in
        λ i. record { value = e.value; parent = up i; children = down i }

    read_at : (n : ℕ) (o : Option (Entry T)) → entry_at a n ≡ o → option_map (entry_from cs) (option_map (wired ps (entry_at a) n) o) ≡ o
    read_at n None h = refl
    read_at n (Some e) h = ap Some (entry_read n e h)

    -- the arena that the memory spells is the one that it stands for
    pub arena_read : (free : List ℕ) → a.free ≡ reverse free → arena_of ps cs free ≡ a
    unfolding arena_of
    arena_read free h =
        let f : Option Ptr → Option (Entry T) = λ (p : Option Ptr). option_map (entry_from cs) (node_behind cs p) in
        let same : map f ps ≡ a.slots = ext_get_or None (map f ps) a.slots (length-map ps f ∙ sym s.long) (λ i lt.
        get_or-map f ps i None None (rw (length-map ps f) at lt) ∙ (ap (option_map (entry_from cs)) (s.nodes i) ∙ read_at i (entry_at a i) refl)) in
        λ i. record { slots = same i; free = sym h i }
