-- A root without children taken out of its slot and out of the table.
use Rattle.std.proofs.Common.{◌≡◌, ℕ, ◌+◌, ◌<◌, ◌≤◌, List, [], length, slice_set, Option, Some, None, IsSome, refl, ap, sym, ◌∙◌, subst, arith, ⊎_elim}
use Rattle.std.proofs.lemmas.{Bool.cases_lt, Bool.false≢true, List.get_or-set_same, List.get_or-set_other, List.get_or_past, List.length-set}
use Rattle.dom_model.specs.Definitions.{Arena, Entry, entry_at, held, alone, parent_in, children_in, taken, Lies, Node, Forest, empty, node, occurs, one_at, size, tops, tree_at, without}
use Rattle.dom_model.specs.Forests.Arena.{IsSound}
use Rattle.dom_tree.specs.SpelledForest.{number_in, number_in_slot, slot_in, numbered, shown, Spells, IsTabled, IsKept}
use Rattle.dom_model.proofs.PlainLists.Numbers.{same_or, same, apart}
use Rattle.dom_model.proofs.Forests.{Totals.total-tree_at, Totals.occurs-without, Tops.IsRising-left_out, Tops.tops-without, Lying.Lies-kept, Lying.Lies-without_root, KindsFitting.KindsFit-without, TreeOrder.Ordering.Single, TreeOrder.Ordering.single, TreeOrder.Ordering.tree_at-single, TreeOrder.Ordering.Lies-tree_at}
use Rattle.dom_tree.proofs.{StoreEntryLemmas.taken-here, StoreEntryLemmas.taken-other, EntryChangeLemmas.by_number-added, TreeInvariantLemmas.Keeps, TreeInvariantLemmas.keeps}

module _ {X : Type 0} where
  alone-is : (o : Option (Entry (Node X))) → IsSome o → parent_in o ≡ None → children_in o ≡ [] → (v : Node X) × (o ≡ Some (alone v))
  alone-is None h p k = absurd (false≢true h)
  alone-is (Some e) h p k = (e.value, λ i. Some (record { value = e.value; parent = p i; children = k i }))

  -- a tree of one node
  leaf-tree : (at : ℕ → Option (Entry (Node X))) (c : ℕ) (f : Forest X) → Lies at None f → occurs c f ≡ 1 → children_in (at c) ≡ [] → (n : ℕ) → occurs n (tree_at c f) ≡ one_at n c
  leaf-tree at c f l o k n = from (tree_at-single c f o)
    where
      from : Single c (tree_at c f) → occurs n (tree_at c f) ≡ one_at n c
      from (single x kids e t) =
          let m = subst (λ (u : Forest X). Lies at (parent_in (at c)) u) t (Lies-tree_at at c None f l) in
          let ck : children_in (at c) ≡ tops kids = subst (λ j. children_in (at j) ≡ tops kids) e (rw m.0 refl) in
          let z : kids ≡ empty = none kids (sym ck ∙ k) in
          rw (t, z) (let w : one_at n x.number ≡ one_at n c = ap (one_at n) e in omega (arith, w))
        where
          none : (g : Forest X) → tops g ≡ [] → g ≡ empty
          none empty i = refl
          none (node y ks r) i = absurd (cc i)

  leaf-size : (at : ℕ → Option (Entry (Node X))) (c : ℕ) (f : Forest X) → Lies at None f → occurs c f ≡ 1 → children_in (at c) ≡ [] → size (tree_at c f) ≡ 1
  leaf-size at c f l o k = from (tree_at-single c f o)
    where
      from : Single c (tree_at c f) → size (tree_at c f) ≡ 1
      from (single x kids e t) =
          let m = subst (λ (u : Forest X). Lies at (parent_in (at c)) u) t (Lies-tree_at at c None f l) in
          let ck : children_in (at c) ≡ tops kids = subst (λ j. children_in (at j) ≡ tops kids) e (rw m.0 refl) in
          let z : kids ≡ empty = none kids (sym ck ∙ k) in
          rw (t, z) refl
        where
          none : (g : Forest X) → tops g ≡ [] → g ≡ empty
          none empty i = refl
          none (node y ks r) i = absurd (cc i)

  Spells-taken : (made : ℕ) (at at' : ℕ → Option (Entry (Node X))) (f : Forest X) (c : ℕ) → Spells made at f → held (at c) ≡ 1 → parent_in (at c) ≡ None → children_in (at c) ≡ [] → at' c ≡ None → ((n : ℕ) → (n ≡ c → ⊥) → at' n ≡ at n) → Spells made at' (without c f)
  Spells-taken made at at' f c s hc r k gone old =
      record {
        placed = Lies-kept at at' None (without c f) (λ n o. old n (λ d. omega (arith, subst (λ m. 0 < occurs m (without c f)) d o, occurs-without c f))) (Lies-without_root at c r f s.placed);
        counted = counted;
        rising = rw (tops-without c f) (IsRising-left_out 0 c (tops f) s.rising);
        fits = (let e = total-tree_at (λ _. 1) c f in let w = s.fits in omega arith);
        below = λ n h. elim (same_or n c) [ same d _ ↦ ap (λ m. held (at' m)) d ∙ ap held gone | apart ne _ ↦ ap held (old n ne) ∙ s.below n h ];
      }
    where
      oc : occurs c f ≡ 1
      oc = s.counted c ∙ hc

      counted : (n : ℕ) → occurs n (without c f) ≡ held (at' n)
      counted n =
          elim (same_or n c) [
            | same d _ ↦ ap (λ m. occurs m (without c f)) d ∙ occurs-without c f ∙ sym (ap (λ m. held (at' m)) d ∙ ap held gone)
            | apart ne _ ↦
                let t = leaf-tree at c f s.placed oc k n in
                let z : one_at n c ≡ 0 = elim (same_or c n) [ same d _ ↦ absurd (ne (sym d)) | apart _ v ↦ rw v refl ] in
                let w = total-tree_at (one_at n) c f in
                let u : occurs n (without c f) ≡ occurs n f = omega arith in
                u ∙ s.counted n ∙ sym (ap held (old n ne))
          ]

  IsTabled-taken : (at at' : ℕ → Option (Entry (Node X))) (sl sl' : ℕ → Option ℕ) (c s : ℕ) → IsTabled at sl → sl c ≡ Some s → at' s ≡ None → ((k : ℕ) → (k ≡ s → ⊥) → at' k ≡ at k) → sl' c ≡ None → ((n : ℕ) → (n ≡ c → ⊥) → sl' n ≡ sl n) → IsTabled at' sl'
  IsTabled-taken at at' sl sl' c s t e gone old sgone sold =
      record { named = named; listed = listed }
    where
      named : (n k : ℕ) → sl' n ≡ Some k → IsSome (at' k) × (number_in_slot at' k ≡ n)
      named n k h =
          elim (same_or n c) [
            | same d _ ↦ absurd (let z : None ≡ Some k = sym sgone ∙ ap sl' (sym d) ∙ h in cc z)
            | apart ne _ ↦
                let i = t.named n k (sym (sold n ne) ∙ h) in
                let ks : k ≡ s → ⊥ = λ d. ne (sym i.1 ∙ ap (number_in_slot at) d ∙ (t.named c s e).1) in
                let w = old k ks in
                (rw w i.0, rw w i.1)
          ]

      listed : (k : ℕ) → IsSome (at' k) → sl' (number_in_slot at' k) ≡ Some k
      listed k h =
          elim (same_or k s) [
            | same d _ ↦ absurd (let z : at' k ≡ None = ap at' d ∙ gone in let h2 = rw z at h in false≢true h2)
            | apart ks _ ↦
                let w = old k ks in
                let h2 : IsSome (at k) = rw w at h in
                let i = t.listed k h2 in
                let nc : number_in_slot at k ≡ c → ⊥ = λ d. ks (let z : Some k ≡ Some s = sym i ∙ ap sl d ∙ e in cc z) in
                ap sl' (ap number_in w) ∙ sold (number_in_slot at k) nc ∙ i
          ]

module _ {X : Type 0} {a : Arena (Node X)} {table : List (Option ℕ)} {live : ℕ} (k : IsKept a table live) where
  module _ (n s : ℕ) (e : slot_in table n ≡ Some s) (l : IsSound (taken a s)) (r : parent_in (entry_at a s) ≡ None) (c : children_in (entry_at a s) ≡ []) where
    number_s : number_in_slot (entry_at a) s ≡ n
    number_s = (k.tabled.named n s e).1

    lone : (v : Node X) × (entry_at a s ≡ Some (alone v))
    lone = alone-is (entry_at a s) (k.tabled.named n s e).0 r c

    within : n < length table
    within =
        ⊎_elim
        (λ (lt : n < length table). lt)
        (λ (le : length table ≤ n). absurd (let z : None ≡ Some s = sym (get_or_past table n None le) ∙ e in cc z))
        (cases_lt n (length table))

    gone : slot_in (slice_set table n None) n ≡ None
    gone = get_or-set_same table n None None within

    sold : (m : ℕ) → (m ≡ n → ⊥) → slot_in (slice_set table n None) m ≡ slot_in table m
    sold m ne = get_or-set_other table n m None None ne

    tabled : IsTabled (entry_at (taken a s)) (slot_in (slice_set table n None))
    tabled = IsTabled-taken (entry_at a) (entry_at (taken a s)) (slot_in table) (slot_in (slice_set table n None)) n s k.tabled e (taken-here a s) (taken-other a s) gone sold

    pub others : (m : ℕ) → (m ≡ n → ⊥) → numbered (taken a s) (slice_set table n None) m ≡ numbered a table m
    others m ne = sym ((by_number-added (entry_at (taken a s)) (entry_at a) (slot_in (slice_set table n None)) (slot_in table) n s lone.0 tabled l.linked gone (taken-here a s) lone.1 (λ j nj. sym (taken-other a s j nj)) e (λ j nj. sym (sold j nj))).1 m ne)

    nothing_there : numbered (taken a s) (slice_set table n None) n ≡ None
    nothing_there = rw gone refl

    here : numbered a table n ≡ Some (alone lone.0)
    here = rw (e, lone.1) refl

    spelled : Spells (length table) (numbered (taken a s) (slice_set table n None)) (without n (shown a table))
    spelled = Spells-taken (length table) (numbered a table) (numbered (taken a s) (slice_set table n None)) (shown a table) n k.spelled (rw here refl) (rw here refl) (rw here refl) nothing_there others

    long : length (slice_set table n None) ≡ length table
    long = length-set table n None

    one_less : size (shown a table) ≡ 1 + size (without n (shown a table))
    one_less = omega (arith, total-tree_at (λ _. 1) n (shown a table), leaf-size (numbered a table) n (shown a table) k.spelled.placed (k.spelled.counted n ∙ ap held here) (ap children_in here))

    pub taken-kept : (live' : ℕ) → live ≡ live' + 1 → Keeps (taken a s) (slice_set table n None) live' (without n (shown a table))
    taken-kept live' lv =
        keeps (taken a s) (slice_set table n None) live' (without n (shown a table))
        (subst (λ m. Spells m (numbered (taken a s) (slice_set table n None)) (without n (shown a table))) (sym long) spelled)
        tabled
        (omega (arith, lv, k.alive, one_less))
        (KindsFit-without None n (shown a table) k.kinds)
        (omega (arith, long, k.small))

    pub taken-live : 1 ≤ live
    taken-live = omega (arith, k.alive, one_less)
