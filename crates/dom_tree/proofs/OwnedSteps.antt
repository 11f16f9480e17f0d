-- The counts of node documents where a node is made, goes into another document, or is taken out.
use Rattle.std.proofs.Common.{IfSome, ◌≡◌, ℕ, suc, ◌+◌, ◌-◌, ◌<◌, ◌≤◌, ◌^◌, Bool, true, false, not, ◌||◌, nat_eq, if◌then◌else◌, ◌==◌, List, [], ◌∷◌, ◌++◌, length, slice_set, Option, Some, None, option_map, IsSome, is_some, refl, ap, sym, ◌∙◌, subst, arith, ⊎_elim, add-one, length-append}
use Rattle.std.proofs.lemmas.{Bool.cases_lt, Bool.false≢true, Bool.eqb-true, Bool.not-false, List.get_or-set_same, List.get_or-set_other, List.length-set}
use Rattle.dom_model.specs.Definitions.{Arena, Entry, entry_at, names, with_value, added, taken, next_slot, IsHeld, Node, Forest, empty, node, Grove, occurs, one_at, HasNode, parent_of, children_of, beside, without, with_node, in_document, IsForest}
use Rattle.dom_model.specs.Forests.Arena.{IsSound}
use Rattle.dom_model.proofs.PlainLists.Numbers.{same_or, same, apart}
use Rattle.dom_model.proofs.Forests.Totals.{occurs-without}
use Rattle.dom_tree.specs.{NodeDocuments.AreDocumentsCounted, NodeDocuments.document_at, NodeDocuments.document_in, NodeDocuments.owned_by, SpelledForest.renumbered, SpelledForest.slot_in, SpelledForest.numbered, SpelledForest.shown, Slots.Kept, Slots.node_entry, Slots.nodes_alone, Slots.with_owned, Slots.with_document, Slots.owned_in, Slots.document_in_slot, Slots.one_more, Slots.one_less, Slots.homed, Slots.Owns, Slots.IsTree}
use Rattle.dom_tree.proofs.{TreeInvariantLemmas.entry-numbered, TreeInvariantLemmas.entry-slot, Nodes.entry-nodes, Nodes.parent-nodes, Nodes.children-nodes, Nodes.sound-nodes, Nodes.taken-nodes, StoreEntryLemmas.altered-at, StoreEntryLemmas.added-new, StoreEntryLemmas.added-old, StoreEntryLemmas.taken-other, MakeLemmas.slot_in-new, MakeLemmas.slot_in-old, OwnedSlots.homed-owned, OwnedSlots.more-at, OwnedSlots.less-at, IsOwnedLemmas.names-is, IsOwnedLemmas.names-not, IsOwnedLemmas.having-few, IsOwnedLemmas.having-some, IsOwnedLemmas.having-but, IsOwnedLemmas.owned-made, IsOwnedLemmas.owned-moved, IsOwnedLemmas.owned-taken, DocumentsKept.document-HasNode, DocumentsKept.HasNode-document, DocumentsKept.document-none, DocumentsKept.documents-set, DocumentsKept.documents-others, DocumentsKept.documents-root, DocumentsKept.documents-older, OwnedTrees.owning-stays, SlotStepLemmas.Stays, SlotStepLemmas.slot-held, SlotStepLemmas.held-slot, SlotStepLemmas.holds-read, SlotStepLemmas.forest-read, SlotStepLemmas.alter-done, SlotStepLemmas.parent-none, SlotStepLemmas.children-none}
use Rattle.dom_tree.proofs.TakeLemmas as taking

module _ {X : Type 0} where
  part-owned : (o : Option (Entry (Kept X))) → IsSome o → (x : Kept X) → IfSome o (λ e. x ≡ e.value) → x.owned ≡ owned_in o
  part-owned None i x h = absurd (false≢true i)
  part-owned (Some e) i x h = ap (λ (q : Kept X). q.owned) h

  -- where there are no strays after a slot was emptied, there were none, and no other node had its node as its node document
  pub taken-known : (strays : Bool) (o : Option (Entry (Kept X))) → IsSome o → (x y : Kept X) → y ≡ x → IfSome o (λ e. x ≡ e.value) → (strays || not (nat_eq y.owned 1)) ≡ false → (strays ≡ false) × (owned_in o ≡ 1)
  taken-known true o i x y yx h e = absurd (false≢true (sym e))
  taken-known false o i x y yx h e =
      (refl, sym (part-owned o i x h) ∙ ap (λ (q : Kept X). q.owned) (sym yx) ∙ eqb-true y.owned 1 (not-false (nat_eq y.owned 1) e))

module _ {X : Type 0} {a : Arena (Kept X)} {table : List (Option ℕ)} {live : ℕ} {strays : Bool} (k : IsTree a table live strays) where
  whole : IsForest (record { forest = shown (nodes_alone a) table; made = length table })
  whole = forest-read k refl

  -- the node document of a number is that of its slot
  pub document-slot : (n s : ℕ) → slot_in table n ≡ Some s → document_in (shown (nodes_alone a) table) n ≡ document_in_slot (entry_at a s)
  document-slot n s i =
      ap document_at (entry-slot k.stored.kept n s i ∙ ap (option_map (renumbered (entry_at (nodes_alone a)))) (entry-nodes a s)) ∙ go (entry_at a s)
    where
      go : (o : Option (Entry (Kept X))) → document_at (option_map (renumbered (entry_at (nodes_alone a))) (option_map node_entry o)) ≡ document_in_slot o
      go None = refl
      go (Some e) = refl

  document-small : (n d : ℕ) → document_in (shown (nodes_alone a) table) n ≡ Some d → n < length table
  document-small n d e =
      ⊎_elim
      (λ (lt : n < length table). lt)
      (λ (le : length table ≤ n). absurd (let z : None ≡ Some d = sym (document-none (shown (nodes_alone a) table) n (whole.small n le)) ∙ e in cc z))
      (cases_lt n (length table))

  slot-document : (n s : ℕ) → slot_in table n ≡ Some s → IsSome (document_in (shown (nodes_alone a) table) n)
  slot-document n s i = HasNode-document (shown (nodes_alone a) table) n (sym (holds-read k refl n) ∙ ap is_some i)

  -- the count in a slot is that of the nodes
  pub owned-read : {w : Grove X} → record { forest = shown (nodes_alone a) table; made = length table } ≡ w → strays ≡ false → (n s : ℕ) → slot_in table n ≡ Some s → (x y : Kept X) → y ≡ x → IfSome (entry_at a s) (λ e. x ≡ e.value) → y.owned ≡ owned_by w.forest w.made n
  owned-read v none n s i x y yx h =
      ap (λ (q : Kept X). q.owned) yx ∙ part-owned (entry_at a s) (held-slot k refl n s i) x h ∙ (k.owned none).right n s i ∙ ap (λ (g : Grove X). owned_by g.forest g.made n) v

  -- two numbers have one slot only where they are one
  slot-one : (m n s : ℕ) → slot_in table m ≡ Some s → slot_in table n ≡ Some s → m ≡ n
  slot-one m n s i j = sym (k.stored.kept.tabled.named m s i).1 ∙ (k.stored.kept.tabled.named n s j).1

  names-slot : (m s n t : ℕ) → slot_in table m ≡ Some s → slot_in table n ≡ Some t → names (Some n) m ≡ one_at t s
  names-slot m s n t i j =
      elim (same_or s t) [
        | same q v ↦ names-is (Some n) m (ap Some (sym (slot-one m n t (i ∙ ap Some q) j))) ∙ rw v refl
        | apart ne v ↦ names-not (Some n) m (λ z. ne (let q : n ≡ m = cc z in let y : Some t ≡ Some s = sym j ∙ ap (slot_in table) q ∙ i in let x : t ≡ s = cc y in sym x)) ∙ rw v refl
      ]

  -- a node goes into another document
  module _ (n s : ℕ) (i : slot_in table n ≡ Some s) (former d : ℕ) (was : document_in_slot (entry_at a s) ≡ Some former) (b : Arena (Kept X)) (eb : b ≡ homed a s d) where
    there : HasNode (shown (nodes_alone a) table) n
    there = document-HasNode (shown (nodes_alone a) table) n (slot-document n s i)

    pub moved-stays : Stays b table live (with_node n (in_document d) (shown (nodes_alone a) table))
    moved-stays =
        subst (λ (c : Arena (Kept X)). Stays c table live (with_node n (in_document d) (shown (nodes_alone a) table))) (sym eb) (alter-done k refl n s i (in_document d) (λ q. refl) (λ q. refl))

    -- where it may be in none, there is no count
    pub strayed-tree : (strays' : Bool) → (strays' ≡ false → ⊥) → IsTree b table live strays'
    strayed-tree strays' never = record { stored = moved-stays.kept; owned = λ e. absurd (never e) }

    b-owned : (t : ℕ) → owned_in (entry_at b t) ≡ owned_in (entry_at a t)
    b-owned t = ap (λ (c : Arena (Kept X)). owned_in (entry_at c t)) eb ∙ homed-owned a s d t

    held-b : (t : ℕ) → IsHeld a t → IsHeld b t
    held-b t h = rw (eb, altered-at _ a s t) (go (entry_at a t) h)
      where
        go : (o : Option (Entry (Kept X))) → IsSome o → IsSome (if t == s then option_map (λ (e : Entry (Kept X)). with_value (with_document d e.value) e) o else o)
        go None h = absurd (false≢true h)
        go (Some e) h = elim (t == s) as (λ v. IsSome (if v then Some (with_value (with_document d e.value) e) else Some e)) [ true ↦ refl | false ↦ refl ]

    former-is : document_in (shown (nodes_alone a) table) n ≡ Some former
    former-is = document-slot n s i ∙ was

    module _ (none : strays ≡ false) where
      w : Owns a table
      w = k.owned none

      pub former-slot : IsSome (slot_in table former)
      former-slot = slot-held k refl former (document-HasNode (shown (nodes_alone a) table) former (w.there n former former-is))

      module _ (from to : ℕ) (j : slot_in table former ≡ Some from) (l : slot_in table d ≡ Some to) where
        pub from-held : IsHeld b from
        from-held = held-b from (held-slot k refl former from j)

        pub from-some : 0 < owned_in (entry_at b from)
        from-some = omega (arith, b-owned from, w.right former from j, having-some (document_in (shown (nodes_alone a) table)) n former (length table) former-is (document-small n former former-is))

        module _ (c : Arena (Kept X)) (ec : c ≡ one_less b from) where
          less : (t : ℕ) → owned_in (entry_at c t) + one_at from t ≡ owned_in (entry_at b t)
          less t = ap (λ (e : Arena (Kept X)). owned_in (entry_at e t) + one_at from t) ec ∙ less-at b from t from-held from-some

          pub to-held : IsHeld c to
          to-held = rw (ec, altered-at _ b from to) (go (entry_at b to) (held-b to (held-slot k refl d to l)))
            where
              go : (o : Option (Entry (Kept X))) → IsSome o → IsSome (if to == from then option_map (λ (e : Entry (Kept X)). with_value (with_owned (owned_in (entry_at b from) - 1) e.value) e) o else o)
              go None h = absurd (false≢true h)
              go (Some e) h = elim (to == from) as (λ v. IsSome (if v then Some (with_value (with_owned (owned_in (entry_at b from) - 1) e.value) e) else Some e)) [ true ↦ refl | false ↦ refl ]

          -- the node itself is not counted there
          pub to-few : owned_in (entry_at c to) + 1 < 2 ^ 32
          to-few =
              let f = shown (nodes_alone a) table in
              let moved = document_in (with_node n (in_document d) f) in
              let but = having-but (document_in f) moved n (documents-others f whole.once n d) d (length table) (document-small n former former-is) in
              let was_there = ap (λ o. names o d) former-is ∙ names-slot d to former from l j in
              let comes = names-is (moved n) d (documents-set f whole.once n d there) in
              omega (arith, less to, b-owned to, w.right d to l, but, was_there, comes, having-few moved d (length table), k.stored.kept.small)

          module _ (e : Arena (Kept X)) (ee : e ≡ one_more c to) where
            stays-e : Stays e table live (with_node n (in_document d) (shown (nodes_alone a) table))
            stays-e =
                subst (λ (q : Arena (Kept X)). Stays q table live (with_node n (in_document d) (shown (nodes_alone a) table))) (sym ee)
                (owning-stays c table live to (owned_in (entry_at c to) + 1) (with_node n (in_document d) (shown (nodes_alone a) table))
                (subst (λ (q : Arena (Kept X)). Stays q table live (with_node n (in_document d) (shown (nodes_alone a) table))) (sym ec)
                (owning-stays b table live from (owned_in (entry_at b from) - 1) (with_node n (in_document d) (shown (nodes_alone a) table)) moved-stays)))

            more : (t : ℕ) → owned_in (entry_at e t) ≡ owned_in (entry_at c t) + one_at to t
            more t = ap (λ (q : Arena (Kept X)). owned_in (entry_at q t)) ee ∙ more-at c to t to-held

            counts : (m t : ℕ) → slot_in table m ≡ Some t → owned_in (entry_at e t) + names (Some former) m ≡ owned_in (entry_at a t) + names (Some d) m
            counts m t q = omega (arith, more t, less t, b-owned t, names-slot m t former from q j, names-slot m t d to q l)

            pub moved-tree : IsTree e table live strays
            moved-tree =
                record {
                  stored = stays-e.kept;
                  owned =
                      λ _. owned-moved (document_in (shown (nodes_alone a) table)) (document_in (shown (nodes_alone e) table)) (slot_in table) (λ t. owned_in (entry_at a t)) (λ t. owned_in (entry_at e t)) (length table) n former d
                      (document-small n former former-is) former-is
                      (ap (λ (g : Forest X). document_in g n) stays-e.same ∙ documents-set (shown (nodes_alone a) table) whole.once n d there)
                      (λ m ne. ap (λ (g : Forest X). document_in g m) stays-e.same ∙ documents-others (shown (nodes_alone a) table) whole.once n d m ne)
                      (slot-document d to l) counts w;
                }

            pub moved-same : shown (nodes_alone e) table ≡ with_node n (in_document d) (shown (nodes_alone a) table)
            moved-same = stays-e.same

  -- a node is made, in itself
  pub made-tree : IsSound a → (x : Kept X) (b : Arena (Kept X)) (places : List (Option ℕ)) (s : ℕ) → x.node.number ≡ length table → x.node.document ≡ length table → x.owned ≡ 1 → entry_at a s ≡ None → b ≡ added a x → s ≡ next_slot a → places ≡ table ++ Some s ∷ [] → Stays b places (live + 1) (beside (shown (nodes_alone a) table) (node x.node empty empty)) → IsTree b places (live + 1) strays
  made-tree l x b places s nx dx one fresh eb es ep st =
      record {
        stored = st.kept;
        owned =
            λ e. subst (λ m. AreDocumentsCounted (document_in (shown (nodes_alone b) places)) (slot_in places) (λ t. owned_in (entry_at b t)) m) (sym long)
            (owned-made (document_in (shown (nodes_alone a) table)) (document_in (shown (nodes_alone b) places)) (slot_in table) (slot_in places) (λ t. owned_in (entry_at a t)) (λ t. owned_in (entry_at b t)) (length table) s
            (document-none (shown (nodes_alone a) table) (length table) absent) new others
            (ap (λ q. slot_in q (length table)) ep ∙ slot_in-new table s)
            (λ m ne. ap (λ q. slot_in q m) ep ∙ slot_in-old table s m ne)
            (ap owned_in here ∙ one) rest (k.owned e));
      }
    where
      long : length places ≡ suc (length table)
      long = ap length ep ∙ length-append table (Some s ∷ []) ∙ add-one (length table)

      absent : occurs (length table) (shown (nodes_alone a) table) ≡ 0
      absent = whole.small (length table) (omega arith)

      new : document_in (shown (nodes_alone b) places) (length table) ≡ Some (length table)
      new =
          ap (λ (g : Forest X). document_in g (length table)) st.same
          ∙ subst (λ m. document_in (beside (shown (nodes_alone a) table) (node x.node empty empty)) m ≡ Some x.node.document) nx (documents-root (shown (nodes_alone a) table) x.node (ap (λ m. occurs m (shown (nodes_alone a) table)) nx ∙ absent))
          ∙ ap Some dx

      others : (m : ℕ) → (m ≡ length table → ⊥) → document_in (shown (nodes_alone b) places) m ≡ document_in (shown (nodes_alone a) table) m
      others m ne = ap (λ (g : Forest X). document_in g m) st.same ∙ documents-older (shown (nodes_alone a) table) x.node m (λ q. ne (q ∙ nx))

      here : entry_at b s ≡ Some (record { value = x; parent = None; children = [] })
      here = ap (λ (q : Arena (Kept X)). entry_at q s) eb ∙ ap (entry_at (added a x)) es ∙ added-new a x l

      rest : (m t : ℕ) → slot_in table m ≡ Some t → owned_in (entry_at b t) ≡ owned_in (entry_at a t)
      rest m t i =
          let far : t ≡ next_slot a → ⊥ = λ q. (let h = held-slot k refl m t i in let z : entry_at a t ≡ None = ap (entry_at a) (q ∙ sym es) ∙ fresh in let h2 = rw z at h in false≢true h2) in
          ap (λ (q : Arena (Kept X)). owned_in (entry_at q t)) eb ∙ ap owned_in (added-old a x t far)

  -- a root that is in itself is taken out
  module _ (n s : ℕ) (i : slot_in table n ≡ Some s) (itself : document_in (shown (nodes_alone a) table) n ≡ Some n) (root : parent_of (shown (nodes_alone a) table) n ≡ None) (childless : children_of (shown (nodes_alone a) table) n ≡ []) (b : Arena (Kept X)) (eb : b ≡ taken a s) (lb : IsSound b) where
    pub taken-tree : (places : List (Option ℕ)) → places ≡ slice_set table n None → (strays' : Bool) → (strays' ≡ false → (strays ≡ false) × (owned_in (entry_at a s) ≡ 1)) → Stays b places (live - 1) (without n (shown (nodes_alone a) table)) → IsTree b places (live - 1) strays'
    taken-tree places ep strays' known st =
        record {
          stored = st.kept;
          owned =
              λ e. subst (λ m. AreDocumentsCounted (document_in (shown (nodes_alone b) places)) (slot_in places) (λ t. owned_in (entry_at b t)) m) (sym long)
              (owned-taken (document_in (shown (nodes_alone a) table)) (document_in (shown (nodes_alone b) places)) (slot_in table) (slot_in places) (λ t. owned_in (entry_at a t)) (λ t. owned_in (entry_at b t)) (length table) n s
              document-small i itself (known e).1 gone others
              (ap (λ q. slot_in q n) ep ∙ get_or-set_same table n None None (document-small n n itself))
              (λ m ne. ap (λ q. slot_in q m) ep ∙ get_or-set_other table n m None None ne)
              rest (k.owned (known e).0));
        }
      where
        long : length places ≡ length table
        long = ap length ep ∙ length-set table n None

        gone : document_in (shown (nodes_alone b) places) n ≡ None
        gone = ap (λ (g : Forest X). document_in g n) st.same ∙ document-none (without n (shown (nodes_alone a) table)) n (occurs-without n (shown (nodes_alone a) table))

        nodes_b : nodes_alone b ≡ taken (nodes_alone a) s
        nodes_b = ap nodes_alone eb ∙ taken-nodes a s

        others : (m : ℕ) → (m ≡ n → ⊥) → document_in (shown (nodes_alone b) places) m ≡ document_in (shown (nodes_alone a) table) m
        others m ne =
            ap document_at (entry-numbered st.kept.kept m
            ∙ ap (λ q. numbered (nodes_alone b) q m) ep
            ∙ ap (λ (q : Arena (Node X)). numbered q (slice_set table n None) m) nodes_b
            ∙ taking.others k.stored.kept n s i (subst IsSound nodes_b (sound-nodes lb)) (parent-nodes a s ∙ parent-none k refl n s i root) (children-nodes a s ∙ children-none k refl n s i childless) m ne
            ∙ sym (entry-numbered k.stored.kept m))

        rest : (m t : ℕ) → (m ≡ n → ⊥) → slot_in table m ≡ Some t → owned_in (entry_at b t) ≡ owned_in (entry_at a t)
        rest m t ne q =
            ap (λ (c : Arena (Kept X)). owned_in (entry_at c t)) eb
            ∙ ap owned_in (taken-other a s t (λ z. ne (slot-one m n s (q ∙ ap Some z) i)))
