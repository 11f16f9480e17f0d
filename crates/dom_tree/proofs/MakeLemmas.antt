-- A node made, and a node with other contents.
use Rattle.std.proofs.Common.{◌≡◌, ℕ, ◌+◌, ◌<◌, ◌≤◌, List, [], ◌∷◌, ◌++◌, length, Option, Some, None, option_map, IfSome, refl, ap, sym, ◌∙◌, subst, arith, ⊎_elim, length-append}
use Rattle.std.proofs.lemmas.{Bool.cases_lt, List.get_or_past, List.get_or_append_left}
use Rattle.std.proofs.Math.Seq.{get_or-append_seam}
use Rattle.dom_model.specs.Definitions.{Arena, Entry, entry_at, alone, added, altered, with_value, next_slot, Node, empty, node, Grove, beside, with_node}
use Rattle.dom_model.specs.Forests.Arena.{IsSound}
use Rattle.dom_tree.specs.SpelledForest.{slot_in, numbered, shown, Spells, IsKept}
use Rattle.dom_model.proofs.PlainLists.Numbers.{same_or, same, apart}
use Rattle.dom_model.proofs.Forests.{Totals.total-beside, Changes.change_at, Lying.total-with_node, KindsFitting.KindsFit-beside, KindsFitting.KindsFit-with_node}
use Rattle.dom_tree.proofs.{SpellsLemmas.Spells-pushed, SpellsLemmas.Spells-with_node, StoreEntryLemmas.altered-at, StoreEntryLemmas.added-new, StoreEntryLemmas.added-old, EntryChangeLemmas.IsTabled-added, EntryChangeLemmas.by_number-added, EntryChangeLemmas.changed_at, EntryChangeLemmas.IsTabled-changed, EntryChangeLemmas.by_number-changed, TreeInvariantLemmas.Keeps, TreeInvariantLemmas.keeps}

pub slot_in-new : (table : List (Option ℕ)) (k : ℕ) → slot_in (table ++ Some k ∷ []) (length table) ≡ Some k
slot_in-new table k = get_or-append_seam table (Some k) [] None

pub slot_in-past : (table : List (Option ℕ)) → slot_in table (length table) ≡ None
slot_in-past table = get_or_past table (length table) None (omega arith)

pub slot_in-old : (table : List (Option ℕ)) (k n : ℕ) → (n ≡ length table → ⊥) → slot_in (table ++ Some k ∷ []) n ≡ slot_in table n
slot_in-old table k n ne =
    ⊎_elim
    (λ (lt : n < length table). get_or_append_left table (Some k ∷ []) None n lt)
    (λ (le : length table ≤ n).
    let past : slot_in table n ≡ None = get_or_past table n None le in
    get_or_past (table ++ Some k ∷ []) n None (omega (arith, length-append table (Some k ∷ []))) ∙ sym past)
    (cases_lt n (length table))

module _ {X : Type 0} {a : Arena (Node X)} {table : List (Option ℕ)} {live : ℕ} (k : IsKept a table live) where
  -- one more node, a root
  pub make-kept : IsSound a → (x : Node X) → x.number ≡ length table → entry_at a (next_slot a) ≡ None → length table < 4294967295 → Keeps (added a x) (table ++ Some (next_slot a) ∷ []) (live + 1) (beside (shown a table) (node x empty empty))
  make-kept l x nx fresh room =
      keeps (added a x) (table ++ Some (next_slot a) ∷ []) (live + 1) (beside (shown a table) (node x empty empty))
      (subst (λ m. Spells m (numbered (added a x) (table ++ Some (next_slot a) ∷ [])) (beside (shown a table) (node x empty empty))) (sym long)
      (Spells-pushed (length table) (numbered a table) (numbered (added a x) (table ++ Some (next_slot a) ∷ [])) (shown a table) x nx k.spelled moved.0 moved.1))
      (IsTabled-added (entry_at a) (entry_at (added a x)) (slot_in table) (slot_in (table ++ Some (next_slot a) ∷ [])) (length table) (next_slot a) x nx k.tabled (slot_in-past table) fresh (added-new a x l) (added-old a x) (slot_in-new table (next_slot a)) (slot_in-old table (next_slot a)))
      (omega (arith, k.alive, total-beside (λ _. 1) (shown a table) (node x empty empty)))
      (KindsFit-beside None (shown a table) (node x empty empty) k.kinds (refl, tt, tt))
      (omega (arith, long))
    where
      long : length (table ++ Some (next_slot a) ∷ []) ≡ length table + 1
      long = length-append table (Some (next_slot a) ∷ [])

      moved : (numbered (added a x) (table ++ Some (next_slot a) ∷ []) (length table) ≡ Some (alone x)) × ((n : ℕ) → (n ≡ length table → ⊥) → numbered (added a x) (table ++ Some (next_slot a) ∷ []) n ≡ numbered a table n)
      moved =
          by_number-added (entry_at a) (entry_at (added a x)) (slot_in table) (slot_in (table ++ Some (next_slot a) ∷ [])) (length table) (next_slot a) x k.tabled l.linked (slot_in-past table) fresh (added-new a x l) (added-old a x) (slot_in-new table (next_slot a)) (slot_in-old table (next_slot a))

  -- a write of a node to its slot
  pub written : (s : ℕ) (g : Node X → Node X) (w : Node X) → IfSome (entry_at a s) (λ e. w ≡ g e.value) → (m : ℕ) → entry_at (altered (with_value w) a s) m ≡ changed_at g s m (entry_at a m)
  written s g w h m =
      altered-at (with_value w) a s m ∙ (elim (same_or m s) [
        | same e t ↦ rw (t, e) (go (entry_at a s) h)
        | apart ne t ↦ rw t refl
      ])
    where
      go : (o : Option (Entry (Node X))) → IfSome o (λ e. w ≡ g e.value) → option_map (with_value w) o ≡ option_map (λ (e : Entry (Node X)). record e { value = g e.value }) o
      go None i = refl
      go (Some e) i = rw i refl

  -- a node changed in its slot, its number and label kept
  pub change-kept : (n s : ℕ) (g : Node X → Node X) → ((x : Node X) → (g x).number ≡ x.number) → ((x : Node X) → (g x).label ≡ x.label) → slot_in table n ≡ Some s → (a' : Arena (Node X)) → ((m : ℕ) → entry_at a' m ≡ changed_at g s m (entry_at a m)) → Keeps a' table live (with_node n g (shown a table))
  change-kept n s g gn gl e a' h =
      keeps a' table live (with_node n g (shown a table))
      (Spells-with_node (length table) (numbered a table) (numbered a' table) (shown a table) n g gn k.spelled (λ m. moved m))
      (IsTabled-changed (entry_at a) (entry_at a') (slot_in table) s g gn h k.tabled)
      (k.alive ∙ sym (total-with_node (λ _. 1) n g gn (shown a table)))
      (KindsFit-with_node n g gl None (shown a table) k.kinds)
      k.small
    where
      moved : (m : ℕ) → numbered a' table m ≡ change_at g n m (numbered a table m)
      moved m =
          by_number-changed (entry_at a) (entry_at a') (slot_in table) s g gn k.tabled (k.tabled.named n s e).0 h m
          ∙ (λ i. change_at g ((k.tabled.named n s e).1 i) m (numbered a table m))

  pub write-kept : (n s : ℕ) (g : Node X → Node X) → ((x : Node X) → (g x).number ≡ x.number) → ((x : Node X) → (g x).label ≡ x.label) → (w : Node X) → slot_in table n ≡ Some s → IfSome (entry_at a s) (λ e. w ≡ g e.value) → Keeps (altered (with_value w) a s) table live (with_node n g (shown a table))
  write-kept n s g gn gl w e h = change-kept n s g gn gl e (altered (with_value w) a s) (written s g w h)

  pub alter-kept : (n s : ℕ) (g : Node X → Node X) → ((x : Node X) → (g x).number ≡ x.number) → ((x : Node X) → (g x).label ≡ x.label) → slot_in table n ≡ Some s → Keeps (altered (λ (e : Entry (Node X)). with_value (g e.value) e) a s) table live (with_node n g (shown a table))
  alter-kept n s g gn gl e =
      change-kept n s g gn gl e (altered (λ (d : Entry (Node X)). with_value (g d.value) d) a s) (altered-at (λ (d : Entry (Node X)). with_value (g d.value) d) a s)

module _ {X : Type 0} {a : Arena (Node X)} {table : List (Option ℕ)} {live : ℕ} (k : IsKept a table live) {w : Grove X} (v : record { forest = shown a table; made = length table } ≡ w) where
  pub made-is : length table ≡ w.made
  made-is = ap (λ (g : Grove X). g.made) v

  pub made-keeps : IsSound a → (x : Node X) (a' : Arena (Node X)) (table' : List (Option ℕ)) (s : ℕ) → x.number ≡ length table → entry_at a s ≡ None → w.made < 4294967295 → a' ≡ added a x → s ≡ next_slot a → table' ≡ table ++ Some s ∷ [] → Keeps a' table' (live + 1) (beside (shown a table) (node x empty empty))
  made-keeps l x a' table' s nx fresh room ea es et =
      rw (ea, et, es) (make-kept k l x nx (ap (entry_at a) (sym es) ∙ fresh) (omega (arith, made-is)))

  pub made-shown : (x y : Node X) (a' : Arena (Node X)) (table' : List (Option ℕ)) (s : ℕ) → x ≡ y → table' ≡ table ++ Some s ∷ [] → Keeps a' table' (live + 1) (beside (shown a table) (node x empty empty)) → ◌≡◌ {A = Grove X} (record { forest = shown a' table'; made = length table' }) (record { forest = beside w.forest (node y empty empty); made = w.made + 1 })
  made-shown x y a' table' s xy et h =
      λ i. record { forest = forest i; made = made i }
    where
      forest : shown a' table' ≡ beside w.forest (node y empty empty)
      forest = h.same ∙ (λ i. beside ((ap (λ (g : Grove X). g.forest) v) i) (node (xy i) empty empty))

      made : length table' ≡ w.made + 1
      made = ap length et ∙ length-append table (Some s ∷ []) ∙ ap (λ m. m + 1) made-is
