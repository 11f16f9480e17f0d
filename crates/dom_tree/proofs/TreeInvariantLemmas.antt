-- What a tree keeps of its store and its table, and what its value then is.
use Rattle.std.proofs.Common.{◌≡◌, ℕ, ◌<◌, ◌≤◌, ◌^◌, false, List, length, map, Option, Some, None, option_map, IsSome, refl, ap, sym, ◌∙◌, subst, arith}
use Rattle.std.proofs.lemmas.Bool.{false≢true}
use Rattle.std.specs.Option.{ForSome}
use Rattle.dom_model.specs.Definitions.{hits, among, place_in, Arena, Entry, entry_at, held, parent_in, children_in, siblings_in, next_in, previous_in, unlinked, linked, StandsUnder, Node, Forest, occurs, one_at, size, tree_at, without, entry_in, HasNode, parent_of, children_of, next_of, previous_of, index_of, ancestors, cut, put, KindsFit}
use Rattle.dom_model.specs.Forests.Arena.{itself, below, IsSound}
use Rattle.dom_tree.specs.{SpelledForest.number_in_slot, SpelledForest.renumbered, SpelledForest.slot_in, SpelledForest.slot_for, SpelledForest.numbered, SpelledForest.shown, SpelledForest.Spells, SpelledForest.IsTabled, SpelledForest.IsKept, PutConditions.MayStand}
use Rattle.dom_model.proofs.Forests.{Totals.total-cut, Totals.total-put, Totals.total-tree_at, Changes.seen, Changes.nothing, Changes.just, Changes.cut_at, Changes.link_at, Lying.Lies-without_root, KindsFitting.KindsFit-cut, KindsFitting.KindsFit-without, KindsFitting.KindsFit-under, KindsFitting.KindsFit-placed_under, Climbing.hits-ancestors, Climbing.climbs, Climbing.hits-self, Climbing.not_among-hits}
use Rattle.dom_tree.proofs.{SpelledOnceLemmas.forest_of-Spells, SpelledOnceLemmas.entry_in-Spells, SpellsLemmas.once_in, SpellsLemmas.Spells-cut, SpellsLemmas.Spells-put, StoreEntryLemmas.linked-at, StoreEntryLemmas.unlinked-at, NumberedEntryLemmas.parent-held, NumberedEntryLemmas.slot-there, NumberedEntryLemmas.by_number-slot, NumberedEntryLemmas.parent_in-map, NumberedEntryLemmas.children_in-map, NumberedEntryLemmas.next_in-map, NumberedEntryLemmas.previous_in-map, NumberedEntryLemmas.place_in-slot, EntryChangeLemmas.IsTabled-linked, EntryChangeLemmas.IsTabled-unlinked, EntryChangeLemmas.by_number-linked, EntryChangeLemmas.by_number-unlinked}

-- a store and a table that spell a forest
pub record Keeps {X : Type 0} (a : Arena (Node X)) (table : List (Option ℕ)) (live : ℕ) (f : Forest X) : Type 0 where
  pub kept : IsKept a table live
  pub same : shown a table ≡ f

pub keeps : {X : Type 0} (a : Arena (Node X)) (table : List (Option ℕ)) (live : ℕ) (f : Forest X) → Spells (length table) (numbered a table) f → IsTabled (entry_at a) (slot_in table) → live ≡ size f → KindsFit None f → length table < 2 ^ 32 → Keeps a table live f
keeps {X} a table live f s t l k m =
    record {
      kept =
          record {
            spelled = subst (λ (g : Forest X). Spells (length table) (numbered a table) g) (sym e) s;
            tabled = t;
            alive = l ∙ ap size (sym e);
            kinds = subst (λ (g : Forest X). KindsFit None g) (sym e) k;
            small = m;
          };
      same = e;
    }
  where
    e : shown a table ≡ f
    e = forest_of-Spells (length table) (numbered a table) f s

pub option_map-none : (f : ℕ → ℕ) (o : Option ℕ) → option_map f o ≡ None → o ≡ None
option_map-none f None e = refl
option_map-none f (Some x) e = absurd (cc e)

pub option_map-some : (f : ℕ → ℕ) (o : Option ℕ) → IsSome (option_map f o) → IsSome o
option_map-some f None e = e
option_map-some f (Some x) e = refl

module _ {X : Type 0} where
  pub held-one : (o : Option (Entry (Node X))) → IsSome o → held o ≡ 1
  held-one None h = absurd (false≢true h)
  held-one (Some e) h = refl

  pub held-parent : (o : Option (Entry (Node X))) → IsSome (parent_in o) → IsSome o
  held-parent None h = h
  held-parent (Some e) h = refl

module _ {X : Type 0} {a : Arena (Node X)} {table : List (Option ℕ)} {live : ℕ} (k : IsKept a table live) where
  -- the entry of a number is that of its slot
  pub entry-numbered : (n : ℕ) → entry_in (shown a table) n ≡ numbered a table n
  entry-numbered n = entry_in-Spells (length table) (numbered a table) (shown a table) k.spelled n

  pub entry-slot : (n s : ℕ) → slot_in table n ≡ Some s → entry_in (shown a table) n ≡ option_map (renumbered (entry_at a)) (entry_at a s)
  entry-slot n s e = entry-numbered n ∙ by_number-slot (entry_at a) (slot_in table) n s e

  pub parent-slot : (n s : ℕ) → slot_in table n ≡ Some s → parent_of (shown a table) n ≡ option_map (number_in_slot (entry_at a)) (parent_in (entry_at a s))
  parent-slot n s e = ap parent_in (entry-slot n s e) ∙ parent_in-map (entry_at a) (entry_at a s)

  pub children-slot : (n s : ℕ) → slot_in table n ≡ Some s → children_of (shown a table) n ≡ map (number_in_slot (entry_at a)) (children_in (entry_at a s))
  children-slot n s e = ap children_in (entry-slot n s e) ∙ children_in-map (entry_at a) (entry_at a s)

  entries : entry_in (shown a table) ≡ numbered a table
  entries = λ i n. entry-numbered n i

  pub next-slot : IsSound a → (n s : ℕ) → slot_in table n ≡ Some s → next_of (shown a table) n ≡ option_map (number_in_slot (entry_at a)) (next_in (entry_at a) s)
  next-slot l n s e = ap (λ (at : ℕ → Option (Entry (Node X))). next_in at n) entries ∙ next_in-map (entry_at a) (slot_in table) k.tabled l.linked n s e

  pub previous-slot : IsSound a → (n s : ℕ) → slot_in table n ≡ Some s → previous_of (shown a table) n ≡ option_map (number_in_slot (entry_at a)) (previous_in (entry_at a) s)
  previous-slot l n s e = ap (λ (at : ℕ → Option (Entry (Node X))). previous_in at n) entries ∙ previous_in-map (entry_at a) (slot_in table) k.tabled l.linked n s e

  pub index-slot : IsSound a → (n s : ℕ) → slot_in table n ≡ Some s → index_of (shown a table) n ≡ place_in s (siblings_in (entry_at a) s)
  index-slot l n s e = ap (λ (at : ℕ → Option (Entry (Node X))). place_in n (siblings_in at n)) entries ∙ place_in-slot (entry_at a) (slot_in table) k.tabled l.linked n s e

  pub slot-node : (n : ℕ) → HasNode (shown a table) n → IsSome (slot_in table n)
  slot-node n h = slot-there (entry_at a) (slot_in table) n (let e = entry-numbered n in rw e at h)

  pub slot-parent : (n : ℕ) → IsSome (parent_of (shown a table) n) → IsSome (slot_in table n)
  slot-parent n h = slot-node n (held-parent (entry_in (shown a table) n) h)

  once : (n : ℕ) → occurs n (shown a table) ≤ 1
  once = once_in (length table) (numbered a table) (shown a table) k.spelled

  counted : (n s : ℕ) → slot_in table n ≡ Some s → held (numbered a table n) ≡ 1
  counted n s e = held-one (numbered a table n) (rw e (go (entry_at a s) (k.tabled.named n s e).0))
    where
      go : (o : Option (Entry (Node X))) → IsSome o → IsSome (option_map (renumbered (entry_at a)) o)
      go None h = h
      go (Some d) h = refl

  -- the tree of a child that is cut
  pub cut-kept : IsSound a → (n s : ℕ) → slot_in table n ≡ Some s → IsSome (parent_in (entry_at a s)) → Keeps (unlinked a s) table live (cut n (shown a table))
  cut-kept l n s e p =
      keeps (unlinked a s) table live (cut n (shown a table))
      (Spells-cut (length table) (numbered a table) (numbered (unlinked a s) table) (shown a table) n k.spelled (counted n s e) (λ m. moved m))
      (IsTabled-unlinked (entry_at a) (entry_at (unlinked a s)) (slot_in table) s (unlinked-at a s l.linked p) k.tabled)
      (k.alive ∙ sym (total-cut (λ _. 1) n (shown a table)))
      (KindsFit-cut n (shown a table) k.kinds)
      k.small
    where
      moved : (m : ℕ) → numbered (unlinked a s) table m ≡ cut_at n m (numbered a table m)
      moved m =
          let h = by_number-unlinked (entry_at a) (entry_at (unlinked a s)) (slot_in table) s k.tabled l.linked (k.tabled.named n s e).0 (unlinked-at a s l.linked p) m in
          subst (λ c. numbered (unlinked a s) table m ≡ cut_at c m (numbered a table m)) (k.tabled.named n s e).1 h

  occurs-slot : (n s : ℕ) → slot_in table n ≡ Some s → occurs n (shown a table) ≡ 1
  occurs-slot n s e = k.spelled.counted n ∙ counted n s e

  -- a step up by slot is a step up by number
  pub stands-among : IsSound a → (top s : ℕ) → StandsUnder (entry_at a) top s → (n c : ℕ) → slot_in table n ≡ Some s → slot_in table c ≡ Some top → 0 < hits c (ancestors n (shown a table))
  stands-among l top s itself n c en ec =
      let d : n ≡ c = sym (k.tabled.named n s en).1 ∙ (k.tabled.named c s ec).1 in
      hits-self n c (shown a table) d (omega (arith, occurs-slot n s en))
  stands-among l top s (below {p = q} e u) n c en ec =
      let hq : IsSome (entry_at a q) = parent-held (entry_at a) l.linked s q e in
      let eq : slot_in table (number_in_slot (entry_at a) q) ≡ Some q = k.tabled.listed q hq in
      let i = stands-among l top q u (number_in_slot (entry_at a) q) c eq ec in
      let p : parent_in (numbered a table n) ≡ Some (number_in_slot (entry_at a) q) = ap parent_in (sym (entry-numbered n)) ∙ parent-slot n s en ∙ ap (option_map (number_in_slot (entry_at a))) e in
      let j = climbs (numbered a table) n (number_in_slot (entry_at a) q) (shown a table) once k.spelled.placed (omega (arith, occurs-slot n s en)) p in
      rw j.1 (omega (arith, i))

  pub slot_for-numbers : (nb sb : Option ℕ) → slot_for table nb ≡ sb → ForSome nb (λ n. IsSome (slot_in table n)) → option_map (number_in_slot (entry_at a)) sb ≡ nb
  slot_for-numbers None sb e h = rw (← e) refl
  slot_for-numbers (Some n) sb e h =
      elim (seen sb) [
        | nothing d ↦ absurd (let i = h n refl in let j = rw (e, d) at i in false≢true j)
        | just s d ↦ rw d (ap Some (k.tabled.named n s (e ∙ d)).1)
      ]

  pub slot_for-held : (nb sb : Option ℕ) → slot_for table nb ≡ sb → (q : ℕ) → sb ≡ Some q → IsSome (entry_at a q)
  slot_for-held None sb e q d = absurd (let i : None ≡ Some q = e ∙ d in cc i)
  slot_for-held (Some n) sb e q d = (k.tabled.named n q (e ∙ d)).0

  -- a root put among a parent's children
  pub put-kept : IsSound a → (np sp nc sc : ℕ) (nb sb : Option ℕ) → slot_in table np ≡ Some sp → slot_in table nc ≡ Some sc → slot_for table nb ≡ sb → ForSome nb (λ n. IsSome (slot_in table n)) → parent_in (entry_at a sc) ≡ None → among nc (ancestors np (shown a table)) ≡ false → MayStand (shown a table) np nc → Keeps (linked a sp sc sb) table live (put np nc nb (shown a table))
  put-kept l np sp nc sc nb sb ep ec eb hb r cy may =
      keeps (linked a sp sc sb) table live (put np nc nb (shown a table))
      (Spells-put (length table) (numbered a table) (numbered (linked a sp sc sb) table) (shown a table) np nc nb k.spelled (counted nc sc ec) (counted np sp ep) root apart_from (λ m. moved m))
      (IsTabled-linked (entry_at a) (entry_at (linked a sp sc sb)) (slot_in table) sp sc sb (linked-at a sp sc sb) k.tabled)
      (k.alive ∙ sym (total-put (λ _. 1) np nc nb (shown a table) (omega (arith, total-tree_at (one_at np) nc (shown a table), apart_from, occurs-slot np sp ep))))
      fits
      k.small
    where
      root : parent_in (numbered a table nc) ≡ None
      root = ap parent_in (sym (entry-numbered nc)) ∙ parent-slot nc sc ec ∙ ap (option_map (number_in_slot (entry_at a))) r

      apart_from : occurs np (tree_at nc (shown a table)) ≡ 0
      apart_from = sym (hits-ancestors nc np (shown a table) once) ∙ not_among-hits nc (ancestors np (shown a table)) cy

      moved : (m : ℕ) → numbered (linked a sp sc sb) table m ≡ link_at np nb nc m (numbered a table m)
      moved m =
          by_number-linked (entry_at a) (entry_at (linked a sp sc sb)) (slot_in table) sp sc sb k.tabled l.linked (k.tabled.named np sp ep).0 (k.tabled.named nc sc ec).0 (slot_for-held nb sb eb) (linked-at a sp sc sb) m
          ∙ (λ i. link_at ((k.tabled.named np sp ep).1 i) (slot_for-numbers nb sb eb hb i) ((k.tabled.named nc sc ec).1 i) m (numbered a table m))

      fits : KindsFit None (put np nc nb (shown a table))
      fits =
          elim (seen (numbered a table np)) [
            | nothing d ↦ absurd (let i = counted np sp ep in let j = rw d at i in omega arith)
            | just p d ↦
                elim (seen (numbered a table nc)) [
                  | nothing e ↦ absurd (let i = counted nc sc ec in let j = rw e at i in omega arith)
                  | just c e ↦
                      let m = rw (entry-numbered np, entry-numbered nc, d, e) at may in
                      KindsFit-placed_under (numbered a table) np p nb (tree_at nc (shown a table)) d
                      (KindsFit-under (numbered a table) nc c p.value.label.kind e m None None (shown a table) k.spelled.placed k.kinds)
                      None None (without nc (shown a table)) (Lies-without_root (numbered a table) nc root (shown a table) k.spelled.placed) (KindsFit-without None nc (shown a table) k.kinds)
                ]
          ]
