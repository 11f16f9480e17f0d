-- What a tree's table of places says of slots, and how it outlives a change of the store.
use Rattle.std.proofs.Common.{◌≡◌, ℕ, zero, suc, ◌<◌, Bool, List, [], ◌∷◌, ◌++◌, length, map, slice_set, Option, Some, None, option_map, IsSome, is_some, refl, ap, sym, ◌∙◌, subst, arith, slice_index_or}
use Rattle.std.proofs.lemmas.{Bool.false≢true, List.length-map, List.map-append, List.map-set}
use Rattle.std.proofs.Math.ListN.{get_or-map}
use Rattle.std.specs.Option.{ForSome}
use denote.RawPtr.{Ptr}
use Rattle.dom_pages.specs.Numbered.{item_at}
use Rattle.dom_model.specs.Definitions.{Entry, entry_at, parent_in, unlinked, IsHeld, Grove, HasNode, parent_of}
use Rattle.dom_links.specs.Placed.{Placed, index_of, slot_of, slots_of, IsPlaced, KeepsPlaces, KeepsPlacesBut}
use Rattle.dom_tree.specs.{Places.slots_in, Places.called, Places.with_arena, Places.Leads, Places.ArePlaced, Places.IsListed, Places.IsSeated, SpelledForest.number_in_slot, SpelledForest.slot_in, SpelledForest.shown, Slots.Kept, Slots.nodes_alone, Slots.IsStored, Slots.IsTree, CachedIndices.numbered_put, Blocks.AreBlocked, declared.tallies.Tally.Tally, Tallies.AreTallied}
use Rattle.dom_tree.proofs.{Nodes.held-back, SlotStepLemmas.slot-held, SlotStepLemmas.slot-of_child, SlotStepLemmas.made-is}

-- where something is mapped, there is something
pub some-mapped : {A B : Type 0} (f : A → B) (o : Option A) → IsSome (option_map f o) → IsSome o
some-mapped f None h = h
some-mapped f (Some a) h = refl

-- where something stands in a table, the table has the number
pub within : {A : Type 0} (table : List (Option A)) (n : ℕ) → IsSome (item_at table n) → n < length table
within [] n h = absurd (false≢true h)
within (o ∷ os) zero h = omega arith
within (o ∷ os) (suc n) h = (let k = within os n h in omega (arith, k))

-- who has a parent is there
pub parent-held : {T : Type 0} (o : Option (Entry T)) → IsSome (parent_in o) → IsSome o
parent-held None h = h
parent-held (Some e) h = refl

module _ {X : Type 0} (s : Placed (Kept X)) where
  -- the slot of a number is that of its place
  pub slot-placed : (table : List (Option Ptr)) (n : ℕ) → slot_in (slots_in s table) n ≡ slots_of s (item_at table n)
  slot-placed table n = get_or-map (slots_of s) table n None

  pub known-placed : (table : List (Option Ptr)) (n : ℕ) → is_some (slot_in (slots_in s table) n) ≡ is_some (item_at table n)
  known-placed table n = ap is_some (slot-placed table n) ∙ mapped (item_at table n)
    where
      mapped : (o : Option Ptr) → is_some (slots_of s o) ≡ is_some o
      mapped None = refl
      mapped (Some p) = refl

  -- the numbers of what links lead to are those of the slots
  pub numbers-led : (o : Option Ptr) (r : Option ℕ) → r ≡ option_map (called s) o → r ≡ option_map (number_in_slot (entry_at (nodes_alone s.arena))) (slots_of s o)
  numbers-led None r e = e
  numbers-led (Some p) r e = e

module _ {X : Type 0} {s : Placed (Kept X)} where
  pub leads-listed : (table : List (Option Ptr)) (n : ℕ) (o : Option Ptr) → o ≡ item_at table n → ForSome (item_at table n) (IsPlaced s) → Leads s o (slot_in (slots_in s table) n)
  leads-listed table n o e h =
      record {
        slot = ap (slots_of s) e ∙ sym (slot-placed s table n);
        placed = λ p d. h p (sym e ∙ d);
      }

  -- the slot of a number's place
  pub slot-led : {p : Ptr} {to : Option ℕ} → Leads s (Some p) to → to ≡ Some (slot_of s p)
  slot-led {p} {to} l = sym l.slot

module _ {X : Type 0} {s : Placed (Kept X)} (t : Placed (Kept X)) (e : t.places ≡ s.places) where
  -- where a place's slot is still held, the place is still one of the store's
  pub placed-still : (p : Ptr) → IsPlaced s p → IsHeld t.arena (slot_of s p) → IsPlaced t p
  placed-still p h there =
      record {
        held = subst (λ ps. IsHeld t.arena (index_of ps p)) (sym e) there;
        lies = subst (λ ps. slice_index_or ps (index_of ps p) None ≡ Some p) (sym e) h.lies;
      }

module _ {X : Type 0} (s t : Placed (Kept X)) (e : t.places ≡ s.places) where
  -- a place of the table's has the slot that it had
  pub slot-back : (table : List (Option Ptr)) (n : ℕ) (p : Ptr) → Leads t (Some p) (slot_in (slots_in t table) n) → slot_in (slots_in s table) n ≡ Some (slot_of s p)
  slot-back table n p l = subst (λ ps. slot_in (map (option_map (index_of ps)) table) n ≡ Some (index_of ps p)) e (slot-led l)

module _ {X : Type 0} {s : Placed (Kept X)} {table : List (Option Ptr)} {live : ℕ} {strays : Bool} {blocks : List (ℕ × List ℕ)} {tallies : List (ℕ × Tally)} (k : IsSeated s table live strays blocks tallies) where
  listed-slot : (n : ℕ) → IsSome (slot_in (slots_in s table) n) → IsListed s table n
  listed-slot n h =
      record {
        there = some-mapped (slot_of s) (item_at table n) (subst IsSome (slot-placed s table n) h);
        placed = k.placed n;
      }

  module _ {w : Grove X} (v : record { forest = shown (nodes_alone s.arena) (slots_in s table); made = length (slots_in s table) } ≡ w) where
    pub place-held : (n : ℕ) → HasNode w.forest n → IsListed s table n
    place-held n h = listed-slot n (slot-held k.tree v n h)

    pub place-of_child : (n : ℕ) → IsSome (parent_of w.forest n) → IsListed s table n
    place-of_child n h = listed-slot n (slot-of_child k.tree v n h)

    -- as many numbers as the table has places for
    pub made-read : length table ≡ w.made
    made-read = sym (length-map table (slots_of s)) ∙ made-is k.tree v

    pub places-held : (nb : Option ℕ) (p : ℕ) → ForSome nb (λ b. parent_of w.forest b ≡ Some p) → ForSome nb (IsListed s table)
    places-held nb p h n e = place-of_child n (rw (h n e) refl)

  -- a change of the arena alone: a node is where it was
  module _ {live' : ℕ} (t : Placed (Kept X)) (e : t.places ≡ s.places) (h : IsStored t.arena (slots_in s table) live') where
    pub still-placed : ArePlaced t table
    still-placed n p d =
        let i : slot_in (slots_in s table) n ≡ Some (slot_of s p) = slot-placed s table n ∙ ap (slots_of s) d in
        placed-still t e p (k.placed n p d) (held-back t.arena (slot_of s p) (h.kept.tabled.named n (slot_of s p) i).0)

    pub listed-still : (n : ℕ) → IsSome (slot_in (slots_in s table) n) → IsListed t table n
    listed-still n i =
        record {
          there = some-mapped (slot_of s) (item_at table n) (subst IsSome (slot-placed s table n) i);
          placed = still-placed n;
        }

  pub seated : {live' : ℕ} {strays' : Bool} {blocks' : List (ℕ × List ℕ)} {tallies' : List (ℕ × Tally)} (t : Placed (Kept X)) → t.places ≡ s.places → IsTree t.arena (slots_in s table) live' strays' → AreBlocked (entry_at t.arena) blocks' → AreTallied (entry_at (nodes_alone t.arena)) tallies' → IsSeated t table live' strays' blocks' tallies'
  seated {live'} {strays'} {blocks'} {tallies'} t e h hb ht =
      record {
        tree = subst (λ ps. IsTree t.arena (map (option_map (index_of ps)) table) live' strays') (sym e) h;
        placed = still-placed t e h.stored;
        blocked = hb;
        tallied = ht;
      }

-- what stands beside it shows the same forest
pub same-places : {X : Type 0} (s t : Placed (Kept X)) (table : List (Option Ptr)) {w : Grove X} → t.places ≡ s.places → ◌≡◌ {A = Grove X} (record { forest = shown (nodes_alone t.arena) (slots_in s table); made = length (slots_in s table) }) w → ◌≡◌ {A = Grove X} (record { forest = shown (nodes_alone t.arena) (slots_in t table); made = length (slots_in t table) }) w
same-places {X} s t table {w} e h =
    subst (λ ps. ◌≡◌ {A = Grove X} (record { forest = shown (nodes_alone t.arena) (map (option_map (index_of ps)) table); made = length (map (option_map (index_of ps)) table) }) w) (sym e) h

-- the steps of a put and a cut, told of the slots that the places had before
module _ {X : Type 0} (s d : Placed (Kept X)) (e : d.places ≡ s.places) (t : Placed (Kept X)) where
  pub put-at : (a b : Ptr) (o : Option Ptr) → t ≡ with_arena (numbered_put d.arena (slot_of d a) (slot_of d b) (slots_of d o)) d → (t.arena ≡ numbered_put d.arena (slot_of s a) (slot_of s b) (slots_of s o)) × (t.places ≡ s.places)
  put-at a b o h = (
    ap (λ (q : Placed (Kept X)). q.arena) h ∙ ap (λ ps. numbered_put d.arena (index_of ps a) (index_of ps b) (option_map (index_of ps) o)) e,
    ap (λ (q : Placed (Kept X)). q.places) h ∙ e,
  )

  pub unlinked-from : (a : Ptr) → t.arena ≡ unlinked d.arena (slot_of d a) → t.arena ≡ unlinked d.arena (slot_of s a)
  unlinked-from a h = h ∙ ap (λ ps. unlinked d.arena (index_of ps a)) e

-- Two readings of the places of a table that are the same for each place in it, or for each but one.

slots-same : (f g : Ptr → ℕ) (table : List (Option Ptr)) → ((n : ℕ) (p : Ptr) → item_at table n ≡ Some p → f p ≡ g p) → map (option_map f) table ≡ map (option_map g) table
slots-same f g [] h = refl
slots-same f g (None ∷ os) h = ap (λ (ns : List (Option ℕ)). None ∷ ns) (slots-same f g os (λ n p e. h (suc n) p e))
slots-same f g (Some p ∷ os) h =
    ap (λ (n : ℕ). Some n ∷ map (option_map f) os) (h 0 p refl)
    ∙ ap (λ (ns : List (Option ℕ)). Some (g p) ∷ ns) (slots-same f g os (λ n q e. h (suc n) q e))

slots-but : (f g : Ptr → ℕ) (table : List (Option Ptr)) (m : ℕ) → ((n : ℕ) (p : Ptr) → (n ≡ m → ⊥) → item_at table n ≡ Some p → f p ≡ g p) → slice_set (map (option_map f) table) m None ≡ slice_set (map (option_map g) table) m None
slots-but f g [] zero h = refl
slots-but f g [] (suc m) h = refl
slots-but f g (o ∷ os) zero h =
    ap (λ (ns : List (Option ℕ)). None ∷ ns) (slots-same f g os (λ n p e. h (suc n) p (λ z. omega (arith, z)) e))
slots-but f g (None ∷ os) (suc m) h =
    ap (λ (ns : List (Option ℕ)). None ∷ ns) (slots-but f g os m (λ n p ne e. h (suc n) p (λ z. ne (omega (arith, z))) e))
slots-but f g (Some p ∷ os) (suc m) h =
    ap (λ (n : ℕ). Some n ∷ slice_set (map (option_map f) os) m None) (h 0 p (λ z. omega (arith, z)) refl)
    ∙ ap (λ (ns : List (Option ℕ)). Some (g p) ∷ ns) (slots-but f g os m (λ n q ne e. h (suc n) q (λ z. ne (omega (arith, z))) e))

-- What is so of each place of a table is so of one more, and of what is left.

pushed-each : (P : Ptr → Type 0) (table : List (Option Ptr)) (p : Ptr) → ((n : ℕ) (q : Ptr) → item_at table n ≡ Some q → P q) → P p → (n : ℕ) (q : Ptr) → item_at (table ++ Some p ∷ []) n ≡ Some q → P q
pushed-each P [] p h hp zero q e = (let d : p ≡ q = cc e in subst P d hp)
pushed-each P [] p h hp (suc n) q e = absurd (let z : None ≡ Some q = e in cc z)
pushed-each P (o ∷ os) p h hp zero q e = h 0 q e
pushed-each P (o ∷ os) p h hp (suc n) q e = pushed-each P os p (λ m r d. h (suc m) r d) hp n q e

cleared-each : (P : Ptr → Type 0) (table : List (Option Ptr)) (m : ℕ) → ((n : ℕ) (q : Ptr) → (n ≡ m → ⊥) → item_at table n ≡ Some q → P q) → (n : ℕ) (q : Ptr) → item_at (slice_set table m None) n ≡ Some q → P q
cleared-each P [] zero h n q e = absurd (let z : None ≡ Some q = e in cc z)
cleared-each P [] (suc m) h n q e = absurd (let z : None ≡ Some q = e in cc z)
cleared-each P (o ∷ os) zero h zero q e = absurd (let z : None ≡ Some q = e in cc z)
cleared-each P (o ∷ os) zero h (suc n) q e = h (suc n) q (λ z. omega (arith, z)) e
cleared-each P (o ∷ os) (suc m) h zero q e = h 0 q (λ z. omega (arith, z)) e
cleared-each P (o ∷ os) (suc m) h (suc n) q e = cleared-each P os m (λ i r ne d. h (suc i) r (λ z. ne (omega (arith, z))) d) n q e

module _ {X : Type 0} {s : Placed (Kept X)} {table : List (Option Ptr)} {live : ℕ} {strays : Bool} {blocks : List (ℕ × List ℕ)} {tallies : List (ℕ × Tally)} (k : IsSeated s table live strays blocks tallies) (t : Placed (Kept X)) where
  -- one more number, at a place of its own
  module _ (kept : KeepsPlaces s t) (p : Ptr) (table' : List (Option Ptr)) (et : table' ≡ table ++ Some p ∷ []) where
    pub slots-made : slots_in t table' ≡ slots_in s table ++ Some (slot_of t p) ∷ []
    slots-made =
        ap (slots_in t) et
        ∙ map-append (slots_of t) table (Some p ∷ [])
        ∙ ap (λ (ns : List (Option ℕ)). ns ++ Some (slot_of t p) ∷ []) (slots-same (slot_of t) (slot_of s) table (λ n q e. (kept q (k.placed n q e)).slot))

    pub placed-made : IsPlaced t p → ArePlaced t table'
    placed-made hp = subst (ArePlaced t) (sym et) (pushed-each (IsPlaced t) table p (λ n q e. (kept q (k.placed n q e)).placed) hp)

  -- a number's node taken out
  module _ (n slot : ℕ) (i : slot_in (slots_in s table) n ≡ Some slot) (kept : KeepsPlacesBut slot s t) (m : ℕ) (em : m ≡ n) (table' : List (Option Ptr)) (et : table' ≡ slice_set table m None) where
    others : (j : ℕ) (q : Ptr) → (j ≡ m → ⊥) → item_at table j ≡ Some q → slot_of s q ≡ slot → ⊥
    others j q ne e d =
        let there : slot_in (slots_in s table) j ≡ Some slot = slot-placed s table j ∙ ap (slots_of s) e ∙ ap Some d in
        let named = k.tree.stored.kept.tabled.named in
        ne (sym (named j slot there).1 ∙ (named n slot i).1 ∙ sym em)

    pub slots-taken : slots_in t table' ≡ slice_set (slots_in s table) m None
    slots-taken =
        ap (slots_in t) et
        ∙ map-set (slots_of t) table m None
        ∙ slots-but (slot_of t) (slot_of s) table m (λ j q ne e. (kept q (k.placed j q e) (others j q ne e)).slot)

    pub placed-taken : ArePlaced t table'
    placed-taken = subst (ArePlaced t) (sym et) (cleared-each (IsPlaced t) table m (λ j q ne e. (kept q (k.placed j q e) (others j q ne e)).placed))
