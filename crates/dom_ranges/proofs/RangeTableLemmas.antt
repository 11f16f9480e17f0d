-- The ranges by number, as the ends and slots change that they are told by.
use Rattle.std.proofs.Common.{◌≡◌, ℕ, ◌+◌, ◌*◌, ◌-◌, ◌<◌, ◌≤◌, ◌==◌, Bool, true, List, [], ◌∷◌, ◌++◌, length, map, cond, swap_remove, count_by, Option, Some, None, IfSome, is_some, option_map, slice_get, slice_index_or, slice_set, refl, sym, ap, subst, ◌∙◌, ⊎_elim, arith, length-set}
use Rattle.std.specs.List.{list_any, flat_map}
use Rattle.std.proofs.lemmas.{Bool.cases_lt, List.get_or_past, List.length-map, List.Sums.sum_by-cons, Option.none-some, Option.slice_get-get_or, Option.slice_get_within}
use Rattle.dom_model.specs.Definitions.{among, Point, Range, moved_range, map_ranges, nodes_of_range, nodes_unless_released}
use Rattle.dom_model.proofs.RangesAndContents.RangesElsewhere.{among-any}
use Rattle.dom_chains.specs.Keyed.{Keyed, covers, keys_of}
use Rattle.dom_chains.proofs.AllItemsLemmas.{keys-one}
use Rattle.dom_slots.specs.Slotted.{slot_at, slots_left, by_slot, Fit, IsSlotted}
use Rattle.dom_slots.proofs.{SlotEntryLemmas.item_in_slot, SlotEntryLemmas.by_slot-same, SlotEntryLemmas.by_slot-map, SlotEntryLemmas.by_slot-pushed, SlotEntryLemmas.by_slot-set, SlotEntryLemmas.by_slot-released, FitLemmas.slot_within, FitLemmas.Fit-released, LiveEntryLemmas.count_by-by_slot, ListPlaceLemmas.length-swap_remove}
use Rattle.dom_ranges.specs.{Ends.point_of, Ends.keyed_end, Ends.range_of, Ends.paired, Ends.table_of, Shifts.FitsMovedEnd, Shifts.CanMove, Tables.RangeTable, Tables.range_in, Tables.live_nodes, Tables.with_range_set, Tables.without_range, Tables.FitsMoved, Tables.OffsetsFit}
use Rattle.dom_ranges.proofs.{AreCountsLemmas.any-by_slot, PairedLemmas.paired-length, PairedLemmas.nodes-paired, PairedLemmas.paired-pushed, PairedLemmas.each-end, PairedLemmas.paired-map, PairedLemmas.paired-read, PairedLemmas.paired-set, PairedLemmas.ends_left, PairedLemmas.one-long, PairedLemmas.left-long, PairedLemmas.paired-left}

-- no live ranges have no nodes
pub idle-none : (rs : List (Option Range)) → count_by is_some rs ≡ 0 → flat_map (nodes_unless_released nodes_of_range) rs ≡ []
idle-none [] none = refl
idle-none (None ∷ rs) none = idle-none rs (omega (arith, none, sum_by-cons (λ (o : Option Range). cond (is_some o) 1 0) None rs))
idle-none (Some r ∷ rs) none = absurd (omega (arith, none, sum_by-cons (λ (o : Option Range). cond (is_some o) 1 0) (Some r) rs))

-- offsets that fit, of one live range
fits-one : (g : Point → Point) (rs : List (Option Range)) → OffsetsFit g rs → (n : ℕ) (r : Range) → slice_index_or rs n None ≡ Some r → FitsMoved g r
fits-one g rs fit n r at =
    ⊎_elim (λ (l : n < length rs). subst (λ (o : Option Range). IfSome o (FitsMoved g)) at (fit n None l))
    (λ (past : length rs ≤ n). absurd (none-some r (sym (get_or_past rs n None past) ∙ at))) (cases_lt n (length rs))

module _ (slots : List (Option ℕ)) (ends : Keyed ℕ) (v : RangeTable) (view : table_of slots ends ≡ v) where
  -- the table that other slots and ends tell, where as many nodes are covered
  table-is : (change : List (Option Range) → List (Option Range)) (slots' : List (Option ℕ)) (ends' : Keyed ℕ) → ends'.covered ≡ ends.covered → by_slot slots' (paired ends'.items) ≡ change (by_slot slots (paired ends.items)) → table_of slots' ends' ≡ record v { ranges = change v.ranges }
  table-is change slots' ends' covered ranges =
      ap (λ cs. record { ranges = by_slot slots' (paired ends'.items); covered = cs }) covered
      ∙ ap (λ rs. record { ranges = rs; covered = ends.covered }) ranges
      ∙ ap (λ (t : RangeTable). record t { ranges = change t.ranges }) view

  -- all ends are moved
  pub table-moved : (g : Point → Point) (f : ℕ × ℕ → ℕ × ℕ) → ((end : ℕ × ℕ) → point_of (f end) ≡ g (point_of end)) → (ends' : Keyed ℕ) → ends' ≡ record ends { items = map f ends.items } → table_of slots ends' ≡ record v { ranges = map_ranges g v.ranges }
  table-moved g f same ends' moved =
      table-is (map_ranges g) slots ends' (ap (λ (k : Keyed ℕ). k.covered) moved)
      (ap (λ (k : Keyed ℕ). by_slot slots (paired k.items)) moved ∙ ap (by_slot slots) (paired-map g f same ends.items) ∙ by_slot-map (moved_range g) slots (paired ends.items))

-- as many ends
pub long-moved : (ends ends' : Keyed ℕ) (f : ℕ × ℕ → ℕ × ℕ) → ends' ≡ record ends { items = map f ends.items } → length ends'.items ≡ length ends.items
long-moved ends ends' f moved = ap (λ (k : Keyed ℕ). length k.items) moved ∙ length-map ends.items f

module _ {slots : List (Option ℕ)} {numbers : List ℕ} (fit : Fit slots numbers) (ends : Keyed ℕ) (long : length ends.items ≡ 2 * length numbers) where
  -- the ranges lie in the slots
  abbrev pub are-slotted : IsSlotted slots (paired ends.items)
  are-slotted = record { numbers = numbers; fit = fit; long = paired-length ends.items (length numbers) long }

  module _ (v : RangeTable) (view : table_of slots ends ≡ v) where
    -- what is told of the nodes of the ends is told of those of the live ranges
    pub any-told : (p : ℕ → Bool) → list_any p (keys_of ends.items) ≡ list_any p (live_nodes v)
    any-told p =
        ap (list_any p) (sym (nodes-paired ends.items (length numbers) long)) ∙ any-by_slot p nodes_of_range are-slotted
        ∙ ap (λ (t : RangeTable). list_any p (live_nodes t)) view

    pub among-told : (node : ℕ) → among node (keys_of ends.items) ≡ among node (live_nodes v)
    among-told node = among-any node (keys_of ends.items) ∙ any-told (λ m. m == node) ∙ sym (among-any node (live_nodes v))

    -- there are as many slots as live ranges
    pub live-counted : count_by is_some v.ranges ≡ length numbers
    live-counted = ap (λ (t : RangeTable). count_by is_some t.ranges) (sym view) ∙ count_by-by_slot are-slotted ∙ are-slotted.long

    -- the ends in a node may be moved where the offsets of the live ranges fit
    pub can-move : ((node : ℕ) → among node (keys_of ends.items) ≡ true → covers ends.covered node ≡ true) → (g : Point → Point) → OffsetsFit g v.ranges → ((p : Point) → covers ends.covered p.node ≡ true → covers ends.covered (g p).node ≡ true) → (node : ℕ) → CanMove g node ends.items ends.covered
    can-move held g fits leads node id end at there = (each-end (FitsMovedEnd g) ends.items (length numbers) long pair id end at, leads (point_of end) (held end.0 (keys-one end.0 ends.items id (ap (option_map (λ (e : ℕ × ℕ). e.0)) at))))
      where
        pair : (k : ℕ) (r : Range) → slice_get (paired ends.items) k ≡ Some r → FitsMovedEnd g (keyed_end r.start) × FitsMovedEnd g (keyed_end r.end)
        pair k r at =
            let n = slice_index_or numbers k 0 in
            let within : k < length numbers = omega (arith, slice_get_within (paired ends.items) k r at, are-slotted.long) in
            let f = fits-one g v.ranges fits n r (sym (ap (λ (t : RangeTable). range_in t n) view) ∙ item_in_slot slots (paired ends.items) n k (fit.has n k (slice_get-get_or numbers k 0 within)) ∙ at) in
            (f.start, f.end)

    -- one more live range
    pub table-pushed : (p q : Point) (slots' : List (Option ℕ)) (ends' : Keyed ℕ) → slots' ≡ slots ++ Some (length numbers) ∷ [] → ends'.items ≡ ends.items ++ keyed_end p ∷ [] ++ keyed_end q ∷ [] → ends'.covered ≡ ends.covered
        → table_of slots' ends' ≡ record v { ranges = v.ranges ++ Some (record { start = p; end = q }) ∷ [] }
    table-pushed p q slots' ends' given pushed covered =
        let r : Range = record { start = p; end = q } in
        table-is slots ends v view (λ rs. rs ++ Some r ∷ []) slots' ends' covered
        (ap (λ os. by_slot os (paired ends'.items)) (given ∙ ap (λ k. slots ++ Some k ∷ []) (sym are-slotted.long))
        ∙ ap (λ es. by_slot (slots ++ Some (length (paired ends.items)) ∷ []) (paired es)) pushed
        ∙ ap (by_slot (slots ++ Some (length (paired ends.items)) ∷ [])) (paired-pushed ends.items (length numbers) long (keyed_end p) (keyed_end q))
        ∙ by_slot-pushed are-slotted r)

    -- the range in the slot of a number
    module _ (n k : ℕ) (at : slot_at slots n ≡ Some k) where
      pub end-within : 2 * k + 1 < length ends.items
      end-within = omega (arith, slot_within fit n k at, long)

      pub range-read : (p q : Point) → slice_get ends.items (2 * k) ≡ Some (keyed_end p) → slice_get ends.items (2 * k + 1) ≡ Some (keyed_end q) → range_in v n ≡ Some (record { start = p; end = q })
      range-read p q first second = sym (ap (λ (t : RangeTable). range_in t n) view) ∙ item_in_slot slots (paired ends.items) n k at ∙ paired-read ends.items k (keyed_end p) (keyed_end q) first second

      -- both its ends are written
      module _ (p q : Point) (ends1 ends2 : Keyed ℕ) (first : ends1 ≡ record ends { items = slice_set ends.items (2 * k) (keyed_end p) }) (second : ends2 ≡ record ends1 { items = slice_set ends1.items (2 * k + 1) (keyed_end q) }) where
        both-set : ends2 ≡ record ends { items = slice_set (slice_set ends.items (2 * k) (keyed_end p)) (2 * k + 1) (keyed_end q) }
        both-set = second ∙ ap (λ (es : Keyed ℕ). record es { items = slice_set es.items (2 * k + 1) (keyed_end q) }) first

        pub long-set : length ends2.items ≡ 2 * length numbers
        long-set = ap (λ (es : Keyed ℕ). length es.items) both-set ∙ length-set (slice_set ends.items (2 * k) (keyed_end p)) (2 * k + 1) (keyed_end q) ∙ length-set ends.items (2 * k) (keyed_end p) ∙ long

        pub table-set : table_of slots ends2 ≡ with_range_set n (record { start = p; end = q }) v
        table-set =
            let r : Range = record { start = p; end = q } in
            table-is slots ends v view (λ rs. slice_set rs n (Some r)) slots ends2 (ap (λ (es : Keyed ℕ). es.covered) both-set)
            (ap (λ (es : Keyed ℕ). by_slot slots (paired es.items)) both-set ∙ ap (by_slot slots) (paired-set ends.items k (keyed_end p) (keyed_end q)) ∙ by_slot-set are-slotted n k at r)

      -- it is released: its ends are taken out, and the ends of the last range come into their places
      module _ (ends1 : Keyed ℕ) (first : IfSome (slice_get ends.items (2 * k + 1)) (λ e. ends1.items ≡ swap_remove ends.items (2 * k + 1) e)) where
        abbrev last : ℕ
        last = length numbers - 1

        next : last + 1 ≡ length numbers
        next = omega (arith, slot_within fit n k at)

        twice-long : length ends.items ≡ 2 * last + 2
        twice-long = omega (arith, long, next)

        taken : (es es' : List (ℕ × ℕ)) (id : ℕ) → id < length es → IfSome (slice_get es id) (λ e. es' ≡ swap_remove es id e) → es' ≡ swap_remove es id (slice_index_or es id (0, 0))
        taken es es' id within h = subst (λ o. IfSome o (λ e. es' ≡ swap_remove es id e)) (slice_get-get_or es id (0, 0) within) h

        abbrev e : ℕ × ℕ
        e = slice_index_or ends.items (2 * k + 1) (0, 0)

        one-taken : ends1.items ≡ swap_remove ends.items (2 * k + 1) e
        one-taken = taken ends.items ends1.items (2 * k + 1) end-within first

        pub start-within : 2 * k < length ends1.items
        start-within = omega (arith, ap length one-taken, one-long ends.items last twice-long k e, next, slot_within fit n k at)

        module _ (ends2 : Keyed ℕ) (second : IfSome (slice_get ends1.items (2 * k)) (λ s. ends2.items ≡ swap_remove ends1.items (2 * k) s)) where
          abbrev s : ℕ × ℕ
          s = slice_index_or ends1.items (2 * k) (0, 0)

          both-taken : ends2.items ≡ ends_left ends.items k e s
          both-taken = taken ends1.items ends2.items (2 * k) start-within second ∙ ap (λ es. swap_remove es (2 * k) s) one-taken

          pub long-left : (numbers' : List ℕ) → numbers' ≡ swap_remove numbers k n → length ends2.items ≡ 2 * length numbers'
          long-left numbers' left =
              ap length both-taken ∙ left-long ends.items last twice-long k e s
              ∙ ap (λ l. 2 * l) (sym (ap length left ∙ length-swap_remove numbers last next k n))

          pub table-left : (slots' : List (Option ℕ)) → slots' ≡ slots_left n numbers slots → ends2.covered ≡ ends.covered → table_of slots' ends2 ≡ without_range n v
          table-left slots' left covered =
              let r : Range = range_of s e in
              table-is slots ends v view (λ rs. slice_set rs n None) slots' ends2 covered
              (ap (λ os. by_slot os (paired ends2.items)) left
              ∙ ap (λ es. by_slot (slots_left n numbers slots) (paired es)) both-taken
              ∙ by_slot-same (slots_left n numbers slots) (swap_remove (paired ends.items) k r) (paired (ends_left ends.items k e s))
              (λ m j there.
              paired-left ends.items last twice-long k e s (are-slotted.long ∙ sym next) r j
              (omega (arith, slot_within (Fit-released fit n k at) m j there, length-swap_remove numbers last next k n)))
              ∙ by_slot-released are-slotted n k at r)
