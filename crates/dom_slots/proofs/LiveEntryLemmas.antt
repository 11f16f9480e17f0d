-- The entries of live numbers are the items, in another order: what is told of all the items, or counted of them, is told of those entries.
use Rattle.std.proofs.Common.{◌≡◌, ℕ, zero, suc, ◌<◌, ◌≤◌, List, [], ◌∷◌, length, swap_remove, filter_map, count_by, IsPermutation, Option, Some, None, is_some, if◌then◌else◌, slice_get, slice_index_or, slice_set, refl, ap, sym, subst, ◌∙◌, arith}
use Rattle.std.proofs.lemmas.{List.get_or_default, List.nil_from_length, List.Sorted.IsPermutation-refl, List.Sorted.IsPermutation-sym, List.Sorted.IsPermutation-trans, List.Sorted.IsPermutation-cons, List.Sorted.IsPermutation-middle, List.Sorted.IsPermutation-swap_remove, List.Sorted.length_permutation, List.Sums.sum_by-cons, List.Sums.count_by-le-length, Option.none-some, Option.same_Some, Option.slice_get-get_or}
use Rattle.dom_slots.specs.Slotted.{slot_at, slots_left, by_slot, Fit, IsSlotted}
use Rattle.dom_slots.proofs.{SlotEntryLemmas.length-by_slot, SlotEntryLemmas.item_in_slot, SlotEntryLemmas.by_slot-released, FitLemmas.slot_within, FitLemmas.Fit-released, ListPlaceLemmas.slice_get_some, ListPlaceLemmas.length-swap_remove}

module _ {T : Type 0} where
  -- one entry taken away from those that are there
  IsPermutation-without : (es : List (Option T)) (n : ℕ) (x : T) → slice_index_or es n None ≡ Some x → IsPermutation (filter_map (λ e. e) es) (x ∷ filter_map (λ e. e) (slice_set es n None))
  IsPermutation-without [] n x at = absurd (none-some x at)
  IsPermutation-without (None ∷ es) zero x at = absurd (none-some x at)
  IsPermutation-without (Some y ∷ es) zero x at =
      subst (λ z. IsPermutation (y ∷ filter_map (λ e. e) es) (z ∷ filter_map (λ e. e) es)) (same_Some y x at) (IsPermutation-refl (y ∷ filter_map (λ e. e) es))
  IsPermutation-without (None ∷ es) (suc n) x at = IsPermutation-without es n x at
  IsPermutation-without (Some y ∷ es) (suc n) x at =
      let rest = filter_map (λ e. e) (slice_set es n None) in
      IsPermutation-trans (y ∷ filter_map (λ e. e) es) (y ∷ x ∷ rest) (x ∷ y ∷ rest)
      (IsPermutation-cons y (filter_map (λ e. e) es) (x ∷ rest) (IsPermutation-without es n x at))
      (IsPermutation-middle (y ∷ []) x rest)

  -- with no items there are no entries
  none_live : (slots : List (Option ℕ)) → filter_map (λ e. e) (by_slot {T = T} slots []) ≡ []
  none_live [] = refl
  none_live (None ∷ slots) = none_live slots
  none_live (Some k ∷ slots) = none_live slots

  -- 1 where an entry is there
  abbrev one : Option T → ℕ
  one e = if is_some e then 1 else 0

  count_live : (es : List (Option T)) → length (filter_map (λ e. e) es) ≡ count_by is_some es
  count_live [] = refl
  count_live (None ∷ es) = omega (arith, count_live es, sum_by-cons one None es)
  count_live (Some x ∷ es) = omega (arith, count_live es, sum_by-cons one (Some x) es)

  live_up_to : (l : ℕ) {slots : List (Option ℕ)} (items : List T) (s : IsSlotted slots items) → length items ≡ l → IsPermutation (filter_map (λ e. e) (by_slot slots items)) items
  live_up_to zero {slots} items s none =
      let empty : items ≡ [] = nil_from_length items none in
      subst (λ xs. IsPermutation (filter_map (λ e. e) (by_slot slots xs)) xs) (sym empty) (subst (λ xs. IsPermutation xs []) (sym (none_live slots)) (IsPermutation-refl []))
  live_up_to (suc l) {slots} [] s some = absurd (omega (arith, some))
  live_up_to (suc l) {slots} (y ∷ ys) s some =
      let items = y ∷ ys in
      let below : l < length items = omega (arith, some) in
      let x = slice_index_or items l y in
      let n = slice_index_or s.numbers l 0 in
      let at : slot_at slots n ≡ Some l = s.fit.has n l (slice_get-get_or s.numbers l 0 (omega (arith, some, s.long))) in
      let left = slots_left n s.numbers slots in
      let kept = swap_remove items l x in
      let entries = filter_map (λ e. e) (by_slot slots items) in
      let others = filter_map (λ e. e) (slice_set (by_slot slots items) n None) in
      let entry : slice_index_or (by_slot slots items) n None ≡ Some x = item_in_slot slots items n l at ∙ slice_get-get_or items l y below in
      let short : length kept ≡ l = length-swap_remove items l (omega (arith, some)) l x in
      let short_numbers : length (swap_remove s.numbers l n) ≡ l = length-swap_remove s.numbers l (omega (arith, some, s.long)) l n in
      let without : IsSlotted left kept = record { numbers = swap_remove s.numbers l n; fit = Fit-released s.fit n l at; long = short ∙ sym short_numbers } in
      let rest : IsPermutation others kept = subst (λ es. IsPermutation (filter_map (λ e. e) es) kept) (by_slot-released s n l at x) (live_up_to l kept without short) in
      IsPermutation-trans entries (x ∷ others) items
      (IsPermutation-without (by_slot slots items) n x entry)
      (IsPermutation-trans (x ∷ others) (x ∷ kept) items
      (IsPermutation-cons x others kept rest)
      (IsPermutation-sym items (x ∷ kept) (IsPermutation-swap_remove items l x below (get_or_default items l y x below))))

module _ {T : Type 0} {slots : List (Option ℕ)} {items : List T} (s : IsSlotted slots items) where
  -- the entries that are there, in the order of their numbers, are the items in another order
  pub live-by_slot : IsPermutation (filter_map (λ e. e) (by_slot slots items)) items
  live-by_slot = live_up_to (length items) items s refl

  -- so there are as many as items
  pub count_by-by_slot : count_by is_some (by_slot slots items) ≡ length items
  count_by-by_slot = sym (count_live (by_slot slots items)) ∙ sym (length_permutation (filter_map (λ e. e) (by_slot slots items)) items live-by_slot)

  -- and there are no more items than numbers
  pub items_few : length items ≤ length slots
  items_few = omega (arith, count_by-by_slot, count_by-le-length is_some (by_slot slots items), length-by_slot slots items)

-- as many numbers have a slot as there are slots
module _ {slots : List (Option ℕ)} {numbers : List ℕ} (fit : Fit slots numbers) where
  pub count_by-slots : count_by is_some slots ≡ length numbers
  count_by-slots =
      let s : IsSlotted slots numbers = record { numbers = numbers; fit = fit; long = refl } in
      same slots (slot_within fit) ∙ count_by-by_slot s
    where
      same : (os : List (Option ℕ)) → ((n k : ℕ) → slot_at os n ≡ Some k → k < length numbers) → count_by is_some os ≡ count_by is_some (by_slot os numbers)
      same [] within = refl
      same (None ∷ os) within = omega (arith, same os (λ n. within (suc n)), sum_by-cons (one {T = ℕ}) None os, sum_by-cons (one {T = ℕ}) None (by_slot os numbers))
      same (Some k ∷ os) within =
          let there : one (slice_get numbers k) ≡ 1 = ap (λ b. if b then 1 else 0) (slice_get_some numbers k (within 0 k refl)) in
          omega (arith, there, same os (λ n. within (suc n)), sum_by-cons (one {T = ℕ}) (Some k) os, sum_by-cons (one {T = ℕ}) (slice_get numbers k) (by_slot os numbers))
