-- What is kept by slot, as it is by number: for whoever keeps items in a list by slot, and is seen as the list of entries by number.
use Rattle.std.proofs.Common.{◌≡◌, ℕ, zero, suc, ◌+◌, ◌-◌, ◌<◌, List, [], ◌∷◌, ◌++◌, length, map, swap_remove, Option, Some, None, IsSome, IfSome, is_some, option_map, option_and_then, slice_get, slice_index_or, slice_set, refl, ap, sym, ◌∙◌, ⊎_elim, arith, length-set, get_or-set_same, get_or-set_other}
use Rattle.std.proofs.lemmas.{Bool.cases_eq, Bool.false≢true, List.ext_get_or, List.length-map, List.map_push, Option.slice_get-map}
use Rattle.dom_pages.specs.Numbered.{item_at}
use Rattle.dom_slots.specs.Slotted.{slot_at, slots_left, by_slot, IsSlotted}
use Rattle.dom_slots.proofs.{FitLemmas.slot_within, FitLemmas.given_out, FitLemmas.ends, FitLemmas.mover_at, FitLemmas.ahead, FitLemmas.slot_at-released, FitLemmas.slot_at-mover, FitLemmas.slot_at-other, FitLemmas.elsewhere, FitLemmas.before_last, ListPlaceLemmas.slice_get-append_left, ListPlaceLemmas.slice_get_push, ListPlaceLemmas.slice_get-set_same, ListPlaceLemmas.slice_get-set_other, ListPlaceLemmas.slice_get_some, ListPlaceLemmas.slice_get-swap_remove_same, ListPlaceLemmas.slice_get-swap_remove_other}

module _ {T : Type 0} where
  -- as many entries as numbers
  pub length-by_slot : (slots : List (Option ℕ)) (items : List T) → length (by_slot slots items) ≡ length slots
  length-by_slot slots items = length-map slots (option_and_then (slice_get items))

  -- the entry of a number is what lies in its slot
  pub item_at-by_slot : (slots : List (Option ℕ)) (items : List T) (n : ℕ) → item_at (by_slot slots items) n ≡ option_and_then (slice_get items) (slot_at slots n)
  item_at-by_slot [] items n = refl
  item_at-by_slot (slot ∷ slots) items zero = refl
  item_at-by_slot (slot ∷ slots) items (suc n) = item_at-by_slot slots items n

  pub item_in_slot : (slots : List (Option ℕ)) (items : List T) (n k : ℕ) → slot_at slots n ≡ Some k → item_at (by_slot slots items) n ≡ slice_get items k
  item_in_slot slots items n k at = item_at-by_slot slots items n ∙ ap (option_and_then (slice_get items)) at

  -- a number that has an entry has a slot
  pub has_slot : (slots : List (Option ℕ)) (items : List T) (n : ℕ) → IsSome (item_at (by_slot slots items) n) → IsSome (slot_at slots n)
  has_slot slots items n some = go (slot_at slots n) (ap is_some (sym (item_at-by_slot slots items n)) ∙ some)
    where
      go : (slot : Option ℕ) → IsSome (option_and_then (slice_get items) slot) → IsSome slot
      go None h = absurd (false≢true h)
      go (Some k) h = refl

  -- items that are the same in each slot that a number has
  pub by_slot-same : (slots : List (Option ℕ)) (items others : List T) → ((n k : ℕ) → slot_at slots n ≡ Some k → slice_get others k ≡ slice_get items k) → by_slot slots others ≡ by_slot slots items
  by_slot-same [] items others same = refl
  by_slot-same (None ∷ slots) items others same = ap (λ es. None ∷ es) (by_slot-same slots items others (λ n. same (suc n)))
  by_slot-same (Some k ∷ slots) items others same =
      ap (λ (e : Option T). e ∷ by_slot slots others) (same 0 k refl) ∙ ap (λ es. slice_get items k ∷ es) (by_slot-same slots items others (λ n. same (suc n)))

module _ {T U : Type 0} (f : T → U) where
  in_slot-map : (items : List T) (slot : Option ℕ) → option_and_then (slice_get (map f items)) slot ≡ option_map f (option_and_then (slice_get items) slot)
  in_slot-map items None = refl
  in_slot-map items (Some k) = slice_get-map f items k

  -- a change of all items is that change of all live entries
  pub by_slot-map : (slots : List (Option ℕ)) (items : List T) → by_slot slots (map f items) ≡ map (option_map f) (by_slot slots items)
  by_slot-map [] items = refl
  by_slot-map (slot ∷ slots) items =
      ap (λ (e : Option U). e ∷ by_slot slots (map f items)) (in_slot-map items slot)
      ∙ ap (λ es. option_map f (option_and_then (slice_get items) slot) ∷ es) (by_slot-map slots items)

-- an item for each slot
module _ {T : Type 0} {slots : List (Option ℕ)} {items : List T} (s : IsSlotted slots items) where
  pub item_within : (n k : ℕ) → slot_at slots n ≡ Some k → k < length items
  item_within n k at = omega (arith, slot_within s.fit n k at, s.long)

  pub slot_within_items : (n : ℕ) → IfSome (slot_at slots n) (λ k. k < length items)
  slot_within_items n = go (slot_at slots n) refl
    where
      go : (slot : Option ℕ) → slot_at slots n ≡ slot → IfSome slot (λ k. k < length items)
      go None at = tt
      go (Some k) at = item_within n k at

  -- a number has an entry exactly where it has a slot
  pub is_some-by_slot : (n : ℕ) → is_some (item_at (by_slot slots items) n) ≡ is_some (slot_at slots n)
  is_some-by_slot n = ap is_some (item_at-by_slot slots items n) ∙ go (slot_at slots n) refl
    where
      go : (slot : Option ℕ) → slot_at slots n ≡ slot → is_some (option_and_then (slice_get items) slot) ≡ is_some slot
      go None at = refl
      go (Some k) at = slice_get_some items k (item_within n k at)

  -- an item with the next number
  pub by_slot-pushed : (x : T) → by_slot (slots ++ Some (length items) ∷ []) (items ++ x ∷ []) ≡ by_slot slots items ++ Some x ∷ []
  by_slot-pushed x =
      map_push (option_and_then (slice_get (items ++ x ∷ []))) slots (Some (length items))
      ∙ ap (λ es. es ++ slice_get (items ++ x ∷ []) (length items) ∷ []) (by_slot-same slots items (items ++ x ∷ []) (λ n k at. slice_get-append_left items (x ∷ []) k (item_within n k at)))
      ∙ ap (λ e. by_slot slots items ++ e ∷ []) (slice_get_push items x (length items) refl)

  module _ (n k : ℕ) (at : slot_at slots n ≡ Some k) where
    -- one of the entries written: what is read there, and elsewhere
    written_at : (e : Option T) → slice_index_or (slice_set (by_slot slots items) n e) n None ≡ e
    written_at e = get_or-set_same (by_slot slots items) n e None (omega (arith, given_out slots n k at, length-by_slot slots items))

    written_beside : (e : Option T) (q : ℕ) → (q ≡ n → ⊥) → slice_index_or (slice_set (by_slot slots items) n e) q None ≡ option_and_then (slice_get items) (slot_at slots q)
    written_beside e q apart = get_or-set_other (by_slot slots items) n q e None apart ∙ item_at-by_slot slots items q

    written_length : (e : Option T) → length (slice_set (by_slot slots items) n e) ≡ length slots
    written_length e = length-set (by_slot slots items) n e ∙ length-by_slot slots items

    -- another item in the slot of a number
    pub by_slot-set : (x : T) → by_slot slots (slice_set items k x) ≡ slice_set (by_slot slots items) n (Some x)
    by_slot-set x =
        ext_get_or None (by_slot slots (slice_set items k x)) (slice_set (by_slot slots items) n (Some x))
        (length-by_slot slots (slice_set items k x) ∙ sym (written_length (Some x)))
        (λ q _.
        item_at-by_slot slots (slice_set items k x) q
        ∙ ⊎_elim
        (λ (same : q ≡ n).
        ap (option_and_then (slice_get (slice_set items k x))) (ap (slot_at slots) same ∙ at)
        ∙ slice_get-set_same items k x (item_within n k at)
        ∙ sym (ap (λ j. slice_index_or (slice_set (by_slot slots items) n (Some x)) j None) same ∙ written_at (Some x)))
        (λ (apart : q ≡ n → ⊥). beside q apart (slot_at slots q) refl ∙ sym (written_beside (Some x) q apart))
        (cases_eq q n))
      where
        beside : (q : ℕ) → (q ≡ n → ⊥) → (slot : Option ℕ) → slot_at slots q ≡ slot → option_and_then (slice_get (slice_set items k x)) slot ≡ option_and_then (slice_get items) slot
        beside q apart None e = refl
        beside q apart (Some j) e = slice_get-set_other items k j x (elsewhere s.fit n k at q j apart e)

    -- the number released, and its item taken out of the slot: the last item comes into it
    pub by_slot-released : (d : T) → by_slot (slots_left n s.numbers slots) (swap_remove items k d) ≡ slice_set (by_slot slots items) n None
    by_slot-released d =
        ext_get_or None (by_slot left kept) (slice_set (by_slot slots items) n None)
        (length-by_slot left kept ∙ long_left ∙ sym (written_length None))
        (λ q _.
        item_at-by_slot left kept q
        ∙ ⊎_elim
        (λ (same : q ≡ n).
        ap (option_and_then (slice_get kept)) (ap (slot_at left) same ∙ slot_at-released s.fit n k at)
        ∙ sym (ap (λ j. slice_index_or (slice_set (by_slot slots items) n None) j None) same ∙ written_at None))
        (λ (apart : q ≡ n → ⊥). beside q apart ∙ sym (written_beside None q apart))
        (cases_eq q n))
      where
        left : List (Option ℕ)
        left = slots_left n s.numbers slots

        kept : List T
        kept = swap_remove items k d

        last : ℕ
        last = length s.numbers - 1

        mover : ℕ
        mover = slice_index_or s.numbers last n

        long_left : length left ≡ length slots
        long_left = length-set (slice_set slots mover (slot_at slots n)) n None ∙ length-set slots mover (slot_at slots n)

        count : last + 1 ≡ length items
        count = ends s.fit n k at ∙ sym s.long

        other : (q : ℕ) → (q ≡ n → ⊥) → (q ≡ mover → ⊥) → (slot : Option ℕ) → slot_at slots q ≡ slot → option_and_then (slice_get kept) slot ≡ option_and_then (slice_get items) slot
        other q apart ne None e = refl
        other q apart ne (Some j) e = slice_get-swap_remove_other items last count k j d (before_last s.fit n k at q j ne e) (elsewhere s.fit n k at q j apart e)

        beside : (q : ℕ) → (q ≡ n → ⊥) → option_and_then (slice_get kept) (slot_at left q) ≡ option_and_then (slice_get items) (slot_at slots q)
        beside q apart =
            ⊎_elim
            (λ (moved : q ≡ mover).
            let two : (mover ≡ n → ⊥) = λ same. apart (moved ∙ same) in
            ap (option_and_then (slice_get kept)) (ap (slot_at left) moved ∙ slot_at-mover s.fit n k at two)
            ∙ slice_get-swap_remove_same items last count k d (ahead s.fit n k at two)
            ∙ sym (ap (option_and_then (slice_get items)) (ap (slot_at slots) moved ∙ mover_at s.fit n k at)))
            (λ (ne : q ≡ mover → ⊥). ap (option_and_then (slice_get kept)) (slot_at-other s.fit n k at q apart ne) ∙ other q apart ne (slot_at slots q) refl)
            (cases_eq q mover)
