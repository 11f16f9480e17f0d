-- What the code does to its table and its list, as the slots and the numbers have it.
use Rattle.std.proofs.Common.{◌≡◌, ℕ, ◌-◌, ◌<◌, ◌≤◌, List, [], ◌∷◌, ◌++◌, length, take, swap_remove, Option, Some, None, is_some, slice_index_or, slice_set, ap, sym, subst, ◌∙◌, arith, length-set}
use Rattle.std.proofs.lemmas.{List.get_or_default, List.length_push, List.Sums.count_by-le-length}
use Rattle.dom_slots.specs.Slotted.{slot_at, slots_left, Fit, IsSlotTable}
use Rattle.dom_slots.proofs.{FitLemmas.slot_within, FitLemmas.Fit-pushed, FitLemmas.Fit-released, LiveEntryLemmas.count_by-slots}

module _ {slots : List (Option ℕ)} {numbers : List ℕ} (i : IsSlotTable slots numbers) where
  -- no more numbers are live than were given out
  pub live_few : length numbers ≤ length slots
  live_few = omega (arith, count_by-slots i.fit, count_by-le-length is_some slots)

  -- the next number and its slot, as they were counted
  pub IsSlotTable-pushed : (slot number : ℕ) (slots' : List (Option ℕ)) (numbers' : List ℕ) → slot ≡ length numbers → number ≡ length slots → length slots < 4294967296
      → slots' ≡ slots ++ Some slot ∷ [] → numbers' ≡ numbers ++ number ∷ [] → IsSlotTable slots' numbers'
  IsSlotTable-pushed slot number slots' numbers' e f few with_slot with_number =
      let slots_are : slots' ≡ slots ++ Some (length numbers) ∷ [] = with_slot ∙ ap (λ k. slots ++ Some k ∷ []) e in
      let numbers_are : numbers' ≡ numbers ++ length slots ∷ [] = with_number ∙ ap (λ n. numbers ++ n ∷ []) f in
      record {
        fit = subst (λ xs. Fit slots' xs) (sym numbers_are) (subst (λ os. Fit os (numbers ++ length slots ∷ [])) (sym slots_are) (Fit-pushed i.fit));
        few = omega (arith, few, ap length slots_are, length_push slots (Some (length numbers)));
      }

  module _ (n k last : ℕ) (at : slot_at slots n ≡ Some k) (read : last ≡ slice_index_or numbers (length numbers - 1) last) where
    -- the number of the last slot, as it was read
    pub last_is : last ≡ slice_index_or numbers (length numbers - 1) n
    last_is = read ∙ get_or_default numbers (length numbers - 1) last n (omega (arith, slot_within i.fit n k at))

    -- its slot, and then that of the number that is released, as they were written
    pub slots_are_left : (slots' : List (Option ℕ)) → slots' ≡ slice_set (slice_set slots last (Some k)) n None → slots' ≡ slots_left n numbers slots
    slots_are_left slots' written =
        written
        ∙ ap (λ m. slice_set (slice_set slots m (Some k)) n None) last_is
        ∙ ap (λ o. slice_set (slice_set slots (slice_index_or numbers (length numbers - 1) n) o) n None) (sym at)

    -- the numbers without it, whatever would be read of an empty list
    pub numbers_are_left : (r : ℕ) → swap_remove numbers k r ≡ swap_remove numbers k n
    numbers_are_left r =
        let same = get_or_default numbers (length numbers - 1) r n (omega (arith, slot_within i.fit n k at)) in
        ap (λ m. take (length numbers - 1) (slice_set numbers k m)) same

    pub IsSlotTable-released : (r : ℕ) (slots' : List (Option ℕ)) (numbers' : List ℕ) → slots' ≡ slice_set (slice_set slots last (Some k)) n None → numbers' ≡ swap_remove numbers k r → IsSlotTable slots' numbers'
    IsSlotTable-released r slots' numbers' written removed =
        let slots_are = slots_are_left slots' written in
        let numbers_are : numbers' ≡ swap_remove numbers k n = removed ∙ numbers_are_left r in
        record {
          fit = subst (λ xs. Fit slots' xs) (sym numbers_are) (subst (λ os. Fit os (swap_remove numbers k n)) (sym slots_are) (Fit-released i.fit n k at));
          few = omega (arith, i.few, ap length written, length-set (slice_set slots last (Some k)) n None, length-set slots last (Some k));
        }
