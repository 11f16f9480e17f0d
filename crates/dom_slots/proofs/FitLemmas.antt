-- Slots and numbers fit each other, and do so after each change.
use Rattle.std.proofs.Common.{◌≡◌, ℕ, ◌+◌, ◌-◌, ◌<◌, ◌≤◌, List, [], ◌∷◌, ◌++◌, length, swap_remove, Option, Some, None, slice_get, slice_index_or, slice_set, ap, sym, ◌∙◌, ⊎_elim, arith, length-set, get_or-set_same, get_or-set_other}
use Rattle.std.proofs.lemmas.{Bool.cases_eq, Bool.cases_lt, List.get_or_past, List.get_or_push, List.get_or_append_left, List.length_push, Option.none-some, Option.same_Some, Option.slice_get-get_or, Option.slice_get_past, Option.slice_get_within}
use Rattle.dom_slots.specs.Slotted.{slot_at, slots_left, Fit}
use Rattle.dom_slots.proofs.ListPlaceLemmas.{slice_get_push, slice_get-append_left, length-swap_remove, slice_get-swap_remove_same, slice_get-swap_remove_other}

-- a number that has a slot was given out
pub given_out : (slots : List (Option ℕ)) (n k : ℕ) → slot_at slots n ≡ Some k → n < length slots
given_out slots n k at =
    ⊎_elim
    (λ (lt : n < length slots). lt)
    (λ (past : length slots ≤ n). absurd (none-some k (sym (get_or_past slots n None past) ∙ at)))
    (cases_lt n (length slots))

module _ {slots : List (Option ℕ)} {numbers : List ℕ} (fit : Fit slots numbers) where
  -- the slot of a number is one of those that there are
  pub slot_within : (n k : ℕ) → slot_at slots n ≡ Some k → k < length numbers
  slot_within n k at = slice_get_within numbers k n (fit.lies n k at)

  -- two numbers have two slots
  same_number : (n q k : ℕ) → slot_at slots n ≡ Some k → slot_at slots q ≡ Some k → n ≡ q
  same_number n q k at at' = same_Some n q (sym (fit.lies n k at) ∙ fit.lies q k at')

  -- the next number, in a new slot
  pub Fit-pushed : Fit (slots ++ Some (length numbers) ∷ []) (numbers ++ length slots ∷ [])
  Fit-pushed = record { lies = lies; has = has }
    where
      lies : (q j : ℕ) → slot_at (slots ++ Some (length numbers) ∷ []) q ≡ Some j → slice_get (numbers ++ length slots ∷ []) j ≡ Some q
      lies q j e =
          ⊎_elim
          (λ (lt : q < length slots).
          let old : slot_at slots q ≡ Some j = sym (get_or_append_left slots (Some (length numbers) ∷ []) None q lt) ∙ e in
          slice_get-append_left numbers (length slots ∷ []) j (slot_within q j old) ∙ fit.lies q j old)
          (λ (past : length slots ≤ q).
          ⊎_elim
          (λ (new : q ≡ length slots).
          let slot : length numbers ≡ j = same_Some (length numbers) j (sym (get_or_push slots (Some (length numbers)) None q (sym new)) ∙ e) in
          slice_get_push numbers (length slots) j (sym slot) ∙ ap Some (sym new))
          (λ (other : q ≡ length slots → ⊥).
          absurd (none-some j (sym (get_or_past (slots ++ Some (length numbers) ∷ []) q None (omega (arith, length_push slots (Some (length numbers)), past, other))) ∙ e)))
          (cases_eq q (length slots)))
          (cases_lt q (length slots))

      has : (q j : ℕ) → slice_get (numbers ++ length slots ∷ []) j ≡ Some q → slot_at (slots ++ Some (length numbers) ∷ []) q ≡ Some j
      has q j e =
          ⊎_elim
          (λ (lt : j < length numbers).
          let old : slot_at slots q ≡ Some j = fit.has q j (sym (slice_get-append_left numbers (length slots ∷ []) j lt) ∙ e) in
          get_or_append_left slots (Some (length numbers) ∷ []) None q (given_out slots q j old) ∙ old)
          (λ (past : length numbers ≤ j).
          ⊎_elim
          (λ (new : j ≡ length numbers).
          let number : length slots ≡ q = same_Some (length slots) q (sym (slice_get_push numbers (length slots) j new) ∙ e) in
          get_or_push slots (Some (length numbers)) None q number ∙ ap Some (sym new))
          (λ (other : j ≡ length numbers → ⊥).
          absurd (none-some q (sym (slice_get_past (numbers ++ length slots ∷ []) j (omega (arith, length_push numbers (length slots), past, other))) ∙ e)))
          (cases_eq j (length numbers)))
          (cases_lt j (length numbers))

  -- a number, and the number of the last slot
  module _ (n k : ℕ) (at : slot_at slots n ≡ Some k) where
    abbrev pub last_slot : ℕ
    last_slot = length numbers - 1

    abbrev pub mover : ℕ
    mover = slice_index_or numbers last_slot n

    pub ends : last_slot + 1 ≡ length numbers
    ends = omega (arith, slot_within n k at)

    pub mover_at : slot_at slots mover ≡ Some last_slot
    mover_at = fit.has mover last_slot (slice_get-get_or numbers last_slot n (omega (arith, ends)))

    -- where another number than the last is released, its slot is ahead of the last
    pub ahead : (mover ≡ n → ⊥) → k < last_slot
    ahead apart =
        ⊎_elim
        (λ (e : k ≡ last_slot). absurd (apart (same_number mover n last_slot mover_at (at ∙ ap Some e))))
        (λ (ne : k ≡ last_slot → ⊥). omega (arith, slot_within n k at, ends, ne))
        (cases_eq k last_slot)

    -- the slots where the number was released
    pub slot_at-released : slot_at (slots_left n numbers slots) n ≡ None
    slot_at-released = get_or-set_same (slice_set slots mover (slot_at slots n)) n None None (omega (arith, given_out slots n k at, length-set slots mover (slot_at slots n)))

    pub slot_at-mover : (mover ≡ n → ⊥) → slot_at (slots_left n numbers slots) mover ≡ Some k
    slot_at-mover apart =
        get_or-set_other (slice_set slots mover (slot_at slots n)) n mover None None apart
        ∙ get_or-set_same slots mover (slot_at slots n) None (given_out slots mover last_slot mover_at)
        ∙ at

    pub slot_at-other : (q : ℕ) → (q ≡ n → ⊥) → (q ≡ mover → ⊥) → slot_at (slots_left n numbers slots) q ≡ slot_at slots q
    slot_at-other q apart other =
        get_or-set_other (slice_set slots mover (slot_at slots n)) n q None None apart ∙ get_or-set_other slots mover q (slot_at slots n) None other

    -- another number has another slot than it, and than the last but for the one there
    pub elsewhere : (q j : ℕ) → (q ≡ n → ⊥) → slot_at slots q ≡ Some j → j ≡ k → ⊥
    elsewhere q j apart e same = apart (same_number q n k (e ∙ ap Some same) at)

    pub before_last : (q j : ℕ) → (q ≡ mover → ⊥) → slot_at slots q ≡ Some j → j < last_slot
    before_last q j other e =
        ⊎_elim
        (λ (same : j ≡ last_slot). absurd (other (same_number q mover last_slot (e ∙ ap Some same) mover_at)))
        (λ (ne : j ≡ last_slot → ⊥). omega (arith, slot_within q j e, ends, ne))
        (cases_eq j last_slot)

    pub Fit-released : Fit (slots_left n numbers slots) (swap_remove numbers k n)
    Fit-released = record { lies = lies; has = has }
      where
        gone : (q j : ℕ) → slot_at (slots_left n numbers slots) q ≡ Some j → q ≡ n → ⊥
        gone q j e same = none-some j (sym slot_at-released ∙ ap (slot_at (slots_left n numbers slots)) (sym same) ∙ e)

        lies : (q j : ℕ) → slot_at (slots_left n numbers slots) q ≡ Some j → slice_get (swap_remove numbers k n) j ≡ Some q
        lies q j e =
            ⊎_elim
            (λ (moved : q ≡ mover).
            let apart : (mover ≡ n → ⊥) = λ same. gone q j e (moved ∙ same) in
            let here : j ≡ k = same_Some j k (sym e ∙ ap (slot_at (slots_left n numbers slots)) moved ∙ slot_at-mover apart) in
            ap (slice_get (swap_remove numbers k n)) here
            ∙ slice_get-swap_remove_same numbers last_slot ends k n (ahead apart)
            ∙ fit.lies mover last_slot mover_at
            ∙ ap Some (sym moved))
            (λ (other : q ≡ mover → ⊥).
            let old : slot_at slots q ≡ Some j = sym (slot_at-other q (gone q j e) other) ∙ e in
            slice_get-swap_remove_other numbers last_slot ends k j n (before_last q j other old) (elsewhere q j (gone q j e) old) ∙ fit.lies q j old)
            (cases_eq q mover)

        has : (q j : ℕ) → slice_get (swap_remove numbers k n) j ≡ Some q → slot_at (slots_left n numbers slots) q ≡ Some j
        has q j e =
            let within : j < last_slot = omega (arith, slice_get_within (swap_remove numbers k n) j q e, length-swap_remove numbers last_slot ends k n) in
            ⊎_elim
            (λ (here : j ≡ k).
            let read = slice_get-swap_remove_same numbers last_slot ends k n (omega (arith, within, here)) in
            let moved : mover ≡ q = same_Some mover q (sym (fit.lies mover last_slot mover_at) ∙ sym read ∙ ap (slice_get (swap_remove numbers k n)) (sym here) ∙ e) in
            let apart : (mover ≡ n → ⊥) = λ same. let two : last_slot ≡ k = same_Some last_slot k (sym mover_at ∙ ap (slot_at slots) same ∙ at) in omega (arith, two, within, here) in
            ap (slot_at (slots_left n numbers slots)) (sym moved) ∙ slot_at-mover apart ∙ ap Some (sym here))
            (λ (other : j ≡ k → ⊥).
            let old : slot_at slots q ≡ Some j = fit.has q j (sym (slice_get-swap_remove_other numbers last_slot ends k j n within other) ∙ e) in
            slot_at-other q (λ same. other (same_Some j k (sym old ∙ ap (slot_at slots) same ∙ at)))
            (λ same. let two : j ≡ last_slot = same_Some j last_slot (sym old ∙ ap (slot_at slots) same ∙ mover_at) in omega (arith, two, within))
            ∙ old)
            (cases_eq j k)
