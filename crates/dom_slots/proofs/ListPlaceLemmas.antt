-- What stands at a place of a list once it was changed.
use Rattle.std.proofs.Common.{◌≡◌, ℕ, zero, suc, ◌+◌, ◌-◌, ◌<◌, List, [], ◌∷◌, ◌++◌, length, take, swap_remove, Some, is_some, true, slice_get, slice_index_or, slice_set, refl, ap, sym, ◌∙◌, arith, length-set}
use Rattle.std.proofs.lemmas.{List.length-take-le, Option.slice_get-get_or}

module _ {T : Type 0} where
  pub slice_get-set_same : (xs : List T) (k : ℕ) (x : T) → k < length xs → slice_get (slice_set xs k x) k ≡ Some x
  slice_get-set_same [] k x lt = absurd (omega (arith, lt))
  slice_get-set_same (y ∷ ys) zero x lt = refl
  slice_get-set_same (y ∷ ys) (suc k) x lt = slice_get-set_same ys k x (omega (arith, lt))

  pub slice_get-set_other : (xs : List T) (k j : ℕ) (x : T) → (j ≡ k → ⊥) → slice_get (slice_set xs k x) j ≡ slice_get xs j
  slice_get-set_other [] k j x ne = refl
  slice_get-set_other (y ∷ ys) zero zero x ne = absurd (ne refl)
  slice_get-set_other (y ∷ ys) zero (suc j) x ne = refl
  slice_get-set_other (y ∷ ys) (suc k) zero x ne = refl
  slice_get-set_other (y ∷ ys) (suc k) (suc j) x ne = slice_get-set_other ys k j x (λ e. ne (ap suc e))

  pub slice_get-take : (xs : List T) (l k : ℕ) → k < l → slice_get (take l xs) k ≡ slice_get xs k
  slice_get-take xs zero k lt = absurd (omega (arith, lt))
  slice_get-take [] (suc l) k lt = refl
  slice_get-take (y ∷ ys) (suc l) zero lt = refl
  slice_get-take (y ∷ ys) (suc l) (suc k) lt = slice_get-take ys l k (omega (arith, lt))

  pub slice_get-append_left : (xs ys : List T) (k : ℕ) → k < length xs → slice_get (xs ++ ys) k ≡ slice_get xs k
  slice_get-append_left [] ys k lt = absurd (omega (arith, lt))
  slice_get-append_left (x ∷ xs) ys zero lt = refl
  slice_get-append_left (x ∷ xs) ys (suc k) lt = slice_get-append_left xs ys k (omega (arith, lt))

  -- the item that was pushed
  pub slice_get_push : (xs : List T) (x : T) (k : ℕ) → k ≡ length xs → slice_get (xs ++ x ∷ []) k ≡ Some x
  slice_get_push [] x k e = ap (slice_get (x ∷ [])) e
  slice_get_push (y ∷ ys) x k e = ap (slice_get (y ∷ (ys ++ x ∷ []))) e ∙ slice_get_push ys x (length ys) refl

  -- there is an item at each place
  pub slice_get_some : (xs : List T) (k : ℕ) → k < length xs → is_some (slice_get xs k) ≡ true
  slice_get_some [] k lt = absurd (omega (arith, lt))
  slice_get_some (x ∷ xs) zero lt = refl
  slice_get_some (x ∷ xs) (suc k) lt = slice_get_some xs k (omega (arith, lt))

  -- the item in the last place came into another
  module _ (xs : List T) (l : ℕ) (last : l + 1 ≡ length xs) where
    same-end : length xs - 1 ≡ l
    same-end = omega (arith, last)

    pub length-swap_remove : (k : ℕ) (d : T) → length (swap_remove xs k d) ≡ l
    length-swap_remove k d =
        let long = length-set xs k (slice_index_or xs (length xs - 1) d) in
        length-take-le (length xs - 1) (slice_set xs k (slice_index_or xs (length xs - 1) d)) (omega (arith, long)) ∙ same-end

    pub slice_get-swap_remove_other : (k j : ℕ) (d : T) → j < l → (j ≡ k → ⊥) → slice_get (swap_remove xs k d) j ≡ slice_get xs j
    slice_get-swap_remove_other k j d lt ne =
        let ys = slice_set xs k (slice_index_or xs (length xs - 1) d) in
        slice_get-take ys (length xs - 1) j (omega (arith, last)) ∙ slice_get-set_other xs k j (slice_index_or xs (length xs - 1) d) ne

    pub slice_get-swap_remove_same : (k : ℕ) (d : T) → k < l → slice_get (swap_remove xs k d) k ≡ slice_get xs l
    slice_get-swap_remove_same k d lt =
        let ys = slice_set xs k (slice_index_or xs (length xs - 1) d) in
        slice_get-take ys (length xs - 1) k (omega (arith, last))
        ∙ slice_get-set_same xs k (slice_index_or xs (length xs - 1) d) (omega (arith, last))
        ∙ sym (slice_get-get_or xs (length xs - 1) d (omega (arith, last)))
        ∙ ap (slice_get xs) same-end
