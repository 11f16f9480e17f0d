-- In how many cells of a page something stands.
use Rattle.std.proofs.Common.{◌≡◌, ℕ, zero, suc, ◌+◌, ◌<◌, ◌≤◌, List, [], ◌∷◌, length, Option, Some, None, is_some, true, false, slice_index_or, slice_set, refl, ap, arith}
use Rattle.std.proofs.lemmas.{List.length-set, List.Sums.sum_by-cons, List.Sums.sum_by-set}
use Rattle.dom_pages.specs.Paged.{taken, taken_in, AllVacant}

module _ {T : Type 0} where
  one_at_most : (item : Option T) → taken item ≤ 1
  one_at_most None = omega arith
  one_at_most (Some x) = omega arith

  -- no more is counted than there are cells
  pub taken_in-le : (cells : List (Option T)) → taken_in cells ≤ length cells
  taken_in-le [] = omega arith
  taken_in-le (x ∷ cells) = omega (arith, sum_by-cons taken x cells, one_at_most x, taken_in-le cells)

  -- where nothing is counted, nothing stands in any cell
  pub none_stands : (cells : List (Option T)) → taken_in cells ≡ 0 → AllVacant cells
  none_stands [] none k = refl
  none_stands (None ∷ cells) none zero = refl
  none_stands (None ∷ cells) none (suc k) = none_stands cells (omega (arith, none, sum_by-cons taken None cells)) k
  none_stands (Some x ∷ cells) none k = absurd (omega (arith, none, sum_by-cons taken (Some x) cells))

  -- what is counted of one cell, as it was read
  pub taken-none : (item : Option T) → is_some item ≡ false → taken item ≡ 0
  taken-none None h = refl
  taken-none (Some x) h = absurd (cc)

  pub taken-some : (item : Option T) → is_some item ≡ true → taken item ≡ 1
  taken-some None h = absurd (cc)
  taken-some (Some x) h = refl

  -- a cell in which something stands is one of the cells
  pub taken_within : (cells : List (Option T)) (k : ℕ) → taken (slice_index_or cells k None) ≡ 1 → k < length cells
  taken_within [] k h = absurd (omega (arith, h))
  taken_within (x ∷ cells) zero h = omega arith
  taken_within (x ∷ cells) (suc k) h = omega (arith, taken_within cells k h)

  module _ (cells : List (Option T)) (k : ℕ) (lt : k < length cells) where
    -- one cell written
    pub taken_in-set : (item : Option T) → taken_in (slice_set cells k item) + taken (slice_index_or cells k None) ≡ taken_in cells + taken item
    taken_in-set item = sum_by-set taken cells k item None lt

    -- while a cell is empty, fewer are counted than there are
    pub taken_in-lt : (x : T) → taken (slice_index_or cells k None) ≡ 0 → taken_in cells < length cells
    taken_in-lt x e = omega (arith, taken_in-set (Some x), taken_in-le (slice_set cells k (Some x)), length-set cells k (Some x))

module _ {T : Type 0} where
  -- of a page in which nothing stands none is counted
  pub none_counted : (cells : List (Option T)) → AllVacant cells → taken_in cells ≡ 0
  none_counted [] none = refl
  none_counted (x ∷ cells) none = omega (arith, sum_by-cons taken x cells, ap taken (none 0), none_counted cells (λ k. none (suc k)))
