-- What the cells of a page hold, read cell by cell.
use Rattle.std.proofs.Common.{◌≡◌, ℕ, ◌+◌, ◌<◌, List, [], ◌∷◌, ◌++◌, length, map, Option, Some, None, slice_index_or, slice_set, sym, ap, ◌∙◌, arith}
use Rattle.std.proofs.lemmas.{List.length-map, List.map-append, List.map-set, List.get_or-map, List.Sums.sum_by-append}
use Rattle.dom_pages.specs.Paged.{taken, taken_in}
use Rattle.dom_pages.proofs.PageCountLemmas.{taken_in-set}

module _ {A T : Type 0} (held : A → Option T) (cells : List A) where
  -- a cell that was read
  pub held_at : (k : ℕ) (cell : A) → k < length cells → cell ≡ slice_index_or cells k cell → held cell ≡ slice_index_or (map held cells) k None
  held_at k cell lt read = ap held read ∙ sym (get_or-map held cells k cell None lt)

  -- a cell that was written
  pub held-set : (k : ℕ) (cell : A) (item : Option T) → held cell ≡ item → map held (slice_set cells k cell) ≡ slice_set (map held cells) k item
  held-set k cell item is = map-set held cells k cell ∙ ap (slice_set (map held cells) k) is

  pub counted-set : (k : ℕ) (cell : A) (item : Option T) → k < length cells → held cell ≡ item
      → taken_in (map held (slice_set cells k cell)) + taken (slice_index_or (map held cells) k None) ≡ taken_in (map held cells) + taken item
  counted-set k cell item lt is = omega (arith, ap taken_in (held-set k cell item is), taken_in-set (map held cells) k (omega (arith, length-map cells held)) item)

  -- a cell behind the others
  pub counted-pushed : (cell : A) → held cell ≡ None → taken_in (map held (cells ++ cell ∷ [])) ≡ taken_in (map held cells)
  counted-pushed cell is =
      ap taken_in (map-append held cells (cell ∷ []) ∙ ap (λ item. map held cells ++ item ∷ []) is)
      ∙ omega (arith, sum_by-append taken (map held cells) (None ∷ []))
