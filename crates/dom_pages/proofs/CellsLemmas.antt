-- What stands under each of the first numbers.
use Rattle.std.proofs.Common.{◌≡◌, ℕ, ◌+◌, ◌/◌, ◌%◌, ◌<◌, List, [], ◌∷◌, ◌++◌, length, Option, None, slice_index_or, slice_set, ap, sym, ◌∙◌, arith, ⊎_elim}
use Rattle.std.proofs.lemmas.{Bool.cases_eq, List.get_or-set_same, List.get_or-set_other, List.length-set, List.FromFn.length-map-range_with_len, List.FromFn.get_or-map-range_with_len, List.FromFn.map-range_with_len_more, List.FromFn.fill_by_all}
use Rattle.dom_pages.specs.Paged.{page_at, cell_at, cells_of, AllVacant}
use Rattle.dom_pages.proofs.PageWriteLemmas.{written, cell_at-other, cell_at-inside, cell_at-outside}

module _ {T : Type 0} where
  pub length-cells_of : (pages : List (List (Option T))) (len : ℕ) → length (cells_of pages len) ≡ len
  length-cells_of pages len = length-map-range_with_len (cell_at pages) 0 len

  -- one of them
  pub get_or-cells_of : (pages : List (List (Option T))) (len n : ℕ) → n < len → slice_index_or (cells_of pages len) n None ≡ cell_at pages n
  get_or-cells_of pages len n lt = get_or-map-range_with_len (cell_at pages) 0 len n n None lt (omega arith)

  -- pages that differ in nothing that stands under a number
  pub cells_of-same : (pages others : List (List (Option T))) (len : ℕ) → ((n : ℕ) → n < len → cell_at others n ≡ cell_at pages n) → cells_of others len ≡ cells_of pages len
  cells_of-same pages others len h =
      sym (fill_by_all (cell_at others) (cells_of pages len) len None (length-cells_of pages len) (λ k lt. get_or-cells_of pages len k lt ∙ sym (h k lt)))

module _ {T : Type 0} (pages : List (List (Option T))) (len : ℕ) where
  -- one cell written
  pub cells_of-written : (n : ℕ) (x : Option T) → n < len → cell_at (written pages n x) n ≡ x → cells_of (written pages n x) len ≡ slice_set (cells_of pages len) n x
  cells_of-written n x below is =
      let long = length-cells_of pages len in
      sym
      (fill_by_all (cell_at (written pages n x)) (slice_set (cells_of pages len) n x) len None (length-set (cells_of pages len) n x ∙ long)
      (λ k lt.
      ⊎_elim
      (λ (e : k ≡ n). ap (λ j. slice_index_or (slice_set (cells_of pages len) n x) j None) e ∙ get_or-set_same (cells_of pages len) n x None (omega arith) ∙ sym (ap (cell_at (written pages n x)) e ∙ is))
      (λ (ne : k ≡ n → ⊥). get_or-set_other (cells_of pages len) n k x None ne ∙ get_or-cells_of pages len k lt ∙ sym (cell_at-other pages n k x ne))
      (cases_eq k n)))

  -- the next cell written
  pub cells_of-pushed : (x : Option T) → cell_at (written pages len x) len ≡ x → cells_of (written pages len x) (len + 1) ≡ cells_of pages len ++ x ∷ []
  cells_of-pushed x is =
      map-range_with_len_more (cell_at (written pages len x)) 0 len len (omega arith)
      ∙ ap (λ l. l ++ cell_at (written pages len x) len ∷ []) (cells_of-same pages (written pages len x) len (λ n lt. cell_at-other pages len n x (λ e. omega arith)))
      ∙ ap (λ y. cells_of pages len ++ y ∷ []) is

  -- the page of a cleared number, in which nothing stands, gave its memory back
  pub cells_of-emptied : (n : ℕ) → n / 1024 < length pages → AllVacant (slice_set (page_at pages (n / 1024)) (n % 1024) None)
      → cells_of (slice_set pages (n / 1024) []) len ≡ cells_of (written pages n None) len
  cells_of-emptied n lt all =
      let k = n / 1024 in
      let page = slice_set (page_at pages k) (n % 1024) None in
      cells_of-same (written pages n None) (slice_set pages k []) len
      (λ m _.
      ⊎_elim
      (λ (e : m / 1024 ≡ k). cell_at-inside pages k m [] e lt ∙ sym (cell_at-inside pages k m page e lt ∙ all (m % 1024)))
      (λ (ne : m / 1024 ≡ k → ⊥). cell_at-outside pages k m [] ne ∙ sym (cell_at-outside pages k m page ne))
      (cases_eq (m / 1024) k))
