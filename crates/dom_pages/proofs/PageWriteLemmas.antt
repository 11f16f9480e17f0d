-- A page replaced, or one cell written: what stands under the other numbers stays.
use Rattle.std.proofs.Common.{◌≡◌, ◌≢◌, ℕ, zero, suc, ◌-◌, ◌/◌, ◌%◌, ◌<◌, ◌≤◌, List, [], ◌∷◌, ◌++◌, length, Option, None, slice_index_or, slice_set, refl, ap, sym, ◌∙◌, arith, ⊎_elim}
use Rattle.std.proofs.lemmas.{Bool.cases_eq, Bool.cases_lt, List.get_or_past, List.get_or_default, List.get_or_append_left, List.get_or-append_right, List.get_or-set_same, List.get_or-set_other, List.length-set, List.set_past}
use Rattle.dom_pages.specs.Paged.{page_at, cell_at, AllVacant}

-- two numbers at the same place of the same page are one
same_place : (k n : ℕ) → k / 1024 ≡ n / 1024 → k % 1024 ≡ n % 1024 → k ≡ n
same_place k n p q = omega arith

read_alone : {T : Type 0} (page : List (Option T)) → AllVacant page → (k n : ℕ) → slice_index_or (slice_index_or (page ∷ []) k []) n None ≡ None
read_alone page none zero n = none n
read_alone page none (suc k) n = refl

module _ {T : Type 0} (pages : List (List (Option T))) where
  -- a number in the page that was replaced
  pub cell_at-inside : (k n : ℕ) (page : List (Option T)) → n / 1024 ≡ k → k < length pages → cell_at (slice_set pages k page) n ≡ slice_index_or page (n % 1024) None
  cell_at-inside k n page e lt =
      ap (λ j. slice_index_or (page_at (slice_set pages k page) j) (n % 1024) None) e ∙ ap (λ p. slice_index_or p (n % 1024) None) (get_or-set_same pages k page [] lt)

  -- a number in another page
  pub cell_at-outside : (k n : ℕ) (page : List (Option T)) → n / 1024 ≢ k → cell_at (slice_set pages k page) n ≡ cell_at pages n
  cell_at-outside k n page ne = ap (λ p. slice_index_or p (n % 1024) None) (get_or-set_other pages k (n / 1024) page [] ne)

  -- the cell of a number written
  abbrev pub written : ℕ → Option T → List (List (Option T))
  written n x = slice_set pages (n / 1024) (slice_set (page_at pages (n / 1024)) (n % 1024) x)

  -- another number
  pub cell_at-other : (n k : ℕ) (x : Option T) → k ≢ n → cell_at (written n x) k ≡ cell_at pages k
  cell_at-other n k x ne =
      ⊎_elim
      (λ (e : k / 1024 ≡ n / 1024).
      ⊎_elim
      (λ (lt : n / 1024 < length pages).
      cell_at-inside (n / 1024) k (slice_set (page_at pages (n / 1024)) (n % 1024) x) e lt
      ∙ get_or-set_other (page_at pages (n / 1024)) (n % 1024) (k % 1024) x None (λ q. ne (same_place k n e q))
      ∙ ap (λ j. slice_index_or (page_at pages j) (k % 1024) None) (sym e))
      (λ (le : length pages ≤ n / 1024). ap (λ p. cell_at p k) (set_past pages (n / 1024) (slice_set (page_at pages (n / 1024)) (n % 1024) x) le))
      (cases_lt (n / 1024) (length pages)))
      (λ (apart : k / 1024 ≡ n / 1024 → ⊥). cell_at-outside (n / 1024) k (slice_set (page_at pages (n / 1024)) (n % 1024) x) apart)
      (cases_eq (k / 1024) (n / 1024))

  -- the number itself
  pub cell_at-same : (n : ℕ) (x : Option T) → n / 1024 < length pages → n % 1024 < length (page_at pages (n / 1024)) → cell_at (written n x) n ≡ x
  cell_at-same n x lt in_page =
      cell_at-inside (n / 1024) n (slice_set (page_at pages (n / 1024)) (n % 1024) x) refl lt ∙ get_or-set_same (page_at pages (n / 1024)) (n % 1024) x None in_page

  -- a number that was cleared, whether or not its page is there
  pub cell_at-cleared : (n : ℕ) → n / 1024 < length pages → cell_at (written n None) n ≡ None
  cell_at-cleared n lt =
      ⊎_elim
      (λ (in_page : n % 1024 < length (page_at pages (n / 1024))). cell_at-same n None lt in_page)
      (λ (le : length (page_at pages (n / 1024)) ≤ n % 1024).
      cell_at-inside (n / 1024) n (slice_set (page_at pages (n / 1024)) (n % 1024) None) refl lt
      ∙ get_or_past (slice_set (page_at pages (n / 1024)) (n % 1024) None) (n % 1024) None (omega (arith, length-set (page_at pages (n / 1024)) (n % 1024) None)))
      (cases_lt (n % 1024) (length (page_at pages (n / 1024))))

  -- a number in no page
  pub cell_at-past : (n : ℕ) → length pages ≤ n / 1024 → cell_at pages n ≡ None
  cell_at-past n le = ap (λ p. slice_index_or p (n % 1024) None) (get_or_past pages (n / 1024) [] le)

  -- a page behind the others in which nothing stands
  pub cell_at-added : (page : List (Option T)) → AllVacant page → (n : ℕ) → cell_at (pages ++ page ∷ []) n ≡ cell_at pages n
  cell_at-added page none n =
      ⊎_elim
      (λ (lt : n / 1024 < length pages). ap (λ p. slice_index_or p (n % 1024) None) (get_or_append_left pages (page ∷ []) [] (n / 1024) lt))
      (λ (le : length pages ≤ n / 1024).
      ap (λ p. slice_index_or p (n % 1024) None) (get_or-append_right pages (page ∷ []) (length pages) (n / 1024) [] refl le)
      ∙ read_alone page none (n / 1024 - length pages) (n % 1024)
      ∙ sym (cell_at-past n le))
      (cases_lt (n / 1024) (length pages))

  -- a page that was read, changed at one cell and put back
  pub is_written : (n : ℕ) (x : Option T) (page after : List (Option T)) → n / 1024 < length pages → page ≡ slice_index_or pages (n / 1024) page → after ≡ slice_set page (n % 1024) x → slice_set pages (n / 1024) after ≡ written n x
  is_written n x page after lt read e =
      ap (slice_set pages (n / 1024)) (e ∙ ap (λ q. slice_set q (n % 1024) x) (read ∙ get_or_default pages (n / 1024) page [] lt))

  -- a page that was read and emptied at one cell
  pub is_cleared : (n : ℕ) (page after : List (Option T)) → n / 1024 < length pages → page ≡ slice_index_or pages (n / 1024) page → after ≡ slice_set page (n % 1024) None → after ≡ slice_set (page_at pages (n / 1024)) (n % 1024) None
  is_cleared n page after lt read e = e ∙ ap (λ q. slice_set q (n % 1024) None) (read ∙ get_or_default pages (n / 1024) page [] lt)
