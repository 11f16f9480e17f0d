-- What stays true of the pages of a table.
use Rattle.std.proofs.Common.{◌≡◌, ℕ, false, true, ◌+◌, ◌*◌, ◌/◌, ◌%◌, ◌<◌, ◌≤◌, List, [], ◌∷◌, ◌++◌, length, Option, Some, None, IsSome, slice_index_or, slice_set, refl, ap, sym, ◌∙◌, subst, arith, ⊎_elim}
use Rattle.std.proofs.lemmas.{Bool.cases_eq, Bool.cases_lt, List.get_or_past, List.get_or_append_left, List.get_or_push, List.get_or-set_same, List.get_or-set_other, List.length-set, List.length-append}
use Rattle.dom_pages.specs.Paged.{page_at, cell_at, cells_of, AllVacant, IsPaged, IsTakenBack}
use Rattle.dom_pages.proofs.{CellsLemmas.length-cells_of, CellsLemmas.get_or-cells_of, PageWriteLemmas.written, PageWriteLemmas.cell_at-other, PageWriteLemmas.cell_at-outside, PageWriteLemmas.cell_at-added}

module _ {T : Type 0} where
  -- what a list has at a place stands before its end
  some_before : (xs : List (Option T)) (n : ℕ) → IsSome (slice_index_or xs n None) → n < length xs
  some_before xs n some =
      ⊎_elim (λ (lt : n < length xs). lt) (λ (le : length xs ≤ n). let no : false ≡ true = subst IsSome (get_or_past xs n None le) some in absurd (cc)) (cases_lt n (length xs))

module _ {T : Type 0} {pages : List (List (Option T))} {len : ℕ} (p : IsPaged pages len) where
  -- what stands under a number is read through its page
  pub get_or-items : (n : ℕ) → slice_index_or (cells_of pages len) n None ≡ cell_at pages n
  get_or-items n =
      ⊎_elim
      (λ (lt : n < len). get_or-cells_of pages len n lt)
      (λ (le : len ≤ n). get_or_past (cells_of pages len) n None (omega (arith, length-cells_of pages len)) ∙ sym (p.vacant n le))
      (cases_lt n len)

  -- a number that was given out has its page
  pub has_page : (n : ℕ) → n < len → n / 1024 < length pages
  has_page n below = omega (arith, p.within)

  -- a number under which something stands was given out, and has its cell
  pub given_out : (n : ℕ) → IsSome (slice_index_or (cells_of pages len) n None) → n < len
  given_out n some = omega (arith, some_before (cells_of pages len) n some, length-cells_of pages len)

  pub has_cell : (n : ℕ) → IsSome (slice_index_or (cells_of pages len) n None) → n % 1024 < length (page_at pages (n / 1024))
  has_cell n some = some_before (page_at pages (n / 1024)) (n % 1024) (subst IsSome (get_or-items n) some)

  -- and so has the next number, where there is room
  pub has_next : len < 1024 * length pages → (len / 1024 < length pages) × (len % 1024 < length (page_at pages (len / 1024)))
  has_next room =
      let lt : len / 1024 < length pages = omega arith in
      let full : length (page_at pages (len / 1024)) ≡ 1024 = p.present (len / 1024) (omega arith) lt in
      (lt, omega (arith, full))

  -- a page replaced, where no page but that one comes to stand before the page of the next number
  IsPaged-replaced : (k : ℕ) (page : List (Option T)) (next : ℕ) → k < length pages → next ≤ 1024 * length pages → len ≤ next
      → ((j : ℕ) → len / 1024 ≤ j → j < next / 1024 → j ≡ k)
      → length page ≤ 1024 → (next / 1024 ≤ k → length page ≡ 1024) → (k < next / 1024 → AllVacant page → page ≡ [])
      → ((m : ℕ) → next ≤ m → cell_at (slice_set pages k page) m ≡ None)
      → IsPaged (slice_set pages k page) next
  IsPaged-replaced k page next lt within more passed short full gone vacant =
      let long : length (slice_set pages k page) ≡ length pages = length-set pages k page in
      let same : (j : ℕ) → j ≡ k → page_at (slice_set pages k page) j ≡ page = λ j e. ap (page_at (slice_set pages k page)) e ∙ get_or-set_same pages k page [] lt in
      let other : (j : ℕ) → (j ≡ k → ⊥) → page_at (slice_set pages k page) j ≡ page_at pages j = λ j ne. get_or-set_other pages k j page [] ne in
      record {
        few = omega (arith, long, p.few);
        within = omega (arith, long, within);
        present =
            λ j le below.
            ⊎_elim
            (λ (e : j ≡ k). ap length (same j e) ∙ full (omega (arith, e)))
            (λ (ne : j ≡ k → ⊥). ap length (other j ne) ∙ p.present j (omega (arith, more)) (omega (arith, long)))
            (cases_eq j k);
        vacant = vacant;
        short =
            λ j.
            ⊎_elim
            (λ (e : j ≡ k). omega (arith, ap length (same j e), short))
            (λ (ne : j ≡ k → ⊥). omega (arith, ap length (other j ne), p.short j))
            (cases_eq j k);
        gone =
            λ j below all.
            ⊎_elim
            (λ (e : j ≡ k). same j e ∙ gone (omega (arith, e)) (λ c. ap (λ q. slice_index_or q c None) (sym (same j e)) ∙ all c))
            (λ (ne : j ≡ k → ⊥).
            ⊎_elim
            (λ (old : j < len / 1024). other j ne ∙ p.gone j old (λ c. ap (λ q. slice_index_or q c None) (sym (other j ne)) ∙ all c))
            (λ (new : len / 1024 ≤ j). absurd (ne (passed j new below)))
            (cases_lt j (len / 1024)))
            (cases_eq j k);
      }

  -- something written in the cell of a number
  pub IsPaged-put : (n : ℕ) (x : T) (next : ℕ) → n / 1024 < length pages → n % 1024 < length (page_at pages (n / 1024)) → n < next → next ≤ 1024 * length pages → len ≤ next
      → ((j : ℕ) → len / 1024 ≤ j → j < next / 1024 → j ≡ n / 1024) → IsPaged (written pages n (Some x)) next
  IsPaged-put n x next lt in_page below within more passed =
      let page = page_at pages (n / 1024) in
      let long = length-set page (n % 1024) (Some x) in
      IsPaged-replaced (n / 1024) (slice_set page (n % 1024) (Some x)) next lt within more passed
      (omega (arith, long, p.short (n / 1024)))
      (λ le. long ∙ p.present (n / 1024) (omega (arith, more, le)) lt)
      (λ _ all. let no : Some x ≡ None = sym (get_or-set_same page (n % 1024) (Some x) None in_page) ∙ all (n % 1024) in absurd (cc))
      (λ m le. cell_at-other pages n m (Some x) (λ e. omega arith) ∙ p.vacant m (omega (arith, more, le)))

  -- a cell emptied, in a page that keeps its memory
  pub IsPaged-cleared : (n : ℕ) → n < len → (n / 1024 < len / 1024 → AllVacant (slice_set (page_at pages (n / 1024)) (n % 1024) None) → ⊥) → IsPaged (written pages n None) len
  IsPaged-cleared n below kept =
      let page = page_at pages (n / 1024) in
      let long = length-set page (n % 1024) None in
      let lt = has_page n below in
      IsPaged-replaced (n / 1024) (slice_set page (n % 1024) None) len lt p.within (omega arith) (λ j le less. omega (arith, le, less))
      (omega (arith, long, p.short (n / 1024)))
      (λ le. long ∙ p.present (n / 1024) le lt)
      (λ less all. absurd (kept less all))
      (λ m le. cell_at-other pages n m None (λ e. omega arith) ∙ p.vacant m le)

  -- a page that gave its memory back
  pub IsPaged-emptied : (k : ℕ) → k < len / 1024 → IsPaged (slice_set pages k []) len
  IsPaged-emptied k less =
      IsPaged-replaced k [] len (omega (arith, less, p.within)) p.within (omega arith) (λ j le lt. omega (arith, le, lt))
      (omega arith)
      (λ le. omega (arith, le, less))
      (λ _ _. refl)
      (λ m le. cell_at-outside pages k m [] (λ e. omega (arith, e, le, less)) ∙ p.vacant m le)

  -- a page whose numbers were all taken back has no cell
  pub taken_back : (k : ℕ) → IsTakenBack (cells_of pages len) k → page_at pages k ≡ []
  taken_back k t =
      p.gone k (omega (arith, t.given_out, length-cells_of pages len))
      (λ c.
      ⊎_elim
      (λ (lt : c < 1024).
      let n = 1024 * k + c in
      let at : n / 1024 ≡ k = omega arith in
      let cell : n % 1024 ≡ c = omega arith in
      ap (λ j. slice_index_or (page_at pages k) j None) (sym cell)
      ∙ ap (λ j. slice_index_or (page_at pages j) (n % 1024) None) (sym at)
      ∙ sym (get_or-items n)
      ∙ t.vacant n at)
      (λ (le : 1024 ≤ c). get_or_past (page_at pages k) c None (omega (arith, p.short k, le)))
      (cases_lt c 1024))

  -- a new page behind the others
  pub IsPaged-added : (page : List (Option T)) → length page ≡ 1024 → AllVacant page → length pages < 4194304 → IsPaged (pages ++ page ∷ []) len
  IsPaged-added page full none few =
      let long : length (pages ++ page ∷ []) ≡ length pages + 1 = length-append pages (page ∷ []) in
      record {
        few = omega (arith, long);
        within = omega (arith, long, p.within);
        present =
            λ k le lt.
            ⊎_elim
            (λ (old : k < length pages). ap length (get_or_append_left pages (page ∷ []) [] k old) ∙ p.present k le old)
            (λ (new : length pages ≤ k). ap length (get_or_push pages page [] k (omega (arith, long))) ∙ full)
            (cases_lt k (length pages));
        vacant = λ m le. cell_at-added pages page none m ∙ p.vacant m le;
        short =
            λ k.
            ⊎_elim
            (λ (old : k < length pages). omega (arith, ap length (get_or_append_left pages (page ∷ []) [] k old), p.short k))
            (λ (new : length pages ≤ k).
            ⊎_elim
            (λ (e : k ≡ length pages). omega (arith, ap length (get_or_push pages page [] k (sym e)), full))
            (λ (ne : k ≡ length pages → ⊥). omega (arith, ap length (get_or_past (pages ++ page ∷ []) k [] (omega (arith, long)))))
            (cases_eq k (length pages)))
            (cases_lt k (length pages));
        gone =
            λ k below all.
            let is = get_or_append_left pages (page ∷ []) [] k (omega (arith, p.within)) in
            is ∙ p.gone k below (λ c. ap (λ q. slice_index_or q c None) (sym is) ∙ all c);
      }
