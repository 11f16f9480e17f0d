-- How the items of a table lie in pages.
use Rattle.std.specs.Prelude.{◌≡◌, ℕ, ◌*◌, ◌/◌, ◌%◌, ◌<◌, ◌≤◌, List, [], length, map, Option, Some, None, slice_index_or}
use Rattle.std.specs.List.{range_with_len, sum_by}
use Rattle.dom_pages.specs.Numbered.{item_at}

-- how many numbers a page is for
abbrev pub page_size : ℕ
page_size = 1024

module _ {T : Type 0} where
  -- 1 where something stands, 0 where nothing does
  abbrev pub taken : Option T → ℕ
  taken None = 0
  taken (Some _) = 1

  -- in how many cells something stands
  abbrev pub taken_in : List (Option T) → ℕ
  taken_in cells = sum_by taken cells

  -- nothing stands in any of the cells
  abbrev pub AllVacant : List (Option T) → Type 0
  AllVacant cells = (k : ℕ) → slice_index_or cells k None ≡ None

  -- the cells of a page, none where there is no such page
  abbrev pub page_at : List (List (Option T)) → ℕ → List (Option T)
  page_at pages k = slice_index_or pages k []

  -- what stands under a number, read through its page
  abbrev pub cell_at : List (List (Option T)) → ℕ → Option T
  cell_at pages n = slice_index_or (page_at pages (n / page_size)) (n % page_size) None

  -- what stands under each of the first numbers
  abbrev pub cells_of : List (List (Option T)) → ℕ → List (Option T)
  cells_of pages len = map (cell_at pages) (range_with_len 0 len)

  -- what is true of the pages of a table that gave out so many numbers
  pub record IsPaged (pages : List (List (Option T))) (len : ℕ) : Type 0 where
    pub few : length pages ≤ 4194304
    pub within : len ≤ page_size * length pages
    pub present : (k : ℕ) → len / page_size ≤ k → k < length pages → length (page_at pages k) ≡ page_size
    pub vacant : (n : ℕ) → len ≤ n → cell_at pages n ≡ None
    pub short : (k : ℕ) → length (page_at pages k) ≤ page_size
    pub gone : (k : ℕ) → k < len / page_size → AllVacant (page_at pages k) → page_at pages k ≡ []

  -- the numbers of a page were all given out, and all taken back
  pub record IsTakenBack (items : List (Option T)) (page : ℕ) : Type 0 where
    pub given_out : page < length items / page_size
    pub vacant : (n : ℕ) → n / page_size ≡ page → item_at items n ≡ None
