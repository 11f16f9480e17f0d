-- Numbers that were given out in order, the slots in which the live ones lie without gaps, and what is kept by slot as it is by number.
use Rattle.std.specs.Prelude.{◌≡◌, ℕ, ◌-◌, ◌≤◌, min, List, length, map, Option, Some, None, option_and_then, slice_get, slice_index_or, slice_set}

-- for each number that was given out its slot, none where it was released; for each slot the number that lies there; and how many more
-- numbers have room
pub record SlotTable : Type 0 where
  pub slots : List (Option ℕ)
  pub numbers : List ℕ
  pub room : ℕ

-- the same of items that have numbers: for each slot the item that lies there
pub record SlottedItems (T : Type 0) : Type 0 where
  pub slots : List (Option ℕ)
  pub items : List T
  pub room : ℕ

-- the slot of a number; none where it was released, or was never given out
abbrev pub slot_at : List (Option ℕ) → ℕ → Option ℕ
slot_at slots n = slice_index_or slots n None

-- a number has a slot exactly where it is the number that lies there
pub record Fit (slots : List (Option ℕ)) (numbers : List ℕ) : Type 0 where
  pub lies : (n k : ℕ) → slot_at slots n ≡ Some k → slice_get numbers k ≡ Some n
  pub has : (n k : ℕ) → slice_get numbers k ≡ Some n → slot_at slots n ≡ Some k

-- what is true of all slots and numbers: they fit, and 32 bits can tell the numbers apart
pub record IsSlotTable (slots : List (Option ℕ)) (numbers : List ℕ) : Type 0 where
  pub fit : Fit slots numbers
  pub few : length slots ≤ 4294967296

-- what is true of all slots and items: an item lies in the slot of each number, each item in that of one number
pub record IsSlotted {T : Type 0} (slots : List (Option ℕ)) (items : List T) : Type 0 where
  pub numbers : List ℕ
  pub fit : Fit slots numbers
  pub long : length items ≡ length numbers

-- how many more numbers have room: in the pages, in the list of numbers, and in 32 bits
abbrev pub room_of : ℕ → ℕ → ℕ → ℕ
room_of paged spare made = min (min paged spare) (4294967296 - made)

-- the slots once a number was released: the number of the last slot has the slot that it had, and it has none
abbrev pub slots_left : ℕ → List ℕ → List (Option ℕ) → List (Option ℕ)
slots_left n numbers slots = slice_set (slice_set slots (slice_index_or numbers (length numbers - 1) n) (slot_at slots n)) n None

-- for each number the item in its slot, none where the number was released
abbrev pub by_slot : {T : Type 0} → List (Option ℕ) → List T → List (Option T)
by_slot slots items = map (option_and_then (slice_get items)) slots
