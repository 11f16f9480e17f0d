-- A reader and a writer, as clauses speak of them.
use Rattle.std.specs.Prelude.{ℕ, Bool, List, Option}

-- What is said of a reader.
pub record Reading (R : Type 0) : Type 1 where
  -- the bytes that reads will give from here on, where they are known
  pub left : R → Option (List ℕ)
  -- a read that does not fail may give these bytes and leave the reader so; at the end none
  pub gives : R → List ℕ → R → Type 0
  -- a read that fails may leave the reader so
  pub fails : R → R → Type 0

-- What is said of a writer.
pub record Writing (W : Type 0) : Type 1 where
  -- the bytes that it took so far, where they are known
  pub taken : W → Option (List ℕ)
  -- whether all that it took has been passed on, as far as that is known
  pub is_passed_on : W → Bool
  -- a write or a flush that does not fail may leave the writer so
  pub works : W → W → Type 0
  -- a write or a flush that fails may leave the writer so
  pub fails : W → W → Type 0
