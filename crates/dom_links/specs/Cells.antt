-- The cells of a pool: values, each at a place.
use Rattle.std.specs.Prelude.{Bool, true, false, ◌&&◌, ◌==◌, cond, List, [], ◌∷◌, Option, Some, None}
use denote.RawPtr.{Ptr, block_ptr, null_ptr}

-- whether two pointers are the same
abbrev pub same_ptr : Ptr → Ptr → Bool
same_ptr (block_ptr b o) (block_ptr c p) = (b == c) && (o == p)
same_ptr (block_ptr b o) null_ptr = false
same_ptr null_ptr (block_ptr c p) = false
same_ptr null_ptr null_ptr = true

module _ {N : Type 0} where
  -- the value of the first cell at p
  unfoldable pub look : Ptr → List (Ptr × N) → Option N
  look p [] = None
  look p (c ∷ cs) = cond (same_ptr c.0 p) (Some c.1) (look p cs)

  -- the cells, with w as the value of the first one at p
  unfoldable pub put : Ptr → N → List (Ptr × N) → List (Ptr × N)
  put p w [] = []
  put p w (c ∷ cs) = cond (same_ptr c.0 p) ((c.0, w) ∷ cs) (c ∷ put p w cs)

  -- the cells but for the first one at p
  unfoldable pub without : Ptr → List (Ptr × N) → List (Ptr × N)
  without p [] = []
  without p (c ∷ cs) = cond (same_ptr c.0 p) cs (c ∷ without p cs)
