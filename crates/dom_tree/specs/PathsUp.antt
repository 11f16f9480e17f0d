-- The ways up from nodes, and where two of them meet.
use Rattle.std.specs.Prelude.{◌≡◌, ℕ, true, Option, Some, None}
use Rattle.dom_model.specs.PlainLists.Lists.{among}
use Rattle.dom_model.specs.Forests.Forest.{Forest, parent_of, ancestors}

module _ {X : Type 0} where
  -- a way up from n has come to `top` through a child of it; through none where it begins there
  abbrev pub CameThrough : Forest X → ℕ → ℕ → Option ℕ → Type 0
  CameThrough f n top None = n ≡ top
  CameThrough f n top (Some child) = (parent_of f child ≡ Some top) × (among child (ancestors n f) ≡ true)

  -- an inclusive ancestor of n, and its child on the way down to n
  pub record IsOnWay (f : Forest X) (n top : ℕ) (child : Option ℕ) : Type 0 where
    pub above : among top (ancestors n f) ≡ true
    pub through : CameThrough f n top child

-- not one child twice
abbrev pub AreApart : Option ℕ → Option ℕ → Type 0
AreApart None second = Unit {0}
AreApart (Some m) None = Unit {0}
AreApart (Some m) (Some n) = m ≡ n → ⊥
