-- Texts that may be joined to the one ahead of them. DOM Standard, "Interface Node": normalize.
use Rattle.std.specs.Prelude.{◌≡◌, ℕ, ◌+◌, ◌<◌, ◌≤◌, true, List, ◌∷◌, ◌++◌, length, Option, IfSome, All}
use Rattle.dom_model.specs.declared.Kind.TheVariants.{Text}
use Rattle.dom_model.specs.PlainLists.Lists.{hits}
use Rattle.dom_model.specs.Forests.Forest.{children_of}
use Rattle.dom_model.specs.Worlds.World.{Point, Range, World}
use Rattle.dom_model.specs.Soundness.Sound.{IsSound}
use Rattle.dom_model.specs.Forests.Nodes.{is_of_kind}
use Rattle.dom_model.specs.DataAndCopies.Data.{data_of, joined_data}

-- what holds of each live range
abbrev pub Lives : (Range → Type 0) → List (Option Range) → Type 0
Lives P rs = All (λ (r : Option Range). IfSome r P) rs

-- a point of the node is at an offset up to `base`
abbrev pub IsUpTo : ℕ → ℕ → Point → Type 0
IsUpTo n base q = q.node ≡ n → q.offset ≤ base

-- both ends of a range are within the data so far
abbrev pub AreUpTo : ℕ → ℕ → Range → Type 0
AreUpTo n base r = IsUpTo n base r.start × IsUpTo n base r.end

-- A Text, and the Texts that follow it: its data has room for theirs from `base` on, and no live range stands in it past `base`.
pub record AreJoinable (v : World) (t p base : ℕ) (ts : List ℕ) : Type 0 where
  pub sound : IsSound v
  pub text : is_of_kind Text v.forest t ≡ true
  pub ahead : List ℕ
  pub behind : List ℕ
  pub listed : children_of v.forest p ≡ ahead ++ t ∷ (ts ++ behind)
  pub texts : (m : ℕ) → 0 < hits m ts → is_of_kind Text v.forest m ≡ true
  pub room : base + length (joined_data v ts) ≤ length (data_of v t)
  pub up_to : Lives (AreUpTo t base) v.ranges
