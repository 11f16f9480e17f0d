-- How many ends of static ranges stand in each node, and what is kept of them. DOM Standard, "Interface StaticRange".
use Rattle.std.specs.Prelude.{◌≡◌, ℕ, ◌+◌, ◌==◌, nat_eq, if◌then◌else◌, List, flat_map, Option, Some}
use Rattle.std.specs.Map.{lookup, count_at}
use Rattle.dom_model.specs.Worlds.World.{Range}
use Rattle.dom_model.specs.PlainLists.Lists.{hits}
use Rattle.dom_model.specs.MutationAlgorithms.Discarding.{nodes_of_range}

-- nodes, each once and with how many ends stand in it, and for how many more ends there is room
pub record CountedEnds : Type 0 where
  pub counts : List (ℕ × ℕ)
  pub room : ℕ

-- what is counted of a node: nothing where no end stands in it
abbrev pub kept_of : List (ℕ × ℕ) → ℕ → Option ℕ
kept_of counts n = lookup (nat_eq n) counts

-- how many ends stand in a node
abbrev pub end_count_at : List (ℕ × ℕ) → ℕ → ℕ
end_count_at counts n = count_at (kept_of counts) n

-- the same, with one more end in a node
abbrev pub with_end : ℕ → List (ℕ × ℕ) → ℕ → ℕ
with_end node counts n = (if node == n then 1 else 0) + end_count_at counts n

-- no count is none
abbrev pub AreCounts : List (ℕ × ℕ) → Type 0
AreCounts counts = (n : ℕ) → kept_of counts n ≡ Some 0 → ⊥

-- how often a node has an end of one of the ranges
abbrev pub ends_in : List Range → ℕ → ℕ
ends_in ranges n = hits n (flat_map nodes_of_range ranges)

-- what static ranges keep: for each node how many of their ends stand in it
pub record AreKept (ranges : List Range) (counts : List (ℕ × ℕ)) : Type 0 where
  pub counted : (n : ℕ) → end_count_at counts n ≡ ends_in ranges n
