-- Walks by steps that end, and what they find. DOM Standard, "Traversal".
use Rattle.std.specs.Prelude.{◌≡◌, ℕ, zero, suc, ◌<◌, ◌≤◌}
use Rattle.dom_model.specs.Traversal.WalkSteps.{Stand, at, leaving, ended, walked}

-- a walk has come to its end after so many moves
abbrev pub HasEnded : (Stand → Stand) → ℕ → Stand → Type 0
HasEnded step moves (ended found) = Unit {0}
HasEnded step zero (at n) = ⊥
HasEnded step zero (leaving n) = ⊥
HasEnded step (suc moves) (at n) = HasEnded step moves (step (at n))
HasEnded step (suc moves) (leaving n) = HasEnded step moves (step (leaving n))

-- how many moves of those that are allowed a walk makes to its end
abbrev pub moves_left : (Stand → Stand) → ℕ → Stand → ℕ
moves_left step moves (ended found) = 0
moves_left step zero (at n) = 0
moves_left step zero (leaving n) = 0
moves_left step (suc moves) (at n) = suc (moves_left step moves (step (at n)))
moves_left step (suc moves) (leaving n) = suc (moves_left step moves (step (leaving n)))

-- a walk that has come from one stand to another, in some moves
pub record Leads (step : Stand → Stand) (moves : ℕ) (stand other : Stand) : Type 0 where
  pub ends : HasEnded step moves stand → HasEnded step moves other
  pub finds : HasEnded step moves stand → walked step moves stand ≡ walked step moves other
  pub left : HasEnded step moves stand → moves_left step moves other ≤ moves_left step moves stand

-- in one move or more
pub record LeadsOn (step : Stand → Stand) (moves : ℕ) (stand other : Stand) : Type 0 where
  pub leads : Leads step moves stand other
  pub fewer : HasEnded step moves stand → moves_left step moves other < moves_left step moves stand
