-- Iterators that give way one after another, and wait.
use Rattle.std.proofs.Common.{◌≡◌, ℕ, zero, suc, ◌+◌, ◌<◌, List, [], ◌∷◌, length, get_or, set, Option, Some, None, slice_get, ◌⊎◌, arith}
use Rattle.std.specs.Option.{IsSome}
use Rattle.std.proofs.lemmas.{Grind.common_steps, Bool.false≢true, Option.get_or_from_slice_get}
use Rattle.dom_model.specs.Definitions.{Iterator}
use Rattle.dom_traverse.specs.{PositionsByNode.node_in}

-- how many items stand, and how many wait
abbrev pub standing : List (Option ℕ) → ℕ
standing [] = 0
standing (None ∷ nodes) = standing nodes
standing (Some n ∷ nodes) = 1 + standing nodes

abbrev pub waiting : List (Option ℕ) → ℕ
waiting [] = 0
waiting (None ∷ nodes) = 1 + waiting nodes
waiting (Some n ∷ nodes) = waiting nodes

pub fewer-stand : (nodes : List (Option ℕ)) (e : ℕ) → IsSome (node_in nodes e) → standing (set nodes e None) < standing nodes
fewer-stand [] e h = absurd (false≢true h)
fewer-stand (None ∷ nodes) zero h = absurd (false≢true h)
fewer-stand (Some n ∷ nodes) zero h = omega arith
fewer-stand (None ∷ nodes) (suc e) h = fewer-stand nodes e h
fewer-stand (Some n ∷ nodes) (suc e) h = omega (arith, fewer-stand nodes e h)

pub fewer-wait : (nodes : List (Option ℕ)) (e n : ℕ) → e < length nodes → node_in nodes e ≡ None → waiting (set nodes e (Some n)) < waiting nodes
fewer-wait [] e n l h = absurd (omega arith)
fewer-wait (None ∷ nodes) zero n l h = omega arith
fewer-wait (Some m ∷ nodes) zero n l h = cc
fewer-wait (None ∷ nodes) (suc e) n l h = omega (arith, fewer-wait nodes e n (omega arith) h)
fewer-wait (Some m ∷ nodes) (suc e) n l h = fewer-wait nodes e n (omega arith) h

pub some-within : (nodes : List (Option ℕ)) (e : ℕ) → IsSome (node_in nodes e) → e < length nodes
some-within [] e h = absurd (false≢true h)
some-within (o ∷ nodes) zero h = omega arith
some-within (o ∷ nodes) (suc e) h = omega (arith, some-within nodes e h)

-- an iterator has given way and waits, or it stays at its reference
abbrev pub Leaves : (Iterator → Iterator) → List Iterator → List Iterator → List (Option ℕ) → ℕ → Iterator → Type 0
Leaves step old new nodes k i = ((get_or new k i ≡ step (get_or old k i)) × (node_in nodes k ≡ None)) ⊎ ((get_or new k i ≡ get_or old k i) × (node_in nodes k ≡ Some (get_or old k i).reference))

-- how far iterators have given way
pub record AreLeaving (step : Iterator → Iterator) (old new : List Iterator) (nodes : List (Option ℕ)) : Type 0 where
  pub long : length new ≡ length old
  pub wide : length nodes ≡ length old
  pub each : (k : ℕ) (i : Iterator) → k < length old → Leaves step old new nodes k i

-- one more gives way
pub leaving-step : (step : Iterator → Iterator) (old new : List Iterator) (nodes : List (Option ℕ)) (are : AreLeaving step old new nodes) (id : ℕ) (x : Iterator) (nodes' : List (Option ℕ)) → IsSome (node_in nodes id) → slice_get new id ≡ Some x → nodes' ≡ set nodes id None → AreLeaving step old (set new id (step x)) nodes'
leaving-step step old new nodes are id x nodes' some lies h = record {
  long = grind (arith, common_steps, are.long);
  wide = grind (arith, common_steps, are.wide);
  each = λ k i l. grind (arith, common_steps, are.long, are.wide, are.each k i, get_or_from_slice_get new id x i lies, some-within nodes id some);
}
