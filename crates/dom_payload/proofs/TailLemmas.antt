-- Units behind those that are passed over.
use Rattle.std.proofs.Common.{◌≡◌, ℕ, zero, suc, ◌+◌, ◌-◌, ◌≤◌, List, [], ◌∷◌, drop, length, ap, arith, length-drop}
use Rattle.dom_model.specs.Definitions.{spliced}

-- what is put in behind them leaves them as they are
pub drop-spliced : (passed at count : ℕ) (added units : List ℕ) → passed ≤ length units → drop passed (spliced (passed + at) count added units) ≡ spliced at count added (drop passed units)
drop-spliced zero at count added units h = let e : 0 + at ≡ at = omega arith in ap (λ k. spliced k count added units) e
drop-spliced (suc passed) at count added [] h = absurd (omega (arith, h))
drop-spliced (suc passed) at count added (unit ∷ units) h =
    let first : suc passed + at ≡ suc (passed + at) = omega arith in
    let last : suc (passed + at) + count ≡ suc (passed + at + count) = omega arith in
    rw (first, last) (drop-spliced passed at count added units (omega (arith, h)))

-- a place among them is a place of the whole
pub within-whole : (passed at : ℕ) (units : List ℕ) → passed ≤ length units → at ≤ length (drop passed units) → passed + at ≤ length units
within-whole passed at units h k = let l = length-drop passed units in omega (arith, h, k, l)
