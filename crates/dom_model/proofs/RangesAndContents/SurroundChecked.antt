-- Surround contents is all or nothing by its check: the check passes exactly where every step does. DOM Standard, "Interface Range".
use Rattle.std.proofs.Common.{◌≡◌, ℕ, Some, None, refl, ap, Ok, Err}
use Rattle.dom_model.specs.Definitions.{World, Outcome, surround, refusal_in, check_whole_surround}
use Rattle.dom_model.specs.declared.DomError.{DomError}

-- where the check passes, the steps do
pub surround-allowed : (r n : ℕ) (w : World) → check_whole_surround r n w ≡ None → (v : World) × (surround r n w ≡ Ok v)
surround-allowed r n w h = go (surround r n w) h
  where
    go : (o : Outcome) → refusal_in o ≡ None → (v : World) × (o ≡ Ok v)
    go (Ok v) e = (v, refl)
    go (Err e) k = absurd (cc k)

-- and where the steps do, the check passes
pub surround-checked : (r n : ℕ) (w v : World) → surround r n w ≡ Ok v → check_whole_surround r n w ≡ None
surround-checked r n w v e = ap refusal_in e

-- the check's refusal is that of the first step that is refused
pub surround-refused : (r n : ℕ) (w : World) (e : DomError) → check_whole_surround r n w ≡ Some e → surround r n w ≡ Err e
surround-refused r n w e h = go (surround r n w) h
  where
    go : (o : Outcome) → refusal_in o ≡ Some e → o ≡ Err e
    go (Ok v) k = absurd (cc k)
    go (Err d) k = ap (λ (x : DomError). Err x) (let u : d ≡ e = cc k in u)
