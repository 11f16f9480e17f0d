-- A text that is written by several writes.
use Rattle.std.proofs.Common.{◌≡◌, ℕ, ◌+◌, ◌-◌, ◌≤◌, List, length, take, drop, Option, sym, subst, arith, take-append-drop, length-drop, length-take}
use Rattle.std.proofs.lemmas.List.{take_all}
use Rattle.std.proofs.Math.Seq.{take-add}
use Rattle.std.specs.Io.KnownBytes.{Appends, Keeps}
use Rattle.std.proofs.KnownBytes.{Appends-trans, Appends-kept}
use Rattle.dom_serve.specs.Writes.{AppendsFront}

pub within : (s : List ℕ) (at n : ℕ) → at ≤ length s → n ≤ length (take (length s - at) (drop at s)) → at + n ≤ length s
within s at n p q = omega (arith, length-take (length s - at) (drop at s), length-drop at s)

-- the next write took n bytes of what is left
pub Appends-more : (a b c : Option (List ℕ)) (s : List ℕ) (at n : ℕ) → Appends a b (take at s) → Appends b c (take n (take (length s - at) (drop at s)))
    → Appends a c (take (at + n) s)
Appends-more a b c s at n p q =
    let whole : take (length s - at) (drop at s) ≡ drop at s = take_all (length s - at) (drop at s) (omega (arith, length-drop at s)) in
    let next : Appends b c (take n (drop at s)) = subst (λ l. Appends b c (take n l)) whole q in
    subst (λ l. Appends a c l) (sym (take-add at n s)) (Appends-trans a b c (take at s) (take n (drop at s)) p next)

-- the next write failed
pub AppendsFront-kept : (a b c : Option (List ℕ)) (s : List ℕ) (at : ℕ) → Appends a b (take at s) → Keeps b c → AppendsFront a c s
AppendsFront-kept a b c s at p q = (take at s, (drop at s, sym (take-append-drop at s)), Appends-kept a b c (take at s) p q)
