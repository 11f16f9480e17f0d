-- What was read or written of an item, told by its number.
use Rattle.std.proofs.Common.{◌≡◌, ℕ, ◌<◌, List, length, get_or, set, map, take, drop, ◌++◌, ◌+◌, [], ◌∷◌, slice_get, Option, IfSome, ap, ◌∙◌, subst, arith, length-append, length-drop}
use Rattle.std.proofs.lemmas.{List.length-map, List.length-take, List.get_or_default, List.Edits.map_over_more, Option.slice_get-get_or}

-- one element more is written by a step
pub over-more : {A : Type 0} (step : A → A) (xs ys zs : List A) (k : ℕ) → k < length xs → ys ≡ map step (take k xs) ++ drop k xs → IfSome (slice_get ys k) (λ x. zs ≡ set ys k (step x)) → zs ≡ map step (take (k + 1) xs) ++ drop (k + 1) xs
over-more {A} step xs ys zs k l h w = pick xs l
  where
    within : k < length ys
    within = omega (arith, ap length h, length-append (map step (take k xs)) (drop k xs), length-map (take k xs) step, length-take k xs, length-drop k xs)

    go : A → zs ≡ map step (take (k + 1) xs) ++ drop (k + 1) xs
    go d =
        let written : zs ≡ set ys k (step (get_or ys k d)) = subst (λ (o : Option A). IfSome o (λ x. zs ≡ set ys k (step x))) (slice_get-get_or ys k d within) w in
        written ∙ map_over_more step xs ys k (get_or ys k d) l h (get_or_default ys k d (get_or ys k d) within)

    pick : (us : List A) → k < length us → zs ≡ map step (take (k + 1) xs) ++ drop (k + 1) xs
    pick [] m = absurd (omega arith)
    pick (u ∷ us) m = go u
