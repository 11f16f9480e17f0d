-- Questions to the registrations under keys.
use Rattle.std.proofs.Common.{◌≡◌, ℕ, Bool, false, ◌||◌, List, [], ◌∷◌, Option, None, Some, refl, ap, filter_map}
use Rattle.std.specs.{Option.option_map_or, List.list_any, List.cons_option}

module _ {A : Type 0} (p : A → Bool) where
  -- of what stands under keys
  pub any-found : (u : ℕ → Option A) (keys : List ℕ) → list_any (λ k. option_map_or p (u k) false) keys ≡ list_any p (filter_map u keys)
  any-found u [] = refl
  any-found u (k ∷ keys) = go (u k) (any-found u keys)
    where
      go : (o : Option A) → list_any (λ j. option_map_or p (u j) false) keys ≡ list_any p (filter_map u keys) → (option_map_or p o false || list_any (λ j. option_map_or p (u j) false) keys) ≡ list_any p (cons_option o (filter_map u keys))
      go None i = i
      go (Some r) i = ap (λ b. p r || b) i
