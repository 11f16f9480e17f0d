-- Items by number, and what is told of all of them by each.
use Rattle.std.proofs.Common.{◌≡◌, ℕ, zero, suc, ◌+◌, ◌<◌, ◌==◌, Bool, true, false, List, [], ◌∷◌, ◌++◌, length, take, slice_get, Option, Some, None, option_map, refl, sym, ap, ◌∙◌, ⊎_elim, arith}
use Rattle.std.specs.List.{list_any}
use Rattle.std.proofs.lemmas.{Bool.cases_Bool, Bool.eq-eqb, Bool.eqb-true, Bool.or_from, Option.none-some, Option.same_Some, Option.slice_get_within, Map.Keys.any_passes_from_place}
use Rattle.dom_model.specs.Definitions.{among}
use Rattle.dom_chains.specs.Keyed.{key_at, keys_of, passes_at}

module _ {A : Type 0} where
  -- one item more, and one less
  pub slice_get-pushed : (xs : List A) (x : A) (k : ℕ) → (k ≡ length xs → ⊥) → slice_get (xs ++ x ∷ []) k ≡ slice_get xs k
  slice_get-pushed [] x zero d = absurd (d refl)
  slice_get-pushed [] x (suc k) d = refl
  slice_get-pushed (y ∷ ys) x zero d = refl
  slice_get-pushed (y ∷ ys) x (suc k) d = slice_get-pushed ys x k (λ q. d (ap suc q))

  pub slice_get-cut : (xs : List A) (n k : ℕ) → n + 1 ≡ length xs → (k ≡ n → ⊥) → slice_get (take n xs) k ≡ slice_get xs k
  slice_get-cut [] n k last d = absurd (omega arith)
  slice_get-cut (y ∷ []) zero zero last d = absurd (d refl)
  slice_get-cut (y ∷ []) zero (suc k) last d = refl
  slice_get-cut (y ∷ z ∷ zs) zero k last d = absurd (omega arith)
  slice_get-cut (y ∷ ys) (suc n) zero last d = refl
  slice_get-cut (y ∷ ys) (suc n) (suc k) last d = slice_get-cut ys n k (omega arith) (λ q. d (ap suc q))

  pub same-items : (xs ys : List A) → ((k : ℕ) → slice_get xs k ≡ slice_get ys k) → xs ≡ ys
  same-items [] [] h = refl
  same-items [] (y ∷ ys) h = absurd (none-some y (h 0))
  same-items (x ∷ xs) [] h = absurd (none-some x (sym (h 0)))
  same-items (x ∷ xs) (y ∷ ys) h = ap (λ z. z ∷ xs) (same_Some x y (h 0)) ∙ ap (λ zs. y ∷ zs) (same-items xs ys (λ k. h (suc k)))

module _ {T : Type 0} where
  -- the item of which the key was read
  pub record HasItem (items : List (ℕ × T)) (id key : ℕ) : Type 0 where
    pub it : ℕ × T
    pub at : slice_get items id ≡ Some it
    pub has : it.0 ≡ key

  pub item-of : (items : List (ℕ × T)) (id key : ℕ) → key_at items id ≡ Some key → HasItem items id key
  item-of items id key h = go (slice_get items id) refl
    where
      go : (o : Option (ℕ × T)) → slice_get items id ≡ o → HasItem items id key
      go None q = let z : None ≡ Some key = rw q at h in absurd (none-some key z)
      go (Some it) q = let z : Some it.0 ≡ Some key = rw q at h in record { it = it; at = q; has = same_Some it.0 key z }

  pub key-within : (items : List (ℕ × T)) (id key : ℕ) → key_at items id ≡ Some key → id < length items
  key-within items id key h = let i = item-of items id key h in slice_get_within items id i.it i.at

  -- an item of a key passes a test, or none does
  pub any-one : (key : ℕ) (says : T → Bool) (items : List (ℕ × T)) (id : ℕ) (it : ℕ × T) → slice_get items id ≡ Some it → it.0 ≡ key → says it.1 ≡ true → list_any (passes_at key says) items ≡ true
  any-one key says items id it at has passes = any_passes_from_place (passes_at key says) items id it at (rw (eq-eqb it.0 key has) passes)

  pub any-none : (key : ℕ) (says : T → Bool) (items : List (ℕ × T)) → ((id : ℕ) (it : ℕ × T) → slice_get items id ≡ Some it → it.0 ≡ key → says it.1 ≡ false) → list_any (passes_at key says) items ≡ false
  any-none key says [] h = refl
  any-none key says (x ∷ xs) h =
      or_from (passes_at key says x) (list_any (passes_at key says) xs)
      (⊎_elim (λ (y : (x.0 == key) ≡ true). rw y (h 0 x refl (eqb-true x.0 key y))) (λ (y : (x.0 == key) ≡ false). rw y refl) (cases_Bool (x.0 == key)))
      (any-none key says xs (λ id. h (suc id)))

  among-keys : (key : ℕ) (items : List (ℕ × T)) → among key (keys_of items) ≡ list_any (passes_at key (λ _. true)) items
  among-keys key [] = refl
  among-keys key (x ∷ xs) = ⊎_elim (λ (y : (x.0 == key) ≡ true). rw y refl) (λ (y : (x.0 == key) ≡ false). rw y (among-keys key xs)) (cases_Bool (x.0 == key))

  -- an item has a key, or none does
  pub keys-one : (key : ℕ) (items : List (ℕ × T)) (id : ℕ) → key_at items id ≡ Some key → among key (keys_of items) ≡ true
  keys-one key items id h = let i = item-of items id key h in among-keys key items ∙ any-one key (λ _. true) items id i.it i.at i.has refl

  pub keys-none : (key : ℕ) (items : List (ℕ × T)) → ((id : ℕ) → key_at items id ≡ Some key → ⊥) → among key (keys_of items) ≡ false
  keys-none key items h =
      among-keys key items ∙ any-none key (λ _. true) items (λ id it at has. absurd (h id (ap (option_map (λ (x : ℕ × T). x.0)) at ∙ ap Some has)))
