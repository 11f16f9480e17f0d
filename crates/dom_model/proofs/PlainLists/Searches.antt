-- Searches in lists of numbers, by what is among them.
use Rattle.std.proofs.Common.{◌≡◌, ℕ, ◌<◌, Bool, true, false, ◌||◌, List, [], ◌∷◌, ◌++◌, refl, sym, ◌∙◌, arith}
use Rattle.std.specs.List.{list_any}
use Rattle.std.proofs.lemmas.Bool.{true≢false, or_from}
use Rattle.dom_model.specs.Definitions.{hits, among, from_first}
use Rattle.dom_model.proofs.PlainLists.Heads.{among-first}
use Rattle.dom_model.proofs.MutationObservers.Queues.{among-later}

-- two answers that are no alike are the same
pub alike : (a b : Bool) → (a ≡ false → b ≡ false) → (b ≡ false → a ≡ false) → a ≡ b
alike true true f g = refl
alike true false f g = g refl
alike false true f g = sym (f refl)
alike false false f g = refl

-- what is among two lists, one after the other
pub among-both : (n : ℕ) (xs ys : List ℕ) → among n (xs ++ ys) ≡ (among n xs || among n ys)
among-both n [] ys = refl
among-both n (x ∷ xs) ys = grind (arith, among-both n xs ys)

module _ (p : ℕ → Bool) where
  -- where none passes, none that is among them does
  pub passes_not : (xs : List ℕ) (n : ℕ) → list_any p xs ≡ false → among n xs ≡ true → p n ≡ false
  passes_not [] n none h = absurd (true≢false (sym h))
  passes_not (x ∷ xs) n none h = grind (arith, passes_not xs n)

  pub none-each : (xs : List ℕ) → ((n : ℕ) → among n xs ≡ true → p n ≡ false) → list_any p xs ≡ false
  none-each [] h = refl
  none-each (x ∷ xs) h = or_from (p x) (list_any p xs) (h x (among-first x xs)) (none-each xs (λ n t. h n (among-later n x xs t)))

  -- lists with the same numbers pass alike
  pub any-same : (xs ys : List ℕ) → ((n : ℕ) → among n xs ≡ among n ys) → list_any p xs ≡ list_any p ys
  any-same xs ys e = grind (arith, none-each ys, passes_not xs, none-each xs, passes_not ys)

-- of two lists that have a number in common, either can be searched for the other
pub any-either : (xs ys : List ℕ) → list_any (λ m. among m xs) ys ≡ list_any (λ m. among m ys) xs
any-either xs ys =
    alike (list_any (λ m. among m xs) ys) (list_any (λ m. among m ys) xs) (one_way xs ys) (one_way ys xs)
  where
    not_both : (a b : Bool) → a ≡ true → (b ≡ true → a ≡ false) → b ≡ false
    not_both a true h f = absurd (true≢false (sym h ∙ f refl))
    not_both a false h f = refl

    one_way : (xs ys : List ℕ) → list_any (λ m. among m xs) ys ≡ false → list_any (λ m. among m ys) xs ≡ false
    one_way xs ys none = none-each (λ m. among m ys) xs (λ n h. not_both (among n xs) (among n ys) h (passes_not (λ m. among m xs) ys n none))

-- a search from a number that passes
pub any-from : (p : ℕ → Bool) (n : ℕ) (l : List ℕ) → 0 < hits n l → p n ≡ true → list_any p (from_first n l) ≡ true
any-from p n [] h e = absurd (omega arith)
any-from p n (x ∷ xs) h e = grind (arith, any-from p n xs)
