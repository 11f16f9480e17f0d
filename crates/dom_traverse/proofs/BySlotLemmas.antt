-- What is kept by slot, told of the entries by number.
use Rattle.std.proofs.Common.{◌≡◌, ℕ, Bool, ◌||◌, List, [], ◌∷◌, filter_map, Option, Some, None, refl, ap, sym, ◌∙◌}
use Rattle.std.specs.List.{list_any, flat_map}
use Rattle.std.proofs.lemmas.List.{Folds.list_any-append, Sorted.list_any-IsPermutation}
use Rattle.dom_model.specs.Definitions.{nodes_unless_released}
use Rattle.dom_slots.specs.Slotted.{by_slot, IsSlotted}
use Rattle.dom_slots.proofs.LiveEntryLemmas.{live-by_slot}

-- what some of the items name is what some of the entries name
module _ {A : Type 0} (p : ℕ → Bool) (nodes : A → List ℕ) where
  any-in-each : (xs : List A) → list_any p (flat_map nodes xs) ≡ list_any (λ x. list_any p (nodes x)) xs
  any-in-each [] = refl
  any-in-each (x ∷ xs) = list_any-append p (nodes x) (flat_map nodes xs) ∙ ap (λ b. list_any p (nodes x) || b) (any-in-each xs)

  any-live : (es : List (Option A)) → list_any p (flat_map (nodes_unless_released nodes) es) ≡ list_any (λ x. list_any p (nodes x)) (filter_map (λ e. e) es)
  any-live [] = refl
  any-live (None ∷ es) = any-live es
  any-live (Some x ∷ es) = list_any-append p (nodes x) (flat_map (nodes_unless_released nodes) es) ∙ ap (λ b. list_any p (nodes x) || b) (any-live es)

  pub any-entry : {slots : List (Option ℕ)} {items : List A} (s : IsSlotted slots items) → list_any p (flat_map nodes items) ≡ list_any p (flat_map (nodes_unless_released nodes) (by_slot slots items))
  any-entry {slots} {items} s =
      any-in-each items
      ∙ sym (list_any-IsPermutation (λ x. list_any p (nodes x)) (filter_map (λ e. e) (by_slot slots items)) items (live-by_slot s))
      ∙ sym (any-live (by_slot slots items))
