-- Items that name two nodes each: a root, which stays, and a node at which they stand, once they do not wait.
use Rattle.std.specs.Prelude.{◌≡◌, ℕ, zero, suc, ◌==◌, nat_eq, Bool, ◌||◌, if◌then◌else◌, List, [], ◌∷◌, map, Option, Some, None, is_some, unwrap_or}
use Rattle.std.specs.List.{list_any}
use Rattle.dom_model.specs.PlainLists.Lists.{hits, among, is_number}
use Rattle.indexmap.specs.IndexMap.{IndexMap, get}
use Rattle.dom_traverse.specs.PositionsByNode.{StandOrWait}

-- the nodes that an item names
abbrev pub named_by : {A : Type 0} → (A → ℕ) → (A → ℕ) → A → List ℕ
named_by root at x = root x ∷ at x ∷ []

-- a count that is kept; none where there is nothing to count
abbrev pub if_counted : ℕ → Option ℕ
if_counted zero = None
if_counted (suc k) = Some (suc k)

module _ {S : Type 0} where
  -- how many items have a node as their root
  abbrev pub count_at : IndexMap ℕ ℕ S → ℕ → ℕ
  count_at roots n = unwrap_or (get nat_eq roots n) 0

  -- so many items have it from then on
  abbrev pub Recounts : IndexMap ℕ ℕ S → IndexMap ℕ ℕ S → ℕ → ℕ → Type 0
  Recounts old new node count = (n : ℕ) → get nat_eq new n ≡ (if node == n then if_counted count else get nat_eq old n)

  -- whether a node is the root of an item, or an item stands there
  abbrev pub is_named : IndexMap ℕ ℕ S → List (Option ℕ) → ℕ → Bool
  is_named roots standing n = is_some (get nat_eq roots n) || list_any (λ o. is_number o n) standing

  -- these nodes are the ones that are named, and no others are
  abbrev pub AreNames : IndexMap ℕ ℕ S → List (Option ℕ) → List ℕ → Type 0
  AreNames roots standing ns = (n : ℕ) → among n ns ≡ is_named roots standing n

  -- the roots of items and where they stand, but for those that wait
  pub record AreFound {A : Type 0} (root at : A → ℕ) (xs : List A) (roots : IndexMap ℕ ℕ S) (standing : List (Option ℕ)) : Type 0 where
    pub stand : StandOrWait at xs standing
    pub counted : (n : ℕ) → get nat_eq roots n ≡ if_counted (hits n (map root xs))
