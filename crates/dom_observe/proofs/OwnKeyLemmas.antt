-- The observer's registration on a node stands under a key of the node and of the observer, and under no other.
use Rattle.std.proofs.Common.{◌≡◌, ℕ, ◌==◌, Bool, true, false, ◌&&◌, if◌then◌else◌, List, [], ◌∷◌, find, Option, None, Some, refl, ap, sym, ◌∙◌, cond, is_none}
use Rattle.std.specs.Option.{option_map_or}
use Rattle.std.proofs.lemmas.Bool.{true≢false}
use Rattle.dom_model.specs.Definitions.{among, Registration, is_registered}
use Rattle.dom_model.proofs.PlainLists.Numbers.{same_or, same, apart}
use Rattle.dom_observe.specs.Registrations.{own_at, is_on_node, lasts_for}
use Rattle.dom_observe.proofs.{ReobserveLemmas.find_own, AgreeLemmas.not_found}

-- it is on the node, and lasts
pub on-lasts : (o n : ℕ) (p : Option Registration) → option_map_or (is_registered o n) p false ≡ true → is_on_node n p ≡ lasts_for o p
on-lasts o n None h = absurd (true≢false (sym h))
on-lasts o n (Some r) h = go (r.observer == o) (r.node == n) (is_none r.source) h
  where
    go : (a b c : Bool) → (a && (b && c)) ≡ true → b ≡ (a && c)
    go true true true h = refl
    go true true false h = absurd (true≢false (sym h))
    go true false c h = absurd (true≢false (sym h))
    go false b c h = absurd (true≢false (sym h))

module _ (u : ℕ → Option Registration) (o n : ℕ) where
  among-found : (keys : List ℕ) (key : ℕ) → find (own_at u o n) keys ≡ Some key → among key keys ≡ true
  among-found [] key h = cc h
  among-found (k ∷ keys) key h = go (own_at u o n k) refl h (among-found keys key)
    where
      go : (b : Bool) → own_at u o n k ≡ b → cond b (Some k) (find (own_at u o n) keys) ≡ Some key → (find (own_at u o n) keys ≡ Some key → among key keys ≡ true) → (if k == key then true else among key keys) ≡ true
      go true e g rest = let d : k ≡ key = cc g in elim (same_or k key) [ same f t ↦ rw t refl | apart ne t ↦ absurd (ne d) ]
      go false e g rest = elim (same_or k key) [ same f t ↦ rw t refl | apart ne t ↦ rw t (rest g) ]

  -- two lists that both have it, where one has, find the same
  pub found-either : ((key other : ℕ) → own_at u o n key ≡ true → own_at u o n other ≡ true → other ≡ key) → (xs ys : List ℕ) → ((k : ℕ) → own_at u o n k ≡ true → among k xs ≡ among k ys)
      → find (own_at u o n) xs ≡ find (own_at u o n) ys
  found-either one xs ys both = go (find (own_at u o n) xs) (find (own_at u o n) ys) refl refl
    where
      go : (a b : Option ℕ) → find (own_at u o n) xs ≡ a → find (own_at u o n) ys ≡ b → a ≡ b
      go None None e f = refl
      go (Some k) (Some j) e f = ap Some (one j k (find_own u o n ys j f) (find_own u o n xs k e))
      go (Some k) None e f =
          let own = find_own u o n xs k e in
          absurd (true≢false (sym own ∙ not_found u o n ys f k (sym (both k own) ∙ among-found xs k e)))
      go None (Some j) e f =
          let own = find_own u o n ys j f in
          absurd (true≢false (sym own ∙ not_found u o n xs e j (both j own ∙ among-found ys j f)))
