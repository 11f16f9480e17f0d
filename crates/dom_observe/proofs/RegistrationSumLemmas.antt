-- How many registrations stand under keys, with no observing part at hand: as many as all nodes have together.
use Rattle.std.proofs.Common.{◌≡◌, ◌≢◌, ℕ, zero, suc, ◌+◌, ◌<◌, ◌==◌, Bool, true, false, if◌then◌else◌, List, [], ◌∷◌, length, map, filter_map, count_by, Option, None, Some, is_some, option_map, refl, ap, sym, ◌∙◌, subst, cond, arith, nat_eq, length-append, flat_map, slice_index_or}
use Rattle.std.specs.{List.AllByRecursion, List.IsDistinct, List.cons_option, List.sum_by, Map.keys_of}
use Rattle.std.proofs.lemmas.{Bool.true≢false, List.Sums.sum_by-cons}
use Rattle.dom_model.specs.Definitions.{hits, Registration}
use Rattle.dom_model.proofs.PlainLists.Numbers.{same_or, same, apart}
use Rattle.dom_model.proofs.Forests.{Climbing.hits-append, Climbing.among-hits, Climbing.not_among-hits, Below.at_itself}
use Rattle.dom_observe.specs.declared.registration.Registration as held
use Rattle.dom_observe.specs.{Watchers.on, Registrations.Registered, Registrations.plain, Registrations.at, Registrations.found, Registrations.is_on_node, Invariant.registered_nodes, Invariant.AreRegistered}

-- Numbers that are places of a list where something stands, each once: as many as stand there.

-- each a place earlier; those of the first are left out
abbrev lower : List ℕ → List ℕ
lower [] = []
lower (zero ∷ ks) = lower ks
lower (suc k ∷ ks) = k ∷ lower ks

hits-lower : (k : ℕ) (ks : List ℕ) → hits k (lower ks) ≡ hits (suc k) ks
hits-lower k [] = refl
hits-lower k (zero ∷ ks) =
    let rest = hits-lower k ks in
    elim (same_or zero (suc k)) [ same e t ↦ absurd (omega (arith, e)) | apart ne t ↦ rw t (omega (arith, rest)) ]
hits-lower k (suc j ∷ ks) =
    let rest = hits-lower k ks in
    elim (same_or j k) [
      | same e t ↦ elim (same_or (suc j) (suc k)) [ same f s ↦ rw (t, s) (omega (arith, rest)) | apart nf s ↦ absurd (nf (ap suc e)) ]
      | apart ne t ↦ elim (same_or (suc j) (suc k)) [ same f s ↦ absurd (ne (omega (arith, f))) | apart nf s ↦ rw (t, s) (omega (arith, rest)) ]
    ]

length-lower : (ks : List ℕ) → length ks ≡ hits 0 ks + length (lower ks)
length-lower [] = refl
length-lower (zero ∷ ks) = let rest = length-lower ks in omega (arith, rest)
length-lower (suc k ∷ ks) =
    let rest = length-lower ks in
    elim (same_or (suc k) zero) [ same e t ↦ absurd (omega (arith, e)) | apart ne t ↦ rw t (omega (arith, rest)) ]

first-hit : (k : ℕ) (ks : List ℕ) → hits k (k ∷ ks) ≡ 0 → ⊥
first-hit k ks none = elim (same_or k k) [ same e t ↦ (let more : 1 + hits k ks ≡ 0 = rw t at none in omega (arith, more)) | apart ne t ↦ ne refl ]

module _ {A : Type 0} where
  abbrev stands_at : List (Option A) → ℕ → Bool
  stands_at ss k = is_some (slice_index_or ss k None)

  length-places : (ss : List (Option A)) (ks : List ℕ) → ((k : ℕ) → hits k ks ≡ (if stands_at ss k then 1 else 0)) → length ks ≡ count_by is_some ss
  length-places [] [] h = refl
  length-places [] (k ∷ ks) h = absurd (first-hit k ks (h k))
  length-places (None ∷ ss) ks h =
      let rest = length-places ss (lower ks) (λ k. hits-lower k ks ∙ h (suc k)) in
      let first : hits 0 ks ≡ 0 = h 0 in
      omega (arith, first, rest, length-lower ks, sum_by-cons (λ (o : Option A). cond (is_some o) 1 0) None ss)
  length-places (Some a ∷ ss) ks h =
      let rest = length-places ss (lower ks) (λ k. hits-lower k ks ∙ h (suc k)) in
      let first : hits 0 ks ≡ 1 = h 0 in
      omega (arith, first, rest, length-lower ks, sum_by-cons (λ (o : Option A). cond (is_some o) 1 0) (Some a) ss)

-- The keys of all nodes.
abbrev all_keys : List (ℕ × List ℕ) → List ℕ
all_keys es = flat_map (λ (e : ℕ × List ℕ). e.1) es

distinct-first : (e : ℕ × List ℕ) (es : List (ℕ × List ℕ)) → IsDistinct nat_eq (keys_of (e ∷ es)) → AllByRecursion (λ n. (e.0 == n) ≡ false) (keys_of es)
unfolding IsDistinct
distinct-first e es d = d.0

distinct-rest : (e : ℕ × List ℕ) (es : List (ℕ × List ℕ)) → IsDistinct nat_eq (keys_of (e ∷ es)) → IsDistinct nat_eq (keys_of es)
unfolding IsDistinct
distinct-rest e es d = d.1

none-on : (n : ℕ) (es : List (ℕ × List ℕ)) → AllByRecursion (λ m. (n == m) ≡ false) (keys_of es) → on n es ≡ []
none-on n [] h = refl
none-on n (e ∷ es) h = rw h.0 (none-on n es h.1)

-- where no other node has a key, it is as often among the keys of all as among those of that node
hits-keys : (k n0 : ℕ) (es : List (ℕ × List ℕ)) → IsDistinct nat_eq (keys_of es) → ((n : ℕ) → n ≢ n0 → hits k (on n es) ≡ 0) → hits k (all_keys es) ≡ hits k (on n0 es)
hits-keys k n0 [] d h = refl
hits-keys k n0 (e ∷ es) d h =
    hits-append k e.1 (all_keys es)
    ∙ ap (λ m. hits k e.1 + m) (hits-keys k n0 es (distinct-rest e es d) further)
    ∙ elim (same_or n0 e.0) [
      | same f t ↦ let none : hits k (on n0 es) ≡ 0 = ap (λ m. hits k (on m es)) f ∙ ap (hits k) gone in rw t (omega (arith, none))
      | apart nf t ↦ let none = only nf in rw t (omega (arith, none))
    ]
  where
    gone : on e.0 es ≡ []
    gone = none-on e.0 es (distinct-first e es d)

    further : (n : ℕ) → n ≢ n0 → hits k (on n es) ≡ 0
    further n ne = elim (same_or n e.0) [
      | same f t ↦ ap (λ m. hits k (on m es)) f ∙ ap (hits k) gone
      | apart nf t ↦ let all = h n ne in rw t at all
    ]

    only : (n0 ≡ e.0 → ⊥) → hits k e.1 ≡ 0
    only nf = elim (same_or e.0 e.0) [
      | same g s ↦ let all = h e.0 (λ f. nf (sym f)) in rw s at all
      | apart ng s ↦ absurd (ng refl)
    ]

-- as many are found as there are keys, where something stands under each
length-found : (u : ℕ → Option Registration) (ks : List ℕ) → ((k : ℕ) → 0 < hits k ks → is_some (u k) ≡ true) → length (filter_map u ks) ≡ length ks
length-found u [] h = refl
length-found u (k ∷ ks) h = go (u k) (h k first) (length-found u ks (λ m i. h m (omega (arith, i))))
  where
    first : 0 < hits k (k ∷ ks)
    first = elim (same_or k k) [ same e t ↦ rw t (omega arith) | apart ne t ↦ absurd (ne refl) ]

    go : (o : Option Registration) → is_some o ≡ true → length (filter_map u ks) ≡ length ks → length (cons_option o (filter_map u ks)) ≡ suc (length ks)
    go None e rest = absurd (true≢false (sym e))
    go (Some r) e rest = ap suc rest

module _ (reg : Registered) (are : AreRegistered reg) where
  sum-found : (es : List (ℕ × List ℕ)) → ((k : ℕ) → 0 < hits k (all_keys es) → is_some (at reg k) ≡ true)
      → sum_by (λ (e : ℕ × List Registration). length e.1) (map (λ (e : ℕ × List ℕ). (e.0, found reg e.1)) es) ≡ length (all_keys es)
  sum-found [] h = refl
  sum-found (e ∷ es) h =
      let rest = sum-found es (λ k i. h k (let all = hits-append k e.1 (all_keys es) in omega (arith, all, i))) in
      let here = length-found (at reg) e.1 (λ k i. h k (let all = hits-append k e.1 (all_keys es) in omega (arith, all, i))) in
      sum_by-cons (λ (d : ℕ × List Registration). length d.1) (e.0, found reg e.1) (map (λ (d : ℕ × List ℕ). (d.0, found reg d.1)) es)
      ∙ (λ i. here i + rest i)
      ∙ sym (length-append e.1 (all_keys es))

  -- a key is there once if something stands under it, and else not at all
  hits-live : (k : ℕ) → hits k (all_keys reg.lists) ≡ (if is_some (at reg k) then 1 else 0)
  hits-live k = go (at reg k) refl
    where
      elsewhere : (r : Registration) (n : ℕ) → n ≢ r.node → (r.node == n) ≡ false
      elsewhere r n ne = elim (same_or r.node n) [ same f t ↦ absurd (ne (sym f)) | apart nf t ↦ t ]

      go : (o : Option Registration) → at reg k ≡ o → hits k (all_keys reg.lists) ≡ (if is_some o then 1 else 0)
      go None e =
          hits-keys k 0 reg.lists are.unique (λ n _. not_among-hits k (on n reg.lists) (are.placed n k ∙ ap (is_on_node n) e))
          ∙ not_among-hits k (on 0 reg.lists) (are.placed 0 k ∙ ap (is_on_node 0) e)
      go (Some r) e =
          let some = among-hits k (on r.node reg.lists) (are.placed r.node k ∙ ap (is_on_node r.node) e ∙ at_itself r.node) in
          let few = are.once r.node k in
          let here : hits k (on r.node reg.lists) ≡ 1 = omega (arith, some, few) in
          hits-keys k r.node reg.lists are.unique (λ n ne. not_among-hits k (on n reg.lists) (are.placed n k ∙ ap (is_on_node n) e ∙ elsewhere r n ne)) ∙ here

  kept_some : (o : Option held.Registration) → is_some (option_map plain o) ≡ is_some o
  kept_some None = refl
  kept_some (Some r) = refl

  stands : (b : Bool) → 0 < (if b then 1 else 0) → b ≡ true
  stands true i = refl
  stands false i = absurd (omega (arith, i))

  pub registrations-summed : count_by is_some reg.rows ≡ sum_by (λ (e : ℕ × List Registration). length e.1) (registered_nodes reg)
  registrations-summed =
      let places : length (all_keys reg.lists) ≡ count_by is_some reg.rows = length-places reg.rows (all_keys reg.lists) (λ k. hits-live k ∙ ap (λ b. if b then 1 else 0) (kept_some (slice_index_or reg.rows k None))) in
      sym places ∙ sym (sum-found reg.lists (λ k i. stands (is_some (at reg k)) (subst (λ n. 0 < n) (hits-live k) i)))
