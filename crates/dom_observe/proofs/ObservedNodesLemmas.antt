-- The nodes that registrations and waiting records name, asked in the order of the code and in that of the definitions.
use Rattle.std.proofs.Common.{◌≡◌, ℕ, suc, ◌+◌, ◌==◌, Bool, true, false, ◌||◌, if◌then◌else◌, List, [], ◌∷◌, ◌++◌, length, filter, refl, ap, sym, ◌∙◌, nat_eq, arith, cond, Option, unwrap_or, flat_map}
use Rattle.std.specs.{Map.keys_of, List.list_any, List.IsDistinct, List.AllByRecursion}
use Rattle.std.proofs.lemmas.{List.Folds.list_any-append, Bool.or_parts, Bool.or_from}
use Rattle.dom_model.specs.Definitions.{Registration, Observing, Record, registered_on, queue_of, nodes_of_registration, nodes_of_record, queues_from, queued_records, observed_nodes}
use Rattle.dom_model.proofs.PlainLists.{Numbers.Same, Numbers.same_or, Numbers.same, Numbers.apart, Searches.alike}
use Rattle.dom_observe.specs.{WithoutRepeats.once, Watchers.on, Watchers.records_at}
use Rattle.dom_observe.proofs.OnceLemmas.{any-once}

-- a search in the lists that a function makes
pub any-flat : {A B : Type 0} (p : B → Bool) (f : A → List B) (xs : List A) → list_any p (flat_map f xs) ≡ list_any (λ x. list_any p (f x)) xs
any-flat p f [] = refl
any-flat p f (x ∷ xs) = list_any-append p (f x) (flat_map f xs) ∙ ap (λ b. list_any p (f x) || b) (any-flat p f xs)

absent : {A : Type 0} (k : ℕ) (es : List (ℕ × List A)) → AllByRecursion (λ y. (k == y) ≡ false) (keys_of es) → on k es ≡ []
absent k [] h = refl
absent k (e ∷ es) h = rw h.0 (absent k es h.1)

module _ {A : Type 0} (p : A → Bool) where
  -- none passes under any number
  pub some_under : (n : ℕ) (es : List (ℕ × List A)) → list_any (λ e. list_any p e.1) es ≡ false → list_any p (on n es) ≡ false
  some_under n [] h = refl
  some_under n (e ∷ es) h = go (n == e.0) (some_under n es (or_parts (list_any p e.1) (list_any (λ d. list_any p d.1) es) h).1)
    where
      go : (b : Bool) → list_any p (on n es) ≡ false → list_any p (if b then e.1 else on n es) ≡ false
      go true i = (or_parts (list_any p e.1) (list_any (λ d. list_any p d.1) es) h).0
      go false i = i

  pub none_under : (es : List (ℕ × List A)) → IsDistinct nat_eq (keys_of es) → ((n : ℕ) → list_any p (on n es) ≡ false) → list_any (λ e. list_any p e.1) es ≡ false
  unfolding IsDistinct
  none_under [] u h = refl
  none_under (e ∷ es) u h = or_from (list_any p e.1) (list_any (λ d. list_any p d.1) es) here (none_under es u.1 rest)
    where
      here : list_any p e.1 ≡ false
      here = elim (same_or e.0 e.0) [ same d t ↦ rw t at (h e.0) | apart ne t ↦ absurd (ne refl) ]

      rest : (n : ℕ) → list_any p (on n es) ≡ false
      rest n = go (same_or n e.0) (h n)
        where
          go : Same n e.0 → list_any p (if n == e.0 then e.1 else on n es) ≡ false → list_any p (on n es) ≡ false
          go (same d t) i = ap (λ k. list_any p (on k es)) d ∙ ap (list_any p) (absent e.0 es u.0)
          go (apart ne t) i = rw t at i

  pub fewer : (q : A → Bool) (xs : List A) → list_any p xs ≡ false → list_any p (filter q xs) ≡ false
  fewer q [] h = refl
  fewer q (x ∷ xs) h = go (q x) (fewer q xs (or_parts (p x) (list_any p xs) h).1)
    where
      go : (b : Bool) → list_any p (filter q xs) ≡ false → list_any p (cond b (x ∷ filter q xs) (filter q xs)) ≡ false
      go true i = or_from (p x) (list_any p (filter q xs)) (or_parts (p x) (list_any p xs) h).0 i
      go false i = i

module _ (p : Registration → Bool) where
  none_on : (rs : List Registration) → ((n : ℕ) → list_any p (registered_on n rs) ≡ false) → list_any p rs ≡ false
  none_on [] h = refl
  none_on (r ∷ rs) h = or_from (p r) (list_any p rs) here (none_on rs rest)
    where
      here : p r ≡ false
      here = elim (same_or r.node r.node) [ same d t ↦ (or_parts (p r) (list_any p (registered_on r.node rs)) (rw t at (h r.node))).0 | apart ne t ↦ absurd (ne refl) ]

      rest : (n : ℕ) → list_any p (registered_on n rs) ≡ false
      rest n = go (r.node == n) (h n)
        where
          go : (b : Bool) → list_any p (cond b (r ∷ registered_on n rs) (registered_on n rs)) ≡ false → list_any p (registered_on n rs) ≡ false
          go true i = (or_parts (p r) (list_any p (registered_on n rs)) i).1
          go false i = i

  -- what is registered by node passes where what is registered does
  pub any-registered : (es : List (ℕ × List Registration)) (rs : List Registration) → IsDistinct nat_eq (keys_of es) → ((n : ℕ) → on n es ≡ once (registered_on n rs))
      → list_any (λ e. list_any p e.1) es ≡ list_any p rs
  any-registered es rs u has =
      alike (list_any (λ e. list_any p e.1) es) (list_any p rs)
      (λ none. none_on rs (λ n. sym (any-once p (registered_on n rs)) ∙ ap (list_any p) (sym (has n)) ∙ some_under p n es none))
      (λ none. none_under p es u (λ n. ap (list_any p) (has n) ∙ any-once p (registered_on n rs) ∙ fewer p (λ (r : Registration). r.node == n) rs none))

-- the records that wait are those of the queues
pub queues-waiting : (x : Observing) (places : List (Option ℕ)) (qs : List (Option (List Record))) (o : ℕ) → length places ≡ length qs
    → ((i : ℕ) → records_at qs i ≡ queue_of (i + o) x) → queues_from o places x ≡ flat_map (λ (q : Option (List Record)). unwrap_or q []) qs
queues-waiting x [] [] o e h = refl
queues-waiting x [] (q ∷ qs) o e h = absurd (omega (arith, e))
queues-waiting x (place ∷ places) [] o e h = absurd (omega (arith, e))
queues-waiting x (place ∷ places) (q ∷ qs) o e h =
    let zero_on : 0 + o ≡ o = omega arith in
    let first : unwrap_or q [] ≡ queue_of o x = h 0 ∙ ap (λ k. queue_of k x) zero_on in
    let rest = queues-waiting x places qs (suc o) (omega (arith, e)) (λ i. h (suc i) ∙ ap (λ k. queue_of k x) (later i)) in
    (λ i. sym first i ++ rest i)
  where
    later : (i : ℕ) → suc i + o ≡ i + suc o
    later i = omega arith

-- the nodes that are named, in the order of the definitions
pub any-observed : (p : ℕ → Bool) (x : Observing) → list_any p (observed_nodes x)
    ≡ (list_any (λ r. list_any p (nodes_of_registration r)) x.registrations || list_any (λ r. list_any p (nodes_of_record r)) (queued_records x))
any-observed p x =
    list_any-append p (flat_map nodes_of_registration x.registrations) (flat_map nodes_of_record (queued_records x))
    ∙ (λ i. any-flat p nodes_of_registration x.registrations i || any-flat p nodes_of_record (queued_records x) i)
