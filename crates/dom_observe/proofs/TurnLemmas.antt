-- The keys of a node stand by their turns, as registrations come in and end; and so the place of each is found.
use Rattle.std.proofs.Common.{◌≡◌, ◌≢◌, ℕ, zero, suc, ◌+◌, ◌-◌, ◌<◌, ◌≤◌, ◌==◌, Bool, true, false, not, ◌&&◌, if◌then◌else◌, List, [], ◌∷◌, ◌++◌, length, filter, Option, option_map, None, Some, refl, ap, sym, ◌∙◌, subst, cond, ◌⊎◌, inl, inr, ltb, append-nil, arith, is_some, slice_get, slice_index_or, remove, Result, Ok, Err, IfOk, IfSome}
use Rattle.std.specs.{Result.result_ok, Option.option_map_or, List.AllByRecursion, List.Sorted.IsNonDecreasingBy, List.Sorted.IsPartitionPoint}
use Rattle.std.proofs.lemmas.Bool.{true≢false, ltb-true, ltb-false}
use Rattle.slab.specs.Slab.{Slab, get}
use Rattle.dom_model.specs.Definitions.{among}
use Rattle.dom_model.proofs.PlainLists.{Numbers.Same, Numbers.same_or, Numbers.same, Numbers.apart, Heads.among-first}
use Rattle.dom_observe.specs.{declared.registration.Registration.Registration, Watchers.on, Registrations.plain, Registrations.in_table, Registrations.is_live, Registrations.is_on_node, Registrations.AreListedByNode, Turns.turn_at, Turns.Rises, Turns.Rising, Turns.Fewer}
use Rattle.dom_observe.proofs.{LeftByLemmas.filter_all, LeftByLemmas.among-filter, LeftByLemmas.at-get, RegistrationTableLemmas.all_at}
use Rattle.dom_model.proofs.MutationObservers.Queues.{among-later}

-- Keys among others.

or_true : (b : Bool) → (if b then true else true) ≡ true
or_true true = refl
or_true false = refl

pub all_among : (P : ℕ → Type 0) (keys : List ℕ) (j : ℕ) → AllByRecursion P keys → among j keys ≡ true → P j
all_among P [] j h m = absurd (true≢false (sym m))
all_among P (k ∷ keys) j h m = go (same_or k j) (all_among P keys j h.1)
  where
    go : Same k j → (among j keys ≡ true → P j) → P j
    go (same e t) rest = subst P e h.0
    go (apart ne t) rest = let w = rw t at m in rest w

pub all_filter : (P : ℕ → Type 0) (p : ℕ → Bool) (keys : List ℕ) → AllByRecursion P keys → AllByRecursion P (filter p keys)
all_filter P p [] h = tt
all_filter P p (k ∷ keys) h = go (p k) (all_filter P p keys h.1)
  where
    go : (b : Bool) → AllByRecursion P (filter p keys) → AllByRecursion P (cond b (k ∷ filter p keys) (filter p keys))
    go true rest = (h.0, rest)
    go false rest = rest

-- Turns that rise.

module _ (turn : ℕ → ℕ) where
  pub rises-filter : (p : ℕ → Bool) (keys : List ℕ) → Rises turn keys → Rises turn (filter p keys)
  rises-filter p [] h = tt
  rises-filter p (k ∷ keys) h = go (p k) (rises-filter p keys h.1)
    where
      go : (b : Bool) → Rises turn (filter p keys) → Rises turn (cond b (k ∷ filter p keys) (filter p keys))
      go true rest = (all_filter (λ j. turn k < turn j) p keys h.0, rest)
      go false rest = rest

  -- one that is later than all comes last
  pub rises-last : (x : ℕ) (keys : List ℕ) → ((k : ℕ) → among k keys ≡ true → turn k < turn x) → Rises turn keys → Rises turn (keys ++ x ∷ [])
  rises-last x [] late h = (tt, tt)
  rises-last x (k ∷ keys) late h = (all keys h.0, rises-last x keys (λ j m. late j (among-later j k keys m)) h.1)
    where
      all : (js : List ℕ) → AllByRecursion (λ j. turn k < turn j) js → AllByRecursion (λ j. turn k < turn j) (js ++ x ∷ [])
      all [] t = (late k (among-first k keys), tt)
      all (j ∷ js) t = (t.0, all js t.1)

  -- no turn is higher than the last
  pub below-last : (keys : List ℕ) (i x : ℕ) → slice_get keys i ≡ Some x → length keys ≤ suc i → Rises turn keys → (k : ℕ) → among k keys ≡ true → turn k ≤ turn x
  below-last [] i x is most h k m = absurd (true≢false (sym m))
  below-last (j ∷ []) zero x is most h k m = go (same_or j k)
    where
      go : Same j k → turn k ≤ turn x
      go (same e t) = let f : j ≡ x = cc is in let d = ap turn (sym e ∙ f) in omega arith
      go (apart ne t) = let w = rw t at m in absurd (true≢false (sym w))
  below-last (j ∷ (l ∷ keys)) zero x is most h k m = absurd (omega arith)
  below-last (j ∷ keys) (suc i) x is most h k m = go (same_or j k) (below-last keys i x is (omega arith) h.1 k)
    where
      go : Same j k → (among k keys ≡ true → turn k ≤ turn x) → turn k ≤ turn x
      go (same e t) rest = let d = ap turn e in let more = at-get (λ l. turn j < turn l) keys i x h.0 is in omega arith
      go (apart ne t) rest = let w = rw t at m in rest w

  pub non_decreasing : (keys : List ℕ) → Rises turn keys → IsNonDecreasingBy turn keys
  non_decreasing [] h i j d le lt = absurd (omega arith)
  non_decreasing (k ∷ keys) h zero zero d le lt = omega arith
  non_decreasing (k ∷ keys) h zero (suc j) d le lt = let more = all_at (λ m. turn k < turn m) keys j d h.0 (omega arith) in omega arith
  non_decreasing (k ∷ keys) h (suc i) zero d le lt = absurd (omega arith)
  non_decreasing (k ∷ keys) h (suc i) (suc j) d le lt = non_decreasing keys h.1 i j d (omega arith) (omega arith)

  -- the place behind those whose turns are lower is that of the key
  module _ (key : ℕ) where
    abbrev lower : ℕ → Bool
    lower k = ltb (turn k) (turn key)

    pub place-removes : (keys : List ℕ) (i : ℕ) → Rises turn keys → among key keys ≡ true → i ≤ length keys → IsPartitionPoint (λ k. lower k ≡ true) (λ k. lower k ≡ false) keys i
        → (i < length keys) × (remove keys i ≡ filter (λ k. not (k == key)) keys)
    place-removes [] i h m most point = absurd (true≢false (sym m))
    place-removes (k ∷ keys) i h m most point = go (same_or k key) i most point.0 point.1 (λ i there lt p. place-removes keys i h.1 there lt p)
      where
        Found : List ℕ → ℕ → Type 0
        Found ks i = (i < length ks) × (remove ks i ≡ filter (λ k. not (k == key)) ks)

        go : Same k key → (i : ℕ) → i ≤ length (k ∷ keys) → ((j d : ℕ) → 0 ≤ j → j < i → lower (slice_index_or (k ∷ keys) j d) ≡ true)
            → ((j d : ℕ) → i ≤ j → j < length (k ∷ keys) → lower (slice_index_or (k ∷ keys) j d) ≡ false)
            → ((i : ℕ) → among key keys ≡ true → i ≤ length keys → IsPartitionPoint (λ k. lower k ≡ true) (λ k. lower k ≡ false) keys i → Found keys i) → Found (k ∷ keys) i
        go (same e t) zero most low high rest = (omega arith, rw t (filter_all (λ j. not (j == key)) keys others))
          where
            others : (j : ℕ) → among j keys ≡ true → not (j == key) ≡ true
            others j n = elim (same_or j key) [
              | same f s ↦ let more = all_among (λ j. turn k < turn j) keys j h.0 n in let d = ap turn (f ∙ sym e) in absurd (omega arith)
              | apart ne s ↦ ap not s
            ]
        go (same e t) (suc i) most low high rest = let lt = ltb-true (turn k) (turn key) (low 0 0 (omega arith) (omega arith)) in let d = ap turn e in absurd (omega arith)
        go (apart ne t) zero most low high rest =
            let le = ltb-false (turn k) (turn key) (high 0 0 (omega arith) (omega arith)) in
            let there = rw t at m in
            let more = all_among (λ j. turn k < turn j) keys key h.0 there in
            absurd (omega arith)
        go (apart ne t) (suc i) most low high rest =
            let there = rw t at m in
            let found = rest i there (omega arith) (λ j d le lt. low (suc j) d (omega arith) (omega arith), λ j d le lt. high (suc j) d (omega arith) (omega arith)) in
            (let lt = found.0 in omega arith, rw t (ap (λ ks. k ∷ ks) found.1))

-- other turns under keys that are not among them
pub rises-same : (turn turn' : ℕ → ℕ) (keys : List ℕ) → ((k : ℕ) → among k keys ≡ true → turn' k ≡ turn k) → Rises turn keys → Rises turn' keys
rises-same turn turn' [] alike h = tt
rises-same turn turn' (k ∷ keys) alike h = (all keys (λ j m. alike j (among-later j k keys m)) h.0, rises-same turn turn' keys (λ j m. alike j (among-later j k keys m)) h.1)
  where
    all : (js : List ℕ) → ((j : ℕ) → among j js ≡ true → turn' j ≡ turn j) → AllByRecursion (λ j. turn k < turn j) js → AllByRecursion (λ j. turn' k < turn' j) js
    all [] each t = tt
    all (j ∷ js) each t = (
      let e = alike k (among-first k keys) in let f = each j (among-first j js) in let lt = t.0 in omega arith,
      all js (λ i m. each i (among-later i j js m)) t.1,
    )

-- Tables.

pub fewer-two : (a b c : Slab Registration) → Fewer a b → Fewer b c → Fewer a c
fewer-two a b c f g k = go (f k) (g k)
  where
    go : (get b k ≡ get a k) ⊎ (get b k ≡ None) → (get c k ≡ get b k) ⊎ (get c k ≡ None) → (get c k ≡ get a k) ⊎ (get c k ≡ None)
    go (inl e) (inl d) = inl (d ∙ e)
    go (inr e) (inl d) = inr (d ∙ e)
    go z (inr d) = inr d

-- the same slots have the same turns
pub turns-slots : (a b : Slab Registration) → b.slots ≡ a.slots → (k : ℕ) → turn_at b k ≡ turn_at a k
turns-slots a b same_slots k = ap (λ (slots : List (Option Registration)). option_map_or (λ (r : Registration). r.turn) (slice_index_or slots k None) 0) same_slots

-- what stood stays or goes
pub fewer-one : (a b : Slab Registration) (key : ℕ) → get b key ≡ None → ((k : ℕ) → k ≢ key → get b k ≡ get a k) → Fewer a b
fewer-one a b key gone others k = elim (same_or k key) [ same e t ↦ inr (ap (get b) e ∙ gone) | apart ne t ↦ inl (others k ne) ]

pub one-left : (a b : Slab Registration) (key : ℕ) → get b key ≡ None → ((k : ℕ) → k ≢ key → get b k ≡ get a k) → (k : ℕ) → in_table b k ≡ (if k == key then None else in_table a k)
one-left a b key gone others k = elim (same_or k key) [
  | same e t ↦ rw t (ap (λ o. option_map plain o) (ap (get b) e ∙ gone))
  | apart ne t ↦ rw t (ap (λ o. option_map plain o) (others k ne))
]

module _ (old new : Slab Registration) (lists lists' : List (ℕ × List ℕ)) where
  -- registrations end, with their keys
  pub rising-swept : Fewer old new → ((n : ℕ) → on n lists' ≡ filter (is_live (in_table new)) (on n lists)) → Rising old.slots lists → Rising new.slots lists'
  rising-swept fewer swept rising n =
      subst (Rises (turn_at new)) (sym (swept n))
      (rises-same (turn_at old) (turn_at new) (filter live (on n lists)) alike (rises-filter (turn_at old) live (on n lists) (rising n)))
    where
      live : ℕ → Bool
      live = is_live (in_table new)

      right : (a b : Bool) → (a && b) ≡ true → b ≡ true
      right true b h = h
      right false b h = absurd (true≢false (sym h))

      alike : (k : ℕ) → among k (filter live (on n lists)) ≡ true → turn_at new k ≡ turn_at old k
      alike k m = go (fewer k)
        where
          alive : is_live (in_table new) k ≡ true
          alive = right (among k (on n lists)) (live k) (sym (among-filter live k (on n lists)) ∙ m)

          go : (get new k ≡ get old k) ⊎ (get new k ≡ None) → turn_at new k ≡ turn_at old k
          go (inl e) = ap (λ o. option_map_or (λ (r : Registration). r.turn) o 0) e
          go (inr e) = absurd (true≢false (sym alive ∙ ap (λ o. is_some (option_map plain o)) e))

  -- a registration comes in that is later than those of its node
  pub rising-added : (node key : ℕ) → ((n : ℕ) → on n lists' ≡ on n lists ++ (if n == node then key ∷ [] else [])) → in_table old key ≡ None → ((k : ℕ) → among k (on node lists) ≡ true → turn_at old k < turn_at new key)
      → ((k : ℕ) → k ≢ key → turn_at new k ≡ turn_at old k) → AreListedByNode (in_table old) lists → Rising old.slots lists → Rising new.slots lists'
  rising-added node key keys vacant late others placed rising n = subst (Rises (turn_at new)) (sym (keys n)) (go (same_or n node))
    where
      absent : (m : ℕ) → among key (on m lists) ≡ false
      absent m = placed m key ∙ ap (is_on_node m) vacant

      alike : (m k : ℕ) → among k (on m lists) ≡ true → turn_at new k ≡ turn_at old k
      alike m k there = others k (λ e. true≢false (sym there ∙ ap (λ j. among j (on m lists)) e ∙ absent m))

      as_before : Rises (turn_at new) (on n lists)
      as_before = rises-same (turn_at old) (turn_at new) (on n lists) (alike n) (rising n)

      go : Same n node → Rises (turn_at new) (on n lists ++ (if n == node then key ∷ [] else []))
      go (same e t) = rw t (rises-last (turn_at new) key (on n lists) (λ k m. let f = alike n k m in let lt = late k (ap (λ j. among k (on j lists)) (sym e) ∙ m) in omega arith) as_before)
      go (apart ne t) = rw t (subst (Rises (turn_at new)) (sym (append-nil (on n lists))) as_before)

  -- the same turns and the same keys
  pub rising-same : ((k : ℕ) → turn_at new k ≡ turn_at old k) → ((n : ℕ) → on n lists' ≡ on n lists) → Rising old.slots lists → Rising new.slots lists'
  rising-same alike keys rising n = subst (Rises (turn_at new)) (sym (keys n)) (rises-same (turn_at old) (turn_at new) (on n lists) (λ k m. alike k) (rising n))

-- a turn behind the last is behind all
pub later-turn : {E : Type 0} (turn : ℕ → ℕ) (keys : List ℕ) (x : ℕ) (o : Option ℕ) (r : Result ℕ E) → slice_get keys (length keys - 1) ≡ Some x → IfSome o (λ y. y ≡ turn x + 1) → o ≡ result_ok r
    → IfOk r (λ t. Rises turn keys → (k : ℕ) → among k keys ≡ true → turn k < t)
later-turn turn keys x o (Err e) last sum is = tt
later-turn turn keys x o (Ok t) last sum is = λ rises k m.
    let more : t ≡ turn x + 1 = subst (λ p. IfSome p (λ y. y ≡ turn x + 1)) is sum in
    let most = below-last turn keys (length keys - 1) x last (omega arith) rises k m in
    omega arith
