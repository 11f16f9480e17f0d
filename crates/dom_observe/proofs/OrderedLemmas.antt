-- The keys of an observer's transient registrations stand by the nodes that these come from, as registrations come in and end.
use Rattle.std.proofs.Common.{◌≡◌, ◌≢◌, ℕ, zero, suc, ◌+◌, ◌<◌, ◌≤◌, ◌==◌, Bool, true, false, if◌then◌else◌, List, [], ◌∷◌, length, filter, take, drop, Option, option_map, None, Some, refl, ap, sym, ◌∙◌, subst, cond, ◌⊎◌, inl, inr, ltb, leb, arith, slice_index_or, slice_set}
use Rattle.std.specs.{Option.option_map_or, List.AllByRecursion, List.insert, List.remove, List.Sorted.IsNonDecreasingBy, List.Sorted.IsPartitionPoint}
use Rattle.std.proofs.lemmas.{Bool.true≢false, Bool.ltb-true, Bool.ltb-false, Bool.leb-true, Bool.leb-false, List.get_or-set_same, List.get_or-set_other}
use Rattle.dom_model.specs.Definitions.{hits, among, Options, Registration}
use Rattle.dom_model.proofs.PlainLists.{Numbers.Same, Numbers.same_or, Numbers.same, Numbers.apart, Heads.among-first}
use Rattle.dom_observe.specs.Registrations.{passes_for, Owned, NewKey, origin, origin_at, with_new_options, ByOrigin, Ordered, IsFirstFrom, IsPast}
use Rattle.dom_observe.proofs.{RegistrationTableLemmas.all_at, RegistrationTableLemmas.all_imply, TurnLemmas.all_among, TurnLemmas.all_filter}
use Rattle.dom_model.proofs.MutationObservers.Queues.{among-later}

-- Keys among others.

pub all_from : (Q : ℕ → Type 0) (keys : List ℕ) → ((k : ℕ) → among k keys ≡ true → Q k) → AllByRecursion Q keys
all_from Q [] each = tt
all_from Q (k ∷ keys) each = (each k (among-first k keys), all_from Q keys (λ j m. each j (among-later j k keys m)))

pub taken : (k i : ℕ) (keys : List ℕ) → among k (take i keys) ≡ true → among k keys ≡ true
taken k zero keys m = absurd (true≢false (sym m))
taken k (suc i) [] m = absurd (true≢false (sym m))
taken k (suc i) (j ∷ keys) m = go (same_or j k) m (taken k i keys)
  where
    go : Same j k → (if j == k then true else among k (take i keys)) ≡ true → (among k (take i keys) ≡ true → among k keys ≡ true) → (if j == k then true else among k keys) ≡ true
    go (same e t) h rest = rw t refl
    go (apart ne t) h rest = let w = rw t at h in rw t (rest w)

pub dropped : (k i : ℕ) (keys : List ℕ) → among k (drop i keys) ≡ true → among k keys ≡ true
dropped k zero keys m = m
dropped k (suc i) [] m = m
dropped k (suc i) (j ∷ keys) m = among-later k j keys (dropped k i keys m)

-- a key is put among them
pub among-insert : (k : ℕ) (keys : List ℕ) (i x : ℕ) → among k (insert keys i x) ≡ (if x == k then true else among k keys)
among-insert k keys zero x = refl
among-insert k [] (suc i) x = refl
among-insert k (j ∷ keys) (suc i) x = go (j == k) (x == k) (among-insert k keys i x)
  where
    go : (a b : Bool) → among k (insert keys i x) ≡ (if b then true else among k keys) → (if a then true else among k (insert keys i x)) ≡ (if b then true else (if a then true else among k keys))
    go true true i = refl
    go true false i = refl
    go false b i = i

pub hits-insert : (k : ℕ) (keys : List ℕ) (i x : ℕ) → hits k (insert keys i x) ≡ (if x == k then 1 else 0) + hits k keys
hits-insert k keys zero x = refl
hits-insert k [] (suc i) x = refl
hits-insert k (j ∷ keys) (suc i) x = let rest = hits-insert k keys i x in omega (arith, rest)

-- and taken out again
pub remove-insert : (keys : List ℕ) (i x : ℕ) → i ≤ length keys → remove (insert keys i x) i ≡ keys
remove-insert keys zero x le = refl
remove-insert [] (suc i) x le = absurd (omega arith)
remove-insert (k ∷ keys) (suc i) x le = ap (λ ks. k ∷ ks) (remove-insert keys i x (omega arith))

-- Keys that stand by origins.

module _ (u : ℕ → Option Registration) where
  pub ordered-filter : (p : ℕ → Bool) (keys : List ℕ) → ByOrigin u keys → ByOrigin u (filter p keys)
  ordered-filter p [] h = tt
  ordered-filter p (k ∷ keys) h = go (p k) (ordered-filter p keys h.1)
    where
      go : (b : Bool) → ByOrigin u (filter p keys) → ByOrigin u (cond b (k ∷ filter p keys) (filter p keys))
      go true rest = (all_filter (λ j. origin_at u k ≤ origin_at u j) p keys h.0, rest)
      go false rest = rest

  pub ordered-drop : (i : ℕ) (keys : List ℕ) → ByOrigin u keys → ByOrigin u (drop i keys)
  ordered-drop zero keys h = h
  ordered-drop (suc i) [] h = tt
  ordered-drop (suc i) (k ∷ keys) h = ordered-drop i keys h.1

  -- one more, ahead of what comes from higher nodes
  pub ordered-insert : (x : ℕ) (keys : List ℕ) (place : ℕ) → IsPast u (origin_at u x) keys place → ByOrigin u keys → ByOrigin u (insert keys place x)
  ordered-insert x keys zero past h = (all_imply (λ k. origin_at u x < origin_at u k) (λ k. origin_at u x ≤ origin_at u k) (λ k lt. omega arith) keys past.behind, h)
  ordered-insert x [] (suc i) past h = (tt, tt)
  ordered-insert x (k ∷ keys) (suc i) past h =
      (all_put (λ j. origin_at u k ≤ origin_at u j) keys i x h.0 past.ahead.0, ordered-insert x keys i (record { ahead = past.ahead.1; behind = past.behind }) h.1)
    where
      all_put : (P : ℕ → Type 0) (js : List ℕ) (i j : ℕ) → AllByRecursion P js → P j → AllByRecursion P (insert js i j)
      all_put P js zero j all here = (here, all)
      all_put P [] (suc i) j all here = (here, tt)
      all_put P (l ∷ js) (suc i) j all here = (all.0, all_put P js i j all.1 here)

  pub non_decreasing : (keys : List ℕ) → ByOrigin u keys → IsNonDecreasingBy (origin_at u) keys
  non_decreasing [] h i j d le lt = absurd (omega arith)
  non_decreasing (k ∷ keys) h zero zero d le lt = omega arith
  non_decreasing (k ∷ keys) h zero (suc j) d le lt = all_at (λ m. origin_at u k ≤ origin_at u m) keys j d h.0 (omega arith)
  non_decreasing (k ∷ keys) h (suc i) zero d le lt = absurd (omega arith)
  non_decreasing (k ∷ keys) h (suc i) (suc j) d le lt = non_decreasing keys h.1 i j d (omega arith) (omega arith)

-- where what stands under the keys comes from stays
pub ordered-same : (u v : ℕ → Option Registration) (keys : List ℕ) → ((k : ℕ) → among k keys ≡ true → origin_at v k ≡ origin_at u k) → ByOrigin u keys → ByOrigin v keys
ordered-same u v [] alike h = tt
ordered-same u v (k ∷ keys) alike h = (all keys (λ j m. alike j (among-later j k keys m)) h.0, ordered-same u v keys (λ j m. alike j (among-later j k keys m)) h.1)
  where
    all : (js : List ℕ) → ((j : ℕ) → among j js ≡ true → origin_at v j ≡ origin_at u j) → AllByRecursion (λ j. origin_at u k ≤ origin_at u j) js → AllByRecursion (λ j. origin_at v k ≤ origin_at v j) js
    all [] each t = tt
    all (j ∷ js) each t = (
      let e = alike k (among-first k keys) in let f = each j (among-first j js) in let le = t.0 in omega arith,
      all js (λ i m. each i (among-later i j js m)) t.1,
    )

-- The two parts at a place that is found by halves.
module _ (P Q P' Q' : ℕ → Type 0) (first : (k : ℕ) → P k → P' k) (rest : (k : ℕ) → Q k → Q' k) where
  pub parts : (keys : List ℕ) (i : ℕ) → i ≤ length keys → IsPartitionPoint P Q keys i → AllByRecursion P' (take i keys) × AllByRecursion Q' (drop i keys)
  parts keys zero most point = (tt, every keys (λ j d lt. point.1 j d (omega arith) lt))
    where
      every : (ks : List ℕ) → ((j d : ℕ) → j < length ks → Q (slice_index_or ks j d)) → AllByRecursion Q' ks
      every [] each = tt
      every (k ∷ ks) each = (rest k (each 0 0 (omega arith)), every ks (λ j d lt. each (suc j) d (omega arith)))
  parts [] (suc i) most point = absurd (omega arith)
  parts (k ∷ keys) (suc i) most point =
      let more = parts keys i (omega arith) (λ j d le lt. point.0 (suc j) d (omega arith) (omega arith), λ j d le lt. point.1 (suc j) d (omega arith) (omega arith)) in
      ((first k (point.0 0 0 (omega arith) (omega arith)), more.0), more.1)

pub first_from : (u : ℕ → Option Registration) (n : ℕ) (keys : List ℕ) (i : ℕ) → i ≤ length keys → IsPartitionPoint (λ k. ltb (origin_at u k) n ≡ true) (λ k. ltb (origin_at u k) n ≡ false) keys i → IsFirstFrom u n keys i
first_from u n keys i most point =
    let both = parts (λ k. ltb (origin_at u k) n ≡ true) (λ k. ltb (origin_at u k) n ≡ false) (λ k. origin_at u k < n) (λ k. n ≤ origin_at u k)
    (λ k h. ltb-true (origin_at u k) n h) (λ k h. let le = ltb-false (origin_at u k) n h in omega arith) keys i most point in
    record { ahead = both.0; behind = both.1 }

pub past_last : (u : ℕ → Option Registration) (n : ℕ) (keys : List ℕ) (i : ℕ) → i ≤ length keys → IsPartitionPoint (λ k. leb (origin_at u k) n ≡ true) (λ k. leb (origin_at u k) n ≡ false) keys i → IsPast u n keys i
past_last u n keys i most point =
    let both = parts (λ k. leb (origin_at u k) n ≡ true) (λ k. leb (origin_at u k) n ≡ false) (λ k. origin_at u k ≤ n) (λ k. n < origin_at u k)
    (λ k h. leb-true (origin_at u k) n h) (λ k h. leb-false (origin_at u k) n h) keys i most point in
    record { ahead = both.0; behind = both.1 }

-- The keys of all observers.

-- a list is put in place of another
pub ordered-set : (u : ℕ → Option Registration) (lists lists' : List (List ℕ)) (i : ℕ) (keys : List ℕ) → i < length lists → lists' ≡ slice_set lists i keys → ByOrigin u keys → Ordered u lists → Ordered u lists'
ordered-set u lists lists' i keys lt set here all j = elim (same_or j i) [
  | same e t ↦ subst (ByOrigin u) (sym (ap (λ ls. slice_index_or ls j []) set ∙ ap (λ m. slice_index_or (slice_set lists i keys) m []) e ∙ get_or-set_same lists i keys [] lt)) here
  | apart ne t ↦ subst (ByOrigin u) (sym (ap (λ ls. slice_index_or ls j []) set ∙ get_or-set_other lists i j keys [] ne)) (all j)
]

-- A registration comes in.
module _ (u v : ℕ → Option Registration) (r : Registration) (place : ℕ) (keys keys' : List ℕ) (a : NewKey u r v place keys keys') (lists : List (List ℕ)) (owned : Owned passes_for u lists) (all : Ordered u lists) where
  stays : (j k : ℕ) → among k (slice_index_or lists j []) ≡ true → origin_at v k ≡ origin_at u k
  stays j k m = ap (λ o. option_map_or origin o 0) (a.others k (λ e. true≢false (sym m ∙ owned j k ∙ ap (λ i. passes_for j (u i)) e ∙ ap (passes_for j) a.vacant)))

  -- those of all observers stand as before
  pub ordered-beside : Ordered v lists
  ordered-beside j = ordered-same u v (slice_index_or lists j []) (stays j) (all j)

  -- its key has its place
  pub ordered-new : IsPast u (origin r) keys place → (lists' : List (List ℕ)) → r.observer < length lists → keys ≡ slice_index_or lists r.observer [] → lists' ≡ slice_set lists r.observer keys' → Ordered v lists'
  ordered-new past lists' lt had set =
      ordered-set v lists lists' r.observer keys' lt set
      (subst (ByOrigin v) (sym a.put)
      (ordered-insert v a.key keys place
      (record {
        ahead = all_from (λ k. origin_at v k ≤ origin_at v a.key) (take place keys) (λ k m.
            let le = all_among (λ k. origin_at u k ≤ origin r) (take place keys) k past.ahead m in
            let e = stays_here k (taken k place keys m) in
            let f = here in
            omega arith);
        behind = all_from (λ k. origin_at v a.key < origin_at v k) (drop place keys) (λ k m.
            let lt = all_among (λ k. origin r < origin_at u k) (drop place keys) k past.behind m in
            let e = stays_here k (dropped k place keys m) in
            let f = here in
            omega arith);
      })
      (ordered-same u v keys stays_here (subst (ByOrigin u) (sym had) (all r.observer)))))
      ordered-beside
    where
      stays_here : (k : ℕ) → among k keys ≡ true → origin_at v k ≡ origin_at u k
      stays_here k m = stays r.observer k (ap (among k) (sym had) ∙ m)

      here : origin_at v a.key ≡ origin r
      here = ap (λ o. option_map_or origin o 0) a.here

-- Registrations end, with their keys.
module _ (u v : ℕ → Option Registration) (lists : List (List ℕ)) (either : (k : ℕ) → (v k ≡ u k) ⊎ (v k ≡ None)) where
  pub ordered-ended : Owned passes_for v lists → Ordered u lists → Ordered v lists
  ordered-ended owned all j = ordered-same u v (slice_index_or lists j []) (λ k m. go k m (either k)) (all j)
    where
      go : (k : ℕ) → among k (slice_index_or lists j []) ≡ true → (v k ≡ u k) ⊎ (v k ≡ None) → origin_at v k ≡ origin_at u k
      go k m (inl e) = ap (λ o. option_map_or origin o 0) e
      go k m (inr e) = absurd (true≢false (sym m ∙ owned j k ∙ ap (passes_for j) e))

-- a registration gets other options
pub ordered-changed : (u v : ℕ → Option Registration) (key : ℕ) (options : Options) → v key ≡ option_map (with_new_options options) (u key) → ((k : ℕ) → k ≢ key → v k ≡ u k) → (lists : List (List ℕ)) → Ordered u lists → Ordered v lists
ordered-changed u v key options changed others lists all j = ordered-same u v (slice_index_or lists j []) (λ k m. alike k) (all j)
  where
    same_origin : (o : Option Registration) → option_map_or origin (option_map (with_new_options options) o) 0 ≡ option_map_or origin o 0
    same_origin None = refl
    same_origin (Some r) = refl

    alike : (k : ℕ) → origin_at v k ≡ origin_at u k
    alike k = elim (same_or k key) [
      | same e t ↦ ap (origin_at v) e ∙ ap (λ o. option_map_or origin o 0) changed ∙ same_origin (u key) ∙ sym (ap (origin_at u) e)
      | apart ne t ↦ ap (λ o. option_map_or origin o 0) (others k ne)
    ]
