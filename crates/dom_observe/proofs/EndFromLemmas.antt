-- The transient registrations of an observer that come from one node end, where its keys stand by such nodes and only those of this node are gone through.
use Rattle.std.proofs.Common.{◌≡◌, ℕ, zero, suc, ◌+◌, ◌-◌, ◌<◌, ◌≤◌, ◌==◌, Bool, true, false, not, ◌&&◌, if◌then◌else◌, List, [], ◌∷◌, ◌++◌, length, filter, take, drop, Option, None, Some, refl, ap, sym, ◌∙◌, ◌⊎◌, inl, inr, arith, is_some, unwrap_or}
use Rattle.std.specs.Option.{option_map_or}
use Rattle.std.proofs.lemmas.{Bool.true≢false, List.take-append-drop, List.length-drop, List.Elements.filter-append}
use Rattle.dom_model.specs.Definitions.{among, is_number, Registration}
use Rattle.dom_model.proofs.PlainLists.Numbers.{same_or, same, apart}
use Rattle.dom_observe.specs.{declared.registration.Ending.Ending, declared.registration.EndedRegistrations.TheVariants.From, declared.registration.Lifetime.TheVariants.Passing, Registrations.is_live, Registrations.unless_ending, Registrations.passes_for, Registrations.origin, Registrations.origin_at, Registrations.Between, Registrations.IsFirstFrom, Registrations.IsPast}
use Rattle.dom_observe.proofs.{LeftByLemmas.filter_all, LeftByLemmas.filter_none, EndByNodeLemmas.take-whole, OrderedLemmas.taken, OrderedLemmas.dropped, TurnLemmas.all_among, NamesHeldLemmas.among-either}

-- the transient registrations of the observer that come from the node
abbrev pub all_from : ℕ → ℕ → Ending
all_from o n = record { observer = Some o; lifetime = Passing; ended = From o n }

drop-none : (i : ℕ) → drop {A = ℕ} i [] ≡ []
drop-none zero = refl
drop-none (suc i) = refl

pub drop-two : (i j : ℕ) (xs : List ℕ) → drop (i + j) xs ≡ drop j (drop i xs)
drop-two zero j xs = let e : 0 + j ≡ j = omega arith in ap (λ m. drop m xs) e
drop-two (suc i) j [] = drop-none (suc i + j) ∙ sym (drop-none j)
drop-two (suc i) j (x ∷ xs) = let e : suc i + j ≡ suc (i + j) = omega arith in ap (λ m. drop m (x ∷ xs)) e ∙ drop-two i j xs

-- what a part of a list has, that begins at a place
pub whole-rest : (xs : List ℕ) (i : ℕ) → take (length xs - i) (drop i xs) ≡ drop i xs
whole-rest xs i = take-whole (drop i xs) (length xs - i) (omega (arith, length-drop i xs))

pub whole-part : (xs : List ℕ) (i n : ℕ) → take ((i + n) - i) (drop i xs) ≡ take n (drop i xs)
whole-part xs i n = let e : (i + n) - i ≡ n = omega arith in ap (λ m. take m (drop i xs)) e

module _ (o n : ℕ) where
  stays_elsewhere : (p : Option Registration) → (option_map_or origin p 0 ≡ n → ⊥) → passes_for o p ≡ true → unless_ending (all_from o n) p ≡ p
  stays_elsewhere None ne h = refl
  stays_elsewhere (Some r) ne h = go (r.observer == o) r.source refl h
    where
      go : (b : Bool) (s : Option ℕ) → r.source ≡ s → (b && is_some s) ≡ true → (if ((b && is_some s) && not (not (b && is_number s n))) then None else Some r) ≡ Some r
      go true None f g = absurd (true≢false (sym g))
      go false s f g = absurd (true≢false (sym g))
      go true (Some m) f g = elim (same_or m n) [
        | same e t ↦ absurd (ne (ap (λ s. unwrap_or s r.node) f ∙ e))
        | apart nf t ↦ rw t refl
      ]

  goes_here : (p : Option Registration) → option_map_or origin p 0 ≡ n → passes_for o p ≡ true → unless_ending (all_from o n) p ≡ None
  goes_here None e h = absurd (true≢false (sym h))
  goes_here (Some r) e h = go (r.observer == o) r.source refl h
    where
      go : (b : Bool) (s : Option ℕ) → r.source ≡ s → (b && is_some s) ≡ true → (if ((b && is_some s) && not (not (b && is_number s n))) then None else Some r) ≡ None
      go true None f g = absurd (true≢false (sym g))
      go false s f g = absurd (true≢false (sym g))
      go true (Some m) f g = elim (same_or m n) [
        | same d t ↦ rw t refl
        | apart nf t ↦ absurd (nf (sym (ap (λ s. unwrap_or s r.node) f) ∙ e))
      ]

  module _ (u v : ℕ → Option Registration) (keys : List ℕ) (first count : ℕ) (owned : (k : ℕ) → among k keys ≡ passes_for o (u k)) (from : IsFirstFrom u n keys first) (past : IsPast u n (drop first keys) count)
      (between : (k : ℕ) → Between (all_from o n) (u k) (v k)) (done : (k : ℕ) → among k (take count (drop first keys)) ≡ true → v k ≡ unless_ending (all_from o n) (u k)) where
    abbrev middle : List ℕ
    middle = take count (drop first keys)

    abbrev rest : List ℕ
    rest = drop count (drop first keys)

    split : take first keys ++ (middle ++ rest) ≡ keys
    split = ap (λ xs. take first keys ++ xs) (take-append-drop count (drop first keys)) ∙ take-append-drop first keys

    apart_from : (k : ℕ) → (among k (take first keys) ≡ true) ⊎ (among k rest ≡ true) → origin_at u k ≡ n → ⊥
    apart_from k (inl m) e = let lt = all_among (λ k. origin_at u k < n) (take first keys) k from.ahead m in omega arith
    apart_from k (inr m) e = let lt = all_among (λ k. n < origin_at u k) rest k past.behind m in omega arith

    its : (k : ℕ) → (among k (take first keys) ≡ true) ⊎ (among k rest ≡ true) → among k keys ≡ true
    its k (inl m) = taken k first keys m
    its k (inr m) = dropped k first keys (dropped k count (drop first keys) m)

    stays : (k : ℕ) → (among k (take first keys) ≡ true) ⊎ (among k rest ≡ true) → (v k ≡ u k) × (v k ≡ unless_ending (all_from o n) (u k))
    stays k m = go (between k)
      where
        left : unless_ending (all_from o n) (u k) ≡ u k
        left = stays_elsewhere (u k) (apart_from k m) (sym (owned k) ∙ its k m)

        go : Between (all_from o n) (u k) (v k) → (v k ≡ u k) × (v k ≡ unless_ending (all_from o n) (u k))
        go (inl e) = (e, e ∙ sym left)
        go (inr e) = (e ∙ left, e)

    -- what stood under each key is gone through, as it were
    pub from-done : (k : ℕ) → among k keys ≡ true → v k ≡ unless_ending (all_from o n) (u k)
    from-done k m = go (among-either k (take first keys) (middle ++ rest) (ap (among k) split ∙ m))
      where
        behind : (among k middle ≡ true) ⊎ (among k rest ≡ true) → v k ≡ unless_ending (all_from o n) (u k)
        behind (inl h) = done k h
        behind (inr h) = (stays k (inr h)).1

        go : (among k (take first keys) ≡ true) ⊎ (among k (middle ++ rest) ≡ true) → v k ≡ unless_ending (all_from o n) (u k)
        go (inl h) = (stays k (inl h)).1
        go (inr h) = behind (among-either k middle rest h)

    alive : (k : ℕ) → (among k (take first keys) ≡ true) ⊎ (among k rest ≡ true) → is_live v k ≡ true
    alive k m = ap is_some (stays k m).0 ∙ live (u k) (sym (owned k) ∙ its k m)
      where
        live : (p : Option Registration) → passes_for o p ≡ true → is_some p ≡ true
        live None h = h
        live (Some r) h = refl

    dead : (k : ℕ) → among k middle ≡ true → is_live v k ≡ false
    dead k m = ap is_some (done k m ∙ goes_here (u k) here (sym (owned k) ∙ dropped k first keys (taken k count (drop first keys) m)))
      where
        here : origin_at u k ≡ n
        here =
            let low = all_among (λ k. n ≤ origin_at u k) (drop first keys) k from.behind (taken k count (drop first keys) m) in
            let high = all_among (λ k. origin_at u k ≤ n) middle k past.ahead m in
            omega arith

    -- the keys of those that stay are left
    pub from-keys : filter (is_live v) keys ≡ take first keys ++ rest
    from-keys =
        ap (filter (is_live v)) (sym split)
        ∙ filter-append (is_live v) (take first keys) (middle ++ rest)
        ∙ ap (λ xs. filter (is_live v) (take first keys) ++ xs) (filter-append (is_live v) middle rest ∙ ap (λ xs. xs ++ filter (is_live v) rest) (filter_none (is_live v) middle dead))
        ∙ (λ i. sym (filter_all (is_live v) (take first keys) (λ k m. alive k (inl m))) i ++ sym (filter_all (is_live v) rest (λ k m. alive k (inr m))) i)
