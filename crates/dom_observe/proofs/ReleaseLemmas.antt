-- An observer is released: it goes from the list of those that are pending, and from those that may have transient registrations.
use Rattle.std.proofs.Common.{◌≡◌, ℕ, ◌==◌, Bool, true, false, if◌then◌else◌, cond, List, [], ◌∷◌, refl, ap, sym, ◌∙◌, nat_eq, ◌⊎◌, inl, inr, slice_set, Option, None, not}
use Rattle.std.specs.{List.list_any, Set.remove_key}
use Rattle.std.proofs.lemmas.Bool.{true≢false, or_parts}
use Rattle.dom_model.specs.Definitions.{among, left_out, Registration, Record}
use Rattle.dom_model.proofs.PlainLists.Numbers.{Same, same_or, same, apart}
use Rattle.dom_observe.specs.{declared.registration.EndedRegistrations.TheVariants.Of, Registrations.Registered, Registrations.at, Registrations.unless_ended, Registrations.Swept, Invariant.has_queue, Invariant.AllThere, Invariant.AreRegistered, Invariant.HoldsInvariant}
use Rattle.dom_observe.proofs.{InterestedLemmas.swapped, InterestedLemmas.among-list_any, InvariantLemmas.stand-left, QueueListLemmas.has-gone}

-- The list without it.

absent : (o : ℕ) (xs : List ℕ) → list_any (nat_eq o) xs ≡ false → xs ≡ left_out o xs
absent o [] h = refl
absent o (x ∷ xs) h =
    let parts = or_parts (nat_eq o x) (list_any (nat_eq o) xs) h in
    let off : (x == o) ≡ false = swapped x o ∙ parts.0 in
    ap (λ ys. x ∷ ys) (absent o xs parts.1) ∙ sym (ap (λ b. if b then left_out o xs else x ∷ left_out o xs) off)

-- the first is taken out, and there was no other
pub taken-out : (o : ℕ) (xs : List ℕ) → list_any (nat_eq o) (remove_key (nat_eq o) xs) ≡ false → remove_key (nat_eq o) xs ≡ left_out o xs
taken-out o [] h = refl
taken-out o (x ∷ xs) h = go (nat_eq o x) refl h (taken-out o xs)
  where
    go : (b : Bool) → nat_eq o x ≡ b → list_any (nat_eq o) (cond b xs (x ∷ remove_key (nat_eq o) xs)) ≡ false → (list_any (nat_eq o) (remove_key (nat_eq o) xs) ≡ false → remove_key (nat_eq o) xs ≡ left_out o xs)
        → cond b xs (x ∷ remove_key (nat_eq o) xs) ≡ (if x == o then left_out o xs else x ∷ left_out o xs)
    go true e none rest = absent o xs none ∙ sym (ap (λ b. if b then left_out o xs else x ∷ left_out o xs) (swapped x o ∙ e))
    go false e none rest =
        ap (λ ys. x ∷ ys) (rest (or_parts (nat_eq o x) (list_any (nat_eq o) (remove_key (nat_eq o) xs)) none).1)
        ∙ sym (ap (λ b. if b then left_out o xs else x ∷ left_out o xs) (swapped x o ∙ e))

pub among-others : (o p : ℕ) (xs : List ℕ) → (p ≡ o → ⊥) → among p (left_out o xs) ≡ among p xs
among-others o p [] ne = refl
among-others o p (x ∷ xs) ne = go (same_or x o) (same_or x p) (among-others o p xs ne)
  where
    go : Same x o → Same x p → among p (left_out o xs) ≡ among p xs → among p (if x == o then left_out o xs else x ∷ left_out o xs) ≡ (if x == p then true else among p xs)
    go (same e t) (same f u) i = absurd (ne (sym f ∙ e))
    go (same e t) (apart nf u) i = rw (t, u) i
    go (apart nf t) (same f u) i = rw t (rw u refl)
    go (apart nf t) (apart ng u) i = rw t (rw u i)

there-others : (there there' : ℕ → Bool) (o : ℕ) (xs : List ℕ) → ((p : ℕ) → (p ≡ o → ⊥) → there p ≡ true → there' p ≡ true) → AllThere there xs → AllThere there' (left_out o xs)
there-others there there' o [] more all = tt
there-others there there' o (x ∷ xs) more all = go (same_or x o) (there-others there there' o xs more all.1)
  where
    go : Same x o → AllThere there' (left_out o xs) → AllThere there' (if x == o then left_out o xs else x ∷ left_out o xs)
    go (same e t) rest = rw t rest
    go (apart ne t) rest = rw t (more x ne all.0, rest)

-- What is told of each number of a list.

pub there-each : (there : ℕ → Bool) (xs : List ℕ) → ((p : ℕ) → among p xs ≡ true → there p ≡ true) → AllThere there xs
there-each there [] h = tt
there-each there (x ∷ xs) h = (h x here, there-each there xs (λ p m. h p (more p m)))
  where
    here : (if x == x then true else among x xs) ≡ true
    here = elim (same_or x x) [ same e t ↦ rw t refl | apart ne t ↦ absurd (ne refl) ]

    more : (p : ℕ) → among p xs ≡ true → (if x == p then true else among p xs) ≡ true
    more p m = elim (same_or x p) [ same e t ↦ rw t refl | apart ne t ↦ rw t m ]

pub each-there : (there : ℕ → Bool) (xs : List ℕ) → AllThere there xs → (p : ℕ) → among p xs ≡ true → there p ≡ true
each-there there [] all p m = absurd (true≢false (sym m))
each-there there (x ∷ xs) all p m = elim (same_or x p) [
  | same e t ↦ ap there (sym e) ∙ all.0
  | apart ne t ↦ let k = rw t at m in each-there there xs all.1 p k
]

-- it was taken out of a set
module _ (o : ℕ) (old new : List ℕ) (taken : (p : ℕ) → list_any (nat_eq p) new ≡ cond (nat_eq o p) false (list_any (nat_eq p) old)) where
  among-taken : (p : ℕ) → among p new ≡ (if o == p then false else among p old)
  among-taken p = sym (among-list_any p new) ∙ taken p ∙ ap (λ b. cond (nat_eq o p) false b) (among-list_any p old) ∙ go (nat_eq o p)
    where
      go : (b : Bool) → cond b false (among p old) ≡ (if b then false else among p old)
      go true = refl
      go false = refl

  pub out-taken : (p : ℕ) → among p new ≡ false → (p ≡ o) ⊎ (among p old ≡ false)
  out-taken p off = elim (same_or o p) [
    | same e t ↦ inl (sym e)
    | apart ne t ↦ inr (sym (among-taken p ∙ ap (λ b. if b then false else among p old) t) ∙ off)
  ]

  pub there-taken : (there there' : ℕ → Bool) → ((p : ℕ) → (p ≡ o → ⊥) → there p ≡ true → there' p ≡ true) → AllThere there old → AllThere there' new
  there-taken there there' more all = there-each there' new (λ p m. go p (same_or o p) (sym (among-taken p) ∙ m))
    where
      go : (p : ℕ) → Same o p → (if o == p then false else among p old) ≡ true → there' p ≡ true
      go p (same e t) m = let k = rw t at m in absurd (true≢false (sym k))
      go p (apart ne t) m = let k = rw t at m in more p (λ e. ne (sym e)) (each-there there old all p k)

-- What the code keeps.

-- who is there stays there
pub others-there : (queues : List (Option (List Record))) (o p : ℕ) → (p ≡ o → ⊥) → has_queue queues p ≡ true → has_queue (slice_set queues o None) p ≡ true
others-there queues o p ne held_there = has-gone queues o p ∙ elim (same_or p o) [ same e t ↦ absurd (ne e) | apart _ t ↦ rw t held_there ]

module _ (reg : Registered) (queues : List (Option (List Record))) (pending : List ℕ) (kept : HoldsInvariant reg queues pending) (reg' : Registered) (o : ℕ) (left : (k : ℕ) → at reg' k ≡ unless_ended (Of o) (at reg k)) (swept : Swept reg reg') where
  pub kept-released : AreRegistered reg' → HoldsInvariant reg' (slice_set queues o None) (left_out o pending)
  kept-released are = record {
    are = are;
    stand = stand-left (at reg) (at reg') (Of o) reg.lists reg'.lists left swept (has_queue queues) (has_queue (slice_set queues o None)) (λ r stays held_there. others-there queues o r.observer (other r stays) held_there) kept.stand;
    there = there-others (has_queue queues) (has_queue (slice_set queues o None)) o pending (others-there queues o) kept.there;
  }
    where
      other : (r : Registration) → not (r.observer == o) ≡ true → r.observer ≡ o → ⊥
      other r stays e = elim (same_or r.observer o) [ same _ t ↦ let k : false ≡ true = rw t at stays in true≢false (sym k) | apart ne _ ↦ ne e ]
