-- Registrations end one by one, with their keys.
use Rattle.std.proofs.Common.{◌≡◌, ℕ, zero, suc, ◌==◌, Bool, true, false, ◌&&◌, if◌then◌else◌, List, [], ◌∷◌, ◌++◌, filter, Option, None, Some, refl, ap, sym, ◌∙◌, subst, cond, ◌⊎◌, inl, inr, is_none, is_some, slice_get}
use Rattle.std.specs.List.{AllByRecursion}
use Rattle.std.proofs.lemmas.Bool.{true≢false}
use Rattle.dom_model.specs.Definitions.{among, Registration}
use Rattle.dom_model.proofs.PlainLists.Numbers.{Same, same_or, same, apart}
use Rattle.dom_observe.specs.{declared.registration.EndedRegistrations.EndedRegistrations, Watchers.on, declared.registration.EndedRegistrations.TheVariants.Transient, Registrations.spares, Registrations.unless_ended, Registrations.is_live, Registrations.is_on_node, Registrations.passes_for, Registrations.AreListedByNode}

-- Members of lists.

module _ (p q : ℕ → Bool) where
  pub filter_same : (xs : List ℕ) → ((k : ℕ) → among k xs ≡ true → p k ≡ q k) → filter p xs ≡ filter q xs
  filter_same [] h = refl
  filter_same (x ∷ xs) h =
      let here : p x ≡ q x = h x (elim (same_or x x) [ same e t ↦ rw t refl | apart ne t ↦ absurd (ne refl) ]) in
      let rest = filter_same xs (λ k m. h k (more k m)) in
      (λ i. cond (here i) (x ∷ rest i) (rest i))
    where
      more : (k : ℕ) → among k xs ≡ true → (if x == k then true else among k xs) ≡ true
      more k m = elim (same_or x k) [ same e t ↦ rw t refl | apart ne t ↦ rw t m ]

pub filter_all : (q : ℕ → Bool) (xs : List ℕ) → ((k : ℕ) → among k xs ≡ true → q k ≡ true) → xs ≡ filter q xs
filter_all q xs h = sym (every xs) ∙ filter_same (λ _. true) q xs (λ k m. sym (h k m))
  where
    every : (ys : List ℕ) → filter (λ _. true) ys ≡ ys
    every [] = refl
    every (y ∷ ys) = ap (λ zs. y ∷ zs) (every ys)

pub among-filter : (q : ℕ → Bool) (k : ℕ) (xs : List ℕ) → among k (filter q xs) ≡ (among k xs && q k)
among-filter q k [] = refl
among-filter q k (x ∷ xs) = go (q x) refl (same_or x k) (among-filter q k xs)
  where
    both : (b : Bool) → b ≡ (true && b)
    both true = refl
    both false = refl

    go : (b : Bool) → q x ≡ b → Same x k → among k (filter q xs) ≡ (among k xs && q k) → among k (cond b (x ∷ filter q xs) (filter q xs)) ≡ ((if x == k then true else among k xs) && q k)
    go true e (same d t) i = rw t (sym (ap q (sym d) ∙ e))
    go true e (apart ne t) i = rw t i
    go false e (same d t) i = let off : q k ≡ false = ap q (sym d) ∙ e in rw t (i ∙ ap (λ b. among k xs && b) off ∙ none (among k xs) ∙ sym off)
      where
        none : (b : Bool) → (b && false) ≡ false
        none true = refl
        none false = refl
    go false e (apart ne t) i = rw t i

pub among-last : (k x : ℕ) (xs : List ℕ) → among k (xs ++ x ∷ []) ≡ (if x == k then true else among k xs)
among-last k x [] = refl
among-last k x (y ∷ xs) = go (y == k) (x == k) (among-last k x xs)
  where
    go : (a b : Bool) → among k (xs ++ x ∷ []) ≡ (if b then true else among k xs) → (if a then true else among k (xs ++ x ∷ [])) ≡ (if b then true else (if a then true else among k xs))
    go true true i = refl
    go true false i = refl
    go false b i = i

-- What ends.

-- a registration stays, or is gone
pub stays-or-gone : (ended : EndedRegistrations) (b : Bool) (o : Option Registration) → ((if b then unless_ended ended o else o) ≡ o) ⊎ ((if b then unless_ended ended o else o) ≡ None)
stays-or-gone ended false o = inl refl
stays-or-gone ended true None = inl refl
stays-or-gone ended true (Some r) = go (spares ended r)
  where
    go : (b : Bool) → ((if b then Some r else None) ≡ Some r) ⊎ ((if b then Some r else None) ≡ None)
    go true = inl refl
    go false = inr refl

pub either_by : {o p q : Option Registration} → p ≡ q → (q ≡ o) ⊎ (q ≡ None) → (p ≡ o) ⊎ (p ≡ None)
either_by e (inl f) = inl (e ∙ f)
either_by e (inr f) = inr (e ∙ f)

-- what is under no key that ended is placed as before
pub placed-left : (u v : ℕ → Option Registration) (lists lists' : List (ℕ × List ℕ)) → ((k : ℕ) → (v k ≡ u k) ⊎ (v k ≡ None)) → ((n : ℕ) → on n lists' ≡ filter (is_live v) (on n lists)) → AreListedByNode u lists → AreListedByNode v lists'
placed-left u v lists lists' left swept placed n k =
    ap (among k) (swept n) ∙ among-filter (is_live v) k (on n lists) ∙ ap (λ b. b && is_live v k) (placed n k) ∙ go (left k)
  where
    live : (o : Option Registration) → (is_on_node n o && is_some o) ≡ is_on_node n o
    live None = refl
    live (Some r) = by (r.node == n)
      where
        by : (b : Bool) → (b && true) ≡ b
        by true = refl
        by false = refl

    off : (b : Bool) → (b && false) ≡ false
    off true = refl
    off false = refl

    go : (v k ≡ u k) ⊎ (v k ≡ None) → (is_on_node n (u k) && is_live v k) ≡ is_on_node n (v k)
    go (inl e) = ap (λ o. is_on_node n o && is_live v k) (sym e) ∙ live (v k)
    go (inr e) = ap (λ o. is_on_node n (u k) && is_some o) e ∙ off (is_on_node n (u k)) ∙ sym (ap (is_on_node n) e)

pub live_of_placed : (n : ℕ) (o : Option Registration) → is_on_node n o ≡ true → is_some o ≡ true
live_of_placed n None h = h
live_of_placed n (Some r) h = refl

-- where each key of a node has what is on it, something stands under each
pub swept-none : (u : ℕ → Option Registration) (lists : List (ℕ × List ℕ)) → AreListedByNode u lists → (n : ℕ) → on n lists ≡ filter (is_live u) (on n lists)
swept-none u lists placed n = filter_all (is_live u) (on n lists) (λ k m. live_of_placed n (u k) (sym (placed n k) ∙ m))

-- two steps after each other
pub swept-two : (u v : ℕ → Option Registration) (xs ys zs : List ℕ) → ((k : ℕ) → (v k ≡ u k) ⊎ (v k ≡ None)) → ys ≡ filter (is_live u) xs → zs ≡ filter (is_live v) ys → zs ≡ filter (is_live v) xs
swept-two u v xs ys zs either first second = second ∙ ap (filter (is_live v)) first ∙ filter_filter xs
  where
    live : (k : ℕ) → is_live v k ≡ true → is_live u k ≡ true
    live k h = go (either k)
      where
        go : (v k ≡ u k) ⊎ (v k ≡ None) → is_live u k ≡ true
        go (inl e) = ap is_some (sym e) ∙ h
        go (inr e) = absurd (true≢false (sym h ∙ ap is_some e))

    filter_filter : (xs : List ℕ) → filter (is_live v) (filter (is_live u) xs) ≡ filter (is_live v) xs
    filter_filter [] = refl
    filter_filter (y ∷ ys) = go (is_live u y) refl (filter_filter ys)
      where
        go : (b : Bool) → is_live u y ≡ b → filter (is_live v) (filter (is_live u) ys) ≡ filter (is_live v) ys → filter (is_live v) (cond b (y ∷ filter (is_live u) ys) (filter (is_live u) ys)) ≡ cond (is_live v y) (y ∷ filter (is_live v) ys) (filter (is_live v) ys)
        go true e rest = (λ j. cond (is_live v y) (y ∷ rest j) (rest j))
        go false e rest = rest ∙ by (is_live v y) refl
          where
            by : (b : Bool) → is_live v y ≡ b → filter (is_live v) ys ≡ cond b (y ∷ filter (is_live v) ys) (filter (is_live v) ys)
            by true f = absurd (true≢false (sym (live y f) ∙ e))
            by false f = refl

pub filter_none : (q : ℕ → Bool) (xs : List ℕ) → ((k : ℕ) → among k xs ≡ true → q k ≡ false) → filter q xs ≡ []
filter_none q xs h = filter_same q (λ _. false) xs h ∙ nothing xs
  where
    nothing : (ys : List ℕ) → filter (λ _. false) ys ≡ []
    nothing [] = refl
    nothing (y ∷ ys) = nothing ys

-- the step is gone through for some keys
pub stays_by : (u v : ℕ → Option Registration) (keys : List ℕ) (ended : EndedRegistrations) → ((k : ℕ) → v k ≡ (if among k keys then unless_ended ended (u k) else u k)) → (k : ℕ) → (v k ≡ u k) ⊎ (v k ≡ None)
stays_by u v keys ended left k = either_by (left k) (stays-or-gone ended (among k keys) (u k))

pub stays_off : (u v : ℕ → Option Registration) (keys : List ℕ) (ended : EndedRegistrations) → ((k : ℕ) → v k ≡ (if among k keys then unless_ended ended (u k) else u k)) → (k : ℕ) → among k keys ≡ false → v k ≡ u k
stays_off u v keys ended left k off = left k ∙ ap (λ b. if b then unless_ended ended (u k) else u k) off

pub at-get : (P : ℕ → Type 0) (xs : List ℕ) (i x : ℕ) → AllByRecursion P xs → slice_get xs i ≡ Some x → P x
at-get P [] zero x all h = let d : ⊥ = cc h in absurd d
at-get P [] (suc i) x all h = let d : ⊥ = cc h in absurd d
at-get P (y ∷ xs) zero x all h = let d : y ≡ x = cc h in subst P d all.0
at-get P (y ∷ xs) (suc i) x all h = at-get P xs i x all.1 h

-- what is left has no transient registration; one that is no transient one of its observer is left
pub none-passing : (o : ℕ) (p : Option Registration) → passes_for o (unless_ended Transient p) ≡ false
none-passing o None = refl
none-passing o (Some r) = go r.source refl
  where
    off : (b : Bool) → (b && false) ≡ false
    off true = refl
    off false = refl

    go : (s : Option ℕ) → r.source ≡ s → passes_for o (if is_none s then Some r else None) ≡ false
    go None e = ap (λ s. (r.observer == o) && is_some s) e ∙ off (r.observer == o)
    go (Some n) e = refl

pub lasting-left : (r : Registration) → passes_for r.observer (Some r) ≡ false → unless_ended Transient (Some r) ≡ Some r
lasting-left r h = go r.source h
  where
    self_test : (r.observer == r.observer) ≡ true
    self_test = elim (same_or r.observer r.observer) [ same _ t ↦ t | apart ne _ ↦ absurd (ne refl) ]

    go : (s : Option ℕ) → ((r.observer == r.observer) && is_some s) ≡ false → (if is_none s then Some r else None) ≡ Some r
    go None g = refl
    go (Some n) g = let k = rw self_test at g in absurd (true≢false k)
