-- What ends, node by node.
use Rattle.std.proofs.Common.{◌≡◌, ℕ, zero, suc, ◌+◌, ◌<◌, ◌≤◌, ◌==◌, cond, Bool, true, false, not, ◌&&◌, if◌then◌else◌, List, [], ◌∷◌, length, filter, take, Option, None, Some, refl, ap, sym, ◌∙◌, ◌⊎◌, inl, inr, arith, is_none, is_some, slice_index_or}
use Rattle.std.proofs.lemmas.{Bool.true≢false, List.take_more}
use Rattle.dom_model.specs.Definitions.{among, Registration}
use Rattle.dom_model.proofs.PlainLists.Numbers.{Same, same_or, same, apart}
use Rattle.dom_observe.specs.{declared.registration.Ending.Ending, declared.registration.EndedRegistrations.TheVariants.Transient, declared.registration.Lifetime.TheVariants.Passing, Invariant.HaveNone, Watchers.on, Registrations.spares, Registrations.unless_ended, Registrations.unless_ending, Registrations.goes, Registrations.of_kind, Registrations.AllLive, Registrations.Between, Registrations.ending_node, Registrations.is_live, Registrations.is_on_node, Registrations.passes_for, Registrations.AreListedByNode, Registrations.Owned}
use Rattle.dom_observe.proofs.LeftByLemmas.{filter_all, among-last, either_by, live_of_placed, lasting-left}

pub take-whole : (xs : List ℕ) (i : ℕ) → length xs ≤ i → take i xs ≡ xs
take-whole [] zero h = refl
take-whole [] (suc i) h = refl
take-whole (x ∷ xs) zero h = absurd (omega arith)
take-whole (x ∷ xs) (suc i) h = ap (λ ys. x ∷ ys) (take-whole xs i (omega arith))

module _ (e : Ending) where
  again : (p : Option Registration) → unless_ending e (unless_ending e p) ≡ unless_ending e p
  again None = refl
  again (Some r) = go (goes e (Some r)) refl
    where
      go : (b : Bool) → goes e (Some r) ≡ b → unless_ending e (if b then None else Some r) ≡ (if b then None else Some r)
      go true h = refl
      go false h = rw h refl

  or_gone : (b : Bool) (p : Option Registration) → ((if b then unless_ending e p else p) ≡ p) ⊎ ((if b then unless_ending e p else p) ≡ None)
  or_gone false p = inl refl
  or_gone true p = go (goes e p)
    where
      go : (c : Bool) → ((if c then None else p) ≡ p) ⊎ ((if c then None else p) ≡ None)
      go true = inr refl
      go false = inl refl

  pub between-if : (b : Bool) (p : Option Registration) → Between e p (if b then unless_ending e p else p)
  between-if true p = inr refl
  between-if false p = inl refl

  pub between-by : {p q r : Option Registration} → r ≡ q → Between e p q → Between e p r
  between-by f (inl g) = inl (f ∙ g)
  between-by f (inr g) = inr (f ∙ g)

  pub between-two : {p q r : Option Registration} → Between e p q → Between e q r → Between e p r
  between-two (inl f) (inl g) = inl (g ∙ f)
  between-two (inl f) (inr g) = inr (g ∙ ap (unless_ending e) f)
  between-two (inr f) (inl g) = inr (g ∙ f)
  between-two {p = p} (inr f) (inr g) = inr (g ∙ ap (unless_ending e) f ∙ again p)

  -- what is left stays left
  pub done-still : (p : Option Registration) {q r : Option Registration} → q ≡ unless_ending e p → Between e q r → r ≡ unless_ending e p
  done-still p f (inl g) = g ∙ f
  done-still p f (inr g) = g ∙ ap (unless_ending e) f ∙ again p

  -- what is left of either is the same
  pub done-now : {p q : Option Registration} → Between e p q → unless_ending e q ≡ unless_ending e p
  done-now (inl f) = ap (unless_ending e) f
  done-now {p = p} (inr f) = ap (unless_ending e) f ∙ again p

  pub between-gone : {p q : Option Registration} → Between e p q → (q ≡ p) ⊎ (q ≡ None)
  between-gone (inl f) = inl f
  between-gone {p = p} (inr f) = either_by f (or_gone true p)

  pub ends-none : (p : Option Registration) → ending_node e p ≡ None → unless_ending e p ≡ p
  ends-none None h = refl
  ends-none (Some r) h = go (goes e (Some r)) h
    where
      go : (b : Bool) → (if b then Some r.node else None) ≡ None → (if b then None else Some r) ≡ Some r
      go true g = let d : ⊥ = cc g in absurd d
      go false g = refl

  pub ends-here : (p : Option Registration) (node : ℕ) → ending_node e p ≡ Some node → is_on_node node p ≡ true
  ends-here None node h = let d : ⊥ = cc h in absurd d
  ends-here (Some r) node h = go (goes e (Some r)) h
    where
      go : (b : Bool) → (if b then Some r.node else None) ≡ Some node → (r.node == node) ≡ true
      go true g = let d : r.node ≡ node = cc g in elim (same_or r.node node) [ same _ t ↦ t | apart ne _ ↦ absurd (ne d) ]
      go false g = let d : ⊥ = cc g in absurd d

  -- where the observer's keys are gone through, what is left is what the step leaves of them
  pub kind-left : (p : Option Registration) (b : Bool) → b ≡ of_kind e.lifetime e.observer p → unless_ending e p ≡ (if b then unless_ended e.ended p else p)
  kind-left None true h = refl
  kind-left None false h = refl
  kind-left (Some r) b h = go b (of_kind e.lifetime e.observer (Some r)) (spares e.ended r) h
    where
      go : (b k s : Bool) → b ≡ k → (if k && not s then None else Some r) ≡ (if b then (if s then Some r else None) else Some r)
      go true true true f = refl
      go true true false f = refl
      go true false s f = absurd (true≢false f)
      go false true s f = absurd (true≢false (sym f))
      go false false s f = refl

  -- one more key of several is gone through
  module _ (u0 u v : ℕ → Option Registration) (keys : List ℕ) (i d : ℕ) (lt : i < length keys) where
    pub out-next : ((k : ℕ) → u k ≡ (if among k (take i keys) then unless_ending e (u0 k) else u0 k)) → ((k : ℕ) → v k ≡ (if k == slice_index_or keys i d then unless_ending e (u k) else u k))
        → (k : ℕ) → v k ≡ (if among k (take (i + 1) keys) then unless_ending e (u0 k) else u0 k)
    out-next left0 left k =
        left k
        ∙ (λ j. if k == slice_index_or keys i d then unless_ending e (left0 k j) else left0 k j)
        ∙ go (among k (take i keys)) (same_or k (slice_index_or keys i d))
        ∙ sym (ap (λ b. if b then unless_ending e (u0 k) else u0 k) (ap (among k) (take_more keys i d lt) ∙ among-last k (slice_index_or keys i d) (take i keys)))
      where
        go : (b : Bool) → Same k (slice_index_or keys i d) → (if k == slice_index_or keys i d then unless_ending e (if b then unless_ending e (u0 k) else u0 k) else (if b then unless_ending e (u0 k) else u0 k))
            ≡ (if (if slice_index_or keys i d == k then true else b) then unless_ending e (u0 k) else u0 k)
        go b (same f t) =
            let s : (slice_index_or keys i d == k) ≡ true = elim (same_or (slice_index_or keys i d) k) [ same _ w ↦ w | apart ne w ↦ absurd (ne (sym f)) ] in
            rw (t, s) (by b)
          where
            by : (c : Bool) → unless_ending e (if c then unless_ending e (u0 k) else u0 k) ≡ unless_ending e (u0 k)
            by true = again (u0 k)
            by false = refl
        go b (apart ne t) =
            let s : (slice_index_or keys i d == k) ≡ false = elim (same_or (slice_index_or keys i d) k) [ same f w ↦ absurd (ne (sym f)) | apart _ w ↦ w ] in
            rw (t, s) refl

    pub done-next : ((k : ℕ) → among k (take i keys) ≡ true → u k ≡ unless_ending e (u0 k)) → ((k : ℕ) → Between e (u k) (v k)) → v (slice_index_or keys i d) ≡ unless_ending e (u0 (slice_index_or keys i d))
        → (k : ℕ) → among k (take (i + 1) keys) ≡ true → v k ≡ unless_ending e (u0 k)
    done-next done more now k m = go (same_or (slice_index_or keys i d) k) (sym (ap (among k) (take_more keys i d lt) ∙ among-last k (slice_index_or keys i d) (take i keys)) ∙ m)
      where
        go : Same (slice_index_or keys i d) k → (if slice_index_or keys i d == k then true else among k (take i keys)) ≡ true → v k ≡ unless_ending e (u0 k)
        go (same f t) h = ap v (sym f) ∙ now ∙ ap (λ j. unless_ending e (u0 j)) f
        go (apart ne t) h = let w = rw t at h in done-still (u0 k) (done k w) (more k)

  -- the keys of one more observer are gone through
  module _ (u0 u v : ℕ → Option Registration) (lists : List (List ℕ)) (some : List ℕ) (o : ℕ) (between : (k : ℕ) → Between e (u0 k) (u k)) (more : (k : ℕ) → Between e (u k) (v k)) where
    pub done-more : ((p : ℕ) → among p some ≡ true → (k : ℕ) → among k (slice_index_or lists p []) ≡ true → u k ≡ unless_ending e (u0 k)) → ((k : ℕ) → among k (slice_index_or lists o []) ≡ true → v k ≡ unless_ending e (u k))
        → (p : ℕ) → (if o == p then true else among p some) ≡ true → (k : ℕ) → among k (slice_index_or lists p []) ≡ true → v k ≡ unless_ending e (u0 k)
    done-more done now p h k m = go (same_or o p)
      where
        go : Same o p → v k ≡ unless_ending e (u0 k)
        go (same f t) = now k (ap (λ q. among k (slice_index_or lists q [])) f ∙ m) ∙ done-now (between k)
        go (apart ne t) = let g = rw t at h in done-still (u0 k) (done p g k m) (more k)

  -- what ends on one node has gone
  module _ (u v : ℕ → Option Registration) (lists : List (ℕ × List ℕ)) (node : ℕ) (placed : AreListedByNode u lists) (left : (k : ℕ) → v k ≡ (if among k (on node lists) then unless_ending e (u k) else u k)) where
    pub on-between : (k : ℕ) → Between e (u k) (v k)
    on-between k = between-by (left k) (between-if (among k (on node lists)) (u k))

    pub on-or_gone : (k : ℕ) → (v k ≡ u k) ⊎ (v k ≡ None)
    on-or_gone k = either_by (left k) (or_gone (among k (on node lists)) (u k))

    pub on-done : (k : ℕ) → ending_node e (u k) ≡ Some node → v k ≡ unless_ending e (u k)
    on-done k some = left k ∙ ap (λ b. if b then unless_ending e (u k) else u k) (placed node k ∙ ends-here (u k) node some)

    pub on-swept : (lists' : List (ℕ × List ℕ)) → ((n : ℕ) → on n lists' ≡ (if n == node then filter (is_live v) (on n lists) else on n lists)) → (n : ℕ) → on n lists' ≡ filter (is_live v) (on n lists)
    on-swept lists' kept n = kept n ∙ go (same_or n node)
      where
        elsewhere : (n ≡ node → ⊥) → (p : Option Registration) → is_on_node n p ≡ true → is_on_node node p ≡ false
        elsewhere ne None h = refl
        elsewhere ne (Some r) h = elim (same_or r.node node) [
          | same f t ↦ elim (same_or r.node n) [ same g _ ↦ absurd (ne (sym g ∙ f)) | apart _ s ↦ absurd (true≢false (sym h ∙ s)) ]
          | apart _ t ↦ t
        ]

        alive : (n ≡ node → ⊥) → (k : ℕ) → among k (on n lists) ≡ true → is_live v k ≡ true
        alive ne k m =
            let here : is_on_node n (u k) ≡ true = sym (placed n k) ∙ m in
            ap is_some (left k ∙ ap (λ b. if b then unless_ending e (u k) else u k) (placed node k ∙ elsewhere ne (u k) here)) ∙ live_of_placed n (u k) here

        go : Same n node → (if n == node then filter (is_live v) (on n lists) else on n lists) ≡ filter (is_live v) (on n lists)
        go (same f t) = rw t refl
        go (apart ne t) = rw t (filter_all (is_live v) (on n lists) (alive ne))

  -- what ends under one key has gone
  module _ (u v : ℕ → Option Registration) (key : ℕ) where
    pub one-ends : (node : ℕ) → ending_node e (u key) ≡ Some node → ((k : ℕ) → v k ≡ (if k == key then None else u k)) → v key ≡ unless_ending e (u key)
    one-ends node some left = left key ∙ here (same_or key key) ∙ sym (gone (u key) some)
      where
        here : Same key key → (if key == key then None else u key) ≡ None
        here (same f t) = rw t refl
        here (apart ne t) = absurd (ne refl)

        gone : (p : Option Registration) → ending_node e p ≡ Some node → unless_ending e p ≡ None
        gone None h = refl
        gone (Some r) h = go (goes e (Some r)) h
          where
            go : (b : Bool) → (if b then Some r.node else None) ≡ Some node → (if b then None else Some r) ≡ None
            go true g = refl
            go false g = let d : ⊥ = cc g in absurd d

    pub one-between : v key ≡ unless_ending e (u key) → ((k : ℕ) → v k ≡ (if k == key then None else u k)) → (k : ℕ) → Between e (u k) (v k)
    one-between ends left k = go (same_or k key)
      where
        go : Same k key → Between e (u k) (v k)
        go (same f t) = inr (ap v f ∙ ends ∙ ap (λ j. unless_ending e (u j)) (sym f))
        go (apart ne t) = inl (left k ∙ ap (λ b. if b then None else u k) t)

  -- where all keys of the observer are gone through, what is left is what the step leaves of what stood under them
  pub all-done : (u v : ℕ → Option Registration) (keys : List ℕ) → ((k : ℕ) → among k keys ≡ of_kind e.lifetime e.observer (u k)) → ((k : ℕ) → Between e (u k) (v k)) → ((k : ℕ) → among k keys ≡ true → v k ≡ unless_ending e (u k))
      → (k : ℕ) → v k ≡ (if among k keys then unless_ended e.ended (u k) else u k)
  all-done u v keys owned between done k = go (among k keys) refl (between k)
    where
      left : unless_ending e (u k) ≡ (if among k keys then unless_ended e.ended (u k) else u k)
      left = kind-left (u k) (among k keys) (owned k)

      go : (b : Bool) → among k keys ≡ b → Between e (u k) (v k) → v k ≡ (if b then unless_ended e.ended (u k) else u k)
      go true f z = done k f ∙ left ∙ ap (λ b. if b then unless_ended e.ended (u k) else u k) f
      go false f (inl g) = g
      go false f (inr g) = g ∙ left ∙ ap (λ b. if b then unless_ended e.ended (u k) else u k) f

-- something stands under each of the keys of a node
pub all_live-placed : (u : ℕ → Option Registration) (node : ℕ) (keys : List ℕ) → ((k : ℕ) → among k keys ≡ true → is_on_node node (u k) ≡ true) → AllLive u keys
all_live-placed u node [] each = tt
all_live-placed u node (k ∷ keys) each = (live_of_placed node (u k) (each k (here (same_or k k))), all_live-placed u node keys (λ j m. each j (ap (λ b. if k == j then true else b) m ∙ or_true (k == j))))
  where
    here : Same k k → (if k == k then true else among k keys) ≡ true
    here (same e t) = rw t refl
    here (apart ne t) = absurd (ne refl)

    or_true : (b : Bool) → (if b then true else true) ≡ true
    or_true true = refl
    or_true false = refl

-- What goes from under one key, with the key.
module _ (u v : ℕ → Option Registration) (key : ℕ) (left : (k : ℕ) → v k ≡ (if k == key then None else u k)) where
  pub one-or_gone : (k : ℕ) → (v k ≡ u k) ⊎ (v k ≡ None)
  one-or_gone k = either_by (left k) (go (k == key))
    where
      go : (b : Bool) → ((if b then None else u k) ≡ u k) ⊎ ((if b then None else u k) ≡ None)
      go true = inr refl
      go false = inl refl

  -- of live keys those that are left are the others
  pub one-kept : (keys : List ℕ) → AllLive u keys → filter (λ k. not (k == key)) keys ≡ filter (is_live v) keys
  one-kept [] live = refl
  one-kept (k ∷ keys) live = (λ i. cond (here i) (k ∷ one-kept keys live.1 i) (one-kept keys live.1 i))
    where
      go : (b : Bool) → (k == key) ≡ b → not b ≡ is_some (if b then None else u k)
      go true e = refl
      go false e = sym live.0

      here : not (k == key) ≡ is_live v k
      here = go (k == key) refl ∙ ap is_some (sym (left k))

  -- the others stay on the other nodes
  pub one-swept : (lists lists' : List (ℕ × List ℕ)) (node : ℕ) → AreListedByNode u lists → is_on_node node (u key) ≡ true → ((n : ℕ) → on n lists' ≡ (if n == node then filter (is_live v) (on n lists) else on n lists))
      → (n : ℕ) → on n lists' ≡ filter (is_live v) (on n lists)
  one-swept lists lists' node placed there kept n = kept n ∙ go (same_or n node)
    where
      elsewhere : (n ≡ node → ⊥) → (p : Option Registration) → is_on_node n p ≡ true → is_on_node node p ≡ true → ⊥
      elsewhere ne None h g = true≢false (sym h)
      elsewhere ne (Some r) h g = elim (same_or r.node node) [
        | same f t ↦ elim (same_or r.node n) [ same d _ ↦ ne (sym d ∙ f) | apart _ s ↦ true≢false (sym h ∙ s) ]
        | apart _ t ↦ true≢false (sym g ∙ t)
      ]

      alive : (n ≡ node → ⊥) → (k : ℕ) → among k (on n lists) ≡ true → is_live v k ≡ true
      alive ne k m = elim (same_or k key) [
        | same f t ↦ absurd (elsewhere ne (u k) (sym (placed n k) ∙ m) (ap (λ j. is_on_node node (u j)) f ∙ there))
        | apart nf t ↦ ap is_some (left k ∙ ap (λ b. if b then None else u k) t) ∙ live_of_placed n (u k) (sym (placed n k) ∙ m)
      ]

      go : Same n node → (if n == node then filter (is_live v) (on n lists) else on n lists) ≡ filter (is_live v) (on n lists)
      go (same f t) = rw t refl
      go (apart ne t) = rw t (filter_all (is_live v) (on n lists) (alive ne))

-- every transient registration, of whichever observer
abbrev pub every_transient : Ending
every_transient = record { observer = None; lifetime = Passing; ended = Transient }

every-left : (p : Option Registration) → unless_ending every_transient p ≡ unless_ended Transient p
every-left None = refl
every-left (Some r) = go r.source
  where
    go : (s : Option ℕ) → (if (is_some s && not (is_none s)) then None else Some r) ≡ (if is_none s then Some r else None)
    go None = refl
    go (Some n) = refl

-- where the keys of each observer that has transient ones are gone through, none is left
module _ (u v : ℕ → Option Registration) (lists : List (List ℕ)) (some : List ℕ) (owned : Owned passes_for u lists) (all : HaveNone some lists)
    (between : (k : ℕ) → Between every_transient (u k) (v k)) (done : (o : ℕ) → among o some ≡ true → (k : ℕ) → among k (slice_index_or lists o []) ≡ true → v k ≡ unless_ending every_transient (u k)) where
  pub transients-gone : (k : ℕ) → v k ≡ unless_ended Transient (u k)
  transients-gone k = go (between k)
    where
      gone : (o : ℕ) (b : Bool) → among o some ≡ b → among k (slice_index_or lists o []) ≡ true → v k ≡ unless_ended Transient (u k)
      gone o true g h = done o g k h ∙ every-left (u k)
      gone o false g h = absurd (true≢false (sym h ∙ ap (among k) (all o g)))

      one : (r : Registration) → u k ≡ Some r → (b : Bool) → among k (slice_index_or lists r.observer []) ≡ b → v k ≡ u k → v k ≡ unless_ended Transient (u k)
      one r e true h f = gone r.observer (among r.observer some) refl h
      one r e false h f =
          let lasts : passes_for r.observer (Some r) ≡ false = ap (passes_for r.observer) (sym e) ∙ sym (owned r.observer k) ∙ h in
          f ∙ sym (ap (unless_ended Transient) e ∙ lasting-left r lasts ∙ sym e)

      stood : (p : Option Registration) → u k ≡ p → v k ≡ u k → v k ≡ unless_ended Transient (u k)
      stood None e f = f ∙ e ∙ sym (ap (unless_ended Transient) e)
      stood (Some r) e f = one r e (among k (slice_index_or lists r.observer [])) refl f

      go : Between every_transient (u k) (v k) → v k ≡ unless_ended Transient (u k)
      go (inl f) = stood (u k) refl f
      go (inr f) = f ∙ every-left (u k)
