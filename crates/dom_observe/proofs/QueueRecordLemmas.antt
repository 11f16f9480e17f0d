-- What is told of a mutation that is queued, by the registrations that stand on the ancestors of its target.
use Rattle.std.proofs.Common.{◌≡◌, ℕ, ◌==◌, Bool, true, false, ◌&&◌, ◌||◌, if◌then◌else◌, cond, List, [], ◌∷◌, ◌++◌, map, filter, Option, None, Some, refl, ap, sym, ◌∙◌, subst, filter_map, flat_map, option_to_list}
use Rattle.std.specs.{List.AllByRecursion, List.list_any, Map.keys_of}
use Rattle.std.proofs.lemmas.Bool.{true≢false}
use Rattle.dom_model.specs.Definitions.{among, Registration, Mutation, registered_on, standing_on, Record, interests, observers_of, asks_old_value, record_for, with_last, with_all_last}
use Rattle.dom_observe.specs.{WithoutRepeats.once, Watchers.on, Registrations.Registered, Registrations.at, Registrations.HasRegistration, Registrations.AllStand, Invariant.has_queue, Invariant.AllThere, Invariant.HoldsInvariant, Interested.listeners, Interested.asked_by, Interested.flag_of, Interested.delivered}
use Rattle.dom_observe.proofs.{InvariantLemmas.stand-alike, InvariantLemmas.all_flat, InvariantLemmas.stands_of, InvariantLemmas.found_standing, InterestedLemmas.listeners-interested, InterestedLemmas.told-flag, InterestedLemmas.keys-pairs, InterestedLemmas.delivered-standing, InterestedLemmas.all_last-there, InterestedLemmas.flag-none, InterestedLemmas.last-there, InterestedLemmas.stay-last, OnceLemmas.walk, OnceLemmas.walk-standing, OnceLemmas.any-standing, RegistrationTableLemmas.all_imply}

pub standing_on-none : (ns : List ℕ) → standing_on ns [] ≡ []
standing_on-none [] = refl
standing_on-none (n ∷ ns) = standing_on-none ns

-- the keys of the ancestors have registrations
pub standing_stands : (u : ℕ → Option Registration) (there : ℕ → Bool) (lists : List (ℕ × List ℕ)) (ns keys : List ℕ) → AllStand u there lists → keys ≡ flat_map (λ n. on n lists) ns → AllByRecursion (HasRegistration u there) keys
standing_stands u there lists ns keys all is =
    subst (AllByRecursion (HasRegistration u there)) (sym is) (all_flat (HasRegistration u there) lists (λ n. stands_of u there n (on n lists) (all n)) ns)

-- of two facts of a number on the pending list
pub not_before : (p : ℕ) (old new : List ℕ) → (among p old ≡ true → among p new ≡ true) → among p new ≡ false → among p old ≡ false
not_before p old new stay off = go (among p old) refl
  where
    go : (b : Bool) → among p old ≡ b → b ≡ false
    go true e = absurd (true≢false (sym (stay e) ∙ off))
    go false e = refl

-- no listener, who is not pending afterwards
pub unheard : (p : ℕ) (ls : List (ℕ × Bool)) (old new : List ℕ) → new ≡ with_all_last old (keys_of ls) → among p new ≡ false → flag_of p ls ≡ None
unheard p ls old new pended off = flag-none p ls (go (among p (keys_of ls)) refl)
  where
    go : (b : Bool) → among p (keys_of ls) ≡ b → b ≡ false
    go true e = absurd (true≢false (sym (subst (λ ns. among p ns ≡ true) (sym pended) (all_last-there p old (keys_of ls) e)) ∙ off))
    go false e = refl

module _ (reg : Registered) (queues : List (Option (List Record))) (pending : List ℕ)
    (kept : HoldsInvariant reg queues pending) (queues' : List (Option (List Record))) (pending' : List ℕ) (same : (o : ℕ) → has_queue queues' o ≡ has_queue queues o)
    (there : AllThere (has_queue queues) pending') where
  pub kept-queued : HoldsInvariant reg queues' pending'
  kept-queued = record {
    are = kept.are;
    stand = stand-alike (at reg) (has_queue queues) (has_queue queues') reg.lists (λ o held_there. same o ∙ held_there) kept.stand;
    there = all_imply (λ o. has_queue queues o ≡ true) (λ o. has_queue queues' o ≡ true) (λ o held_there. same o ∙ held_there) pending' there;
  }

-- What listeners come to, registration by registration.
module _ (m : Mutation) where
  abbrev pub pair : Registration → ℕ × Bool
  pair r = (r.observer, asks_old_value m.type r.options)

  -- whether an observer is interested, and whether it asks, are two questions to the registrations
  abbrev verdict : Bool → Bool → Option Bool
  verdict any asks = if any then Some asks else None

  flag-verdict : (p : ℕ) (rs : List Registration) → flag_of p (map pair (filter (interests m) rs))
      ≡ verdict (list_any (λ r. interests m r && (r.observer == p)) rs) (list_any (λ r. interests m r && ((r.observer == p) && asks_old_value m.type r.options)) rs)
  flag-verdict p rs = asked (filter (λ (l : ℕ × Bool). l.0 == p) (map pair (filter (interests m) rs))) ∙ (λ i. verdict (some_one rs i) (some_asks rs i))
    where
      asked : (ls : List (ℕ × Bool)) → asked_by ls ≡ verdict (list_any (λ (l : ℕ × Bool). true) ls) (list_any (λ (l : ℕ × Bool). l.1) ls)
      asked [] = refl
      asked (l ∷ ls) = refl

      some_of : (q : ℕ × Bool → Bool) (ss : List Registration) → list_any q (filter (λ (l : ℕ × Bool). l.0 == p) (map pair (filter (interests m) ss))) ≡ list_any (λ r. interests m r && ((r.observer == p) && q (pair r))) ss
      some_of q [] = refl
      some_of q (r ∷ ss) = go (interests m r) (r.observer == p) refl (some_of q ss)
        where
          go : (b c : Bool) → (r.observer == p) ≡ c → list_any q (filter (λ (l : ℕ × Bool). l.0 == p) (map pair (filter (interests m) ss))) ≡ list_any (λ s. interests m s && ((s.observer == p) && q (pair s))) ss
              → list_any q (filter (λ (l : ℕ × Bool). l.0 == p) (map pair (cond b (r ∷ filter (interests m) ss) (filter (interests m) ss)))) ≡ ((b && (c && q (pair r))) || list_any (λ s. interests m s && ((s.observer == p) && q (pair s))) ss)
          go true true e i = rw e (ap (λ b. q (pair r) || b) i)
          go true false e i = rw e i
          go false c e i = i

      drop_true : (b : Bool) → (b && true) ≡ b
      drop_true true = refl
      drop_true false = refl

      some_one : (ss : List Registration) → list_any (λ (l : ℕ × Bool). true) (filter (λ (l : ℕ × Bool). l.0 == p) (map pair (filter (interests m) ss))) ≡ list_any (λ r. interests m r && (r.observer == p)) ss
      some_one ss = some_of (λ l. true) ss ∙ (λ i. list_any (λ r. interests m r && drop_true (r.observer == p) i) ss)

      some_asks : (ss : List Registration) → list_any (λ (l : ℕ × Bool). l.1) (filter (λ (l : ℕ × Bool). l.0 == p) (map pair (filter (interests m) ss))) ≡ list_any (λ r. interests m r && ((r.observer == p) && asks_old_value m.type r.options)) ss
      some_asks ss = some_of (λ l. l.1) ss

  flag-once : (p : ℕ) (ns : List ℕ) (rs : List Registration) → flag_of p (map pair (filter (interests m) (flat_map (λ n. once (registered_on n rs)) ns))) ≡ flag_of p (map pair (filter (interests m) (standing_on ns rs)))
  flag-once p ns rs =
      flag-verdict p (flat_map (λ n. once (registered_on n rs)) ns)
      ∙ (λ i. verdict (any-standing (λ r. interests m r && (r.observer == p)) ns rs i) (any-standing (λ r. interests m r && ((r.observer == p) && asks_old_value m.type r.options)) ns rs i))
      ∙ sym (flag-verdict p (standing_on ns rs))

  -- who is pending, one after another
  abbrev pending_by : List ℕ → Registration → List ℕ
  pending_by ps r = if interests m r then with_last ps r.observer else ps

  pending-walk : (ps : List ℕ) (rs : List Registration) → with_all_last ps (map (λ (r : Registration). r.observer) (filter (interests m) rs)) ≡ walk pending_by ps rs
  pending-walk ps [] = refl
  pending-walk ps (r ∷ rs) = go (interests m r) (pending-walk (with_last ps r.observer) rs) (pending-walk ps rs)
    where
      rest : List Registration
      rest = filter (interests m) rs

      go : (b : Bool) → with_all_last (with_last ps r.observer) (map (λ (s : Registration). s.observer) rest) ≡ walk pending_by (with_last ps r.observer) rs → with_all_last ps (map (λ (s : Registration). s.observer) rest) ≡ walk pending_by ps rs
          → with_all_last ps (map (λ (s : Registration). s.observer) (cond b (r ∷ rest) rest)) ≡ walk pending_by (if b then with_last ps r.observer else ps) rs
      go true i j = i
      go false i j = j

  abbrev Has : List ℕ → Registration → Type 0
  Has ps r = interests m r ≡ true → among r.observer ps ≡ true

  gets : (ps : List ℕ) (r : Registration) → Has (pending_by ps r) r
  gets ps r h = ap (λ b. among r.observer (if b then with_last ps r.observer else ps)) h ∙ last-there r.observer ps

  keeps : (ps : List ℕ) (r s : Registration) → Has ps r → Has (pending_by ps s) r
  keeps ps r s known h = go (interests m s)
    where
      go : (b : Bool) → among r.observer (if b then with_last ps s.observer else ps) ≡ true
      go true = stay-last r.observer s.observer ps (known h)
      go false = known h

  again : (ps : List ℕ) (r : Registration) → Has ps r → pending_by ps r ≡ ps
  again ps r known = go (interests m r) refl
    where
      go : (b : Bool) → interests m r ≡ b → (if b then with_last ps r.observer else ps) ≡ ps
      go true h = ap (λ b. if b then ps else ps ++ r.observer ∷ []) (known h)
      go false h = refl

  pending-once : (ps ns : List ℕ) (rs : List Registration) → with_all_last ps (map (λ (r : Registration). r.observer) (filter (interests m) (flat_map (λ n. once (registered_on n rs)) ns)))
      ≡ with_all_last ps (map (λ (r : Registration). r.observer) (filter (interests m) (standing_on ns rs)))
  pending-once ps ns rs =
      pending-walk ps (flat_map (λ n. once (registered_on n rs)) ns)
      ∙ walk-standing pending_by Has gets keeps again ps ns rs
      ∙ sym (pending-walk ps (standing_on ns rs))

-- the listeners are those whom the mutation interests
module _ (u : ℕ → Option Registration) (lists : List (ℕ × List ℕ)) (rs : List Registration) (has : (n : ℕ) → filter_map u (on n lists) ≡ once (registered_on n rs))
    (m : Mutation) (ns keys : List ℕ) (is : keys ≡ flat_map (λ n. on n lists) ns) (ls : List (ℕ × Bool)) (heard : ls ≡ listeners u m.type m.target m.name keys) where
  abbrev stood : Mutation
  stood = record m { standing = standing_on ns rs }

  pairs : ls ≡ map (λ (r : Registration). (r.observer, asks_old_value m.type r.options)) (filter (interests (record m { standing = standing_on ns rs })) (flat_map (λ n. once (registered_on n rs)) ns))
  pairs =
      heard
      ∙ listeners-interested u (record m { standing = standing_on ns rs }) keys (λ r. refl)
      ∙ ap (λ ss. map (λ (r : Registration). (r.observer, asks_old_value m.type r.options)) (filter (interests (record m { standing = standing_on ns rs })) ss)) (ap (filter_map u) is ∙ found_standing u lists rs has ns)

  pub told-queued : (p : ℕ) → delivered m (flag_of p ls) ≡ option_to_list (record_for p (record m { standing = standing_on ns rs }))
  told-queued p =
      delivered-standing m (standing_on ns rs) (flag_of p ls)
      ∙ ap (λ ks. delivered stood (flag_of p ks)) pairs
      ∙ ap (delivered stood) (flag-once stood p ns rs)
      ∙ told-flag p (record m { standing = standing_on ns rs })

  pub pended-queued : (ps : List ℕ) → with_all_last ps (keys_of ls) ≡ with_all_last ps (observers_of (record m { standing = standing_on ns rs }))
  pended-queued ps =
      ap (λ ks. with_all_last ps (keys_of ks)) pairs
      ∙ ap (with_all_last ps) (keys-pairs m.type (filter (interests stood) (flat_map (λ n. once (registered_on n rs)) ns)))
      ∙ pending-once stood ps ns rs
