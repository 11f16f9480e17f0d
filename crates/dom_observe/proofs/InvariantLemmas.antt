-- What the code keeps goes with its steps.
use Rattle.std.proofs.Common.{arith, ◌≡◌, ℕ, zero, suc, ◌==◌, Bool, true, false, if◌then◌else◌, List, [], ◌∷◌, ◌++◌, length, map, filter, Option, None, Some, refl, ap, sym, ◌∙◌, subst, cond, nat_eq, slice_index_or, slice_set, filter_map, flat_map, is_some}
use Rattle.std.specs.{Map.lookup, List.AllByRecursion, List.cons_option, Option.option_map_or}
use Rattle.std.proofs.lemmas.{List.Elements.filter_map-append, List.Elements.filter-append, Bool.true≢false}
use Rattle.dom_model.specs.Definitions.{Registration, registered_on, Record}
use Rattle.dom_model.proofs.PlainLists.Numbers.{same_or, same, apart}
use Rattle.dom_observe.specs.{declared.registration.EndedRegistrations.EndedRegistrations, WithoutRepeats.once, Watchers.on, Registrations.Registered, Registrations.at, Registrations.found, Registrations.spares, Registrations.unless_ended, Registrations.is_live, Registrations.HasRegistration, Registrations.StandsOn, Registrations.AllStand, Registrations.HaveKeys, Registrations.deep_at, Invariant.registered_nodes, Invariant.has_queue, Invariant.AreRegistered, Invariant.HoldsInvariant}
use Rattle.dom_observe.proofs.{OnceLemmas.once-none, QueueListLemmas.has-more, QueueListLemmas.has-set, RegistrationTableLemmas.all_imply, RegistrationTableLemmas.all_append, RegistrationTableLemmas.all_filter}

-- what a function makes of each list, and of no list nothing
pub on-map : {A B : Type 0} (f : List A → List B) → f [] ≡ [] → (n : ℕ) (es : List (ℕ × List A)) → on n (map (λ e. (e.0, f e.1)) es) ≡ f (on n es)
on-map f nothing n [] = sym nothing
on-map f nothing n (e ∷ es) = go (n == e.0) (on-map f nothing n es)
  where
    go : (b : Bool) → on n (map (λ d. (d.0, f d.1)) es) ≡ f (on n es) → (if b then f e.1 else on n (map (λ d. (d.0, f d.1)) es)) ≡ f (if b then e.1 else on n es)
    go true i = refl
    go false i = i

pub on-registered_nodes : (r : Registered) (n : ℕ) → on n (registered_nodes r) ≡ found r (on n r.lists)
on-registered_nodes r n = on-map (found r) refl n r.lists

-- as many observers at least are there
pub stand-alike : (u : ℕ → Option Registration) (there there' : ℕ → Bool) (lists : List (ℕ × List ℕ)) → ((o : ℕ) → there o ≡ true → there' o ≡ true) → AllStand u there lists → AllStand u there' lists
stand-alike u there there' lists more all n =
    all_imply (StandsOn u there n) (StandsOn u there' n)
    (λ k s. record { registration = s.registration; is = s.is; observer = more s.registration.observer s.observer; node = s.node }) (on n lists) (all n)

module _ (r : Registered) (queues : List (Option (List Record))) (pending : List ℕ) (kept : HoldsInvariant r queues pending) where
  -- other queues: of as many observers at least
  pub kept_queues : (queues' : List (Option (List Record))) → ((o : ℕ) → has_queue queues o ≡ true → has_queue queues' o ≡ true) → HoldsInvariant r queues' pending
  kept_queues queues' more = record {
    are = kept.are;
    stand = stand-alike (at r) (has_queue queues) (has_queue queues') r.lists more kept.stand;
    there = all_imply (λ o. has_queue queues o ≡ true) (λ o. has_queue queues' o ≡ true) more pending kept.there;
  }

  pub kept-made : HoldsInvariant r (queues ++ Some [] ∷ []) pending
  kept-made = kept_queues (queues ++ Some [] ∷ []) (has-more queues)

  pub kept-emptied : (i : ℕ) → has_queue queues i ≡ true → HoldsInvariant r (slice_set queues i (Some [])) pending
  kept-emptied i there = kept_queues (slice_set queues i (Some [])) (λ o held_there. has-set queues i there [] o ∙ held_there)

  -- other registrations
  pub kept-others : (r' : Registered) → AreRegistered r' → AllStand (at r') (has_queue queues) r'.lists → HoldsInvariant r' queues pending
  kept-others r' are stand = record { are = are; stand = stand; there = kept.there }

-- a step ends registrations, and the keys under which nothing is left go
module _ (u v : ℕ → Option Registration) (ended : EndedRegistrations) (lists lists' : List (ℕ × List ℕ))
    (left : (k : ℕ) → v k ≡ unless_ended ended (u k)) (swept : (n : ℕ) → on n lists' ≡ filter (is_live v) (on n lists)) where
  found_left : (keys : List ℕ) → filter_map v (filter (is_live v) keys) ≡ filter (spares ended) (filter_map u keys)
  found_left [] = refl
  found_left (k ∷ keys) = go (u k) (v k) (left k) refl (found_left keys)
    where
      go : (o p : Option Registration) → p ≡ unless_ended ended o → v k ≡ p → filter_map v (filter (is_live v) keys) ≡ filter (spares ended) (filter_map u keys)
          → filter_map v (cond (is_some p) (k ∷ filter (is_live v) keys) (filter (is_live v) keys)) ≡ filter (spares ended) (cons_option o (filter_map u keys))
      go None p e f i = rw e i
      go (Some r) p e f i = by (spares ended r) e
        where
          by : (b : Bool) → p ≡ (if b then Some r else None) → filter_map v (cond (is_some p) (k ∷ filter (is_live v) keys) (filter (is_live v) keys)) ≡ cond b (r ∷ filter (spares ended) (filter_map u keys)) (filter (spares ended) (filter_map u keys))
          by true g = rw g (ap (λ o. cons_option o (filter_map v (filter (is_live v) keys))) (f ∙ g) ∙ ap (λ rs. r ∷ rs) i)
          by false g = rw g i

  pub found-ended : (n : ℕ) → filter_map v (on n lists') ≡ filter (spares ended) (filter_map u (on n lists))
  found-ended n = ap (filter_map v) (swept n) ∙ found_left (on n lists)

  still : (ended' : EndedRegistrations) (o : Option Registration) (r : Registration) → o ≡ Some r → is_some (unless_ended ended' o) ≡ true → (unless_ended ended' o ≡ Some r) × (spares ended' r ≡ true)
  still ended' None r e live = cc e
  still ended' (Some s) r e live = let d : s ≡ r = cc e in by (spares ended' s) refl live
    where
      by : (b : Bool) → spares ended' s ≡ b → is_some (if b then Some s else None) ≡ true → ((if b then Some s else None) ≡ Some r) × (spares ended' r ≡ true)
      by true t l = (e, ap (spares ended') (sym (let d : s ≡ r = cc e in d)) ∙ t)
      by false t l = absurd (true≢false (sym l))

  -- those that stay are of observers that are there, by another test too
  pub stand-left : (there there' : ℕ → Bool) → ((r : Registration) → spares ended r ≡ true → there r.observer ≡ true → there' r.observer ≡ true) → AllStand u there lists → AllStand v there' lists'
  stand-left there there' stay all n =
      subst (AllByRecursion (StandsOn v there' n)) (sym (swept n))
      (all_imply (λ k. StandsOn u there n k × (is_live v k ≡ true)) (StandsOn v there' n) one (filter (is_live v) (on n lists))
      (all_filter (StandsOn u there n) (is_live v) (on n lists) (all n)))
    where
      one : (k : ℕ) → StandsOn u there n k × (is_live v k ≡ true) → StandsOn v there' n k
      one k p =
          let s = p.0 in
          let f = still ended (u k) s.registration s.is (ap is_some (sym (left k)) ∙ p.1) in
          record { registration = s.registration; is = left k ∙ f.0; observer = stay s.registration f.1 s.observer; node = s.node }

  pub stand-ended : (there : ℕ → Bool) → AllStand u there lists → AllStand v there lists'
  stand-ended there all = stand-left there there (λ r _ held_there. held_there) all

-- the keys of several nodes
pub all_flat : (P : ℕ → Type 0) (lists : List (ℕ × List ℕ)) → ((n : ℕ) → AllByRecursion P (on n lists)) → (ns : List ℕ) → AllByRecursion P (flat_map (λ n. on n lists) ns)
all_flat P lists all [] = tt
all_flat P lists all (n ∷ ns) = all_append P (on n lists) (flat_map (λ m. on m lists) ns) (all n) (all_flat P lists all ns)

pub all_deep : (u : ℕ → Option Registration) (P : ℕ → Type 0) (lists : List (ℕ × List ℕ)) → ((n : ℕ) → AllByRecursion P (on n lists)) → (ns : List ℕ) → AllByRecursion P (flat_map (λ n. filter (deep_at u) (on n lists)) ns)
all_deep u P lists all [] = tt
all_deep u P lists all (n ∷ ns) =
    all_append P (filter (deep_at u) (on n lists)) (flat_map (λ m. filter (deep_at u) (on m lists)) ns)
    (all_imply (λ k. P k × (deep_at u k ≡ true)) P (λ k h. h.0) (filter (deep_at u) (on n lists)) (all_filter P (deep_at u) (on n lists) (all n))) (all_deep u P lists all ns)

pub stands_of : (u : ℕ → Option Registration) (there : ℕ → Bool) (n : ℕ) (keys : List ℕ) → AllByRecursion (StandsOn u there n) keys → AllByRecursion (HasRegistration u there) keys
stands_of u there n keys h = all_imply (StandsOn u there n) (HasRegistration u there) (λ k s. record { registration = s.registration; is = s.is; observer = s.observer }) keys h

-- the registrations that stand on several nodes
pub found_standing : (u : ℕ → Option Registration) (lists : List (ℕ × List ℕ)) (rs : List Registration) → ((n : ℕ) → filter_map u (on n lists) ≡ once (registered_on n rs)) → (ns : List ℕ)
    → filter_map u (flat_map (λ n. on n lists) ns) ≡ flat_map (λ n. once (registered_on n rs)) ns
found_standing u lists rs has [] = refl
found_standing u lists rs has (n ∷ ns) =
    filter_map-append u (on n lists) (flat_map (λ m. on m lists) ns) ∙ (λ i. has n i ++ found_standing u lists rs has ns i)

-- where no node has a registration there is none
pub nobody : (rs : List Registration) → ((n : ℕ) → once (registered_on n rs) ≡ []) → rs ≡ []
nobody rs h = go rs (λ n. once-none (registered_on n rs) (h n))
  where
    go : (ss : List Registration) → ((n : ℕ) → registered_on n ss ≡ []) → ss ≡ []
    go [] h = refl
    go (r ∷ ss) h =
        elim (same_or r.node r.node) [
          | same e t ↦ let k = rw t at (h r.node) in cc k
          | apart ne t ↦ absurd (ne refl)
        ]

pub none_in : (r : Registered) → (length r.lists == 0) ≡ true → (rs : List Registration) → ((n : ℕ) → on n (registered_nodes r) ≡ once (registered_on n rs)) → rs ≡ []
none_in r empty rs shown = nobody rs (λ n. sym (shown n) ∙ on-registered_nodes r n ∙ ap (filter_map (at r)) (bare r.lists empty n))
  where
    bare : (lists : List (ℕ × List ℕ)) → (length lists == 0) ≡ true → (n : ℕ) → on n lists ≡ []
    bare [] e n = refl
    bare (l ∷ lists) e n = elim (same_or (length (l ∷ lists)) 0) [ same d t ↦ absurd (omega (arith, d)) | apart ne t ↦ absurd (true≢false (sym e ∙ t)) ]

-- where no node has a registration, none is listed
pub none_listed : (u : ℕ → Option Registration) (lists : List (ℕ × List ℕ)) (there : ℕ → Bool) → AllStand u there lists → HaveKeys lists → ((n : ℕ) → filter_map u (on n lists) ≡ []) → length lists ≡ 0
none_listed u [] there stand full none = refl
none_listed u (e ∷ es) there stand full none = absurd (go e.1 refl)
  where
    first : lookup (nat_eq e.0) (e ∷ es) ≡ Some e.1
    first = elim (same_or e.0 e.0) [ same d t ↦ rw t refl | apart ne t ↦ absurd (ne refl) ]

    here : on e.0 (e ∷ es) ≡ e.1
    here = elim (same_or e.0 e.0) [ same d t ↦ rw t refl | apart ne t ↦ absurd (ne refl) ]

    go : (keys : List ℕ) → e.1 ≡ keys → ⊥
    go [] is = full e.0 e.1 first is
    go (k ∷ keys) is =
        let all = subst (AllByRecursion (StandsOn u there e.0)) (here ∙ is) (stand e.0) in
        let gone : filter_map u (k ∷ keys) ≡ [] = ap (filter_map u) (sym (here ∙ is)) ∙ none e.0 in
        let some : all.0.registration ∷ filter_map u keys ≡ [] = ap (λ o. cons_option o (filter_map u keys)) (sym all.0.is) ∙ gone in
        cc some

-- those with subtree
pub found_deep : (u : ℕ → Option Registration) (lists : List (ℕ × List ℕ)) (rs : List Registration) → ((n : ℕ) → filter_map u (on n lists) ≡ once (registered_on n rs)) → (ns : List ℕ)
    → filter_map u (flat_map (λ n. filter (deep_at u) (on n lists)) ns) ≡ filter (λ (r : Registration). r.options.subtree) (flat_map (λ n. once (registered_on n rs)) ns)
found_deep u lists rs has [] = refl
found_deep u lists rs has (n ∷ ns) =
    filter_map-append u (filter (deep_at u) (on n lists)) (flat_map (λ m. filter (deep_at u) (on m lists)) ns)
    ∙ (λ i. (deep (on n lists) ∙ ap (filter (λ (r : Registration). r.options.subtree)) (has n)) i ++ found_deep u lists rs has ns i)
    ∙ sym (filter-append (λ (r : Registration). r.options.subtree) (once (registered_on n rs)) (flat_map (λ m. once (registered_on m rs)) ns))
  where
    deep : (keys : List ℕ) → filter_map u (filter (deep_at u) keys) ≡ filter (λ (r : Registration). r.options.subtree) (filter_map u keys)
    deep [] = refl
    deep (k ∷ keys) = one (u k) refl (deep keys)
      where
        one : (o : Option Registration) → u k ≡ o → filter_map u (filter (deep_at u) keys) ≡ filter (λ (r : Registration). r.options.subtree) (filter_map u keys)
            → filter_map u (cond (option_map_or (λ (r : Registration). r.options.subtree) o false) (k ∷ filter (deep_at u) keys) (filter (deep_at u) keys)) ≡ filter (λ (r : Registration). r.options.subtree) (cons_option o (filter_map u keys))
        one None e i = i
        one (Some r) e i = by r.options.subtree
          where
            by : (b : Bool) → filter_map u (cond b (k ∷ filter (deep_at u) keys) (filter (deep_at u) keys)) ≡ cond b (r ∷ filter (λ (s : Registration). s.options.subtree) (filter_map u keys)) (filter (λ (s : Registration). s.options.subtree) (filter_map u keys))
            by true = ap (λ o. cons_option o (filter_map u (filter (deep_at u) keys))) e ∙ ap (λ rs. r ∷ rs) i
            by false = i

pub set_same : {A : Type 0} (xs : List A) (i : ℕ) (d : A) → slice_set xs i (slice_index_or xs i d) ≡ xs
set_same [] zero d = refl
set_same [] (suc i) d = refl
set_same (x ∷ xs) zero d = refl
set_same (x ∷ xs) (suc i) d = ap (λ ys. x ∷ ys) (set_same xs i d)
