-- What the code keeps, as it is seen.
use Rattle.std.proofs.Common.{◌≡◌, ◌≢◌, ℕ, Bool, true, false, ◌&&◌, ◌||◌, List, [], ◌∷◌, filter_map, Option, option_map, None, Some, refl, ap, sym, ◌∙◌, subst, nat_eq, ◌==◌, unwrap_or}
use Rattle.std.specs.{Option.option_map_or, List.AllByRecursion, List.IsDistinct, List.list_any, List.cons_option, Map.lookup}
use Rattle.std.proofs.lemmas.{Bool.true≢false, Map.Made.keys_of-map_values, Map.Made.lookup-map_values}
use Rattle.dom_model.specs.Definitions.{among, Registration, Record, is_registered}
use Rattle.dom_model.proofs.PlainLists.Numbers.{Same, same_or, same, apart}
use Rattle.dom_observe.specs.{WithoutRepeats.same_options, WithoutRepeats.same_registration, Watchers.Watchers, Watchers.on, Registrations.Registered, Registrations.at, Registrations.found, Registrations.origin, Registrations.is_on_node, Registrations.StandsOn, Registrations.HaveSources, Registrations.Agree, Invariant.registered_nodes, Invariant.has_queue, Invariant.HoldsInvariant, Sound.IsThere, Sound.HasSource, Sound.AreSoundWatchers}
use Rattle.dom_observe.proofs.{IsDistinctLemmas.distinct-keys, InvariantLemmas.on-registered_nodes, KeysLemmas.keys_in, KeysLemmas.on-looked, OnceLemmas.options-itself, HaveSourcesLemmas.own-shape}
use Rattle.dom_model.proofs.Forests.Below.{at_itself}

-- what holds of each registration under the keys
all_found : (u : ℕ → Option Registration) (P : Registration → Type 0) (Q : ℕ → Type 0) → ((k : ℕ) (r : Registration) → Q k → u k ≡ Some r → P r) → (keys : List ℕ) → AllByRecursion Q keys → AllByRecursion P (filter_map u keys)
all_found u P Q each [] h = tt
all_found u P Q each (k ∷ keys) h = go (u k) refl (all_found u P Q each keys h.1)
  where
    go : (p : Option Registration) → u k ≡ p → AllByRecursion P (filter_map u keys) → AllByRecursion P (cons_option p (filter_map u keys))
    go None e rest = rest
    go (Some r) e rest = (each k r h.0 e, rest)

-- one that is under a key passes
pub any_found : (u : ℕ → Option Registration) (p : Registration → Bool) (key : ℕ) (s : Registration) → u key ≡ Some s → p s ≡ true → (keys : List ℕ) → among key keys ≡ true → list_any p (filter_map u keys) ≡ true
any_found u p key s is on [] there = absurd (true≢false (sym there))
any_found u p key s is on (k ∷ keys) there = go (same_or k key) (u k) refl (any_found u p key s is on keys)
  where
    or_true : (b : Bool) → (b || true) ≡ true
    or_true true = refl
    or_true false = refl

    go : Same k key → (q : Option Registration) → u k ≡ q → (among key keys ≡ true → list_any p (filter_map u keys) ≡ true) → list_any p (cons_option q (filter_map u keys)) ≡ true
    go (same e t) q f rest = ap (λ o. list_any p (cons_option o (filter_map u keys))) (sym f ∙ ap u e ∙ is) ∙ ap (λ b. b || list_any p (filter_map u keys)) on
    go (apart ne t) None f rest = let w = rw t at there in rest w
    go (apart ne t) (Some r) f rest = let w = rw t at there in ap (λ b. p r || b) (rest w) ∙ or_true (p r)

module _ (reg : Registered) (queues : List (Option (List Record))) (pending : List ℕ) (kept : HoldsInvariant reg queues pending) (have : HaveSources (at reg)) (agree : Agree (at reg)) where
  abbrev seen : Watchers
  seen = record { nodes = registered_nodes reg; queues = queues; pending = pending }

  all_on : (n : ℕ) (P : Registration → Type 0) → ((k : ℕ) (r : Registration) → StandsOn (at reg) (has_queue queues) n k → at reg k ≡ Some r → P r) → AllByRecursion P (on n (registered_nodes reg))
  all_on n P each = subst (AllByRecursion P) (sym (on-registered_nodes reg n)) (all_found (at reg) P (StandsOn (at reg) (has_queue queues) n) each (on n reg.lists) (kept.stand n))

  its_own : (n k : ℕ) (r : Registration) → (s : StandsOn (at reg) (has_queue queues) n k) → at reg k ≡ Some r → s.registration ≡ r
  its_own n k r s is = let d : Some s.registration ≡ Some r = sym s.is ∙ is in cc d

  has_source : (k : ℕ) (r : Registration) → at reg k ≡ Some r → HasSource seen r
  has_source k r is m from =
      let o = have k r m is from in
      let s = own-shape r.observer m (at reg o.key) o.own in
      let there : among o.key (on m reg.lists) ≡ true = kept.are.placed m o.key ∙ ap (is_on_node m) s.1 ∙ ap (λ n. n == m) s.3 ∙ at_itself m in
      let mine : origin r ≡ m = ap (λ q. unwrap_or q r.node) from in
      let its : origin s.0 ≡ m = ap (λ q. unwrap_or q s.0.node) s.4 ∙ s.3 in
      let alike : r.options ≡ s.0.options = agree.alike k r is ∙ ap (agree.options r.observer) (mine ∙ sym its) ∙ ap (λ i. agree.options i (origin s.0)) (sym s.2) ∙ sym (agree.alike o.key s.0 s.1) in
      let own : is_registered r.observer m s.0 ≡ true = ap (λ p. option_map_or (is_registered r.observer m) p false) (sym s.1) ∙ o.own in
      let passes : (is_registered r.observer m s.0 && same_options s.0.options r.options) ≡ true = ap (λ b. b && same_options s.0.options r.options) own ∙ ap (same_options s.0.options) alike ∙ options-itself s.0.options in
      ap (list_any (λ t. is_registered r.observer m t && same_options t.options r.options)) (on-registered_nodes reg m)
      ∙ any_found (at reg) (λ t. is_registered r.observer m t && same_options t.options r.options) o.key s.0 s.1 passes (on m reg.lists) there

  -- a node that is listed has a registration
  is_filled : (n : ℕ) → lookup (nat_eq n) (registered_nodes reg) ≢ Some []
  is_filled n h = go (lookup (nat_eq n) reg.lists) refl (sym (lookup-map_values (found reg) (nat_eq n) reg.lists) ∙ h)
    where
      go : (p : Option (List ℕ)) → lookup (nat_eq n) reg.lists ≡ p → option_map (found reg) p ≡ Some [] → ⊥
      go None e f = cc f
      go (Some keys) e f = by keys e (kept.are.full n keys e) (subst (AllByRecursion (StandsOn (at reg) (has_queue queues) n)) (on-looked n reg.lists ∙ ap keys_in e) (kept.stand n)) (let d : found reg keys ≡ [] = cc f in d)
        where
          by : (ks : List ℕ) → lookup (nat_eq n) reg.lists ≡ Some ks → ks ≢ [] → AllByRecursion (StandsOn (at reg) (has_queue queues) n) ks → filter_map (at reg) ks ≡ [] → ⊥
          by [] e some all none = some refl
          by (k ∷ ks) e some all none = let d : all.0.registration ∷ filter_map (at reg) ks ≡ [] = ap (λ o. cons_option o (filter_map (at reg) ks)) (sym all.0.is) ∙ none in cc d

  pub seen-sound : AreSoundWatchers seen
  seen-sound = record {
    listed = subst (IsDistinct nat_eq) (sym (keys_of-map_values (found reg) reg.lists)) kept.are.unique;
    filled = is_filled;
    here = λ n. all_on n (λ r. r.node ≡ n) (λ k r s is. subst (λ (t : Registration). t.node ≡ n) (its_own n k r s is) s.node);
    observers = λ n. all_on n (IsThere seen) (λ k r s is. subst (IsThere seen) (its_own n k r s is) s.observer);
    sources = λ n. all_on n (HasSource seen) (λ k r s is. has_source k r is);
    apart = λ n. subst (IsDistinct same_registration) (sym (on-registered_nodes reg n)) (distinct-keys (at reg) (λ k j r e f. agree.one k j r r e f refl refl refl) (on n reg.lists) (kept.are.once n));
    pending = kept.there;
  }
