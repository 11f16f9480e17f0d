-- An observer observes a node again: the transient registrations that come from there end, and its registration gets the options.
use Rattle.std.proofs.Common.{◌≡◌, ◌≢◌, ℕ, ◌≤◌, ◌==◌, Bool, true, false, ◌&&◌, ◌||◌, if◌then◌else◌, List, [], ◌∷◌, length, map, filter, Option, None, Some, refl, ap, sym, ◌∙◌, subst, arith, cond, option_map, filter_map, is_some, is_none, find}
use Rattle.std.specs.{Option.option_map_or, List.AllByRecursion, List.cons_option, List.list_any}
use Rattle.std.proofs.lemmas.Bool.{true≢false}
use Rattle.dom_model.specs.Definitions.{Registration, Options, is_registered, with_options}
use Rattle.dom_model.proofs.PlainLists.Numbers.{same_or, same, apart}
use Rattle.dom_observe.specs.{declared.registration.EndedRegistrations.TheVariants.From, Watchers.on, Registrations.spares, Registrations.unless_ended, Registrations.is_live, Registrations.own_at, Registrations.with_new_options, Registrations.StandsOn, Registrations.AllStand}
use Rattle.dom_observe.proofs.{TallyLemmas.tally, TallyLemmas.any-from_count, RegistrationTableLemmas.all_imply, RegistrationTableLemmas.all_filter, InvariantLemmas.found-ended, InvariantLemmas.stand-ended}

module _ (u : ℕ → Option Registration) (o node : ℕ) where
  -- the first key with the observer's registration has it
  pub find_own : (keys : List ℕ) (key : ℕ) → find (own_at u o node) keys ≡ Some key → own_at u o node key ≡ true
  find_own [] key h = cc h
  find_own (k ∷ keys) key h = go (own_at u o node k) refl h (find_own keys key)
    where
      go : (b : Bool) → own_at u o node k ≡ b → cond b (Some k) (find (own_at u o node) keys) ≡ Some key → (find (own_at u o node) keys ≡ Some key → own_at u o node key ≡ true) → own_at u o node key ≡ true
      go true e g rest = let d : k ≡ key = cc g in ap (own_at u o node) (sym d) ∙ e
      go false e g rest = rest g

  -- whether there is one is seen by the registrations found
  pub any_own : (keys : List ℕ) (r : Option ℕ) → find (own_at u o node) keys ≡ r → list_any (is_registered o node) (filter_map u keys) ≡ is_some r
  any_own [] r h = ap is_some h
  any_own (k ∷ keys) r h = go (u k) h (any_own keys r)
    where
      go : (p : Option Registration) → cond (option_map_or (is_registered o node) p false) (Some k) (find (own_at u o node) keys) ≡ r
          → (find (own_at u o node) keys ≡ r → list_any (is_registered o node) (filter_map u keys) ≡ is_some r)
          → list_any (is_registered o node) (cons_option p (filter_map u keys)) ≡ is_some r
      go None g rest = rest g
      go (Some s) g rest = by (is_registered o node s) g
        where
          by : (b : Bool) → cond b (Some k) (find (own_at u o node) keys) ≡ r → (b || list_any (is_registered o node) (filter_map u keys)) ≡ is_some r
          by true f = ap is_some f
          by false f = rest f

  -- none of the keys has one
  none_own : (keys : List ℕ) (key : ℕ) → list_any (is_registered o node) (filter_map u keys) ≡ false → AllByRecursion (λ k. own_at u o node k ≡ true → k ≡ key) keys
  none_own [] key h = tt
  none_own (k ∷ keys) key h = go (u k) h (none_own keys key)
    where
      go : (p : Option Registration) → list_any (is_registered o node) (cons_option p (filter_map u keys)) ≡ false
          → (list_any (is_registered o node) (filter_map u keys) ≡ false → AllByRecursion (λ j. own_at u o node j ≡ true → j ≡ key) keys)
          → (option_map_or (is_registered o node) p false ≡ true → k ≡ key) × AllByRecursion (λ j. own_at u o node j ≡ true → j ≡ key) keys
      go None g rest = ((λ e. absurd (true≢false (sym e))), rest g)
      go (Some s) g rest = by (is_registered o node s) g
        where
          by : (b : Bool) → (b || list_any (is_registered o node) (filter_map u keys)) ≡ false → (b ≡ true → k ≡ key) × AllByRecursion (λ j. own_at u o node j ≡ true → j ≡ key) keys
          by true f = absurd (true≢false f)
          by false f = ((λ e. absurd (true≢false (sym e))), rest f)

  -- at most one of them has it: the first that is found
  only_own : (keys : List ℕ) (key : ℕ) → find (own_at u o node) keys ≡ Some key → tally (is_registered o node) (filter_map u keys) ≤ 1 → AllByRecursion (λ k. own_at u o node k ≡ true → k ≡ key) keys
  only_own [] key h le = tt
  only_own (k ∷ keys) key h le = go (u k) h le (only_own keys key)
    where
      go : (p : Option Registration) → cond (option_map_or (is_registered o node) p false) (Some k) (find (own_at u o node) keys) ≡ Some key
          → tally (is_registered o node) (cons_option p (filter_map u keys)) ≤ 1
          → (find (own_at u o node) keys ≡ Some key → tally (is_registered o node) (filter_map u keys) ≤ 1 → AllByRecursion (λ j. own_at u o node j ≡ true → j ≡ key) keys)
          → (option_map_or (is_registered o node) p false ≡ true → k ≡ key) × AllByRecursion (λ j. own_at u o node j ≡ true → j ≡ key) keys
      go None g l rest = ((λ e. absurd (true≢false (sym e))), rest g l)
      go (Some s) g l rest = by (is_registered o node s) g l
        where
          by : (b : Bool) → cond b (Some k) (find (own_at u o node) keys) ≡ Some key
              → length (cond b (s ∷ filter (is_registered o node) (filter_map u keys)) (filter (is_registered o node) (filter_map u keys))) ≤ 1
              → (b ≡ true → k ≡ key) × AllByRecursion (λ j. own_at u o node j ≡ true → j ≡ key) keys
          by true f m = let d : k ≡ key = cc f in ((λ _. d), none_own keys key (any-from_count (is_registered o node) (filter_map u keys) (omega arith)))
          by false f m = ((λ e. absurd (true≢false (sym e))), rest f m)

-- what stands under keys, changed one by one
pub found_changed : (u v : ℕ → Option Registration) (g : Registration → Registration) (keys : List ℕ) → AllByRecursion (λ k. v k ≡ option_map g (u k)) keys → filter_map v keys ≡ map g (filter_map u keys)
found_changed u v g [] h = refl
found_changed u v g (k ∷ keys) h = rw h.0 (go (u k) (found_changed u v g keys h.1))
  where
    go : (p : Option Registration) → filter_map v keys ≡ map g (filter_map u keys) → cons_option (option_map g p) (filter_map v keys) ≡ map g (cons_option p (filter_map u keys))
    go None i = i
    go (Some r) i = ap (λ rs. g r ∷ rs) i

module _ (u u1 u2 : ℕ → Option Registration) (lists lists1 : List (ℕ × List ℕ)) (o node key : ℕ) (options : Options)
    (left : (k : ℕ) → u1 k ≡ unless_ended (From o node) (u k)) (swept : (n : ℕ) → on n lists1 ≡ filter (is_live u1) (on n lists))
    (is_key : find (own_at u o node) (on node lists) ≡ Some key)
    (changed : u2 key ≡ option_map (with_new_options options) (u1 key)) (others : (k : ℕ) → k ≢ key → u2 k ≡ u1 k)
    (there : ℕ → Bool) (all : AllStand u there lists) where
  pub stand-again : AllStand u2 there lists1
  stand-again n =
      all_imply (StandsOn u1 there n) (StandsOn u2 there n) one (on n lists1)
      (stand-ended u u1 (From o node) lists lists1 left swept there all n)
    where
      one : (k : ℕ) → StandsOn u1 there n k → StandsOn u2 there n k
      one k s =
          elim (same_or k key) [
            | same e t ↦ record {
              registration = with_new_options options s.registration;
              is = ap u2 e ∙ changed ∙ ap (λ j. option_map (with_new_options options) (u1 j)) (sym e) ∙ ap (option_map (with_new_options options)) s.is;
              observer = s.observer;
              node = s.node;
            }
            | apart ne t ↦ record { registration = s.registration; is = others k ne ∙ s.is; observer = s.observer; node = s.node }
          ]

  -- on another node there is none
  elsewhere : (n : ℕ) → (n ≡ node → ⊥) → (k : ℕ) → StandsOn u there n k → own_at u o node k ≡ true → k ≡ key
  elsewhere n ne k s own =
      absurd (true≢false (sym own ∙ ap (λ p. option_map_or (is_registered o node) p false) s.is ∙ off))
    where
      fails : (a b : Bool) → (a && (false && b)) ≡ false
      fails true b = refl
      fails false b = refl

      off : is_registered o node s.registration ≡ false
      off = elim (same_or s.registration.node node) [
        | same e t ↦ absurd (ne (sym s.node ∙ e))
        | apart _ t ↦ rw t (fails (s.registration.observer == o) (is_none s.registration.source))
      ]

  only : tally (is_registered o node) (filter_map u (on node lists)) ≤ 1 → (n : ℕ) → AllByRecursion (λ k. own_at u o node k ≡ true → k ≡ key) (on n lists)
  only once n =
      elim (same_or n node) [
        | same e t ↦ subst (λ m. AllByRecursion (λ k. own_at u o node k ≡ true → k ≡ key) (on m lists)) (sym e) (only_own u o node (on node lists) key is_key once)
        | apart ne t ↦ all_imply (StandsOn u there n) (λ k. own_at u o node k ≡ true → k ≡ key) (elsewhere n ne) (on n lists) (all n)
      ]

  both : {A : Type 0} (P Q : A → Type 0) (xs : List A) → AllByRecursion P xs → AllByRecursion Q xs → AllByRecursion (λ x. P x × Q x) xs
  both P Q [] h k = tt
  both P Q (x ∷ xs) h k = ((h.0, k.0), both P Q xs h.1 k.1)

  pub found-again : tally (is_registered o node) (filter_map u (on node lists)) ≤ 1 → (n : ℕ)
      → filter_map u2 (on n lists1) ≡ map (with_options o node options) (filter (spares (From o node)) (filter_map u (on n lists)))
  found-again once n =
      found_changed u1 u2 (with_options o node options) (on n lists1)
      (subst (AllByRecursion (λ k. u2 k ≡ option_map (with_options o node options) (u1 k))) (sym (swept n))
      (all_imply (λ k. (StandsOn u there n k × (own_at u o node k ≡ true → k ≡ key)) × (is_live u1 k ≡ true)) (λ k. u2 k ≡ option_map (with_options o node options) (u1 k)) one (filter (is_live u1) (on n lists))
      (all_filter (λ k. StandsOn u there n k × (own_at u o node k ≡ true → k ≡ key)) (is_live u1) (on n lists)
      (both (StandsOn u there n) (λ k. own_at u o node k ≡ true → k ≡ key) (on n lists) (all n) (only once n)))))
      ∙ ap (map (with_options o node options)) (found-ended u u1 (From o node) lists lists1 left swept n)
    where
      own_if : (k : ℕ) (s : StandsOn u there n k) → own_at u o node k ≡ is_registered o node s.registration
      own_if k s = ap (λ p. option_map_or (is_registered o node) p false) s.is

      under_of : (k : ℕ) (s : StandsOn u there n k) → is_live u1 k ≡ true → u1 k ≡ Some s.registration
      under_of k s live = go (spares (From o node) s.registration) (left k ∙ ap (unless_ended (From o node)) s.is)
        where
          go : (b : Bool) → u1 k ≡ (if b then Some s.registration else None) → u1 k ≡ Some s.registration
          go true e = e
          go false e = absurd (true≢false (sym live ∙ ap is_some e))

      one : (k : ℕ) → (StandsOn u there n k × (own_at u o node k ≡ true → k ≡ key)) × (is_live u1 k ≡ true) → u2 k ≡ option_map (with_options o node options) (u1 k)
      one k p =
          let s = p.0.0 in
          let is = under_of k s p.1 in
          elim (same_or k key) [
            | same e t ↦
                let own : is_registered o node s.registration ≡ true = sym (own_if k s) ∙ ap (own_at u o node) e ∙ find_own u o node (on node lists) key is_key in
                ap u2 e ∙ changed ∙ ap (λ j. option_map (with_new_options options) (u1 j)) (sym e) ∙ ap (option_map (with_new_options options)) is
                ∙ sym (ap (option_map (with_options o node options)) is ∙ ap (λ (b : Bool). Some (if b then record (s.registration) { options = options } else s.registration)) own)
            | apart ne t ↦
                let off : is_registered o node s.registration ≡ false = not_own k s p.0.1 ne (is_registered o node s.registration) refl in
                others k ne ∙ is ∙ sym (ap (option_map (with_options o node options)) is ∙ ap (λ (b : Bool). Some (if b then record (s.registration) { options = options } else s.registration)) off)
          ]
        where
          not_own : (j : ℕ) (s : StandsOn u there n j) → (own_at u o node j ≡ true → j ≡ key) → (j ≡ key → ⊥) → (b : Bool) → is_registered o node s.registration ≡ b → b ≡ false
          not_own j s only_key ne true e = absurd (ne (only_key (own_if j s ∙ e)))
          not_own j s only_key ne false e = refl
