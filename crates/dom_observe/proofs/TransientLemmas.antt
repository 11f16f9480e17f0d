-- The transient registrations that a node gets, once for each observer and origin: the flat list's without later equal ones.
use Rattle.std.proofs.Common.{◌≡◌, ℕ, ◌==◌, Bool, true, false, not, ◌&&◌, ◌||◌, if◌then◌else◌, List, [], ◌∷◌, ◌++◌, map, filter, Option, None, Some, refl, ap, sym, ◌∙◌, subst, cond, append-nil, filter_map, flat_map, unwrap_or}
use Rattle.std.specs.List.{AllByRecursion, list_any, cons_option}
use Rattle.std.proofs.lemmas.{Bool.true≢false, List.Folds.list_any-append}
use Rattle.dom_model.specs.Definitions.{is_number, Options, Registration, registered_on, standing_on, transient_of, is_transient_from}
use Rattle.dom_model.proofs.PlainLists.Numbers.{Same, same_or, same, apart}
use Rattle.dom_observe.specs.{WithoutRepeats.same_registration, WithoutRepeats.once, Watchers.on, Registrations.origin, Registrations.deep_at, Registrations.StandsOn, Registrations.AllStand, Registrations.Agree, Registrations.with_transient, Registrations.with_transients_of, Registrations.with_added_transients}
use Rattle.dom_observe.proofs.{OnceLemmas.same-is, OnceLemmas.same-itself, OnceLemmas.with_once, OnceLemmas.with_all_once, OnceLemmas.once-append, OnceLemmas.walk, OnceLemmas.walk-standing, InvariantLemmas.found_standing, InvariantLemmas.found_deep, RegistrationTableLemmas.all_append}

abbrev is_deep : Registration → Bool
is_deep r = r.options.subtree

-- One that comes last where none is equal.

grows : (p : Registration → Bool) (e : Registration) (rs : List Registration) → list_any p rs ≡ true → list_any p (with_once rs e) ≡ true
grows p e rs h = go (list_any (λ r. same_registration r e) rs)
  where
    go : (b : Bool) → list_any p (if b then rs else rs ++ e ∷ []) ≡ true
    go true = h
    go false = list_any-append p rs (e ∷ []) ∙ ap (λ b. b || list_any p (e ∷ [])) h

any_true : (b : Bool) → (b || (true || false)) ≡ true
any_true true = refl
any_true false = refl

comes_in : (e : Registration) (rs : List Registration) → list_any (λ r. same_registration r e) (with_once rs e) ≡ true
comes_in e rs = go (list_any (λ r. same_registration r e) rs) refl
  where
    go : (b : Bool) → list_any (λ r. same_registration r e) rs ≡ b → list_any (λ r. same_registration r e) (if b then rs else rs ++ e ∷ []) ≡ true
    go true h = h
    go false h = list_any-append (λ r. same_registration r e) rs (e ∷ []) ∙ ap (λ b. list_any (λ r. same_registration r e) rs || (b || false)) (same-itself e) ∙ any_true (list_any (λ r. same_registration r e) rs)

-- The walk that the flat list asks for.

module _ (node : ℕ) where
  abbrev pub taken : List Registration → Registration → List Registration
  taken rs s = if s.options.subtree then with_once rs (transient_of node s) else rs

  all_taken : (rs ss : List Registration) → with_all_once rs (map (transient_of node) (filter (λ (r : Registration). r.options.subtree) ss)) ≡ walk taken rs ss
  all_taken rs [] = refl
  all_taken rs (s ∷ ss) = go s.options.subtree (all_taken (with_once rs (transient_of node s)) ss) (all_taken rs ss)
    where
      rest : List Registration
      rest = filter (λ (r : Registration). r.options.subtree) ss

      go : (b : Bool) → with_all_once (with_once rs (transient_of node s)) (map (transient_of node) rest) ≡ walk taken (with_once rs (transient_of node s)) ss → with_all_once rs (map (transient_of node) rest) ≡ walk taken rs ss
          → with_all_once rs (map (transient_of node) (cond b (s ∷ rest) rest)) ≡ walk taken (if b then with_once rs (transient_of node s) else rs) ss
      go true i j = i
      go false i j = j

  -- those without subtree may be left out
  deep_taken : (rs ss : List Registration) → walk taken rs (filter (λ (r : Registration). r.options.subtree) ss) ≡ walk taken rs ss
  deep_taken rs [] = refl
  deep_taken rs (s ∷ ss) = go s.options.subtree refl (deep_taken (with_once rs (transient_of node s)) ss) (deep_taken rs ss)
    where
      rest : List Registration
      rest = filter (λ (r : Registration). r.options.subtree) ss

      go : (b : Bool) → s.options.subtree ≡ b → walk taken (with_once rs (transient_of node s)) rest ≡ walk taken (with_once rs (transient_of node s)) ss → walk taken rs rest ≡ walk taken rs ss
          → walk taken rs (cond b (s ∷ rest) rest) ≡ walk taken (if b then with_once rs (transient_of node s) else rs) ss
      go true e i j = ap (λ b. walk taken (if b then with_once rs (transient_of node s) else rs) rest) e ∙ i
      go false e i j = j

  -- one that was taken
  abbrev Has : List Registration → Registration → Type 0
  Has rs r = r.options.subtree ≡ true → list_any (λ t. same_registration t (transient_of node r)) rs ≡ true

  gets : (rs : List Registration) (r : Registration) → Has (taken rs r) r
  gets rs r deep = ap (λ b. list_any (λ t. same_registration t (transient_of node r)) (if b then with_once rs (transient_of node r) else rs)) deep ∙ comes_in (transient_of node r) rs

  keeps : (rs : List Registration) (r s : Registration) → Has rs r → Has (taken rs s) r
  keeps rs r s h deep = go s.options.subtree
    where
      go : (b : Bool) → list_any (λ t. same_registration t (transient_of node r)) (if b then with_once rs (transient_of node s) else rs) ≡ true
      go true = grows (λ t. same_registration t (transient_of node r)) (transient_of node s) rs (h deep)
      go false = h deep

  again : (rs : List Registration) (r : Registration) → Has rs r → taken rs r ≡ rs
  again rs r h = go r.options.subtree refl
    where
      go : (b : Bool) → r.options.subtree ≡ b → (if b then with_once rs (transient_of node r) else rs) ≡ rs
      go true deep = ap (λ b. if b then rs else rs ++ transient_of node r ∷ []) (h deep)
      go false deep = refl

  -- The walk of the code, which asks for the observer and the origin alone.
  module _ (options : ℕ → ℕ → Options) where
    abbrev Agrees : Registration → Type 0
    Agrees r = r.options ≡ options r.observer (origin r)

    is_made : (s t : Registration) → is_transient_from s.observer (origin s) t ≡ true → Agrees s → Agrees t → t.node ≡ node → t ≡ transient_of node s
    is_made s t from a b there = go (same_or t.observer s.observer) t.source refl
      where
        go : Same t.observer s.observer → (q : Option ℕ) → t.source ≡ q → t ≡ transient_of node s
        go (apart ne f) q e = absurd (true≢false (sym from ∙ ap (λ c. c && is_number t.source (origin s)) f))
        go (same d f) None e = absurd (true≢false (sym from ∙ (λ i. f i && is_number (e i) (origin s))))
        go (same d f) (Some m) e = by (same_or m (origin s))
          where
            by : Same m (origin s) → t ≡ transient_of node s
            by (apart ne g) = absurd (true≢false (sym from ∙ (λ i. f i && is_number (e i) (origin s)) ∙ g))
            by (same g _) =
                let source : t.source ≡ Some (origin s) = e ∙ ap (λ k. Some k) g in
                let given : t.options ≡ s.options = b ∙ (λ i. options (d i) (unwrap_or (source i) t.node)) ∙ sym a in
                λ i. record { node = there i; observer = d i; options = given i; source = source i }

    itself : (m : ℕ) → (m == m) ≡ true
    itself m = elim (same_or m m) [ same e t ↦ t | apart ne t ↦ absurd (ne refl) ]

    same_test : (s t : Registration) → Agrees s → Agrees t → t.node ≡ node → is_transient_from s.observer (origin s) t ≡ same_registration t (transient_of node s)
    same_test s t a b there = go (is_transient_from s.observer (origin s) t) refl
      where
        from_it : is_transient_from s.observer (origin s) (transient_of node s) ≡ true
        from_it = (λ i. itself s.observer i && itself (origin s) i)

        no_other : (c : Bool) → same_registration t (transient_of node s) ≡ c → is_transient_from s.observer (origin s) t ≡ false → false ≡ c
        no_other true e off = absurd (true≢false (sym from_it ∙ ap (is_transient_from s.observer (origin s)) (sym (same-is t (transient_of node s) e)) ∙ off))
        no_other false e off = refl

        go : (c : Bool) → is_transient_from s.observer (origin s) t ≡ c → c ≡ same_registration t (transient_of node s)
        go true e = sym (ap (λ r. same_registration r (transient_of node s)) (is_made s t e a b there) ∙ same-itself (transient_of node s))
        go false e = no_other (same_registration t (transient_of node s)) refl e

    same_tests : (s : Registration) → Agrees s → (rs : List Registration) → AllByRecursion (λ t. Agrees t × (t.node ≡ node)) rs
        → list_any (is_transient_from s.observer (origin s)) rs ≡ list_any (λ t. same_registration t (transient_of node s)) rs
    same_tests s a [] h = refl
    same_tests s a (t ∷ rs) h = (λ i. same_test s t a h.0.0 h.0.1 i || same_tests s a rs h.1 i)

    pub both_walks : (rs ss : List Registration) → AllByRecursion (λ t. Agrees t × (t.node ≡ node)) rs → AllByRecursion Agrees ss → with_transients_of node rs ss ≡ walk taken rs ss
    both_walks rs [] h k = refl
    both_walks rs (s ∷ ss) h k = ap (λ ts. with_transients_of node ts ss) one ∙ both_walks (taken rs s) ss (more s.options.subtree (list_any (λ t. same_registration t (transient_of node s)) rs)) k.1
      where
        alike : (c b : Bool) → (if c && not b then rs ++ transient_of node s ∷ [] else rs) ≡ (if c then (if b then rs else rs ++ transient_of node s ∷ []) else rs)
        alike true true = refl
        alike true false = refl
        alike false b = refl

        one : with_transient node rs s ≡ taken rs s
        one = ap (λ b. if s.options.subtree && not b then rs ++ transient_of node s ∷ [] else rs) (same_tests s k.0 rs h) ∙ alike s.options.subtree (list_any (λ t. same_registration t (transient_of node s)) rs)

        more : (c b : Bool) → AllByRecursion (λ t. Agrees t × (t.node ≡ node)) (if c then (if b then rs else rs ++ transient_of node s ∷ []) else rs)
        more true true = h
        more true false = all_append (λ t. Agrees t × (t.node ≡ node)) rs (transient_of node s ∷ []) h ((k.0, refl), tt)
        more false b = h

-- What stands under keys.

all_found : (u : ℕ → Option Registration) (P : Registration → Type 0) (Q : ℕ → Type 0) → ((k : ℕ) (r : Registration) → u k ≡ Some r → Q k → P r) → (keys : List ℕ) → AllByRecursion Q keys → AllByRecursion P (filter_map u keys)
all_found u P Q f [] h = tt
all_found u P Q f (k ∷ keys) h = go (u k) refl (all_found u P Q f keys h.1)
  where
    go : (o : Option Registration) → u k ≡ o → AllByRecursion P (filter_map u keys) → AllByRecursion P (cons_option o (filter_map u keys))
    go None e i = i
    go (Some r) e i = (f k r e h.0, i)

anyhow : (keys : List ℕ) → AllByRecursion (λ (k : ℕ). k ≡ k) keys
anyhow [] = tt
anyhow (k ∷ keys) = (refl, anyhow keys)

module _ (u : ℕ → Option Registration) (lists : List (ℕ × List ℕ)) (there : ℕ → Bool) (agree : Agree u) (stand : AllStand u there lists) (rs : List Registration)
    (has : (n : ℕ) → filter_map u (on n lists) ≡ once (registered_on n rs)) (node : ℕ) (above keys : List ℕ) where
  module _ (walked : walk (taken node) (filter_map u (on node lists)) (filter_map u keys) ≡ walk (taken node) (filter_map u (on node lists)) (standing_on above rs)) where
    here : with_transients_of node (filter_map u (on node lists)) (filter_map u keys) ≡ once (registered_on node rs ++ map (transient_of node) (filter (λ (r : Registration). r.options.subtree) (standing_on above rs)))
    here =
        both_walks node agree.options (filter_map u (on node lists)) (filter_map u keys)
        (all_found u (λ t. (t.options ≡ agree.options t.observer (origin t)) × (t.node ≡ node)) (StandsOn u there node)
        (λ k r e s. (agree.alike k r e, (let d : s.registration ≡ r = (let f : Some s.registration ≡ Some r = sym s.is ∙ e in cc f) in ap (λ (t : Registration). t.node) (sym d) ∙ s.node)))
        (on node lists) (stand node))
        (all_found u (λ t. t.options ≡ agree.options t.observer (origin t)) (λ k. k ≡ k) (λ k r e _. agree.alike k r e) keys (anyhow keys))
        ∙ walked
        ∙ ap (λ ts. walk (taken node) ts (standing_on above rs)) (has node)
        ∙ sym (all_taken node (once (registered_on node rs)) (standing_on above rs))
        ∙ sym (once-append (registered_on node rs) (map (transient_of node) (filter (λ (r : Registration). r.options.subtree) (standing_on above rs))))

    walked-once : (n : ℕ) → with_added_transients node (filter_map u keys) n (filter_map u (on n lists))
        ≡ once (registered_on n rs ++ (if node == n then map (transient_of node) (filter (λ (r : Registration). r.options.subtree) (standing_on above rs)) else []))
    walked-once n = elim (same_or node n) [
      | same e t ↦ rw t (subst (λ m. with_transients_of node (filter_map u (on m lists)) (filter_map u keys) ≡ once (registered_on m rs ++ map (transient_of node) (filter (λ (r : Registration). r.options.subtree) (standing_on above rs)))) e here)
      | apart ne t ↦ rw t (has n ∙ ap once (sym (append-nil (registered_on n rs))))
    ]

  standing-walked : walk (taken node) (filter_map u (on node lists)) (flat_map (λ n. once (registered_on n rs)) above) ≡ walk (taken node) (filter_map u (on node lists)) (standing_on above rs)
  standing-walked = walk-standing (taken node) (Has node) (gets node) (keeps node) (again node) (filter_map u (on node lists)) above rs

  -- by the keys with subtree
  pub transients-once : keys ≡ flat_map (λ n. filter (deep_at u) (on n lists)) above → (n : ℕ) → with_added_transients node (filter_map u keys) n (filter_map u (on n lists))
      ≡ once (registered_on n rs ++ (if node == n then map (transient_of node) (filter (λ (r : Registration). r.options.subtree) (standing_on above rs)) else []))
  transients-once is = walked-once
      (ap (walk (taken node) (filter_map u (on node lists))) (ap (filter_map u) is ∙ found_deep u lists rs has above)
      ∙ deep_taken node (filter_map u (on node lists)) (flat_map (λ n. once (registered_on n rs)) above)
      ∙ standing-walked)

  -- by all keys
  pub transients-of_all : keys ≡ flat_map (λ n. on n lists) above → (n : ℕ) → with_added_transients node (filter_map u keys) n (filter_map u (on n lists))
      ≡ once (registered_on n rs ++ (if node == n then map (transient_of node) (filter (λ (r : Registration). r.options.subtree) (standing_on above rs)) else []))
  transients-of_all is = walked-once
      (ap (walk (taken node) (filter_map u (on node lists))) (ap (filter_map u) is ∙ found_standing u lists rs has above)
      ∙ standing-walked)

-- nothing stands there
pub none-added-there : (node n : ℕ) (rs : List Registration) → with_added_transients node [] n rs ≡ rs
none-added-there node n rs = go (node == n)
  where
    go : (b : Bool) → (if b then rs else rs) ≡ rs
    go true = refl
    go false = refl
