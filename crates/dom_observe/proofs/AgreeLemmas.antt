-- What stands of an observer from one origin has the same options, as registrations come in and end.
use Rattle.std.proofs.Common.{◌≡◌, ◌≢◌, ℕ, ◌==◌, Bool, true, false, not, ◌&&◌, ◌||◌, if◌then◌else◌, List, [], ◌∷◌, find, Option, option_map, None, Some, refl, ap, sym, ◌∙◌, subst, cond, is_none, unwrap_or}
use Rattle.std.specs.{Option.option_map_or, List.list_any}
use Rattle.std.proofs.lemmas.Bool.{true≢false, or_from}
use Rattle.dom_model.specs.Definitions.{among, is_number, Options, Registration, transient_of, is_registered, is_transient_from}
use Rattle.dom_model.proofs.PlainLists.Numbers.{Same, same_or, same, apart}
use Rattle.dom_observe.specs.{declared.registration.EndedRegistrations.EndedRegistrations, declared.registration.EndedRegistrations.TheVariants.From, Watchers.on, Registrations.unless_ended, Registrations.own_at, Registrations.from_at, Registrations.origin, Registrations.is_on_node, Registrations.transient_of_any, Registrations.AreListedByNode, Registrations.HaveSources, Registrations.Agree, Registrations.Added, Registrations.transient_under, Registrations.with_new_options}
use Rattle.dom_observe.proofs.{ReobserveLemmas.find_own, HaveSourcesLemmas.own-shape, HaveSourcesLemmas.left-some, RegistrationTableLemmas.transient_shape}
use Rattle.dom_model.proofs.Forests.Below.{at_itself}

-- it is of the observer, and comes from the node
abbrev pub comes : ℕ → ℕ → Registration → Bool
comes o n r = (r.observer == o) && (origin r == n)

-- so it is the observer's there, or a transient one from there
pub comes-split : (o n : ℕ) (r : Registration) → comes o n r ≡ (is_registered o n r || is_transient_from o n r)
comes-split o n r = go (r.observer == o) r.node r.source
  where
    there : (c : Bool) → c ≡ ((c && true) || false)
    there true = refl
    there false = refl

    other : (c d : Bool) → d ≡ ((c && false) || d)
    other true d = refl
    other false d = refl

    go : (b : Bool) (m : ℕ) (s : Option ℕ) → (b && (unwrap_or s m == n)) ≡ ((b && ((m == n) && is_none s)) || (b && is_number s n))
    go true m None = there (m == n)
    go true m (Some k) = other (m == n) (k == n)
    go false m s = refl

-- a list has a key that passes
any_there : (p : ℕ → Bool) (k : ℕ) (keys : List ℕ) → among k keys ≡ true → p k ≡ true → list_any p keys ≡ true
any_there p k [] there h = absurd (true≢false (sym there))
any_there p k (j ∷ keys) there h = go (same_or j k) (any_there p k keys)
  where
    or_true : (b : Bool) → (b || true) ≡ true
    or_true true = refl
    or_true false = refl

    go : Same j k → (among k keys ≡ true → p k ≡ true → list_any p keys ≡ true) → list_any p (j ∷ keys) ≡ true
    go (same e t) rest = ap (λ b. b || list_any p keys) (ap p e ∙ h)
    go (apart ne t) rest = let w = rw t at there in ap (λ b. p j || b) (rest w h) ∙ or_true (p j)

-- a node gets a transient registration where none of its observer and origin is there
gives-none : (u : ℕ → Option Registration) (own : List ℕ) (node : ℕ) (o : Option Registration) (r : Registration) → transient_of_any u own node o ≡ Some r
    → (s : Registration) → o ≡ Some s → list_any (from_at u s.observer (origin s)) own ≡ false
gives-none u own node o r some s is = go s.options.subtree (list_any (from_at u s.observer (origin s)) own) (ap (transient_of_any u own node) (sym is) ∙ some)
  where
    go : (b c : Bool) → (if b && not c then Some (transient_of node s) else None) ≡ Some r → c ≡ false
    go true true h = cc h
    go true false h = refl
    go false c h = cc h

-- an observer's registration on a node stands under one key
pub agree-own : (u : ℕ → Option Registration) → Agree u → (o n k j : ℕ) → own_at u o n k ≡ true → own_at u o n j ≡ true → j ≡ k
agree-own u a o n k j h g =
    let s = own-shape o n (u k) h in
    let t = own-shape o n (u j) g in
    a.one k j s.0 t.0 s.1 t.1 (s.3 ∙ sym t.3) (s.2 ∙ sym t.2) (s.4 ∙ sym t.4)

module _ (u v : ℕ → Option Registration) where
  -- registrations end
  pub agree-ended : (ended : EndedRegistrations) → ((k : ℕ) → v k ≡ unless_ended ended (u k)) → Agree u → Agree v
  agree-ended ended left a = record {
    options = a.options;
    alike = λ key r is. a.alike key r (left-some ended (u key) r (sym (left key) ∙ is)).0;
    one = λ k j r s e f. a.one k j r s (before k r e) (before j s f);
  }
    where
      before : (k : ℕ) (r : Registration) → v k ≡ Some r → u k ≡ Some r
      before k r is = (left-some ended (u k) r (sym (left k) ∙ is)).0

  -- the observer's registration on a node gets other options, and no transient one comes from there
  pub agree-changed : (o n key : ℕ) (options : Options) → own_at u o n key ≡ true → ((k : ℕ) (r : Registration) → u k ≡ Some r → is_transient_from o n r ≡ false)
      → v key ≡ option_map (with_new_options options) (u key) → ((k : ℕ) → k ≢ key → v k ≡ u k) → Agree u → Agree v
  agree-changed o n key options own none changed others a = record {
    options = given;
    alike = λ k r is. elim (same_or k key) [
      | same e t ↦ here r (let d : Some (with_new_options options s.0) ≡ Some r = sym (changed ∙ ap (option_map (with_new_options options)) s.1) ∙ ap v (sym e) ∙ is in cc d)
      | apart ne t ↦ there k ne r (sym (others k ne) ∙ is)
    ];
    one = λ k j r t e f at_node by from.
        let b = was k r e in
        let d = was j t f in
        let here : b.0.node ≡ d.0.node = b.2 ∙ at_node ∙ sym d.2 in
        let who : b.0.observer ≡ d.0.observer = b.3 ∙ by ∙ sym d.3 in
        let where_from : b.0.source ≡ d.0.source = b.4 ∙ from ∙ sym d.4 in
        a.one k j b.0 d.0 b.1 d.1 here who where_from;
  }
    where
      s : (r : Registration) × (u key ≡ Some r) × (r.observer ≡ o) × (r.node ≡ n) × (r.source ≡ None)
      s = own-shape o n (u key) own

      given : ℕ → ℕ → Options
      given p m = if (p == o) && (m == n) then options else a.options p m

      -- what stands under a key stood there, maybe with other options
      was : (k : ℕ) (r : Registration) → v k ≡ Some r → (t : Registration) × (u k ≡ Some t) × (t.node ≡ r.node) × (t.observer ≡ r.observer) × (t.source ≡ r.source)
      was k r is = elim (same_or k key) [
        | same e t ↦
            let d : with_new_options options s.0 ≡ r = let f : Some (with_new_options options s.0) ≡ Some r = sym (changed ∙ ap (option_map (with_new_options options)) s.1) ∙ ap v (sym e) ∙ is in cc f in
            (s.0, ap u e ∙ s.1, ap (λ (q : Registration). q.node) d, ap (λ (q : Registration). q.observer) d, ap (λ (q : Registration). q.source) d)
        | apart ne t ↦ (r, sym (others k ne) ∙ is, refl, refl, refl)
      ]

      here : (r : Registration) → with_new_options options s.0 ≡ r → r.options ≡ given r.observer (origin r)
      here r d =
          let from : origin s.0 ≡ n = ap (λ q. unwrap_or q s.0.node) s.4 ∙ s.3 in
          let test : comes o n s.0 ≡ true = (λ i. (s.2 i == o) && (from i == n)) ∙ (λ i. at_itself o i && at_itself n i) in
          subst (λ (t : Registration). t.options ≡ given t.observer (origin t)) d (sym (ap (λ b. if b then options else a.options s.0.observer (origin s.0)) test))

      there : (k : ℕ) → k ≢ key → (r : Registration) → u k ≡ Some r → r.options ≡ given r.observer (origin r)
      there k ne r is =
          a.alike k r is
          ∙ sym (ap (λ b. if b then options else a.options r.observer (origin r)) (comes-split o n r ∙ or_from (is_registered o n r) (is_transient_from o n r) (not_own (is_registered o n r) refl) (none k r is)))
        where
          not_own : (b : Bool) → is_registered o n r ≡ b → b ≡ false
          not_own true e = absurd (ne (agree-own u a o n key k own (ap (λ q. option_map_or (is_registered o n) q false) is ∙ e)))
          not_own false e = refl

  module _ (lists : List (ℕ × List ℕ)) (r : Registration) (lists' : List (ℕ × List ℕ)) (new : Added u lists r v lists') (a : Agree u) where
    under_key : (k : ℕ) → k ≡ new.key → (t : Registration) → v k ≡ Some t → r ≡ t
    under_key k e t is = let d : Some r ≡ Some t = sym new.here ∙ ap v (sym e) ∙ is in cc d

    -- where none is of its observer and source on its node, it is the only one
    only : ((k : ℕ) (t : Registration) → u k ≡ Some t → t.node ≡ r.node → t.observer ≡ r.observer → t.source ≡ r.source → ⊥)
        → (k j : ℕ) (s t : Registration) → v k ≡ Some s → v j ≡ Some t → s.node ≡ t.node → s.observer ≡ t.observer → s.source ≡ t.source → j ≡ k
    only none k j s t e f at_node by from = go (same_or k new.key) (same_or j new.key)
      where
        go : Same k new.key → Same j new.key → j ≡ k
        go (same d _) (same g _) = g ∙ sym d
        go (same d _) (apart ne _) =
            let is = sym (under_key k d s e) in
            absurd (none j t (sym (new.others j ne) ∙ f) (sym at_node ∙ ap (λ (q : Registration). q.node) is) (sym by ∙ ap (λ (q : Registration). q.observer) is) (sym from ∙ ap (λ (q : Registration). q.source) is))
        go (apart ne _) (same g _) =
            let is = sym (under_key j g t f) in
            absurd (none k s (sym (new.others k ne) ∙ e) (at_node ∙ ap (λ (q : Registration). q.node) is) (by ∙ ap (λ (q : Registration). q.observer) is) (from ∙ ap (λ (q : Registration). q.source) is))
        go (apart ne _) (apart nf _) = a.one k j s t (sym (new.others k ne) ∙ e) (sym (new.others j nf) ∙ f) at_node by from

    -- a transient one comes in, with the options of its origin
    pub agree-transient : r.options ≡ a.options r.observer (origin r) → ((k : ℕ) (t : Registration) → u k ≡ Some t → t.node ≡ r.node → t.observer ≡ r.observer → t.source ≡ r.source → ⊥) → Agree v
    agree-transient same_options none = record {
      options = a.options;
      alike = λ k t is. elim (same_or k new.key) [
        | same e _ ↦ subst (λ (q : Registration). q.options ≡ a.options q.observer (origin q)) (under_key k e t is) same_options
        | apart ne _ ↦ a.alike k t (sym (new.others k ne) ∙ is)
      ];
      one = only none;
    }

    -- a lasting one comes in, where nothing comes from its node
    pub agree-lasting : r.source ≡ None → ((k : ℕ) (t : Registration) → u k ≡ Some t → comes r.observer r.node t ≡ false) → Agree v
    agree-lasting lasts free = record {
      options = given;
      alike = λ k t is. elim (same_or k new.key) [
        | same e _ ↦ subst (λ (q : Registration). q.options ≡ given q.observer (origin q)) (under_key k e t is) itself_given
        | apart ne _ ↦ a.alike k t (sym (new.others k ne) ∙ is) ∙ sym (ap (λ b. if b then r.options else a.options t.observer (origin t)) (free k t (sym (new.others k ne) ∙ is)))
      ];
      one = only none;
    }
      where
        given : ℕ → ℕ → Options
        given p m = if (p == r.observer) && (m == r.node) then r.options else a.options p m

        itself_given : r.options ≡ given r.observer (origin r)
        itself_given =
            let from : origin r ≡ r.node = ap (λ q. unwrap_or q r.node) lasts in
            let test : comes r.observer r.node r ≡ true = (λ i. (r.observer == r.observer) && (from i == r.node)) ∙ (λ i. at_itself r.observer i && at_itself r.node i) in
            sym (ap (λ b. if b then r.options else a.options r.observer (origin r)) test)

        -- no other is the observer's there
        none : (k : ℕ) (t : Registration) → u k ≡ Some t → t.node ≡ r.node → t.observer ≡ r.observer → t.source ≡ r.source → ⊥
        none k t is at_node by from =
            let where_from : origin t ≡ r.node = ap (λ q. unwrap_or q t.node) (from ∙ lasts) ∙ at_node in
            let test : comes r.observer r.node t ≡ true = (λ i. (by i == r.observer) && (where_from i == r.node)) ∙ (λ i. at_itself r.observer i && at_itself r.node i) in
            true≢false (sym test ∙ free k t is)

-- the options of a transient registration that a node gets are those of its origin
pub agree-made : (u : ℕ → Option Registration) (own : List ℕ) (node key : ℕ) (r : Registration) → transient_under u own node key ≡ Some r → (a : Agree u) → r.options ≡ a.options r.observer (origin r)
agree-made u own node key r some a =
    let s = transient_shape u own node (u key) r some in
    subst (λ (t : Registration). t.options ≡ a.options t.observer (origin t)) s.2 (a.alike key s.0 s.1)

-- and no other of its observer comes from there on the node
pub alone-made : (u : ℕ → Option Registration) (lists : List (ℕ × List ℕ)) (node key : ℕ) (r : Registration) → AreListedByNode u lists → transient_under u (on node lists) node key ≡ Some r
    → (k : ℕ) (t : Registration) → u k ≡ Some t → t.node ≡ r.node → t.observer ≡ r.observer → t.source ≡ r.source → ⊥
alone-made u lists node key r placed some k t is at_node by from =
    let s = transient_shape u (on node lists) node (u key) r some in
    let m = origin s.0 in
    let here : t.node ≡ node = at_node ∙ sym (ap (λ (q : Registration). q.node) s.2) in
    let who : t.observer ≡ s.0.observer = by ∙ sym (ap (λ (q : Registration). q.observer) s.2) in
    let where_from : t.source ≡ Some m = from ∙ sym (ap (λ (q : Registration). q.source) s.2) in
    let there : among k (on node lists) ≡ true = placed node k ∙ ap (is_on_node node) is ∙ ap (λ n. n == node) here ∙ at_itself node in
    let test : from_at u s.0.observer m k ≡ true = ap (λ p. option_map_or (is_transient_from s.0.observer m) p false) is ∙ (λ i. (who i == s.0.observer) && is_number (where_from i) m) ∙ (λ i. at_itself s.0.observer i && at_itself m i) in
    true≢false (sym (any_there (from_at u s.0.observer m) k (on node lists) there test) ∙ gives-none u (on node lists) node (u key) r some s.0 s.1)

-- Where an observer is not registered on a node, nothing comes from there.
module _ (u : ℕ → Option Registration) (o n : ℕ) where
  pub not_found : (keys : List ℕ) → find (own_at u o n) keys ≡ None → (k : ℕ) → among k keys ≡ true → own_at u o n k ≡ false
  not_found [] h k there = absurd (true≢false (sym there))
  not_found (j ∷ keys) h k there = go (own_at u o n j) refl h (same_or j k) (not_found keys)
    where
      go : (b : Bool) → own_at u o n j ≡ b → cond b (Some j) (find (own_at u o n) keys) ≡ None → Same j k → (find (own_at u o n) keys ≡ None → (i : ℕ) → among i keys ≡ true → own_at u o n i ≡ false) → own_at u o n k ≡ false
      go true e g z rest = let d : ⊥ = cc g in absurd d
      go false e g (same f t) rest = ap (own_at u o n) (sym f) ∙ e
      go false e g (apart ne t) rest = let w = rw t at there in rest g k w

  pub nothing-comes : (lists : List (ℕ × List ℕ)) → AreListedByNode u lists → HaveSources u → find (own_at u o n) (on n lists) ≡ None → (k : ℕ) (t : Registration) → u k ≡ Some t → comes o n t ≡ false
  nothing-comes lists placed have none k t is = comes-split o n t ∙ or_from (is_registered o n t) (is_transient_from o n t) (sym (ap (λ q. option_map_or (is_registered o n) q false) is) ∙ not_own k (own_at u o n k) refl) (not_from (same_or t.observer o) t.source refl)
    where
      not_own : (j : ℕ) (b : Bool) → own_at u o n j ≡ b → own_at u o n j ≡ false
      not_own j true e =
          let s = own-shape o n (u j) e in
          let there : is_on_node n (u j) ≡ true = ap (is_on_node n) s.1 ∙ ap (λ m. m == n) s.3 ∙ at_itself n in
          not_found (on n lists) none j (placed n j ∙ there)
      not_own j false e = e

      not_from : Same t.observer o → (q : Option ℕ) → t.source ≡ q → is_transient_from o n t ≡ false
      not_from (apart ne f) q e = ap (λ b. b && is_number t.source n) f
      not_from (same d f) None e = (λ i. f i && is_number (e i) n)
      not_from (same d f) (Some m) e = go (same_or m n)
        where
          go : Same m n → is_transient_from o n t ≡ false
          go (apart ne g) = (λ i. f i && is_number (e i) n) ∙ g
          go (same g _) =
              let w = have k t m is e in
              let own : own_at u o n w.key ≡ true = (λ i. own_at u (sym d i) (sym g i) w.key) ∙ w.own in
              absurd (true≢false (sym own ∙ not_own w.key (own_at u o n w.key) refl))

-- An observer observes a node again: what comes from there ends, and its registration gets the options.
pub agree-again : (u u1 u2 : ℕ → Option Registration) (lists : List (ℕ × List ℕ)) (o n key : ℕ) (options : Options) → ((k : ℕ) → u1 k ≡ unless_ended (From o n) (u k)) → find (own_at u o n) (on n lists) ≡ Some key
    → u2 key ≡ option_map (with_new_options options) (u1 key) → ((k : ℕ) → k ≢ key → u2 k ≡ u1 k) → Agree u → Agree u2
agree-again u u1 u2 lists o n key options left is_key changed others a =
    agree-changed u1 u2 o n key options own none changed others (agree-ended u u1 (From o n) left a)
  where
    was : own_at u o n key ≡ true
    was = find_own u o n (on n lists) key is_key

    s : (r : Registration) × (u key ≡ Some r) × (r.observer ≡ o) × (r.node ≡ n) × (r.source ≡ None)
    s = own-shape o n (u key) was

    off : (b : Bool) → (b && false) ≡ false
    off true = refl
    off false = refl

    not_from : is_transient_from o n s.0 ≡ false
    not_from = ap (λ q. (s.0.observer == o) && is_number q n) s.4 ∙ off (s.0.observer == o)

    stays : u1 key ≡ u key
    stays = left key ∙ ap (unless_ended (From o n)) s.1 ∙ ap (λ b. if not b then Some s.0 else None) not_from ∙ sym s.1

    own : own_at u1 o n key ≡ true
    own = ap (λ q. option_map_or (is_registered o n) q false) stays ∙ was

    none : (k : ℕ) (r : Registration) → u1 k ≡ Some r → is_transient_from o n r ≡ false
    none k r is = go (is_transient_from o n r) (left-some (From o n) (u k) r (sym (left k) ∙ is)).1
      where
        go : (b : Bool) → not b ≡ true → b ≡ false
        go true h = absurd (true≢false (sym h))
        go false h = refl
