-- The sources of transient registrations stand, as registrations come in and end.
use Rattle.std.proofs.Common.{◌≡◌, ◌≢◌, ℕ, ◌==◌, Bool, true, false, not, ◌&&◌, if◌then◌else◌, List, Option, option_map, None, Some, refl, ap, sym, ◌∙◌, subst, is_none, is_some, unwrap_or}
use Rattle.std.specs.Option.{option_map_or}
use Rattle.std.proofs.lemmas.Bool.{true≢false}
use Rattle.dom_model.specs.Definitions.{is_number, Options, Registration, transient_of, is_registered}
use Rattle.dom_model.proofs.PlainLists.Numbers.{Same, same_or, same, apart}
use Rattle.dom_observe.specs.{declared.registration.EndedRegistrations.EndedRegistrations, declared.registration.EndedRegistrations.TheVariants.Transient, declared.registration.EndedRegistrations.TheVariants.Of, declared.registration.EndedRegistrations.TheVariants.From, declared.registration.EndedRegistrations.TheVariants.TransientOf, Registrations.spares, Registrations.unless_ended, Registrations.own_at, Registrations.Observes, Registrations.HaveSources, Registrations.Added, Registrations.transient_under, Registrations.with_new_options}
use Rattle.dom_observe.proofs.RegistrationTableLemmas.{transient_shape}

-- what the observer's registration on a node is
pub own-shape : (o n : ℕ) (p : Option Registration) → option_map_or (is_registered o n) p false ≡ true → (r : Registration) × (p ≡ Some r) × (r.observer ≡ o) × (r.node ≡ n) × (r.source ≡ None)
own-shape o n None h = absurd (true≢false (sym h))
own-shape o n (Some r) h = go (same_or r.observer o) (same_or r.node n) r.source refl h
  where
    go : Same r.observer o → Same r.node n → (s : Option ℕ) → r.source ≡ s → ((r.observer == o) && ((r.node == n) && is_none s)) ≡ true
        → (t : Registration) × (Some r ≡ Some t) × (t.observer ≡ o) × (t.node ≡ n) × (t.source ≡ None)
    go (same d t) (same e u) None f g = (r, refl, d, e, f)
    go (same d t) (same e u) (Some m) f g = let k : false ≡ true = rw (t, u) at g in absurd (true≢false (sym k))
    go (same d t) (apart ne u) s f g = let k : false ≡ true = rw (t, u) at g in absurd (true≢false (sym k))
    go (apart ne t) z s f g = let k : false ≡ true = rw t at g in absurd (true≢false (sym k))

-- what a step leaves was there, and is spared
pub left-some : (ended : EndedRegistrations) (p : Option Registration) (r : Registration) → unless_ended ended p ≡ Some r → (p ≡ Some r) × (spares ended r ≡ true)
left-some ended None r h = cc h
left-some ended (Some s) r h = go (spares ended s) refl h
  where
    go : (b : Bool) → spares ended s ≡ b → (if b then Some s else None) ≡ Some r → (Some s ≡ Some r) × (spares ended r ≡ true)
    go true e g = let d : s ≡ r = cc g in (g, ap (spares ended) (sym d) ∙ e)
    go false e g = cc g

-- a step that spares a registration spares each lasting one of its observer
spares-lasting : (ended : EndedRegistrations) (r s : Registration) → spares ended r ≡ true → s.observer ≡ r.observer → s.source ≡ None → spares ended s ≡ true
spares-lasting Transient r s h d e = ap is_none e
spares-lasting (Of o) r s h d e = ap (λ p. not (p == o)) d ∙ h
spares-lasting (From o n) r s h d e = ap (λ p. not ((s.observer == o) && is_number p n)) e ∙ go (s.observer == o)
  where
    go : (b : Bool) → not (b && false) ≡ true
    go true = refl
    go false = refl
spares-lasting (TransientOf o) r s h d e = ap (λ p. not ((s.observer == o) && is_some p)) e ∙ go (s.observer == o)
  where
    go : (b : Bool) → not (b && false) ≡ true
    go true = refl
    go false = refl

module _ (u v : ℕ → Option Registration) where
  -- registrations end
  pub sources-ended : (ended : EndedRegistrations) → ((k : ℕ) → v k ≡ unless_ended ended (u k)) → HaveSources u → HaveSources v
  sources-ended ended left have key r n is source =
      let before = left-some ended (u key) r (sym (left key) ∙ is) in
      let o = have key r n before.0 source in
      let s = own-shape r.observer n (u o.key) o.own in
      let stays : v o.key ≡ u o.key = left o.key ∙ ap (unless_ended ended) s.1 ∙ ap (λ (b : Bool). if b then Some s.0 else None) (spares-lasting ended r s.0 before.1 s.2 s.4) ∙ sym s.1 in
      record { key = o.key; own = ap (λ p. option_map_or (is_registered r.observer n) p false) stays ∙ o.own }

  -- one gets other options
  pub sources-changed : (key : ℕ) (options : Options) → v key ≡ option_map (with_new_options options) (u key) → ((k : ℕ) → k ≢ key → v k ≡ u k) → HaveSources u → HaveSources v
  sources-changed key options changed others have k r n is source =
      elim (same_or k key) [
        | same e t ↦ here (before (u key) (sym changed ∙ ap v (sym e) ∙ is))
        | apart ne t ↦ still r.observer (have k r n (sym (others k ne) ∙ is) source)
      ]
    where
      before : (p : Option Registration) → option_map (with_new_options options) p ≡ Some r → (s : Registration) × (p ≡ Some s) × (s.observer ≡ r.observer) × (s.source ≡ r.source)
      before None h = cc h
      before (Some s) h = let d : with_new_options options s ≡ r = cc h in (s, refl, ap (λ (t : Registration). t.observer) d, ap (λ (t : Registration). t.source) d)

      alike : (o : ℕ) (p : Option Registration) → option_map_or (is_registered o n) (option_map (with_new_options options) p) false ≡ option_map_or (is_registered o n) p false
      alike o None = refl
      alike o (Some s) = refl

      still : (o : ℕ) → Observes u o n → Observes v o n
      still o w =
          elim (same_or w.key key) [
            | same e t ↦ record { key = w.key; own = ap (own_at v o n) e ∙ ap (λ p. option_map_or (is_registered o n) p false) changed ∙ alike o (u key) ∙ ap (own_at u o n) (sym e) ∙ w.own }
            | apart ne t ↦ record { key = w.key; own = ap (λ p. option_map_or (is_registered o n) p false) (others w.key ne) ∙ w.own }
          ]

      here : (s : Registration) × (u key ≡ Some s) × (s.observer ≡ r.observer) × (s.source ≡ r.source) → Observes v r.observer n
      here s = subst (λ o. Observes v o n) s.2 (still s.0.observer (have key s.0 n s.1 (s.3 ∙ source)))

  -- one comes in: where it is a transient one, its source stands
  pub sources-added : (lists : List (ℕ × List ℕ)) (r : Registration) (lists' : List (ℕ × List ℕ)) → Added u lists r v lists' → ((n : ℕ) → r.source ≡ Some n → Observes u r.observer n) → HaveSources u → HaveSources v
  sources-added lists r lists' a new have k s n is source =
      elim (same_or k a.key) [
        | same e t ↦
            let d : r ≡ s = (let f : Some r ≡ Some s = sym a.here ∙ ap v (sym e) ∙ is in cc f) in
            subst (λ (p : Registration). Observes v p.observer n) d (still r.observer (new n (ap (λ (p : Registration). p.source) d ∙ source)))
        | apart ne t ↦ still s.observer (have k s n (sym (a.others k ne) ∙ is) source)
      ]
    where
      still : (o : ℕ) → Observes u o n → Observes v o n
      still o w =
          let there = own-shape o n (u w.key) w.own in
          let other : w.key ≢ a.key = λ e. (let gone : Some there.0 ≡ None = sym there.1 ∙ ap u e ∙ a.vacant in cc gone) in
          record { key = w.key; own = ap (λ p. option_map_or (is_registered o n) p false) (a.others w.key other) ∙ w.own }

-- the source of a transient registration that a node gets
pub source-made : (u : ℕ → Option Registration) (own : List ℕ) (node key : ℕ) (r : Registration) → transient_under u own node key ≡ Some r → HaveSources u → (n : ℕ) → r.source ≡ Some n → Observes u r.observer n
source-made u own node key r some have n source =
    subst (λ o. Observes u o n) (ap (λ (t : Registration). t.observer) made.2) (go made.0.source refl)
  where
    made : (s : Registration) × (u key ≡ Some s) × (transient_of node s ≡ r)
    made = transient_shape u own node (u key) r some

    first : Some (unwrap_or made.0.source made.0.node) ≡ Some n
    first = ap (λ (t : Registration). t.source) made.2 ∙ source

    itself : (m : ℕ) → (m == m) ≡ true
    itself m = elim (same_or m m) [ same e t ↦ t | apart ne t ↦ absurd (ne refl) ]

    go : (o : Option ℕ) → made.0.source ≡ o → Observes u made.0.observer n
    go None e =
        let here : made.0.node ≡ n = (let d : Some (unwrap_or None made.0.node) ≡ Some n = sym (ap (λ o. Some (unwrap_or o made.0.node)) e) ∙ first in cc d) in
        record {
          key = key;
          own = ap (λ p. option_map_or (is_registered made.0.observer n) p false) made.1
              ∙ ap (λ o. (made.0.observer == made.0.observer) && ((made.0.node == n) && is_none o)) e
              ∙ ap (λ m. (made.0.observer == made.0.observer) && ((made.0.node == m) && true)) (sym here)
              ∙ (λ i. itself made.0.observer i && (itself made.0.node i && true));
        }
    go (Some m) e =
        let d : Some (unwrap_or (Some m) made.0.node) ≡ Some n = sym (ap (λ o. Some (unwrap_or o made.0.node)) e) ∙ first in
        have key made.0 n made.1 (e ∙ d)
