-- What stands under keys, as registrations are added.
use Rattle.std.proofs.Common.{◌≡◌, ℕ, zero, suc, ◌+◌, ◌<◌, ◌==◌, Bool, true, false, not, ◌&&◌, if◌then◌else◌, List, [], ◌∷◌, ◌++◌, length, filter, take, Option, Some, None, refl, ap, sym, ◌∙◌, subst, append_assoc, append-nil, arith, filter_map, flat_map, option_to_list, slice_index_or, cond, is_some}
use Rattle.std.specs.List.{AllByRecursion, cons_option}
use Rattle.std.proofs.lemmas.{List.take_more, List.Elements.filter_map-append}
use Rattle.dom_model.specs.Definitions.{Registration, transient_of, is_transient_from}
use Rattle.dom_model.proofs.PlainLists.Numbers.{same_or, same, apart}
use Rattle.dom_observe.specs.{Watchers.on, Registrations.is_live, Registrations.AllLive, Registrations.HasRegistration, Registrations.StandsOn, Registrations.AllStand, Registrations.Added, Registrations.origin, Registrations.gives_transient, Registrations.transient_of_any, Registrations.transient_under, Registrations.with_transient, Registrations.with_transients_of, Registrations.with_added_transients}
use Rattle.dom_observe.proofs.QuestionLemmas.{any-found}

module _ {A : Type 0} where
  pub all_imply : (P Q : A → Type 0) → ((x : A) → P x → Q x) → (xs : List A) → AllByRecursion P xs → AllByRecursion Q xs
  all_imply P Q f [] h = tt
  all_imply P Q f (x ∷ xs) h = (f x h.0, all_imply P Q f xs h.1)

  pub all_append : (P : A → Type 0) (xs ys : List A) → AllByRecursion P xs → AllByRecursion P ys → AllByRecursion P (xs ++ ys)
  all_append P [] ys h k = k
  all_append P (x ∷ xs) ys h k = (h.0, all_append P xs ys h.1 k)

  pub all_filter : (P : A → Type 0) (p : A → Bool) (xs : List A) → AllByRecursion P xs → AllByRecursion (λ x. P x × (p x ≡ true)) (filter p xs)
  all_filter P p [] h = tt
  all_filter P p (x ∷ xs) h = go (p x) refl (all_filter P p xs h.1)
    where
      go : (b : Bool) → p x ≡ b → AllByRecursion (λ y. P y × (p y ≡ true)) (filter p xs) → AllByRecursion (λ y. P y × (p y ≡ true)) (cond b (x ∷ filter p xs) (filter p xs))
      go true e i = ((h.0, e), i)
      go false e i = i

  pub all_at : (P : A → Type 0) (xs : List A) (i : ℕ) (d : A) → AllByRecursion P xs → i < length xs → P (slice_index_or xs i d)
  all_at P [] i d h lt = absurd (omega arith)
  all_at P (x ∷ xs) zero d h lt = h.0
  all_at P (x ∷ xs) (suc i) d h lt = all_at P xs i d h.1 (omega arith)

-- one step upwards of a walk that gathers what each node has
pub climbed : (l : ℕ → List ℕ) (keys own new all : List ℕ) (n : ℕ) (ms ns : List ℕ) → ns ≡ n ∷ ms → own ≡ l n → new ≡ keys ++ own → keys ++ flat_map l ns ≡ all → new ++ flat_map l ms ≡ all
climbed l keys own new all n ms ns path has grown h =
    ap (λ ks. ks ++ flat_map l ms) (grown ∙ ap (λ ks. keys ++ ks) has)
    ∙ append_assoc keys (l n) (flat_map l ms)
    ∙ ap (λ ps. keys ++ flat_map l ps) (sym path)
    ∙ h

module _ (u v : ℕ → Option Registration) where
  pub found_alike : (keys : List ℕ) → AllByRecursion (λ k. v k ≡ u k) keys → filter_map v keys ≡ filter_map u keys
  found_alike [] h = refl
  found_alike (k ∷ keys) h = (λ i. cons_option (h.0 i) (found_alike keys h.1 i))

-- the transient registrations of one more registration
transients-append : (node : ℕ) (rs ss ts : List Registration) → with_transients_of node rs (ss ++ ts) ≡ with_transients_of node (with_transients_of node rs ss) ts
transients-append node rs [] ts = refl
transients-append node rs (s ∷ ss) ts = transients-append node (with_transient node rs s) ss ts

pub transients_more : (node n : ℕ) (o : Option Registration) (ss rs : List Registration)
    → with_added_transients node (ss ++ option_to_list o) n rs ≡ with_added_transients node (option_to_list o) n (with_added_transients node ss n rs)
transients_more node n o ss rs = go (node == n)
  where
    go : (b : Bool) → (if b then with_transients_of node rs (ss ++ option_to_list o) else rs) ≡ (if b then with_transients_of node (if b then with_transients_of node rs ss else rs) (option_to_list o) else (if b then with_transients_of node rs ss else rs))
    go true = transients-append node rs ss (option_to_list o)
    go false = refl

-- what a node with these keys gets of one
transients_one : (u : ℕ → Option Registration) (own : List ℕ) (node : ℕ) (o : Option Registration) → with_transients_of node (filter_map u own) (option_to_list o) ≡ filter_map u own ++ option_to_list (transient_of_any u own node o)
transients_one u own node None = sym (append-nil (filter_map u own))
transients_one u own node (Some s) =
    ap (λ b. if s.options.subtree && not b then filter_map u own ++ transient_of node s ∷ [] else filter_map u own) (sym (any-found (is_transient_from s.observer (origin s)) u own))
    ∙ go (gives_transient u own s)
  where
    go : (b : Bool) → (if b then filter_map u own ++ transient_of node s ∷ [] else filter_map u own) ≡ filter_map u own ++ option_to_list (if b then Some (transient_of node s) else None)
    go true = refl
    go false = sym (append-nil (filter_map u own))

-- what stands under the first keys, and one more
pub found_more : {B : Type 0} (u : ℕ → Option B) (keys : List ℕ) (i d : ℕ) → i < length keys → filter_map u (take (i + 1) keys) ≡ filter_map u (take i keys) ++ option_to_list (u (slice_index_or keys i d))
found_more {B} u keys i d lt =
    ap (filter_map u) (take_more keys i d lt) ∙ filter_map-append u (take i keys) (slice_index_or keys i d ∷ []) ∙ ap (λ rs. filter_map u (take i keys) ++ rs) (one (u (slice_index_or keys i d)))
  where
    one : (o : Option B) → cons_option o [] ≡ option_to_list o
    one None = refl
    one (Some r) = refl

pub live_of_stands : (u : ℕ → Option Registration) (there : ℕ → Bool) (n : ℕ) (keys : List ℕ) → AllByRecursion (StandsOn u there n) keys → AllLive u keys
live_of_stands u there n keys h = all_imply (StandsOn u there n) (λ k. is_live u k ≡ true) (λ k s. ap is_some s.is) keys h

-- a registration is added
module _ (u : ℕ → Option Registration) (lists : List (ℕ × List ℕ)) (r : Registration) (v : ℕ → Option Registration) (lists' : List (ℕ × List ℕ)) (a : Added u lists r v lists') where
  same_under : (k : ℕ) → is_live u k ≡ true → v k ≡ u k
  same_under k live = a.others k (λ e. let none : u k ≡ None = ap u e ∙ a.vacant in let off : is_live u k ≡ false = ap is_some none in let w : true ≡ false = sym live ∙ off in cc w)

  pub alike-added : (keys : List ℕ) → AllLive u keys → AllByRecursion (λ k. v k ≡ u k) keys
  alike-added keys live = all_imply (λ k. is_live u k ≡ true) (λ k. v k ≡ u k) same_under keys live

  pub live-added : (keys : List ℕ) → AllLive u keys → AllLive v keys
  live-added keys live = all_imply (λ k. is_live u k ≡ true) (λ k. is_live v k ≡ true) (λ k h. ap is_some (same_under k h) ∙ h) keys live

  pub all_live-added : ((n : ℕ) → AllLive u (on n lists)) → (n : ℕ) → AllLive v (on n lists')
  all_live-added live n = subst (AllLive v) (sym (a.keys n)) (all_append (λ k. is_live v k ≡ true) (on n lists) (if n == r.node then a.key ∷ [] else []) (live-added (on n lists) (live n)) (last (n == r.node)))
    where
      last : (b : Bool) → AllLive v (if b then a.key ∷ [] else [])
      last true = (ap is_some a.here, tt)
      last false = tt

  pub found-added : ((n : ℕ) → AllLive u (on n lists)) → (n : ℕ) → filter_map v (on n lists') ≡ filter_map u (on n lists) ++ (if r.node == n then r ∷ [] else [])
  found-added live n =
      ap (filter_map v) (a.keys n)
      ∙ filter_map-append v (on n lists) (if n == r.node then a.key ∷ [] else [])
      ∙ (λ i. found_alike u v (on n lists) (alike-added (on n lists) (live n)) i ++ last i)
    where
      one : (o : Option Registration) → o ≡ Some r → cons_option o [] ≡ r ∷ []
      one o e = ap (λ p. cons_option p []) e

      last : filter_map v (if n == r.node then a.key ∷ [] else []) ≡ (if r.node == n then r ∷ [] else [])
      last = elim (same_or n r.node) [
        | same e t ↦ let s : (r.node == n) ≡ true = elim (same_or r.node n) [ same _ w ↦ w | apart ne w ↦ absurd (ne (sym e)) ] in rw (t, s) (one (v a.key) a.here)
        | apart ne t ↦ let s : (r.node == n) ≡ false = elim (same_or r.node n) [ same e w ↦ absurd (ne (sym e)) | apart _ w ↦ w ] in rw (t, s) refl
      ]

  pub stands-added : (there : ℕ → Bool) → AllStand u there lists → there r.observer ≡ true → AllStand v there lists'
  stands-added there all held_there n =
      subst (AllByRecursion (StandsOn v there n)) (sym (a.keys n))
      (all_append (StandsOn v there n) (on n lists) (if n == r.node then a.key ∷ [] else [])
      (all_imply (StandsOn u there n) (StandsOn v there n)
      (λ k s. record { registration = s.registration; is = same_under k (ap is_some s.is) ∙ s.is; observer = s.observer; node = s.node }) (on n lists) (all n))
      (elim (same_or n r.node) [
        | same e t ↦ rw t (record { registration = r; is = a.here; observer = held_there; node = sym e }, tt)
        | apart ne t ↦ rw t tt
      ]))

-- a transient registration, and what it is made of
pub transient_shape : (u : ℕ → Option Registration) (own : List ℕ) (node : ℕ) (o : Option Registration) (r : Registration) → transient_of_any u own node o ≡ Some r → (s : Registration) × (o ≡ Some s) × (transient_of node s ≡ r)
transient_shape u own node None r h = cc
transient_shape u own node (Some s) r h = go (gives_transient u own s) h
  where
    go : (b : Bool) → (if b then Some (transient_of node s) else None) ≡ Some r → (t : Registration) × (Some s ≡ Some t) × (transient_of node t ≡ r)
    go true e = (s, refl, cc e)
    go false e = cc e

-- one turn of the loop that adds transient registrations, at the key i
module _ (u0 u : ℕ → Option Registration) (lists0 lists : List (ℕ × List ℕ)) (node : ℕ) (standing : List ℕ) (i d : ℕ) (lt : i < length standing)
    (live : (n : ℕ) → AllLive u (on n lists)) (alike : AllByRecursion (λ k. u k ≡ u0 k) standing)
    (has : (n : ℕ) → filter_map u (on n lists) ≡ with_added_transients node (filter_map u0 (take i standing)) n (filter_map u0 (on n lists0))) where
  by_node : (n : ℕ) (o : Option Registration) → with_added_transients node (option_to_list o) n (filter_map u (on n lists)) ≡ filter_map u (on n lists) ++ (if node == n then option_to_list (transient_of_any u (on node lists) node o) else [])
  by_node n o = elim (same_or node n) [
    | same e t ↦ rw t (subst (λ m. with_transients_of node (filter_map u (on m lists)) (option_to_list o) ≡ filter_map u (on m lists) ++ option_to_list (transient_of_any u (on node lists) node o)) e (transients_one u (on node lists) node o))
    | apart ne t ↦ rw t (sym (append-nil (filter_map u (on n lists))))
  ]

  has_more : (n : ℕ) → with_added_transients node (filter_map u0 (take (i + 1) standing)) n (filter_map u0 (on n lists0))
      ≡ filter_map u (on n lists) ++ (if node == n then option_to_list (transient_under u (on node lists) node (slice_index_or standing i d)) else [])
  has_more n =
      ap (λ ss. with_added_transients node ss n (filter_map u0 (on n lists0))) (found_more u0 standing i d lt)
      ∙ transients_more node n (u0 (slice_index_or standing i d)) (filter_map u0 (take i standing)) (filter_map u0 (on n lists0))
      ∙ (λ j. with_added_transients node (option_to_list (sym (all_at (λ k. u k ≡ u0 k) standing i d alike lt) j)) n (sym (has n) j))
      ∙ by_node n (u (slice_index_or standing i d))

  -- nothing is made
  pub turn-none : transient_under u (on node lists) node (slice_index_or standing i d) ≡ None → (n : ℕ) → filter_map u (on n lists) ≡ with_added_transients node (filter_map u0 (take (i + 1) standing)) n (filter_map u0 (on n lists0))
  turn-none none n = sym (has_more n ∙ ap (λ o. filter_map u (on n lists) ++ (if node == n then option_to_list o else [])) none ∙ nothing (node == n))
    where
      nothing : (b : Bool) → filter_map u (on n lists) ++ (if b then [] else []) ≡ filter_map u (on n lists)
      nothing true = append-nil (filter_map u (on n lists))
      nothing false = append-nil (filter_map u (on n lists))

  -- a transient registration is made and added
  module _ (r : Registration) (some : transient_under u (on node lists) node (slice_index_or standing i d) ≡ Some r) (v : ℕ → Option Registration) (lists' : List (ℕ × List ℕ)) (a : Added u lists r v lists') where
    on_node : r.node ≡ node
    on_node = let s = transient_shape u (on node lists) node (u (slice_index_or standing i d)) r some in sym (ap (λ (t : Registration). t.node) s.2)

    pub turn-added : (n : ℕ) → filter_map v (on n lists') ≡ with_added_transients node (filter_map u0 (take (i + 1) standing)) n (filter_map u0 (on n lists0))
    turn-added n =
        found-added u lists r v lists' a live n
        ∙ ap (λ m. filter_map u (on n lists) ++ (if m == n then r ∷ [] else [])) on_node
        ∙ ap (λ o. filter_map u (on n lists) ++ (if node == n then option_to_list o else [])) (sym some)
        ∙ sym (has_more n)

    pub turn-alike : AllLive u0 standing → AllByRecursion (λ k. v k ≡ u0 k) standing
    turn-alike live0 = both standing alike live0
      where
        both : (keys : List ℕ) → AllByRecursion (λ k. u k ≡ u0 k) keys → AllLive u0 keys → AllByRecursion (λ k. v k ≡ u0 k) keys
        both [] h l = tt
        both (k ∷ keys) h l = (same_under u lists r v lists' a k (ap is_some h.0 ∙ l.0) ∙ h.0, both keys h.1 l.1)

    pub turn-stands : (there : ℕ → Bool) → AllByRecursion (HasRegistration u0 there) standing → AllStand u there lists → AllStand v there lists'
    turn-stands there bounded all =
        let at_key = all_at (HasRegistration u0 there) standing i d bounded lt in
        let s = transient_shape u (on node lists) node (u (slice_index_or standing i d)) r some in
        let same : Some s.0 ≡ Some at_key.registration = sym s.1 ∙ all_at (λ k. u k ≡ u0 k) standing i d alike lt ∙ at_key.is in
        let origin : s.0 ≡ at_key.registration = cc same in
        let held_there : there r.observer ≡ true = subst (λ o. there o ≡ true) (ap (λ (t : Registration). t.observer) (sym origin) ∙ ap (λ (t : Registration). t.observer) s.2) at_key.observer in
        stands-added u lists r v lists' a there all held_there

pub alike_self : (u : ℕ → Option Registration) (keys : List ℕ) → AllByRecursion (λ k. u k ≡ u k) keys
alike_self u [] = tt
alike_self u (k ∷ keys) = (refl, alike_self u keys)
