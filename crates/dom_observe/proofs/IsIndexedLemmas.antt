-- The keys of nodes and observers, as registrations come in and end.
use Rattle.std.proofs.Common.{◌≡◌, ◌≢◌, ℕ, ◌<◌, ◌≤◌, ◌==◌, Bool, true, false, ◌&&◌, if◌then◌else◌, List, [], length, filter, Option, option_map, None, Some, refl, ap, sym, ◌∙◌, subst, arith, ◌⊎◌, inl, inr, is_none, is_some, slice_index_or, slice_set}
use Rattle.std.specs.{Option.option_map_or, List.AllByRecursion}
use Rattle.std.proofs.lemmas.{Bool.true≢false, List.get_or-set_same, List.get_or-set_other}
use Rattle.dom_model.specs.Definitions.{hits, among, with_last, Options, Registration, transient_of}
use Rattle.dom_model.proofs.PlainLists.Numbers.{same_or, same, apart}
use Rattle.dom_observe.specs.{declared.registration.EndedRegistrations.EndedRegistrations, declared.registration.EndedRegistrations.TheVariants.Transient, declared.registration.EndedRegistrations.TheVariants.Of, declared.registration.EndedRegistrations.TheVariants.From, Registrations.is_live, Registrations.unless_ended, Registrations.lasts_for, Registrations.passes_for, Registrations.Owned, Registrations.HasRegistration, Registrations.NewKey, Registrations.origin, Registrations.transient_under, Registrations.with_new_options, Registrations.ByOrigin, Registrations.IsPast, Invariant.AllThere, Invariant.IsIndexed}
use Rattle.dom_observe.proofs.{LeftByLemmas.stays_by, LeftByLemmas.stays_off, LeftByLemmas.stays-or-gone, LeftByLemmas.either_by, InterestedLemmas.stay-last, InterestedLemmas.there-last, OwnedLemmas.lasting-kind, OwnedLemmas.passing-kind, OwnedLemmas.not_both, OwnedLemmas.not_both2, OwnedLemmas.owned-ended, OwnedLemmas.owned-other, OwnedLemmas.owned-new, OwnedLemmas.owned-beside, OwnedLemmas.owned-changed, OwnedLemmas.left-from, HaveOnceLemmas.once-set, HaveOnceLemmas.once-new, HaveOnceLemmas.once-ended, OrderedLemmas.ordered-filter, OrderedLemmas.ordered-set, OrderedLemmas.ordered-new, OrderedLemmas.ordered-beside, OrderedLemmas.ordered-ended, OrderedLemmas.ordered-changed, QueueRecordLemmas.not_before, RegistrationTableLemmas.all_at, RegistrationTableLemmas.all_imply, RegistrationTableLemmas.transient_shape}

-- one more observer may have transient registrations
pub indexed-pended : (u : ℕ → Option Registration) (ls ps : List (List ℕ)) (some : List ℕ) (there : ℕ → Bool) (o : ℕ) → there o ≡ true → IsIndexed u ls ps some there → IsIndexed u ls ps (with_last some o) there
indexed-pended u ls ps some there o held_there ix = record {
  lasting = ix.lasting;
  passing = ix.passing;
  lasting_once = ix.lasting_once;
  passing_once = ix.passing_once;
  passing_ordered = ix.passing_ordered;
  fleeting = λ p off. ix.fleeting p (not_before p some (with_last some o) (stay-last p o some) off);
  known = there-last there o some ix.known held_there;
}

module _ (u : ℕ → Option Registration) (r : Registration) (v : ℕ → Option Registration) (place : ℕ) (keys keys' : List ℕ) (key : NewKey u r v place keys keys') (ls ps : List (List ℕ)) (some : List ℕ) (there : ℕ → Bool)
    (ix : IsIndexed u ls ps some there) where
  -- a transient registration comes in
  pub indexed-transient : is_some r.source ≡ true → (ps' : List (List ℕ)) → r.observer < length ps → keys ≡ slice_index_or ps r.observer [] → ps' ≡ slice_set ps r.observer keys' → among r.observer some ≡ true → (ByOrigin u keys → IsPast u (origin r) keys place) → IsIndexed v ls ps' some there
  indexed-transient source ps' lt had set in_some past = record {
    lasting = owned-beside u v r place keys keys' key lasts_for (λ j. refl) (λ j. off (r.observer == j) r.source source) ls ix.lasting;
    passing = owned-new u v r place keys keys' key passes_for passing-kind (λ j. on_its (r.observer == j) r.source source) ps ps' lt had set ix.passing;
    lasting_once = ix.lasting_once;
    passing_once = once-new u v r place keys keys' key passes_for (λ j. refl) ps ps' lt had set ix.passing ix.passing_once;
    passing_ordered = ordered-new u v r place keys keys' key ps ix.passing ix.passing_ordered (past (subst (ByOrigin u) (sym had) (ix.passing_ordered r.observer))) ps' lt had set;
    fleeting = λ p out. elim (same_or p r.observer) [
      | same e t ↦ absurd (true≢false (sym in_some ∙ ap (λ q. among q some) (sym e) ∙ out))
      | apart ne t ↦ ap (λ l. slice_index_or l p []) set ∙ get_or-set_other ps r.observer p keys' [] ne ∙ ix.fleeting p out
    ];
    known = ix.known;
  }
    where
      off : (b : Bool) (s : Option ℕ) → is_some s ≡ true → (b && is_none s) ≡ false
      off b None h = absurd (true≢false (sym h))
      off true (Some n) h = refl
      off false (Some n) h = refl

      on_its : (b : Bool) (s : Option ℕ) → is_some s ≡ true → (b && is_some s) ≡ b
      on_its b None h = absurd (true≢false (sym h))
      on_its true (Some n) h = refl
      on_its false (Some n) h = refl

  -- a lasting one comes in
  pub indexed-lasting : r.source ≡ None → (ls' : List (List ℕ)) → r.observer < length ls → keys ≡ slice_index_or ls r.observer [] → ls' ≡ slice_set ls r.observer keys' → IsIndexed v ls' ps some there
  indexed-lasting source ls' lt had set = record {
    lasting = owned-new u v r place keys keys' key lasts_for lasting-kind (λ j. ap (λ s. (r.observer == j) && is_none s) source ∙ on_its (r.observer == j)) ls ls' lt had set ix.lasting;
    passing = owned-beside u v r place keys keys' key passes_for (λ j. refl) (λ j. ap (λ s. (r.observer == j) && is_some s) source ∙ off (r.observer == j)) ps ix.passing;
    lasting_once = once-new u v r place keys keys' key lasts_for (λ j. refl) ls ls' lt had set ix.lasting ix.lasting_once;
    passing_once = ix.passing_once;
    passing_ordered = ordered-beside u v r place keys keys' key ps ix.passing ix.passing_ordered;
    fleeting = ix.fleeting;
    known = ix.known;
  }
    where
      off : (b : Bool) → (b && false) ≡ false
      off true = refl
      off false = refl

      on_its : (b : Bool) → (b && true) ≡ b
      on_its true = refl
      on_its false = refl

-- Registrations of an observer end, of those that last or of the transient ones.
module _ (u v : ℕ → Option Registration) (ls ps : List (List ℕ)) (some : List ℕ) (there : ℕ → Bool) (o : ℕ) (ended : EndedRegistrations) (ix : IsIndexed u ls ps some there) where
  pub indexed-lasting_ended : (ls' : List (List ℕ)) → o < length ls → ((k : ℕ) → v k ≡ (if among k (slice_index_or ls o []) then unless_ended ended (u k) else u k))
      → ls' ≡ slice_set ls o (filter (is_live v) (slice_index_or ls o [])) → IsIndexed v ls' ps some there
  indexed-lasting_ended ls' lt left set =
      let either = stays_by u v (slice_index_or ls o []) ended left in
      let owned_passing = owned-other lasts_for lasting-kind u v ls o ix.lasting either (stays_off u v (slice_index_or ls o []) ended left) passes_for (λ j. refl) (not_both o) ps ix.passing in
      record {
        lasting = owned-ended lasts_for lasting-kind u v ls o ix.lasting (stays_by u v (slice_index_or ls o []) ended left) (stays_off u v (slice_index_or ls o []) ended left) ls' lt set;
        passing = owned_passing;
        lasting_once = once-ended ls ls' o (is_live v) lt set ix.lasting_once;
        passing_once = ix.passing_once;
        passing_ordered = ordered-ended u v ps either owned_passing ix.passing_ordered;
        fleeting = ix.fleeting;
        known = ix.known;
      }

  pub indexed-passing_ended : (ps' : List (List ℕ)) → o < length ps → ((k : ℕ) → v k ≡ (if among k (slice_index_or ps o []) then unless_ended ended (u k) else u k))
      → ps' ≡ slice_set ps o (filter (is_live v) (slice_index_or ps o [])) → IsIndexed v ls ps' some there
  indexed-passing_ended ps' lt left set =
      let keys = filter (is_live v) (slice_index_or ps o []) in
      let owned_passing = owned-ended passes_for passing-kind u v ps o ix.passing (stays_by u v (slice_index_or ps o []) ended left) (stays_off u v (slice_index_or ps o []) ended left) ps' lt set in
      record {
        lasting = owned-other passes_for passing-kind u v ps o ix.passing (stays_by u v (slice_index_or ps o []) ended left) (stays_off u v (slice_index_or ps o []) ended left) lasts_for (λ j. refl) (not_both2 o) ls ix.lasting;
        passing = owned_passing;
        lasting_once = ix.lasting_once;
        passing_once = once-ended ps ps' o (is_live v) lt set ix.passing_once;
        passing_ordered = ordered-ended u v ps' (stays_by u v (slice_index_or ps o []) ended left) owned_passing
            (ordered-set u ps ps' o keys lt set (ordered-filter u (is_live v) (slice_index_or ps o []) (ix.passing_ordered o)) ix.passing_ordered);
        fleeting = λ p out. elim (same_or p o) [
          | same e t ↦ ap (λ q. slice_index_or ps' q []) e ∙ ap (λ l. slice_index_or l o []) set ∙ get_or-set_same ps o (filter (is_live v) (slice_index_or ps o [])) [] lt ∙ ap (filter (is_live v)) (ap (λ q. slice_index_or ps q []) (sym e) ∙ ix.fleeting p out)
          | apart ne t ↦ ap (λ l. slice_index_or l p []) set ∙ get_or-set_other ps o p (filter (is_live v) (slice_index_or ps o [])) [] ne ∙ ix.fleeting p out
        ];
        known = ix.known;
      }

-- whom a transient registration that is made belongs to, and that it has a source
pub made-transient : (u0 u : ℕ → Option Registration) (own : List ℕ) (node : ℕ) (standing : List ℕ) (i d : ℕ) → i < length standing → AllByRecursion (λ k. u k ≡ u0 k) standing → (r : Registration) → transient_under u own node (slice_index_or standing i d) ≡ Some r
    → ((there : ℕ → Bool) → AllByRecursion (HasRegistration u0 there) standing → there r.observer ≡ true) × (is_some r.source ≡ true)
made-transient u0 u own node standing i d lt alike r some = (
  (λ there bounded.
      let at_key = all_at (HasRegistration u0 there) standing i d bounded lt in
      let same_one : Some s.0 ≡ Some at_key.registration = sym s.1 ∙ all_at (λ k. u k ≡ u0 k) standing i d alike lt ∙ at_key.is in
      let origin : s.0 ≡ at_key.registration = cc same_one in
      subst (λ o. there o ≡ true) (ap (λ (t : Registration). t.observer) (sym origin) ∙ ap (λ (t : Registration). t.observer) s.2) at_key.observer),
  ap (λ (t : Registration). is_some t.source) (sym s.2),
)
  where
    s : (s : Registration) × (u (slice_index_or standing i d) ≡ Some s) × (transient_of node s ≡ r)
    s = transient_shape u own node (u (slice_index_or standing i d)) r some

-- An observer loses all its registrations.
module _ (o : ℕ) (t : Registration → Bool) where
  abbrev its : ℕ → Option Registration → Bool
  its i p = option_map_or (λ (r : Registration). (r.observer == i) && t r) p false

  its-gone : (p : Option Registration) → its o (unless_ended (Of o) p) ≡ false
  its-gone None = refl
  its-gone (Some r) = elim (same_or r.observer o) [ same e c ↦ rw c refl | apart ne c ↦ rw c (ap (λ b. b && t r) c) ]

  others-stay : (i : ℕ) → (i ≡ o → ⊥) → (p : Option Registration) → its i (unless_ended (Of o) p) ≡ its i p
  others-stay i ne None = refl
  others-stay i ne (Some r) = elim (same_or r.observer o) [
    | same e c ↦ rw c (elim (same_or r.observer i) [ same f d ↦ absurd (ne (sym f ∙ e)) | apart nf d ↦ sym (ap (λ b. b && t r) d) ])
    | apart nf c ↦ rw c refl
  ]

  owned-left : (u v : ℕ → Option Registration) (lists : List (List ℕ)) → o < length lists → ((k : ℕ) → v k ≡ unless_ended (Of o) (u k)) → Owned its u lists → Owned its v (slice_set lists o [])
  owned-left u v lists lt left owned i k = elim (same_or i o) [
    | same e c ↦
        ap (among k) (ap (λ j. slice_index_or (slice_set lists o []) j []) e ∙ get_or-set_same lists o [] [] lt)
        ∙ sym (ap (its i) (left k) ∙ ap (λ j. its j (unless_ended (Of o) (u k))) e ∙ its-gone (u k))
    | apart ne c ↦
        ap (among k) (get_or-set_other lists o i [] [] ne) ∙ owned i k ∙ sym (ap (its i) (left k) ∙ others-stay i ne (u k))
  ]

module _ (u v : ℕ → Option Registration) (ls ps : List (List ℕ)) (some : List ℕ) (there : ℕ → Bool) (o : ℕ) (ix : IsIndexed u ls ps some there)
    (within1 : o < length ls) (within2 : o < length ps) (left : (k : ℕ) → v k ≡ unless_ended (Of o) (u k)) where
  none_left : (p : ℕ) → slice_index_or ps p [] ≡ [] → slice_index_or (slice_set ps o []) p [] ≡ []
  none_left p none = elim (same_or p o) [
    | same e t ↦ ap (λ q. slice_index_or (slice_set ps o []) q []) e ∙ get_or-set_same ps o [] [] within2
    | apart ne t ↦ get_or-set_other ps o p [] [] ne ∙ none
  ]

  -- those that are left have transient ones only where they had, and are there by another test
  pub indexed-left : (some' : List ℕ) (there' : ℕ → Bool) → ((p : ℕ) → among p some' ≡ false → (p ≡ o) ⊎ (among p some ≡ false)) → AllThere there' some' → IsIndexed v (slice_set ls o []) (slice_set ps o []) some' there'
  indexed-left some' there' out known =
      let owned_passing = owned-left o (λ (r : Registration). is_some r.source) u v ps within2 left ix.passing in
      record {
        lasting = owned-left o (λ (r : Registration). is_none r.source) u v ls within1 left ix.lasting;
        passing = owned_passing;
        lasting_once = once-set ls (slice_set ls o []) o [] within1 refl (λ k. omega arith) ix.lasting_once;
        passing_once = once-set ps (slice_set ps o []) o [] within2 refl (λ k. omega arith) ix.passing_once;
        passing_ordered = ordered-ended u v (slice_set ps o []) (λ k. either_by (left k) (stays-or-gone (Of o) true (u k))) owned_passing (ordered-set u ps (slice_set ps o []) o [] within2 refl tt ix.passing_ordered);
        fleeting = λ p off. go p (out p off);
        known = known;
      }
    where
      go : (p : ℕ) → ((p ≡ o) ⊎ (among p some ≡ false)) → slice_index_or (slice_set ps o []) p [] ≡ []
      go p (inl e) = ap (λ q. slice_index_or (slice_set ps o []) q []) e ∙ get_or-set_same ps o [] [] within2
      go p (inr off) = none_left p (ix.fleeting p off)

-- the transient registrations from a node end
pub from-left : (u v : ℕ → Option Registration) (ls ps : List (List ℕ)) (some : List ℕ) (there : ℕ → Bool) (o node : ℕ) → IsIndexed u ls ps some there
    → ((k : ℕ) → v k ≡ (if among k (slice_index_or ps o []) then unless_ended (From o node) (u k) else u k)) → (k : ℕ) → v k ≡ unless_ended (From o node) (u k)
from-left u v ls ps some there o node ix left k = left k ∙ ap (λ b. if b then unless_ended (From o node) (u k) else u k) (ix.passing o k) ∙ left-from o node (u k)

-- a registration gets other options
pub indexed-changed : (u v : ℕ → Option Registration) (ls ps : List (List ℕ)) (some : List ℕ) (there : ℕ → Bool) (key : ℕ) (options : Options) → v key ≡ option_map (with_new_options options) (u key) → ((k : ℕ) → k ≢ key → v k ≡ u k)
    → IsIndexed u ls ps some there → IsIndexed v ls ps some there
indexed-changed u v ls ps some there key options changed others ix = record {
  lasting = owned-changed u v key options changed others lasts_for lasting-kind ls ix.lasting;
  passing = owned-changed u v key options changed others passes_for passing-kind ps ix.passing;
  lasting_once = ix.lasting_once;
  passing_once = ix.passing_once;
  passing_ordered = ordered-changed u v key options changed others ps ix.passing_ordered;
  fleeting = ix.fleeting;
  known = ix.known;
}

-- as many observers at least are there, and each has the keys that it had
pub indexed-alike : (u : ℕ → Option Registration) (ls ls' ps ps' : List (List ℕ)) (some : List ℕ) (there there' : ℕ → Bool)
    → ((i : ℕ) → slice_index_or ls' i [] ≡ slice_index_or ls i []) → ((i : ℕ) → slice_index_or ps' i [] ≡ slice_index_or ps i []) → ((i : ℕ) → there i ≡ true → there' i ≡ true)
    → IsIndexed u ls ps some there → IsIndexed u ls' ps' some there'
indexed-alike u ls ls' ps ps' some there there' same1 same2 more ix = record {
  lasting = λ i k. ap (among k) (same1 i) ∙ ix.lasting i k;
  passing = λ i k. ap (among k) (same2 i) ∙ ix.passing i k;
  lasting_once = λ i k. subst (λ keys. hits k keys ≤ 1) (sym (same1 i)) (ix.lasting_once i k);
  passing_once = λ i k. subst (λ keys. hits k keys ≤ 1) (sym (same2 i)) (ix.passing_once i k);
  passing_ordered = λ i. subst (ByOrigin u) (sym (same2 i)) (ix.passing_ordered i);
  fleeting = λ i off. same2 i ∙ ix.fleeting i off;
  known = all_imply (λ o. there o ≡ true) (λ o. there' o ≡ true) more some ix.known;
}

-- everybody is notified
pub indexed-notified : (u v : ℕ → Option Registration) (ls ps ps' : List (List ℕ)) (some some' : List ℕ) (there : ℕ → Bool) → IsIndexed u ls ps some there → ((k : ℕ) → v k ≡ unless_ended Transient (u k))
    → Owned passes_for v ps' → ((o : ℕ) → slice_index_or ps' o [] ≡ []) → some' ≡ [] → IsIndexed v ls ps' some' there
indexed-notified u v ls ps ps' some some' there ix left owned none gone = record {
  lasting = λ i k. ix.lasting i k ∙ sym (ap (lasts_for i) (left k) ∙ stays i (u k));
  passing = owned;
  lasting_once = ix.lasting_once;
  passing_once = λ i k. subst (λ keys. hits k keys ≤ 1) (sym (none i)) (omega arith);
  passing_ordered = λ i. subst (ByOrigin v) (sym (none i)) tt;
  fleeting = λ o _. none o;
  known = subst (AllThere there) (sym gone) tt;
}
  where
    stays : (i : ℕ) (p : Option Registration) → lasts_for i (unless_ended Transient p) ≡ lasts_for i p
    stays i None = refl
    stays i (Some r) = go (r.observer == i) r.source refl
      where
        off : (b : Bool) → false ≡ (b && false)
        off true = refl
        off false = refl

        go : (b : Bool) (s : Option ℕ) → r.source ≡ s → lasts_for i (if is_none r.source then Some r else None) ≡ ((r.observer == i) && is_none r.source)
        go b None e = ap (λ t. lasts_for i (if is_none t then Some r else None)) e
        go b (Some n) e = ap (λ t. lasts_for i (if is_none t then Some r else None)) e ∙ off (r.observer == i) ∙ sym (ap (λ t. (r.observer == i) && is_none t) e)
