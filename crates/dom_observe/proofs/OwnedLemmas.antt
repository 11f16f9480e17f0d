-- The keys that observers have, as registrations come in and end.
use Rattle.std.proofs.Common.{◌≡◌, ◌≢◌, ℕ, ◌<◌, ◌==◌, Bool, true, false, not, ◌&&◌, if◌then◌else◌, List, [], ◌∷◌, ◌++◌, length, filter, Option, None, Some, option_map, refl, ap, sym, ◌∙◌, append-nil, ◌⊎◌, inl, inr, is_none, is_some, slice_index_or, slice_set}
use Rattle.std.specs.Option.{option_map_or}
use Rattle.std.proofs.lemmas.{Bool.true≢false, List.get_or-set_same, List.get_or-set_other}
use Rattle.dom_model.specs.Definitions.{among, is_number, Registration, Options}
use Rattle.dom_model.proofs.PlainLists.Numbers.{Same, same_or, same, apart}
use Rattle.dom_observe.specs.{declared.registration.EndedRegistrations.TheVariants.Of, declared.registration.EndedRegistrations.TheVariants.From, Watchers.on, Registrations.unless_ended, Registrations.is_live, Registrations.is_on_node, Registrations.lasts_for, Registrations.passes_for, Registrations.AreListedByNode, Registrations.Owned, Registrations.Added, Registrations.NewKey, Registrations.with_new_options}
use Rattle.dom_observe.proofs.{LeftByLemmas.among-filter, LeftByLemmas.among-last, OrderedLemmas.among-insert, InterestedLemmas.swapped}

-- what is asked of a registration of one observer holds of no other observer
pub record IsKind (kind : ℕ → Option Registration → Bool) : Type 0 where
  pub nothing : (i : ℕ) → kind i None ≡ false
  pub live : (i : ℕ) (o : Option Registration) → (kind i o && is_some o) ≡ kind i o
  pub one : (i j : ℕ) (o : Option Registration) → (j ≡ i → ⊥) → kind i o ≡ true → kind j o ≡ false
  pub same : (i : ℕ) (options : Options) (o : Option Registration) → kind i (option_map (with_new_options options) o) ≡ kind i o

and_true : (b : Bool) → (b && true) ≡ b
and_true true = refl
and_true false = refl

only_one : (a i j : ℕ) (b : Bool) → (j ≡ i → ⊥) → ((a == i) && b) ≡ true → ((a == j) && b) ≡ false
only_one a i j b ne h = elim (same_or a j) [
  | same e t ↦ elim (same_or a i) [ same f u ↦ absurd (ne (sym e ∙ f)) | apart _ u ↦ let k : false ≡ true = rw u at h in absurd (true≢false (sym k)) ]
  | apart _ t ↦ rw t refl
]

pub lasting-kind : IsKind lasts_for
lasting-kind = record { nothing = λ i. refl; live = live; one = one; same = same_kind }
  where
    live : (i : ℕ) (o : Option Registration) → (lasts_for i o && is_some o) ≡ lasts_for i o
    live i None = refl
    live i (Some r) = and_true ((r.observer == i) && is_none r.source)

    one : (i j : ℕ) (o : Option Registration) → (j ≡ i → ⊥) → lasts_for i o ≡ true → lasts_for j o ≡ false
    one i j None ne h = refl
    one i j (Some r) ne h = only_one r.observer i j (is_none r.source) ne h

    same_kind : (i : ℕ) (options : Options) (o : Option Registration) → lasts_for i (option_map (with_new_options options) o) ≡ lasts_for i o
    same_kind i options None = refl
    same_kind i options (Some r) = refl

pub passing-kind : IsKind passes_for
passing-kind = record { nothing = λ i. refl; live = live; one = one; same = same_kind }
  where
    live : (i : ℕ) (o : Option Registration) → (passes_for i o && is_some o) ≡ passes_for i o
    live i None = refl
    live i (Some r) = and_true ((r.observer == i) && is_some r.source)

    one : (i j : ℕ) (o : Option Registration) → (j ≡ i → ⊥) → passes_for i o ≡ true → passes_for j o ≡ false
    one i j None ne h = refl
    one i j (Some r) ne h = only_one r.observer i j (is_some r.source) ne h

    same_kind : (i : ℕ) (options : Options) (o : Option Registration) → passes_for i (option_map (with_new_options options) o) ≡ passes_for i o
    same_kind i options None = refl
    same_kind i options (Some r) = refl

-- none is of both kinds
pub not_both : (i j : ℕ) (o : Option Registration) → lasts_for i o ≡ true → passes_for j o ≡ false
not_both i j None h = refl
not_both i j (Some r) h = go (r.observer == i) (r.observer == j) r.source h
  where
    go : (a b : Bool) (s : Option ℕ) → (a && is_none s) ≡ true → (b && is_some s) ≡ false
    go a true None h = refl
    go a false None h = refl
    go true b (Some n) h = absurd (true≢false (sym h))
    go false b (Some n) h = absurd (true≢false (sym h))

pub not_both2 : (i j : ℕ) (o : Option Registration) → passes_for i o ≡ true → lasts_for j o ≡ false
not_both2 i j None h = refl
not_both2 i j (Some r) h = go (r.observer == i) (r.observer == j) r.source h
  where
    go : (a b : Bool) (s : Option ℕ) → (a && is_some s) ≡ true → (b && is_none s) ≡ false
    go a true (Some n) h = refl
    go a false (Some n) h = refl
    go true b None h = absurd (true≢false (sym h))
    go false b None h = absurd (true≢false (sym h))

-- Registrations of an observer end.
module _ (kind : ℕ → Option Registration → Bool) (is : IsKind kind) (u v : ℕ → Option Registration) (lists : List (List ℕ)) (i : ℕ) (owned : Owned kind u lists)
    (either : (k : ℕ) → (v k ≡ u k) ⊎ (v k ≡ None)) (left : (k : ℕ) → among k (slice_index_or lists i []) ≡ false → v k ≡ u k) where
  -- a question that none of them answers is answered as before
  unaffected : (q : Option Registration → Bool) → q None ≡ false → (k : ℕ) → (kind i (u k) ≡ true → q (u k) ≡ false) → q (u k) ≡ q (v k)
  unaffected q nothing k silent = go (among k (slice_index_or lists i [])) refl (either k)
    where
      go : (b : Bool) → among k (slice_index_or lists i []) ≡ b → (v k ≡ u k) ⊎ (v k ≡ None) → q (u k) ≡ q (v k)
      go false e z = ap q (sym (left k e))
      go true e (inl f) = ap q (sym f)
      go true e (inr f) = silent (sym (owned i k) ∙ e) ∙ sym (ap q f ∙ nothing)

  pub owned-ended : (lists' : List (List ℕ)) → i < length lists → lists' ≡ slice_set lists i (filter (is_live v) (slice_index_or lists i [])) → Owned kind v lists'
  owned-ended lists' lt keys j k = elim (same_or j i) [
    | same e t ↦
        ap (among k) (ap (λ ls. slice_index_or ls j []) keys ∙ ap (λ m. slice_index_or (slice_set lists i (filter (is_live v) (slice_index_or lists i []))) m []) e ∙ get_or-set_same lists i (filter (is_live v) (slice_index_or lists i [])) [] lt)
        ∙ among-filter (is_live v) k (slice_index_or lists i [])
        ∙ ap (λ b. b && is_live v k) (owned i k)
        ∙ kept (either k)
        ∙ ap (λ m. kind m (v k)) (sym e)
    | apart ne t ↦
        ap (among k) (ap (λ ls. slice_index_or ls j []) keys ∙ get_or-set_other lists i j (filter (is_live v) (slice_index_or lists i [])) [] ne)
        ∙ owned j k
        ∙ unaffected (kind j) (is.nothing j) k (is.one i j (u k) ne)
  ]
    where
      off : (b : Bool) → (b && false) ≡ false
      off true = refl
      off false = refl

      kept : (v k ≡ u k) ⊎ (v k ≡ None) → (kind i (u k) && is_live v k) ≡ kind i (v k)
      kept (inl f) = ap (λ o. kind i o && is_some (v k)) (sym f) ∙ is.live i (v k)
      kept (inr f) = ap (λ o. kind i (u k) && is_some o) f ∙ off (kind i (u k)) ∙ sym (ap (kind i) f ∙ is.nothing i)

  -- those of another kind are owned as before
  pub owned-other : (kind2 : ℕ → Option Registration → Bool) → ((j : ℕ) → kind2 j None ≡ false) → ((j : ℕ) (o : Option Registration) → kind i o ≡ true → kind2 j o ≡ false) → (lists2 : List (List ℕ)) → Owned kind2 u lists2 → Owned kind2 v lists2
  owned-other kind2 nothing apart_kinds lists2 owned2 j k = owned2 j k ∙ unaffected (kind2 j) (nothing j) k (apart_kinds j (u k))

-- A registration comes in.
module _ (u v : ℕ → Option Registration) (r : Registration) (place : ℕ) (keys keys' : List ℕ) (a : NewKey u r v place keys keys') where
  pub owned-new : (kind : ℕ → Option Registration → Bool) → IsKind kind → ((j : ℕ) → kind j (Some r) ≡ (r.observer == j)) → (lists lists' : List (List ℕ)) → r.observer < length lists → keys ≡ slice_index_or lists r.observer []
      → lists' ≡ slice_set lists r.observer keys' → Owned kind u lists → Owned kind v lists'
  owned-new kind is of_kind lists lists' lt had set owned j k = elim (same_or j r.observer) [
    | same e t ↦
        ap (among k) (ap (λ ls. slice_index_or ls j []) set ∙ ap (λ m. slice_index_or (slice_set lists r.observer keys') m []) e ∙ get_or-set_same lists r.observer keys' [] lt ∙ a.put)
        ∙ among-insert k keys place a.key
        ∙ here (same_or a.key k)
        ∙ ap (λ m. kind m (v k)) (sym e)
    | apart ne t ↦
        ap (among k) (ap (λ ls. slice_index_or ls j []) set ∙ get_or-set_other lists r.observer j keys' [] ne)
        ∙ owned j k
        ∙ there ne (same_or a.key k)
  ]
    where
      self_test : (r.observer == r.observer) ≡ true
      self_test = elim (same_or r.observer r.observer) [ same _ t ↦ t | apart ne _ ↦ absurd (ne refl) ]

      here : Same a.key k → (if a.key == k then true else among k keys) ≡ kind r.observer (v k)
      here (same d s) = rw s (sym (ap (λ m. kind r.observer (v m)) (sym d) ∙ ap (kind r.observer) a.here ∙ of_kind r.observer ∙ self_test))
      here (apart ne s) = rw s (ap (among k) had ∙ owned r.observer k ∙ ap (kind r.observer) (sym (a.others k (λ e. ne (sym e)))))

      there : (j ≡ r.observer → ⊥) → Same a.key k → kind j (u k) ≡ kind j (v k)
      there ne (same d s) =
          ap (λ m. kind j (u m)) (sym d) ∙ ap (kind j) a.vacant ∙ is.nothing j
          ∙ sym (ap (λ m. kind j (v m)) (sym d) ∙ ap (kind j) a.here ∙ of_kind j ∙ elim (same_or r.observer j) [ same e _ ↦ absurd (ne (sym e)) | apart _ off ↦ off ])
      there ne (apart nf s) = ap (kind j) (sym (a.others k (λ e. nf (sym e))))

  -- those of another kind are owned as before
  pub owned-beside : (kind : ℕ → Option Registration → Bool) → ((j : ℕ) → kind j None ≡ false) → ((j : ℕ) → kind j (Some r) ≡ false) → (lists : List (List ℕ)) → Owned kind u lists → Owned kind v lists
  owned-beside kind nothing not_of lists owned j k = owned j k ∙ elim (same_or k a.key) [
    | same d s ↦ ap (λ m. kind j (u m)) d ∙ ap (kind j) a.vacant ∙ nothing j ∙ sym (ap (λ m. kind j (v m)) d ∙ ap (kind j) a.here ∙ not_of j)
    | apart ne s ↦ ap (kind j) (sym (a.others k ne))
  ]

pub placed-added : (u : ℕ → Option Registration) (lists : List (ℕ × List ℕ)) (r : Registration) (v : ℕ → Option Registration) (lists' : List (ℕ × List ℕ)) → Added u lists r v lists' → AreListedByNode u lists → AreListedByNode v lists'
placed-added u lists r v lists' a placed n k = ap (among k) (a.keys n) ∙ go (same_or n r.node) (same_or a.key k)
  where
    old : (a.key ≡ k → ⊥) → among k (on n lists) ≡ is_on_node n (v k)
    old ne = placed n k ∙ ap (is_on_node n) (sym (a.others k (λ e. ne (sym e))))

    new : a.key ≡ k → is_on_node n (v k) ≡ (r.node == n)
    new d = ap (λ m. is_on_node n (v m)) (sym d) ∙ ap (is_on_node n) a.here

    go : Same n r.node → Same a.key k → among k (on n lists ++ (if n == r.node then a.key ∷ [] else [])) ≡ is_on_node n (v k)
    go (same e t) (same d s) = rw t (among-last k a.key (on n lists) ∙ rw s (sym (new d ∙ swapped r.node n ∙ t)))
    go (same e t) (apart ne s) = rw t (among-last k a.key (on n lists) ∙ rw s (old ne))
    go (apart ne t) (same d s) =
        rw t (ap (among k) (append-nil (on n lists)) ∙ placed n k ∙ ap (λ m. is_on_node n (u m)) (sym d) ∙ ap (is_on_node n) a.vacant ∙ sym (new d ∙ swapped r.node n ∙ t))
    go (apart ne t) (apart nf s) = rw t (ap (among k) (append-nil (on n lists)) ∙ old nf)

-- Options are put in place.
module _ (u v : ℕ → Option Registration) (key : ℕ) (options : Options) (changed : v key ≡ option_map (with_new_options options) (u key)) (others : (k : ℕ) → k ≢ key → v k ≡ u k) where
  answered : (q : Option Registration → Bool) → ((o : Option Registration) → q (option_map (with_new_options options) o) ≡ q o) → (k : ℕ) → q (u k) ≡ q (v k)
  answered q alike k = elim (same_or k key) [
    | same d s ↦ ap (λ m. q (u m)) d ∙ sym (ap (λ m. q (v m)) d ∙ ap q changed ∙ alike (u key))
    | apart ne s ↦ ap q (sym (others k ne))
  ]

  pub placed-changed : (lists : List (ℕ × List ℕ)) → AreListedByNode u lists → AreListedByNode v lists
  placed-changed lists placed n k = placed n k ∙ answered (is_on_node n) alike k
    where
      alike : (o : Option Registration) → is_on_node n (option_map (with_new_options options) o) ≡ is_on_node n o
      alike None = refl
      alike (Some r) = refl

  pub owned-changed : (kind : ℕ → Option Registration → Bool) → IsKind kind → (lists : List (List ℕ)) → Owned kind u lists → Owned kind v lists
  owned-changed kind is lists owned i k = owned i k ∙ answered (kind i) (is.same i options) k

-- What is left, where all keys of an observer are gone through.

pub left-of : (i : ℕ) (o m n : Option Registration) → m ≡ (if lasts_for i o then unless_ended (Of i) o else o) → n ≡ (if passes_for i m then unless_ended (Of i) m else m) → n ≡ unless_ended (Of i) o
left-of i None m n first second = second ∙ ap (λ p. if passes_for i p then unless_ended (Of i) p else p) first
left-of i (Some r) m n first second = by ((r.observer == i) && is_none r.source) refl first
  where
    -- it is the second list's where it was not the first's
    own : (b : Bool) (s : Option ℕ) → ((b && is_none s) ≡ false) → (if (b && is_some s) then (if not b then Some r else None) else Some r) ≡ (if not b then Some r else None)
    own true None h = absurd (true≢false h)
    own true (Some k) h = refl
    own false None h = refl
    own false (Some k) h = refl

    lost : (b : Bool) (s : Option ℕ) → (b && is_none s) ≡ true → (if not b then Some r else None) ≡ None
    lost true None h = refl
    lost true (Some k) h = absurd (true≢false (sym h))
    lost false None h = absurd (true≢false (sym h))
    lost false (Some k) h = absurd (true≢false (sym h))

    by : (c : Bool) → ((r.observer == i) && is_none r.source) ≡ c → m ≡ (if c then unless_ended (Of i) (Some r) else Some r) → n ≡ unless_ended (Of i) (Some r)
    by true e f =
        let gone = lost (r.observer == i) r.source e in
        second ∙ ap (λ p. if passes_for i p then unless_ended (Of i) p else p) (f ∙ gone) ∙ sym gone
    by false e f = second ∙ ap (λ p. if passes_for i p then unless_ended (Of i) p else p) f ∙ own (r.observer == i) r.source e

-- all that are an observer's go
pub none-left_of : (i : ℕ) (t : Registration → Bool) (o : Option Registration) → option_map_or (λ (r : Registration). (r.observer == i) && t r) o false ≡ true → unless_ended (Of i) o ≡ None
none-left_of i t None h = refl
none-left_of i t (Some r) h = go (r.observer == i) h
  where
    go : (b : Bool) → (b && t r) ≡ true → (if not b then Some r else None) ≡ None
    go true g = refl
    go false g = absurd (true≢false (sym g))

-- those that last go first, and the transient ones are still there
pub passing-left_of : (i : ℕ) (o m : Option Registration) → m ≡ (if lasts_for i o then unless_ended (Of i) o else o) → passes_for i m ≡ passes_for i o
passing-left_of i o m first = go (lasts_for i o) refl first
  where
    go : (b : Bool) → lasts_for i o ≡ b → m ≡ (if b then unless_ended (Of i) o else o) → passes_for i m ≡ passes_for i o
    go true e f = ap (passes_for i) (f ∙ none-left_of i (λ (r : Registration). is_none r.source) o e) ∙ sym (not_both i i o e)
    go false e f = ap (passes_for i) f

pub left-from : (i n : ℕ) (o : Option Registration) → (if passes_for i o then unless_ended (From i n) o else o) ≡ unless_ended (From i n) o
left-from i n None = refl
left-from i n (Some r) = go (r.observer == i) r.source
  where
    go : (b : Bool) (s : Option ℕ) → (if (b && is_some s) then (if not (b && is_number s n) then Some r else None) else Some r) ≡ (if not (b && is_number s n) then Some r else None)
    go true None = refl
    go true (Some m) = refl
    go false None = refl
    go false (Some m) = refl
