-- The records of the pending observers, one observer after another.
use Rattle.std.proofs.Common.{◌≡◌, ℕ, zero, suc, ◌==◌, Bool, true, false, not, if◌then◌else◌, List, [], ◌∷◌, ◌++◌, length, map, filter, take, Some, refl, ap, sym, ◌∙◌, subst, cond, append-nil, nat_eq, slice_set, slice_get, Option}
use Rattle.std.specs.List.{AllByRecursion, IsDistinct}
use Rattle.std.proofs.lemmas.{List.map-append, List.Elements.filter-append}
use Rattle.dom_model.specs.Definitions.{among, Observing, Record, Notification, has_records, told_in, queue_of}
use Rattle.dom_observe.specs.{Watchers.records_at, Invariant.has_queue, Notification.notification_for}
use Rattle.dom_observe.proofs.{QueueListLemmas.records-set, LeftByLemmas.among-last}

pub take-next : {A : Type 0} (xs : List A) (i : ℕ) (x : A) → slice_get xs i ≡ Some x → take (suc i) xs ≡ take i xs ++ x ∷ []
take-next [] zero x h = let d : ⊥ = cc h in absurd d
take-next [] (suc i) x h = let d : ⊥ = cc h in absurd d
take-next (y ∷ xs) zero x h = let d : y ≡ x = cc h in ap (λ z. z ∷ []) d
take-next (y ∷ xs) (suc i) x h = ap (λ zs. y ∷ zs) (take-next xs i x h)

all-get : (P : ℕ → Type 0) (xs : List ℕ) (i x : ℕ) → slice_get xs i ≡ Some x → AllByRecursion P xs → P x
all-get P [] zero x h all = let d : ⊥ = cc h in absurd d
all-get P [] (suc i) x h all = let d : ⊥ = cc h in absurd d
all-get P (y ∷ xs) zero x h all = let d : y ≡ x = cc h in subst P d all.0
all-get P (y ∷ xs) (suc i) x h all = all-get P xs i x h all.1

-- a number of a list without repetition does not stand before its place
pub fresh-at : (xs : List ℕ) (i x : ℕ) → IsDistinct nat_eq xs → slice_get xs i ≡ Some x → among x (take i xs) ≡ false
unfolding IsDistinct
fresh-at [] zero x u h = refl
fresh-at [] (suc i) x u h = refl
fresh-at (y ∷ xs) zero x u h = refl
fresh-at (y ∷ xs) (suc i) x u h =
    let apart_from : (y == x) ≡ false = all-get (λ z. (y == z) ≡ false) xs i x h u.0 in
    rw apart_from (fresh-at xs i x u.1 h)

module _ (queues0 queues queues' : List (Option (List Record))) (keys : List ℕ) (i o : ℕ) (at : slice_get keys i ≡ Some o) (u : IsDistinct nat_eq keys) (there : has_queue queues o ≡ true)
    (left : (p : ℕ) → records_at queues p ≡ (if among p (take i keys) then [] else records_at queues0 p))
    (emptied : queues' ≡ slice_set queues o (Some [])) where
  -- what the observer waits for is still there
  pub still-waiting : records_at queues o ≡ records_at queues0 o
  still-waiting = left o ∙ ap (λ b. if b then [] else records_at queues0 o) (fresh-at keys i o u at)

  pub left-next : (p : ℕ) → records_at queues' p ≡ (if among p (take (suc i) keys) then [] else records_at queues0 p)
  left-next p =
      ap (λ qs. records_at qs p) emptied
      ∙ records-set queues o there [] p
      ∙ ap (λ rs. if o == p then [] else rs) (left p)
      ∙ go (o == p) (among p (take i keys))
      ∙ sym (ap (λ b. if b then [] else records_at queues0 p) (ap (among p) (take-next keys i o at) ∙ among-last p o (take i keys)))
    where
      go : (b c : Bool) → (if b then [] else (if c then [] else records_at queues0 p)) ≡ (if (if b then true else c) then [] else records_at queues0 p)
      go true c = refl
      go false c = refl

  next_told : filter has_records (map (notification_for queues0) (take (suc i) keys))
      ≡ filter has_records (map (notification_for queues0) (take i keys)) ++ filter has_records (notification_for queues0 o ∷ [])
  next_told =
      ap (λ ks. filter has_records (map (notification_for queues0) ks)) (take-next keys i o at)
      ∙ ap (filter has_records) (map-append (notification_for queues0) (take i keys) (o ∷ []))
      ∙ filter-append has_records (map (notification_for queues0) (take i keys)) (notification_for queues0 o ∷ [])

  -- an observer with records is told them, and one without is left out
  pub told-some : (records : List Record) → records ≡ records_at queues o → (length records == 0) ≡ false → (told : List Notification) → told ≡ filter has_records (map (notification_for queues0) (take i keys))
      → told ++ record { observer = o; records = records } ∷ [] ≡ filter has_records (map (notification_for queues0) (take (suc i) keys))
  told-some records is some told before =
      let same_records : records ≡ records_at queues0 o = is ∙ still-waiting in
      let there : has_records (notification_for queues0 o) ≡ true = ap (λ rs. not (length rs == 0)) (sym same_records) ∙ ap not some in
      (λ j. before j ++ record { observer = o; records = same_records j } ∷ [])
      ∙ sym (next_told ∙ ap (λ b. filter has_records (map (notification_for queues0) (take i keys)) ++ cond b (notification_for queues0 o ∷ []) []) there)

  pub told-none : (records : List Record) → records ≡ records_at queues o → (length records == 0) ≡ true → filter has_records (map (notification_for queues0) (take i keys)) ≡ filter has_records (map (notification_for queues0) (take (suc i) keys))
  told-none records is none =
      let there : has_records (notification_for queues0 o) ≡ false = ap (λ rs. not (length rs == 0)) (sym (is ∙ still-waiting)) ∙ ap not none in
      sym (next_told ∙ ap (λ b. filter has_records (map (notification_for queues0) (take i keys)) ++ cond b (notification_for queues0 o ∷ []) []) there ∙ append-nil (filter has_records (map (notification_for queues0) (take i keys))))

-- the queues are those that the definition reads
pub waiting-told : (queues : List (Option (List Record))) (x : Observing) → ((i : ℕ) → records_at queues i ≡ queue_of i x) → (ns : List ℕ) → map (notification_for queues) ns ≡ map (told_in x) ns
waiting-told queues x has [] = refl
waiting-told queues x has (n ∷ ns) = (λ i. record { observer = n; records = has n i } ∷ waiting-told queues x has ns i)
