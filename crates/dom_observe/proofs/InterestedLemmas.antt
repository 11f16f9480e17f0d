-- Listeners, one after another, and the pending list.
use Rattle.std.proofs.Common.{◌≡◌, ℕ, zero, suc, ◌==◌, Bool, true, false, ◌||◌, if◌then◌else◌, List, [], ◌∷◌, ◌++◌, map, filter, take, Option, None, Some, refl, ap, sym, ◌∙◌, subst, cond, append-nil, nat_eq, unwrap_or, slice_get, filter_map, option_to_list}
use Rattle.std.specs.{Map.lookup, Map.keys_of, Option.option_and_then, List.AllByRecursion, List.IsDistinct, List.list_any, List.cons_option}
use Rattle.std.proofs.lemmas.{List.Folds.list_any-append, List.Elements.filter-append, Bool.true≢false}
use Rattle.indexmap.specs.{IndexSet.insert_key, IndexMap.insert_entry}
use Rattle.dom_model.specs.declared.RecordType.{RecordType}
use Rattle.dom_model.specs.Definitions.{among, Registration, Mutation, interests, interested, asks_old_value, record_with, record_by, record_for, with_last, with_all_last}
use Rattle.dom_model.proofs.PlainLists.{Heads.among-first, Numbers.Same, Numbers.same_or, Numbers.same, Numbers.apart}
use Rattle.dom_observe.specs.{Invariant.AllThere, Registrations.concerns, Registrations.HasRegistration, Interested.listener_of, Interested.listener_under, Interested.listeners, Interested.asked_by, Interested.flag_of, Interested.delivered}
use Rattle.dom_observe.proofs.RegistrationTableLemmas.{all_append}

pub swapped : (m n : ℕ) → (m == n) ≡ (n == m)
swapped m n =
    elim (same_or m n) [
      | same e t ↦ elim (same_or n m) [ same _ u ↦ t ∙ sym u | apart ne _ ↦ absurd (ne (sym e)) ]
      | apart ne t ↦ elim (same_or n m) [ same e _ ↦ absurd (ne (sym e)) | apart _ u ↦ t ∙ sym u ]
    ]

pub among-list_any : (n : ℕ) (ns : List ℕ) → list_any (nat_eq n) ns ≡ among n ns
among-list_any n [] = refl
among-list_any n (m ∷ ns) = ap (λ b. b || list_any (nat_eq n) ns) (swapped n m) ∙ go (m == n) (among-list_any n ns)
  where
    go : (b : Bool) → list_any (nat_eq n) ns ≡ among n ns → (b || list_any (nat_eq n) ns) ≡ (if b then true else among n ns)
    go true i = refl
    go false i = i

-- a set's insertion puts a number last, where it is not there
pub insert-last : (ns : List ℕ) (n : ℕ) → insert_key nat_eq ns n ≡ with_last ns n
insert-last ns n = ap (λ b. if b then ns else ns ++ n ∷ []) (among-list_any n ns)

-- who is found at a place is there, and does not come last again
pub found-there : (ns : List ℕ) (i n : ℕ) → slice_get ns i ≡ Some n → among n ns ≡ true
found-there [] zero n h = let d : ⊥ = cc h in absurd d
found-there [] (suc i) n h = let d : ⊥ = cc h in absurd d
found-there (m ∷ ns) zero n h =
    let d : m ≡ n = cc h in
    subst (λ k. among k (m ∷ ns) ≡ true) d (among-first m ns)
found-there (m ∷ ns) (suc i) n h = go (m == n) (found-there ns i n h)
  where
    go : (b : Bool) → among n ns ≡ true → (if b then true else among n ns) ≡ true
    go true there = refl
    go false there = there

pub last-stays : (ns : List ℕ) (i n : ℕ) → slice_get ns i ≡ Some n → with_last ns n ≡ ns
last-stays ns i n h = ap (λ b. if b then ns else ns ++ n ∷ []) (found-there ns i n h)

among-append : (p : ℕ) (xs ys : List ℕ) → among p xs ≡ true → among p (xs ++ ys) ≡ true
among-append p [] ys h = absurd (true≢false (sym h))
among-append p (x ∷ xs) ys h = go (x == p) h (among-append p xs ys)
  where
    go : (b : Bool) → (if b then true else among p xs) ≡ true → (among p xs ≡ true → among p (xs ++ ys) ≡ true) → (if b then true else among p (xs ++ ys)) ≡ true
    go true e i = refl
    go false e i = i e

among-end : (p : ℕ) (xs : List ℕ) → among p (xs ++ p ∷ []) ≡ true
among-end p [] = elim (same_or p p) [ same _ t ↦ rw t refl | apart ne _ ↦ absurd (ne refl) ]
among-end p (x ∷ xs) = go (x == p) (among-end p xs)
  where
    go : (b : Bool) → among p (xs ++ p ∷ []) ≡ true → (if b then true else among p (xs ++ p ∷ [])) ≡ true
    go true i = refl
    go false i = i

pub stay-last : (p n : ℕ) (ns : List ℕ) → among p ns ≡ true → among p (with_last ns n) ≡ true
stay-last p n ns h = go (among n ns)
  where
    go : (b : Bool) → among p (if b then ns else ns ++ n ∷ []) ≡ true
    go true = h
    go false = among-append p ns (n ∷ []) h

pub last-there : (n : ℕ) (ns : List ℕ) → among n (with_last ns n) ≡ true
last-there n ns = go (among n ns) refl
  where
    go : (b : Bool) → among n ns ≡ b → among n (if b then ns else ns ++ n ∷ []) ≡ true
    go true e = e
    go false e = among-end n ns

pub stay-all_last : (p : ℕ) (ns ms : List ℕ) → among p ns ≡ true → among p (with_all_last ns ms) ≡ true
stay-all_last p ns [] h = h
stay-all_last p ns (m ∷ ms) h = stay-all_last p (with_last ns m) ms (stay-last p m ns h)

-- whoever comes last is there
pub all_last-there : (p : ℕ) (ns ms : List ℕ) → among p ms ≡ true → among p (with_all_last ns ms) ≡ true
all_last-there p ns [] h = absurd (true≢false (sym h))
all_last-there p ns (m ∷ ms) h =
    elim (same_or m p) [
      | same e t ↦ stay-all_last p (with_last ns m) ms (subst (λ k. among k (with_last ns m) ≡ true) e (last-there m ns))
      | apart ne t ↦ let k = rw t at h in all_last-there p (with_last ns m) ms k
    ]

pub there-last : (there : ℕ → Bool) (n : ℕ) (ns : List ℕ) → AllThere there ns → there n ≡ true → AllThere there (with_last ns n)
there-last there n ns h held_there = go (among n ns)
  where
    go : (b : Bool) → AllThere there (if b then ns else ns ++ n ∷ [])
    go true = h
    go false = all_append (λ o. there o ≡ true) ns (n ∷ []) h (held_there, tt)

pub all_last-append : (ns ms : List ℕ) (m : ℕ) → with_all_last ns (ms ++ m ∷ []) ≡ with_last (with_all_last ns ms) m
all_last-append ns [] m = refl
all_last-append ns (k ∷ ms) m = all_last-append (with_last ns k) ms m

-- those who come last one after another, as a whole and one by one
pub all_last-twice : (ns qs ms : List ℕ) → with_all_last ns (with_all_last qs ms) ≡ with_all_last (with_all_last ns qs) ms
all_last-twice ns qs [] = refl
all_last-twice ns qs (m ∷ ms) = all_last-twice ns (with_last qs m) ms ∙ ap (λ ks. with_all_last ks ms) (go (among m qs) refl)
  where
    go : (b : Bool) → among m qs ≡ b → with_all_last ns (if b then qs else qs ++ m ∷ []) ≡ with_last (with_all_last ns qs) m
    go true e = sym (ap (λ b. if b then with_all_last ns qs else with_all_last ns qs ++ m ∷ []) (all_last-there m ns qs e))
    go false e = all_last-append ns qs m

pub there-all_last : (there : ℕ → Bool) (ns ms : List ℕ) → AllThere there ns → AllThere there ms → AllThere there (with_all_last ns ms)
there-all_last there ns [] h k = h
there-all_last there ns (m ∷ ms) h k = there-all_last there (with_last ns m) ms (there-last there m ns h k.0) k.1

pub keys_of-append : {A : Type 0} (xs : List (ℕ × A)) (y : ℕ × A) → keys_of (xs ++ y ∷ []) ≡ keys_of xs ++ y.0 ∷ []
keys_of-append [] y = refl
keys_of-append (x ∷ xs) y = ap (λ ks. x.0 ∷ ks) (keys_of-append xs y)

-- one more listener
pub flag-last : (p : ℕ) (ls : List (ℕ × Bool)) (l : ℕ × Bool) → flag_of p (ls ++ l ∷ []) ≡ (if l.0 == p then Some (unwrap_or (flag_of p ls) false || l.1) else flag_of p ls)
flag-last p ls l = ap asked_by (filter-append (λ (m : ℕ × Bool). m.0 == p) ls (l ∷ [])) ∙ go (l.0 == p) (filter (λ (m : ℕ × Bool). m.0 == p) ls)
  where
    off : (b : Bool) → (b || false) ≡ b
    off true = refl
    off false = refl

    go : (b : Bool) (own : List (ℕ × Bool)) → asked_by (own ++ cond b (l ∷ []) []) ≡ (if b then Some (unwrap_or (asked_by own) false || l.1) else asked_by own)
    go true [] = ap (λ v. Some v) (off l.1)
    go true (m ∷ own) = ap (λ v. Some v) (list_any-append (λ (k : ℕ × Bool). k.1) (m ∷ own) (l ∷ []) ∙ ap (λ v. list_any (λ (k : ℕ × Bool). k.1) (m ∷ own) || v) (off l.1))
    go false own = ap asked_by (append-nil own)

-- a listener is an observer that is there
pub listener-there : (u : ℕ → Option Registration) (what : RecordType) (target : ℕ) (name : Option (List ℕ)) (there : ℕ → Bool) (key : ℕ) (l : ℕ × Bool) → HasRegistration u there key → listener_under u what target name key ≡ Some l → there l.0 ≡ true
listener-there u what target name there key l s h = go (concerns what target name s.registration) (ap (option_and_then (listener_of what target name)) (sym s.is) ∙ h)
  where
    go : (b : Bool) → (if b then Some (s.registration.observer, asks_old_value what s.registration.options) else None) ≡ Some l → there l.0 ≡ true
    go true e = let d : (s.registration.observer, asks_old_value what s.registration.options) ≡ l = cc e in subst (λ k. there k ≡ true) (ap (λ (m : ℕ × Bool). m.0) d) s.observer
    go false e = let d : ⊥ = cc e in absurd d

-- Whom they are: the observers of the registrations that the mutation interests.

pub listeners-interested : (u : ℕ → Option Registration) (m : Mutation) (keys : List ℕ) → ((r : Registration) → concerns m.type m.target m.name r ≡ interests m r)
    → listeners u m.type m.target m.name keys ≡ map (λ (r : Registration). (r.observer, asks_old_value m.type r.options)) (filter (interests m) (filter_map u keys))
listeners-interested u m [] same_test = refl
listeners-interested u m (k ∷ keys) same_test = go (u k) (listeners-interested u m keys same_test)
  where
    go : (o : Option Registration) → listeners u m.type m.target m.name keys ≡ map (λ (r : Registration). (r.observer, asks_old_value m.type r.options)) (filter (interests m) (filter_map u keys))
        → cons_option (option_and_then (listener_of m.type m.target m.name) o) (listeners u m.type m.target m.name keys)
        ≡ map (λ (r : Registration). (r.observer, asks_old_value m.type r.options)) (filter (interests m) (cons_option o (filter_map u keys)))
    go None i = i
    go (Some r) i = rw (same_test r) (by (interests m r))
      where
        by : (b : Bool) → cons_option (if b then Some (r.observer, asks_old_value m.type r.options) else None) (listeners u m.type m.target m.name keys)
            ≡ map (λ (s : Registration). (s.observer, asks_old_value m.type s.options)) (cond b (r ∷ filter (interests m) (filter_map u keys)) (filter (interests m) (filter_map u keys)))
        by true = ap (λ ls. (r.observer, asks_old_value m.type r.options) ∷ ls) i
        by false = i

pub keys-pairs : (what : RecordType) (rs : List Registration) → keys_of (map (λ (r : Registration). (r.observer, asks_old_value what r.options)) rs) ≡ map (λ (r : Registration). r.observer) rs
keys-pairs what [] = refl
keys-pairs what (r ∷ rs) = ap (λ ks. r.observer ∷ ks) (keys-pairs what rs)

-- what an observer is told of it
pub told-flag : (o : ℕ) (m : Mutation) → delivered m (flag_of o (map (λ (r : Registration). (r.observer, asks_old_value m.type r.options)) (interested m))) ≡ option_to_list (record_for o m)
told-flag o m = ap (λ ls. delivered m (asked_by ls)) (own (interested m)) ∙ go (filter (λ (r : Registration). r.observer == o) (interested m))
  where
    own : (rs : List Registration) → filter (λ (l : ℕ × Bool). l.0 == o) (map (λ (r : Registration). (r.observer, asks_old_value m.type r.options)) rs)
        ≡ map (λ (r : Registration). (r.observer, asks_old_value m.type r.options)) (filter (λ (r : Registration). r.observer == o) rs)
    own [] = refl
    own (r ∷ rs) = by (r.observer == o) (own rs)
      where
        by : (b : Bool) → filter (λ (l : ℕ × Bool). l.0 == o) (map (λ (s : Registration). (s.observer, asks_old_value m.type s.options)) rs) ≡ map (λ (s : Registration). (s.observer, asks_old_value m.type s.options)) (filter (λ (s : Registration). s.observer == o) rs)
            → cond b ((r.observer, asks_old_value m.type r.options) ∷ filter (λ (l : ℕ × Bool). l.0 == o) (map (λ (s : Registration). (s.observer, asks_old_value m.type s.options)) rs)) (filter (λ (l : ℕ × Bool). l.0 == o) (map (λ (s : Registration). (s.observer, asks_old_value m.type s.options)) rs))
            ≡ map (λ (s : Registration). (s.observer, asks_old_value m.type s.options)) (cond b (r ∷ filter (λ (s : Registration). s.observer == o) rs) (filter (λ (s : Registration). s.observer == o) rs))
        by true i = ap (λ ls. (r.observer, asks_old_value m.type r.options) ∷ ls) i
        by false i = i

    any : (rs : List Registration) → list_any (λ (l : ℕ × Bool). l.1) (map (λ (r : Registration). (r.observer, asks_old_value m.type r.options)) rs) ≡ list_any (λ (r : Registration). asks_old_value m.type r.options) rs
    any [] = refl
    any (r ∷ rs) = ap (λ b. asks_old_value m.type r.options || b) (any rs)

    go : (rs : List Registration) → delivered m (asked_by (map (λ (r : Registration). (r.observer, asks_old_value m.type r.options)) rs)) ≡ option_to_list (record_by m rs)
    go [] = refl
    go (r ∷ rs) = ap (λ b. record_with m (if b then m.old_value else None) ∷ []) (any (r ∷ rs))

-- who is not interested has no flag
pub flag-none : (p : ℕ) (ls : List (ℕ × Bool)) → among p (keys_of ls) ≡ false → flag_of p ls ≡ None
flag-none p [] h = refl
flag-none p (l ∷ ls) h = elim (same_or l.0 p) [
  | same e t ↦ let k = rw t at h in absurd (true≢false k)
  | apart ne t ↦ let k = rw t at h in rw t (flag-none p ls k)
]

-- Look-ups in the first entries.

pub lookup-take : {A : Type 0} (p : ℕ) (es : List (ℕ × A)) (i : ℕ) → lookup (nat_eq p) es ≡ None → lookup (nat_eq p) (take i es) ≡ None
lookup-take p [] zero h = refl
lookup-take p [] (suc i) h = refl
lookup-take p (e ∷ es) zero h = refl
lookup-take p (e ∷ es) (suc i) h = go (p == e.0) h (lookup-take p es i)
  where
    go : (b : Bool) → cond b (Some e.1) (lookup (nat_eq p) es) ≡ None → (lookup (nat_eq p) es ≡ None → lookup (nat_eq p) (take i es) ≡ None) → cond b (Some e.1) (lookup (nat_eq p) (take i es)) ≡ None
    go true g i = let d : ⊥ = cc g in absurd d
    go false g i = i g

pub take-none : {A : Type 0} (es : List A) (i : ℕ) → slice_get es i ≡ None → take (suc i) es ≡ take i es
take-none [] zero h = refl
take-none [] (suc i) h = refl
take-none (e ∷ es) zero h = let d : ⊥ = cc h in absurd d
take-none (e ∷ es) (suc i) h = ap (λ xs. e ∷ xs) (take-none es i h)

pub key-at : {A : Type 0} (P : ℕ → Type 0) (es : List (ℕ × A)) (i : ℕ) (e : ℕ × A) → slice_get es i ≡ Some e → AllByRecursion P (keys_of es) → P e.0
key-at P [] zero e h all = let d : ⊥ = cc h in absurd d
key-at P [] (suc i) e h all = let d : ⊥ = cc h in absurd d
key-at P (x ∷ es) zero e h all = let d : x ≡ e = cc h in subst P (ap (λ y. y.0) d) all.0
key-at P (x ∷ es) (suc i) e h all = key-at P es i e h all.1

-- one more entry of a map, whose keys are distinct: its key was not looked up before
pub lookup-next : {A : Type 0} (p : ℕ) (es : List (ℕ × A)) (i : ℕ) (e : ℕ × A) → IsDistinct nat_eq (keys_of es) → slice_get es i ≡ Some e
    → (lookup (nat_eq p) (take (suc i) es) ≡ (if e.0 == p then Some e.1 else lookup (nat_eq p) (take i es))) × ((e.0 == p) ≡ true → lookup (nat_eq p) (take i es) ≡ None)
unfolding IsDistinct
lookup-next p [] zero e u h = let d : ⊥ = cc h in absurd d
lookup-next p [] (suc i) e u h = let d : ⊥ = cc h in absurd d
lookup-next p (x ∷ es) zero e u h =
    let d : x ≡ e = cc h in
    (ap (λ y. cond (p == y.0) (Some y.1) None) d ∙ ap (λ b. cond b (Some e.1) None) (swapped p e.0), λ _. refl)
lookup-next p (x ∷ es) (suc i) e u h = go (same_or p x.0) (lookup-next p es i e u.1 h)
  where
    apart_keys : (x.0 == e.0) ≡ false
    apart_keys = key-at (λ y. (x.0 == y) ≡ false) es i e h u.0

    go : Same p x.0 → (lookup (nat_eq p) (take (suc i) es) ≡ (if e.0 == p then Some e.1 else lookup (nat_eq p) (take i es))) × ((e.0 == p) ≡ true → lookup (nat_eq p) (take i es) ≡ None)
        → (lookup (nat_eq p) (take (suc (suc i)) (x ∷ es)) ≡ (if e.0 == p then Some e.1 else lookup (nat_eq p) (take (suc i) (x ∷ es)))) × ((e.0 == p) ≡ true → lookup (nat_eq p) (take (suc i) (x ∷ es)) ≡ None)
    go (same f t) rest =
        let off : (e.0 == p) ≡ false = swapped e.0 p ∙ ap (λ k. k == e.0) f ∙ apart_keys in
        (rw (t, off) refl, λ on. absurd (true≢false (sym on ∙ off)))
    go (apart ne t) rest = (rw t rest.0, λ on. rw t (rest.1 on))

-- a map's insertion puts its key last, where it is not there
pub keys-insert : {A : Type 0} (es : List (ℕ × A)) (k : ℕ) (v : A) → keys_of (insert_entry nat_eq es k v) ≡ with_last (keys_of es) k
keys-insert [] k v = refl
keys-insert (e ∷ es) k v = go (k == e.0) (keys-insert es k v) ∙ ap (λ b. if (if b then true else among k (keys_of es)) then e.0 ∷ keys_of es else (e.0 ∷ keys_of es) ++ k ∷ []) (swapped k e.0)
  where
    by : (b : Bool) → e.0 ∷ (if b then keys_of es else keys_of es ++ k ∷ []) ≡ (if b then e.0 ∷ keys_of es else (e.0 ∷ keys_of es) ++ k ∷ [])
    by true = refl
    by false = refl

    go : (b : Bool) → keys_of (insert_entry nat_eq es k v) ≡ with_last (keys_of es) k
        → keys_of (cond b ((e.0, v) ∷ es) (e ∷ insert_entry nat_eq es k v)) ≡ (if (if b then true else among k (keys_of es)) then e.0 ∷ keys_of es else (e.0 ∷ keys_of es) ++ k ∷ [])
    go true i = refl
    go false i = ap (λ ks. e.0 ∷ ks) i ∙ by (among k (keys_of es))

-- the keys of one more entry
pub keys-next : {A : Type 0} (es : List (ℕ × A)) (i : ℕ) (e : ℕ × A) → slice_get es i ≡ Some e → keys_of (take (suc i) es) ≡ keys_of (take i es) ++ e.0 ∷ []
keys-next [] zero e h = let d : ⊥ = cc h in absurd d
keys-next [] (suc i) e h = let d : ⊥ = cc h in absurd d
keys-next (x ∷ es) zero e h = let d : x ≡ e = cc h in ap (λ y. y.0 ∷ []) d
keys-next (x ∷ es) (suc i) e h = ap (λ ks. x.0 ∷ ks) (keys-next es i e h)

pub delivered-standing : (m : Mutation) (standing : List Registration) (v : Option Bool) → delivered m v ≡ delivered (record m { standing = standing }) v
delivered-standing m standing None = refl
delivered-standing m standing (Some asks) = refl
