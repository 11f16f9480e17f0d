-- No list gets a key twice: what comes in has a key that was vacant, and what ends takes keys out.
use Rattle.std.proofs.Common.{◌≡◌, ℕ, ◌<◌, ◌≤◌, ◌==◌, Bool, true, false, if◌then◌else◌, List, [], ◌∷◌, ◌++◌, length, filter, Option, None, refl, ap, sym, ◌∙◌, subst, arith, slice_index_or, slice_set}
use Rattle.std.specs.List.{insert}
use Rattle.std.proofs.lemmas.List.{get_or-set_same, get_or-set_other}
use Rattle.dom_model.specs.Definitions.{hits, among, Registration}
use Rattle.dom_model.proofs.Forests.Climbing.{hits-append, not_among-hits}
use Rattle.dom_model.proofs.PlainLists.Numbers.{same_or, same, apart}
use Rattle.dom_model.proofs.RangesAndContents.DrawnPaths.{hits-filter}
use Rattle.dom_observe.specs.{Watchers.on, Invariant.PlacedOnce, Invariant.HaveOnce, Registrations.is_on_node, Registrations.AreListedByNode, Registrations.Owned, Registrations.Added, Registrations.NewKey}
use Rattle.dom_observe.proofs.OrderedLemmas.{hits-insert}

-- a list is put in place of another
pub once-set : (lists lists' : List (List ℕ)) (i : ℕ) (keys : List ℕ) → i < length lists → lists' ≡ slice_set lists i keys → ((k : ℕ) → hits k keys ≤ 1) → HaveOnce lists → HaveOnce lists'
once-set lists lists' i keys lt set each once j k = elim (same_or j i) [
  | same e t ↦ subst (λ ks. hits k ks ≤ 1) (sym (ap (λ ls. slice_index_or ls j []) set ∙ ap (λ m. slice_index_or (slice_set lists i keys) m []) e ∙ get_or-set_same lists i keys [] lt)) (each k)
  | apart ne t ↦ subst (λ ks. hits k ks ≤ 1) (sym (ap (λ ls. slice_index_or ls j []) set ∙ get_or-set_other lists i j keys [] ne)) (once j k)
]

pub once-ended : (lists lists' : List (List ℕ)) (i : ℕ) (live : ℕ → Bool) → i < length lists → lists' ≡ slice_set lists i (filter live (slice_index_or lists i [])) → HaveOnce lists → HaveOnce lists'
once-ended lists lists' i live lt set once =
    once-set lists lists' i (filter live (slice_index_or lists i [])) lt set
    (λ k. let few = hits-filter k live (slice_index_or lists i []) in let one = once i k in omega arith) once

-- a key that is not there is put among them
pub hits-put : (key : ℕ) (keys : List ℕ) (place : ℕ) → among key keys ≡ false → ((k : ℕ) → hits k keys ≤ 1) → (k : ℕ) → hits k (insert keys place key) ≤ 1
hits-put key keys place new once k = let all = hits-insert k keys place key in elim (same_or key k) [
  | same e t ↦ let none : hits k keys ≡ 0 = not_among-hits k keys (ap (λ m. among m keys) (sym e) ∙ new) in let one = rw t at all in omega arith
  | apart ne t ↦ let few = once k in let none = rw t at all in omega arith
]

-- a key that is not there comes last
pub hits-last : (key : ℕ) (keys : List ℕ) → among key keys ≡ false → ((k : ℕ) → hits k keys ≤ 1) → (k : ℕ) → hits k (keys ++ key ∷ []) ≤ 1
hits-last key keys new once k = let all = hits-append k keys (key ∷ []) in elim (same_or key k) [
  | same e t ↦ let none : hits k keys ≡ 0 = not_among-hits k keys (ap (λ m. among m keys) (sym e) ∙ new) in let one : hits k (key ∷ []) ≡ 1 = rw t refl in omega arith
  | apart ne t ↦ let few = once k in let none : hits k (key ∷ []) ≡ 0 = rw t refl in omega arith
]

pub once-new : (u v : ℕ → Option Registration) (r : Registration) (place : ℕ) (keys keys' : List ℕ) → NewKey u r v place keys keys' → (kind : ℕ → Option Registration → Bool) → ((j : ℕ) → kind j None ≡ false) → (lists lists' : List (List ℕ))
    → r.observer < length lists → keys ≡ slice_index_or lists r.observer [] → lists' ≡ slice_set lists r.observer keys' → Owned kind u lists → HaveOnce lists → HaveOnce lists'
once-new u v r place keys keys' a kind nothing lists lists' lt had set owned once =
    once-set lists lists' r.observer keys' lt set
    (λ k. subst (λ ks. hits k ks ≤ 1) (sym a.put)
    (hits-put a.key keys place
    (ap (among a.key) had ∙ owned r.observer a.key ∙ ap (kind r.observer) a.vacant ∙ nothing r.observer)
    (λ m. subst (λ ks. hits m ks ≤ 1) (sym had) (once r.observer m)) k)) once

-- The keys of nodes.

-- some go
pub placed_once-swept : (lists lists' : List (ℕ × List ℕ)) (live : ℕ → Bool) → ((n : ℕ) → on n lists' ≡ filter live (on n lists)) → PlacedOnce lists → PlacedOnce lists'
placed_once-swept lists lists' live swept once n k =
    subst (λ ks. hits k ks ≤ 1) (sym (swept n)) (let few = hits-filter k live (on n lists) in let one = once n k in omega arith)

-- a key that was vacant comes in
pub placed_once-added : (u : ℕ → Option Registration) (lists : List (ℕ × List ℕ)) (r : Registration) (v : ℕ → Option Registration) (lists' : List (ℕ × List ℕ)) → Added u lists r v lists' → AreListedByNode u lists → PlacedOnce lists → PlacedOnce lists'
placed_once-added u lists r v lists' a placed once n k = subst (λ ks. hits k ks ≤ 1) (sym (a.keys n)) (go (n == r.node))
  where
    go : (b : Bool) → hits k (on n lists ++ (if b then a.key ∷ [] else [])) ≤ 1
    go true = hits-last a.key (on n lists) (placed n a.key ∙ ap (is_on_node n) a.vacant) (once n) k
    go false = let all = hits-append k (on n lists) [] in let few = once n k in let none : hits k [] ≡ 0 = refl in omega arith
