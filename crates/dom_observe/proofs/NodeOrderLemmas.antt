-- The order of the nodes that have registrations stays if a node that came last goes again.
use Rattle.std.proofs.Common.{◌≡◌, ◌≢◌, inl, inr, ℕ, ◌+◌, ◌-◌, ◌<◌, ◌≤◌, ◌==◌, Bool, true, false, not, cond, if◌then◌else◌, List, [], ◌∷◌, ◌++◌, length, take, position, Option, Some, None, is_some, refl, ap, sym, ◌∙◌, subst, arith, nat_eq, nat_lt, lt-ltb}
use Rattle.std.specs.{Map.keys_of, Map.lookup, Map.set_value, List.AllByRecursion, List.IsDistinct, List.swap_remove, List.position_or_len, Option.option_map_or}
use Rattle.std.proofs.lemmas.{Bool.true≢false, Map.Made.keys_of-map_values}
use Rattle.std.proofs.Math.Seq.{take-append_seam}
use Rattle.indexmap.specs.IndexMap.{insert_entry, swap_remove_entry, swap_remove_by}
use Rattle.indexmap.proofs.{MapLemmas.swap_remove_last, SetLemmas.keys_swap_remove_entry}
use Rattle.dom_model.specs.Definitions.{among, with_last}
use Rattle.dom_model.proofs.PlainLists.Numbers.{same_or, same, apart}
use Rattle.dom_observe.specs.{Keys.Keys, Watchers.on, NodeOrder.MayComeLast, NodeOrder.MayGoLast, Invariant.registered_nodes, Registrations.Registered, Registrations.found, Registrations.listed, Registrations.HaveKeys}
use Rattle.dom_observe.proofs.{InterestedLemmas.keys-insert, InterestedLemmas.last-there, InvariantLemmas.on-registered_nodes, KeysLemmas.some-lookup, KeysLemmas.keys_in, KeysLemmas.on-looked}

-- The nodes of a map.

nodes-listed : (es : List (ℕ × Keys)) → keys_of (listed es) ≡ keys_of es
nodes-listed es = keys_of-map_values (λ (l : Keys). l.items) es

-- other keys for a node
pub nodes-set : (k : ℕ) (es : List (ℕ × Keys)) (w : Keys) → keys_of (listed (set_value (nat_eq k) es w)) ≡ keys_of (listed es)
nodes-set k [] w = refl
nodes-set k (e ∷ es) w = go (k == e.0) (nodes-set k es w)
  where
    go : (b : Bool) → keys_of (listed (set_value (nat_eq k) es w)) ≡ keys_of (listed es) → keys_of (listed (cond b ((e.0, w) ∷ es) (e ∷ set_value (nat_eq k) es w))) ≡ e.0 ∷ keys_of (listed es)
    go true i = refl
    go false i = ap (λ ns. e.0 ∷ ns) i

-- a node that is listed does not come last again
pub nodes-had : (k : ℕ) (es : List (ℕ × Keys)) (v : Keys) → Some v ≡ lookup (nat_eq k) es → with_last (keys_of (listed es)) k ≡ keys_of (listed es)
nodes-had k es v there =
    let among_them : among k (keys_of (listed es)) ≡ true = ap (among k) (nodes-listed es) ∙ sym (some-lookup k es) ∙ ap is_some (sym there) in
    ap (λ b. if b then keys_of (listed es) else keys_of (listed es) ++ k ∷ []) among_them

-- a new node comes last
pub nodes-insert : (k : ℕ) (es : List (ℕ × Keys)) (w : Keys) → keys_of (listed (insert_entry nat_eq es k w)) ≡ with_last (keys_of (listed es)) k
nodes-insert k es w = nodes-listed (insert_entry nat_eq es k w) ∙ keys-insert es k w ∙ ap (λ ns. with_last ns k) (sym (nodes-listed es))

-- Numbers of which none comes twice.

first-apart : (n : ℕ) (ns : List ℕ) → IsDistinct nat_eq (n ∷ ns) → AllByRecursion (λ m. nat_eq n m ≡ false) ns
unfolding IsDistinct
first-apart n ns d = d.0

rest-distinct : (n : ℕ) (ns : List ℕ) → IsDistinct nat_eq (n ∷ ns) → IsDistinct nat_eq ns
unfolding IsDistinct
rest-distinct n ns d = d.1

all-last : (P : ℕ → Type 0) (ns : List ℕ) (k : ℕ) → AllByRecursion P (ns ++ k ∷ []) → P k
all-last P [] k h = h.0
all-last P (n ∷ ns) k h = all-last P ns k h.1

-- the last is not among those ahead of it
last-once : (ns : List ℕ) (k : ℕ) → IsDistinct nat_eq (ns ++ k ∷ []) → among k ns ≡ false
last-once [] k d = refl
last-once (n ∷ ns) k d =
    let off : (n == k) ≡ false = all-last (λ m. nat_eq n m ≡ false) ns k (first-apart n (ns ++ k ∷ []) d) in
    ap (λ b. if b then true else among k ns) off ∙ last-once ns k (rest-distinct n (ns ++ k ∷ []) d)

-- The last goes from its place.
module _ (k : ℕ) where
  place-last : (ns : List ℕ) → among k ns ≡ false → position_or_len (nat_eq k) (ns ++ k ∷ []) ≡ length ns
  place-last [] out = elim (same_or k k) [ same _ t ↦ ap (λ b. cond (not b) (1 + 0) 0) t | apart ne _ ↦ absurd (ne refl) ]
  place-last (n ∷ ns) out = elim (same_or n k) [
    | same _ t ↦ absurd (true≢false (sym (ap (λ b. if b then true else among k ns) t) ∙ out))
    | apart ne t ↦ elim (same_or k n) [
      | same e _ ↦ absurd (ne (sym e))
      | apart _ u ↦
          let rest = place-last ns (sym (ap (λ b. if b then true else among k ns) t) ∙ out) in
          ap (λ b. cond (not b) (1 + position_or_len (nat_eq k) (ns ++ k ∷ [])) 0) u ∙ ap (λ j. 1 + j) rest ∙ omega arith
    ]
  ]

  length-more : (ns : List ℕ) → length (ns ++ k ∷ []) ≡ length ns + 1
  length-more [] = refl
  length-more (n ∷ ns) = omega (arith, length-more ns)

  position-last : (ns : List ℕ) → among k ns ≡ false → position (nat_eq k) (ns ++ k ∷ []) ≡ Some (length ns)
  position-last ns out =
      let within : length ns < length (ns ++ k ∷ []) = omega (arith, length-more ns) in
      ap (λ j. cond (nat_lt j (length (ns ++ k ∷ []))) (Some j) None) (place-last ns out) ∙ ap (λ b. cond b (Some (length ns)) None) (lt-ltb (length ns) (length (ns ++ k ∷ [])) within)

  removed-last : (ms : List ℕ) (i : ℕ) → position (nat_eq k) ms ≡ Some i → i ≡ length ms - 1 → swap_remove_by (nat_eq k) ms ≡ take i ms
  removed-last [] i at is = cc
  removed-last (m ∷ ms) i at is =
      ap (λ r. option_map_or (λ j. swap_remove (m ∷ ms) j m) r (m ∷ ms)) at
      ∙ ap (λ j. swap_remove (m ∷ ms) j m) is
      ∙ swap_remove_last (m ∷ ms) m
      ∙ ap (λ j. take j (m ∷ ms)) (sym is)

  -- so the others keep their order
  pub nodes-removed : (es : List (ℕ × Keys)) → IsDistinct nat_eq (keys_of es) → (ns : List ℕ) → keys_of (listed es) ≡ ns ++ k ∷ [] → keys_of (listed (swap_remove_entry (nat_eq k) es)) ≡ ns
  nodes-removed es unique ns ends =
      let is : keys_of es ≡ ns ++ k ∷ [] = sym (nodes-listed es) ∙ ends in
      let out = last-once ns k (subst (IsDistinct nat_eq) is unique) in
      let end : length ns ≡ length (ns ++ k ∷ []) - 1 = omega (arith, length-more ns) in
      nodes-listed (swap_remove_entry (nat_eq k) es)
      ∙ keys_swap_remove_entry (nat_eq k) es
      ∙ ap (swap_remove_by (nat_eq k)) is
      ∙ removed-last (ns ++ k ∷ []) (length ns) (position-last ns out) end
      ∙ take-append_seam ns (k ∷ [])

-- Nodes and their keys.

-- a node without keys is not listed
not_listed : (n : ℕ) (lists : List (ℕ × List ℕ)) → HaveKeys lists → on n lists ≡ [] → among n (keys_of lists) ≡ false
not_listed n lists full bare = sym (some-lookup n lists) ∙ go (lookup (nat_eq n) lists) refl
  where
    go : (o : Option (List ℕ)) → lookup (nat_eq n) lists ≡ o → is_some (lookup (nat_eq n) lists) ≡ false
    go None e = ap is_some e
    go (Some keys) e = absurd (full n keys e (sym (on-looked n lists ∙ ap keys_in e) ∙ bare))

-- and one with keys is
is_listed : (n : ℕ) (lists : List (ℕ × List ℕ)) → 0 < length (on n lists) → among n (keys_of lists) ≡ true
is_listed n lists some = sym (some-lookup n lists) ∙ go (lookup (nat_eq n) lists) refl
  where
    go : (o : Option (List ℕ)) → lookup (nat_eq n) lists ≡ o → is_some (lookup (nat_eq n) lists) ≡ true
    go None e = absurd (omega (arith, some, ap length (on-looked n lists ∙ ap keys_in e)))
    go (Some keys) e = ap is_some e

with-none : (n : ℕ) (ns : List ℕ) → among n ns ≡ false → with_last ns n ≡ ns ++ n ∷ []
with-none n ns out = ap (λ b. if b then ns else ns ++ n ∷ []) out

with-again : (n : ℕ) (ns : List ℕ) → with_last (with_last ns n) n ≡ with_last ns n
with-again n ns = ap (λ b. if b then with_last ns n else with_last ns n ++ n ∷ []) (last-there n ns)

-- the node comes last, where it did not
pub comes-last : (n : ℕ) (lists mid lists' : List (ℕ × List ℕ)) → MayComeLast n lists mid → keys_of lists' ≡ with_last (keys_of mid) n → MayComeLast n lists lists'
comes-last n lists mid lists' (inl e) more = inr (more ∙ ap (λ ns. with_last ns n) e)
comes-last n lists mid lists' (inr e) more = inr (more ∙ ap (λ ns. with_last ns n) e ∙ with-again n (keys_of lists))

-- one step may take it out
pub goes-after : (n : ℕ) (lists mid lists' : List (ℕ × List ℕ)) → keys_of mid ≡ keys_of lists → MayGoLast n mid lists' → MayGoLast n lists lists'
goes-after n lists mid lists' e (inl f) = inl (f ∙ e)
goes-after n lists mid lists' e (inr g) = inr (record { bare = g.bare; others = λ ns ends. g.others ns (e ∙ ends) })

-- it goes only if it had no keys before it came
pub goes-again : (n : ℕ) (lists mid lists' : List (ℕ × List ℕ)) → HaveKeys lists → 0 < length (on n mid) → (on n lists' ≡ [] → length (on n lists) ≡ 0) → MayGoLast n mid lists' → MayComeLast n lists mid → MayComeLast n lists lists'
goes-again n lists mid lists' full some had (inl e) (inl f) = inl (e ∙ f)
goes-again n lists mid lists' full some had (inl e) (inr f) = inr (e ∙ f)
goes-again n lists mid lists' full some had (inr g) come = inl (go come)
  where
    nothing : (ns : List ℕ) → length ns ≡ 0 → ns ≡ []
    nothing [] h = refl
    nothing (m ∷ ns) h = absurd (omega (arith, h))

    out : among n (keys_of lists) ≡ false
    out = not_listed n lists full (nothing (on n lists) (had g.bare))

    go : MayComeLast n lists mid → keys_of lists' ≡ keys_of lists
    go (inl f) = absurd (true≢false (sym (is_listed n mid some) ∙ ap (among n) f ∙ out))
    go (inr f) = g.others (keys_of lists) (f ∙ with-none n (keys_of lists) out)

-- with as many keys as before, the nodes are those from before
pub ends-alike : (n : ℕ) (lists mid : List (ℕ × List ℕ)) → HaveKeys mid → length (on n mid) ≤ length (on n lists) → MayComeLast n lists mid → keys_of mid ≡ keys_of lists
ends-alike n lists mid full few (inl e) = e
ends-alike n lists mid full few (inr e) = go (among n (keys_of lists)) refl
  where
    there : among n (keys_of mid) ≡ true
    there = ap (among n) e ∙ last-there n (keys_of lists)

    go : (b : Bool) → among n (keys_of lists) ≡ b → keys_of mid ≡ keys_of lists
    go true h = e ∙ ap (λ b. if b then keys_of lists else keys_of lists ++ n ∷ []) h
    go false h = absurd (by (on n mid) refl)
      where
        by : (ks : List ℕ) → on n mid ≡ ks → ⊥
        by [] bare = true≢false (sym there ∙ not_listed n mid full bare)
        by (k ∷ ks) is = true≢false (sym (is_listed n lists (omega (arith, few, ap length is))) ∙ h)

-- Lists with the same numbers in the same order, and the same under each number, are equal.
module _ {A : Type 0} where
  absent-on : (n : ℕ) (es : List (ℕ × List A)) → AllByRecursion (λ m. nat_eq n m ≡ false) (keys_of es) → on n es ≡ []
  absent-on n [] h = refl
  absent-on n (e ∷ es) h = ap (λ b. if b then e.1 else on n es) h.0 ∙ absent-on n es h.1

  on-first : (e : ℕ × List A) (es : List (ℕ × List A)) (n : ℕ) → n ≡ e.0 → on n (e ∷ es) ≡ e.1
  on-first e es n is = elim (same_or n e.0) [ same _ t ↦ ap (λ b. if b then e.1 else on n es) t | apart ne _ ↦ absurd (ne is) ]

  on-rest : (e : ℕ × List A) (es : List (ℕ × List A)) (n : ℕ) → n ≢ e.0 → on n (e ∷ es) ≡ on n es
  on-rest e es n off = elim (same_or n e.0) [ same is _ ↦ absurd (off is) | apart _ t ↦ ap (λ b. if b then e.1 else on n es) t ]

  pub alike-lists : (xs es : List (ℕ × List A)) → keys_of xs ≡ keys_of es → IsDistinct nat_eq (keys_of es) → ((n : ℕ) → on n xs ≡ on n es) → xs ≡ es
  alike-lists [] [] k d each = refl
  alike-lists [] (e ∷ es) k d each = cc k
  alike-lists (x ∷ xs) [] k d each = cc k
  alike-lists (x ∷ xs) (e ∷ es) k d each =
      let head : x.0 ≡ e.0 = cc k in
      let tail : keys_of xs ≡ keys_of es = cc k in
      let first : x.1 ≡ e.1 = sym (on-first x xs e.0 (sym head)) ∙ each e.0 ∙ on-first e es e.0 refl in
      let off = first-apart e.0 (keys_of es) d in
      let rest = alike-lists xs es tail (rest-distinct e.0 (keys_of es) d) (λ n. elim (same_or n e.0) [
        | same is _ ↦ ap (λ m. on m xs) is ∙ absent-on e.0 xs (subst (AllByRecursion (λ m. nat_eq e.0 m ≡ false)) (sym tail) off) ∙ sym (ap (λ m. on m es) is ∙ absent-on e.0 es off)
        | apart ne _ ↦ sym (on-rest x xs n (λ is. ne (is ∙ head))) ∙ each n ∙ on-rest e es n ne
      ]) in
      λ i. (head i, first i) ∷ rest i

-- so are the registrations on nodes
pub registered-alike : (r r' : Registered) → IsDistinct nat_eq (keys_of r.lists) → keys_of r'.lists ≡ keys_of r.lists → ((n : ℕ) → found r' (on n r'.lists) ≡ found r (on n r.lists)) → registered_nodes r' ≡ registered_nodes r
registered-alike r r' unique nodes each =
    alike-lists (registered_nodes r') (registered_nodes r)
    (keys_of-map_values (found r') r'.lists ∙ nodes ∙ sym (keys_of-map_values (found r) r.lists))
    (subst (IsDistinct nat_eq) (sym (keys_of-map_values (found r) r.lists)) unique)
    (λ n. on-registered_nodes r' n ∙ each n ∙ sym (on-registered_nodes r n))
