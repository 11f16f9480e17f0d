-- Where no ancestor of a node is named, no key stands there, and nobody is told.
use Rattle.std.proofs.Common.{◌≡◌, ℕ, ◌<◌, ◌==◌, Bool, false, List, [], ◌∷◌, ◌++◌, length, refl, ap, sym, ◌∙◌, subst, arith, filter_map, flat_map, filter, Option}
use Rattle.std.specs.List.{AllByRecursion, list_any}
use Rattle.std.proofs.lemmas.Bool.{true≢false, or_parts}
use Rattle.dom_model.specs.Definitions.{hits, among, Registration, if_any, registered_on, standing_on, Record}
use Rattle.dom_model.proofs.PlainLists.Numbers.{same_or, same, apart}
use Rattle.dom_model.proofs.Forests.Climbing.{hits-first}
use Rattle.dom_observe.specs.{ObservedNodes.referred_nodes, ObservedNodes.NamesNoneOf, QueuedNodes.names_one, QueuedNodes.NamesNone, QueuedNodes.RecordsNameNone, WithoutRepeats.once, Watchers.Watchers, Watchers.on, Registrations.Registered, Registrations.at, Registrations.StandsOn, Registrations.AllStand, Registrations.deep_at, Invariant.registered_nodes}
use Rattle.dom_observe.proofs.{NamedNodesLemmas.none-named, InvariantLemmas.on-registered_nodes, OnceLemmas.once-none}
use Rattle.dom_model.proofs.RangesAndContents.{RangesElsewhere.among-any, ListsByParts.flat-none}

-- a list that is not empty
pub not_nothing : (xs : List ℕ) (len : ℕ) → length xs ≡ len → (len == 0) ≡ false → xs ≡ [] → ⊥
not_nothing xs len ok full e =
    let l = ap (λ (ys : List ℕ). length ys) e in
    elim (same_or len 0) [ same _ t ↦ true≢false (sym t ∙ full) | apart ne _ ↦ ne (omega arith) ]

no_first : (xs ys : List ℕ) → xs ++ ys ≡ [] → xs ≡ []
no_first [] ys e = refl
no_first (x ∷ xs) ys e = absurd (cc e)

no_second : (xs ys : List ℕ) → xs ++ ys ≡ [] → ys ≡ []
no_second [] ys e = e
no_second (x ∷ xs) ys e = absurd (cc e)

-- and nothing from each of them
pub each-none : (f : ℕ → List ℕ) (ns : List ℕ) → flat_map f ns ≡ [] → (n : ℕ) → 0 < hits n ns → f n ≡ []
each-none f [] e n h = absurd (omega arith)
each-none f (m ∷ ns) e n h =
    elim (same_or m n) [
      | same d t ↦ subst (λ k. f k ≡ []) d (no_first (f m) (flat_map f ns) e)
      | apart ne t ↦ each-none f ns (no_second (f m) (flat_map f ns) e) n (let k = rw t at h in omega arith)
    ]

module _ (reg : Registered) (there : ℕ → Bool) (all : AllStand (at reg) there reg.lists) where
  module _ (queues : List (Option (List Record))) (pending : List ℕ) (o : Watchers) (is : record { nodes = registered_nodes reg; queues = queues; pending = pending } ≡ o) where
    -- a node that is not named has no keys
    no_keys : (n : ℕ) → among n (referred_nodes o) ≡ false → on n reg.lists ≡ []
    no_keys n unnamed = go (on n reg.lists) (all n) (names.0 n)
      where
        names : NamesNone (λ m. m == n) (at reg) reg.lists × RecordsNameNone (λ m. m == n) queues
        names =
            none-named reg queues pending (λ m. m == n)
            (ap (λ (w : Watchers). list_any (λ m. m == n) (referred_nodes w)) is ∙ sym (among-any n (referred_nodes o)) ∙ unnamed)

        go : (keys : List ℕ) → AllByRecursion (StandsOn (at reg) there n) keys → AllByRecursion (λ k. names_one (λ m. m == n) (at reg k) ≡ false) keys → keys ≡ []
        go [] h e = refl
        go (k ∷ keys) h e =
            let r = h.0.registration in
            let none = ap (names_one (λ m. m == n)) (sym h.0.is) ∙ e.0 in
            let apart_from = or_parts (r.node == n) (list_any (λ m. m == n) (if_any r.source)) none in
            elim (same_or r.node n) [ same _ t ↦ absurd (true≢false (sym t ∙ apart_from.0)) | apart ne _ ↦ absurd (ne h.0.node) ]

    module _ (ns : List ℕ) (unnamed : NamesNoneOf ns o) where
      pub none-stand : flat_map (λ n. on n reg.lists) ns ≡ []
      none-stand = flat-none (λ n. on n reg.lists) ns (λ n k. no_keys n (unnamed n k))

      pub none-deep : flat_map (λ n. filter (deep_at (at reg)) (on n reg.lists)) ns ≡ []
      none-deep = flat-none (λ n. filter (deep_at (at reg)) (on n reg.lists)) ns (λ n k. ap (filter (deep_at (at reg))) (no_keys n (unnamed n k)))

-- where no key stands, no registration does
pub none-standing : (reg : Registered) (rs : List Registration) → ((n : ℕ) → on n (registered_nodes reg) ≡ once (registered_on n rs)) → (ns : List ℕ) → flat_map (λ n. on n reg.lists) ns ≡ [] → standing_on ns rs ≡ []
none-standing reg rs shown ns e = go ns (each-none (λ n. on n reg.lists) ns e)
  where
    here : (n : ℕ) → on n reg.lists ≡ [] → registered_on n rs ≡ []
    here n z = once-none (registered_on n rs) (sym (shown n) ∙ on-registered_nodes reg n ∙ ap (filter_map (at reg)) z)

    go : (ms : List ℕ) → ((n : ℕ) → 0 < hits n ms → on n reg.lists ≡ []) → standing_on ms rs ≡ []
    go [] h = refl
    go (m ∷ ms) h = rw (here m (h m (hits-first m ms)), go ms (λ n k. h n (omega arith))) refl
