-- The nodes that registrations name are those that have keys.
use Rattle.std.proofs.Common.{◌≡◌, ℕ, Bool, true, false, List, [], ◌∷◌, Option, Some, None, refl, ap, sym, ◌∙◌, subst, nat_eq}
use Rattle.std.specs.{Map.lookup, Map.keys_of, List.list_any, List.AllByRecursion}
use Rattle.std.proofs.lemmas.Bool.{true≢false, or_parts, or_from}
use Rattle.dom_model.specs.Definitions.{among, Registration, Record, if_any, nodes_of_registration}
use Rattle.dom_model.proofs.PlainLists.{Numbers.same_or, Numbers.same, Numbers.apart, Searches.alike, Searches.passes_not, Searches.none-each}
use Rattle.dom_observe.specs.{Watchers.on, Registrations.Registered, Registrations.at, Registrations.is_on_node, Registrations.StandsOn, Registrations.HaveKeys, Registrations.HaveSources, Invariant.registered_nodes, Invariant.has_queue, Invariant.HoldsInvariant, QueuedNodes.names_one, QueuedNodes.NamesNone}
use Rattle.dom_observe.proofs.{NamedNodesLemmas.none_under_keys, NamedNodesLemmas.none_registered, KeysLemmas.keys_in, KeysLemmas.on-looked, HaveSourcesLemmas.own-shape, RegistrationTableLemmas.all_imply}

-- a node with a key is listed
listed-there : (n k : ℕ) (es : List (ℕ × List ℕ)) → among k (on n es) ≡ true → among n (keys_of es) ≡ true
listed-there n k [] h = absurd (true≢false (sym h))
listed-there n k (e ∷ es) h =
    elim (same_or e.0 n) [
      | same d t ↦ rw t refl
      | apart ne t ↦ elim (same_or n e.0) [
        | same d u ↦ absurd (ne (sym d))
        | apart _ u ↦ let g = rw u at h in rw t (listed-there n k es g)
      ]
    ]

-- what a node that is listed has
listed-found : (n : ℕ) (es : List (ℕ × List ℕ)) → among n (keys_of es) ≡ true → (keys : List ℕ) × (lookup (nat_eq n) es ≡ Some keys)
listed-found n [] h = absurd (true≢false (sym h))
listed-found n (e ∷ es) h =
    elim (same_or n e.0) [
      | same d t ↦ (e.1, rw t refl)
      | apart ne t ↦ elim (same_or e.0 n) [
        | same d u ↦ absurd (ne (sym d))
        | apart _ u ↦ let g = rw u at h in let f = listed-found n es g in (f.0, rw t f.1)
      ]
    ]

first-key : (n : ℕ) (es : List (ℕ × List ℕ)) → HaveKeys es → among n (keys_of es) ≡ true → (k : ℕ) × (keys : List ℕ) × (on n es ≡ k ∷ keys)
first-key n es full there = go f.0 refl
  where
    f : (keys : List ℕ) × (lookup (nat_eq n) es ≡ Some keys)
    f = listed-found n es there

    go : (keys : List ℕ) → f.0 ≡ keys → (k : ℕ) × (rest : List ℕ) × (on n es ≡ k ∷ rest)
    go [] is = absurd (full n f.0 f.1 is)
    go (k ∷ keys) is = (k, keys, on-looked n es ∙ ap keys_in f.1 ∙ is)

module _ (reg : Registered) (queues : List (Option (List Record))) (pending : List ℕ) (kept : HoldsInvariant reg queues pending) (have : HaveSources (at reg)) (p : ℕ → Bool) where
  -- the node of a registration has its key
  has_key : (k : ℕ) (r : Registration) → at reg k ≡ Some r → among r.node (keys_of reg.lists) ≡ true
  has_key k r is = listed-there r.node k reg.lists (kept.are.placed r.node k ∙ ap (is_on_node r.node) is ∙ elim (same_or r.node r.node) [ same e t ↦ t | apart ne t ↦ absurd (ne refl) ])

  -- the source of a transient one has the key of another
  none_named : list_any p (keys_of reg.lists) ≡ false → NamesNone p (at reg) reg.lists
  none_named none n = all_imply (StandsOn (at reg) (has_queue queues) n) (λ k. names_one p (at reg k) ≡ false) one (on n reg.lists) (kept.stand n)
    where
      source : (k : ℕ) (r : Registration) → at reg k ≡ Some r → (o : Option ℕ) → r.source ≡ o → list_any p (if_any o) ≡ false
      source k r is None e = refl
      source k r is (Some m) e =
          let w = have k r m is e in
          let s = own-shape r.observer m (at reg w.key) w.own in
          or_from (p m) false (passes_not p (keys_of reg.lists) m none (subst (λ i. among i (keys_of reg.lists) ≡ true) s.3 (has_key w.key s.0 s.1))) refl

      one : (k : ℕ) → StandsOn (at reg) (has_queue queues) n k → names_one p (at reg k) ≡ false
      one k s =
          let r = s.registration in
          ap (names_one p) s.is
          ∙ or_from (p r.node) (list_any p (if_any r.source)) (passes_not p (keys_of reg.lists) r.node none (has_key k r s.is)) (source k r s.is r.source refl)

  -- each node with keys is that of a registration
  none_keyed : NamesNone p (at reg) reg.lists → list_any p (keys_of reg.lists) ≡ false
  none_keyed none = none-each p (keys_of reg.lists) one
    where
      one : (n : ℕ) → among n (keys_of reg.lists) ≡ true → p n ≡ false
      one n there =
          let f = first-key n reg.lists kept.are.full there in
          let stand = subst (AllByRecursion (StandsOn (at reg) (has_queue queues) n)) f.2 (kept.stand n) in
          let nameless = subst (AllByRecursion (λ k. names_one p (at reg k) ≡ false)) f.2 (none n) in
          let r = stand.0.registration in
          subst (λ m. p m ≡ false) stand.0.node (or_parts (p r.node) (list_any p (if_any r.source)) (sym (ap (names_one p) stand.0.is) ∙ nameless.0)).0

  -- so these nodes are asked in place of the registrations
  pub any-keyed : list_any p (keys_of reg.lists) ≡ list_any (λ (e : ℕ × List Registration). list_any (λ r. list_any p (nodes_of_registration r)) e.1) (registered_nodes reg)
  any-keyed =
      let one = λ (r : Registration). list_any p (nodes_of_registration r) in
      alike (list_any p (keys_of reg.lists)) (list_any (λ (e : ℕ × List Registration). list_any one e.1) (registered_nodes reg))
      (λ none. none_registered reg one kept.are.unique (none_named none))
      (λ none. none_keyed (none_under_keys reg one none))
