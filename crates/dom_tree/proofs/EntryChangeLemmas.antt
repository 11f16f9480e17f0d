-- The entries by number after a link, an unlink, an add or a write by slot.
use Rattle.std.proofs.Common.{◌≡◌, ℕ, ◌<◌, ◌==◌, true, false, if◌then◌else◌, List, map, Option, Some, None, option_map, IsSome, is_some, refl, ap, sym, ◌∙◌, subst, arith}
use Rattle.std.proofs.lemmas.Bool.{false≢true}
use Rattle.dom_model.specs.Definitions.{hits, is_number, entered, left_out, Entry, held, alone, IsLinked, Node}
use Rattle.dom_tree.specs.SpelledForest.{number_in, number_in_slot, renumbered, by_number, IsTabled}
use Rattle.dom_model.proofs.PlainLists.{Numbers.same_or, Numbers.same, Numbers.apart, Mapped.map-same, Mapped.entered-map, Mapped.left_out-map}
use Rattle.dom_model.proofs.Forests.Changes.{seen, nothing, just, cut_at, link_at, change_at, held-cut_at, held-link_at}
use Rattle.dom_tree.proofs.NumberedEntryLemmas.{child-held, parent-held, same_test}

module _ {X : Type 0} where
  -- a table stays right where slots keep their numbers
  pub IsTabled-kept : (at at' : (ℕ → Option (Entry (Node X)))) (sl : ℕ → Option ℕ) → ((s : ℕ) → held (at' s) ≡ held (at s)) → ((s : ℕ) → number_in (at' s) ≡ number_in (at s)) → IsTabled at sl → IsTabled at' sl
  IsTabled-kept at at' sl h n t =
      record {
        named = λ m s e. (some_from (at s) (at' s) (h s) (t.named m s e).0, n s ∙ (t.named m s e).1);
        listed = λ s i. ap sl (n s) ∙ t.listed s (some_from (at' s) (at s) (sym (h s)) i);
      }
    where
      some_from : (o p : Option (Entry (Node X))) → held p ≡ held o → IsSome o → IsSome p
      some_from None p e i = absurd (false≢true i)
      some_from (Some d) None e i = absurd (omega arith)
      some_from (Some d) (Some g) e i = refl

  number_in-linked : (p : ℕ) (b : Option ℕ) (c s : ℕ) (o : Option (Entry (Node X))) → number_in (link_at p b c s o) ≡ number_in o
  number_in-linked p b c s None = refl
  number_in-linked p b c s (Some e) = refl

  number_in-unlinked : (c s : ℕ) (o : Option (Entry (Node X))) → number_in (cut_at c s o) ≡ number_in o
  number_in-unlinked c s None = refl
  number_in-unlinked c s (Some e) = refl

  pub IsTabled-linked : (at at' : (ℕ → Option (Entry (Node X)))) (sl : ℕ → Option ℕ) (p c : ℕ) (b : Option ℕ) → ((s : ℕ) → at' s ≡ link_at p b c s (at s)) → IsTabled at sl → IsTabled at' sl
  IsTabled-linked at at' sl p c b h t =
      IsTabled-kept at at' sl (λ s. ap held (h s) ∙ held-link_at p b c s (at s)) (λ s. ap number_in (h s) ∙ number_in-linked p b c s (at s)) t

  pub IsTabled-unlinked : (at at' : (ℕ → Option (Entry (Node X)))) (sl : ℕ → Option ℕ) (c : ℕ) → ((s : ℕ) → at' s ≡ cut_at c s (at s)) → IsTabled at sl → IsTabled at' sl
  IsTabled-unlinked at at' sl c h t =
      IsTabled-kept at at' sl (λ s. ap held (h s) ∙ held-cut_at c s (at s)) (λ s. ap number_in (h s) ∙ number_in-unlinked c s (at s)) t

  map_numbers : (at at' : (ℕ → Option (Entry (Node X)))) (l : List ℕ) → ((s : ℕ) → number_in (at' s) ≡ number_in (at s)) → map (number_in_slot at') l ≡ map (number_in_slot at) l
  map_numbers at at' l h = map-same (number_in_slot at') (number_in_slot at) l (λ x _. h x)

  option_numbers : (at at' : (ℕ → Option (Entry (Node X)))) (o : Option ℕ) → ((s : ℕ) → number_in (at' s) ≡ number_in (at s)) → option_map (number_in_slot at') o ≡ option_map (number_in_slot at) o
  option_numbers at at' None h = refl
  option_numbers at at' (Some x) h = ap Some (h x)

  -- to link by slot is to link by number
  pub by_number-linked : (at at' : (ℕ → Option (Entry (Node X)))) (sl : ℕ → Option ℕ) (p c : ℕ) (b : Option ℕ) → IsTabled at sl → IsLinked at → IsSome (at p) → IsSome (at c) → ((q : ℕ) → b ≡ Some q → IsSome (at q)) → ((s : ℕ) → at' s ≡ link_at p b c s (at s)) → (n : ℕ) → by_number at' sl n ≡ link_at (number_in_slot at p) (option_map (number_in_slot at) b) (number_in_slot at c) n (by_number at sl n)
  by_number-linked at at' sl p c b t l hp hc hb h n =
      elim (seen (sl n)) [
        | nothing e ↦ rw e refl
        | just s e ↦
            elim (seen (at s)) [
              | nothing d ↦ rw (e, h s, d) refl
              | just a d ↦
                  let i : IsSome (at s) = rw d refl in
                  rw (e, h s, d) (ap Some (pieces s e a d i))
            ]
      ]
    where
      numbers_same : (s : ℕ) → number_in (at' s) ≡ number_in (at s)
      numbers_same s = ap number_in (h s) ∙ number_in-linked p b c s (at s)

      test_before : (x : ℕ) → IsSome (at x) → is_number (option_map (number_in_slot at) b) (number_in_slot at x) ≡ is_number b x
      test_before x hx = go b hb
        where
          go : (o : Option ℕ) → ((q : ℕ) → o ≡ Some q → IsSome (at q)) → is_number (option_map (number_in_slot at) o) (number_in_slot at x) ≡ is_number o x
          go None _ = refl
          go (Some q) hq = same_test at sl t q x (hq q refl) hx

      parents : (s : ℕ) (o : Option ℕ) → sl n ≡ Some s → IsSome (at s) → option_map (number_in_slot at') (if s == c then Some p else o) ≡ (if n == number_in_slot at c then Some (number_in_slot at p) else option_map (number_in_slot at) o)
      parents s o e i =
          let d = (t.named n s e).1 in
          let k = same_test at sl t s c i hc in
          let k2 = rw d at k in
          rw (option_numbers at at' (if s == c then Some p else o) numbers_same, k2)
          (elim (s == c) as (λ v. option_map (number_in_slot at) (if v then Some p else o) ≡ (if v then Some (number_in_slot at p) else option_map (number_in_slot at) o)) [ true ↦ refl | false ↦ refl ])

      lists : (s : ℕ) (xs : List ℕ) → sl n ≡ Some s → IsSome (at s) → ((x : ℕ) → 0 < hits x xs → IsSome (at x)) → map (number_in_slot at') (if s == p then entered b c xs else xs) ≡ (if n == number_in_slot at p then entered (option_map (number_in_slot at) b) (number_in_slot at c) (map (number_in_slot at) xs) else map (number_in_slot at) xs)
      lists s xs e i hx =
          let d = (t.named n s e).1 in
          let k = same_test at sl t s p i hp in
          let k2 = rw d at k in
          rw (map_numbers at at' (if s == p then entered b c xs else xs) numbers_same, k2)
          (elim (s == p) as (λ v. map (number_in_slot at) (if v then entered b c xs else xs) ≡ (if v then entered (option_map (number_in_slot at) b) (number_in_slot at c) (map (number_in_slot at) xs) else map (number_in_slot at) xs)) [
            | true ↦ sym (entered-map (number_in_slot at) b c xs (λ x k. test_before x (hx x k)))
            | false ↦ refl
          ])

      pieces : (s : ℕ) → sl n ≡ Some s → (a : Entry (Node X)) → at s ≡ Some a → IsSome (at s) → renumbered at' (record { value = a.value; parent = if s == c then Some p else a.parent; children = if s == p then entered b c a.children else a.children }) ≡ record { value = a.value; parent = if n == number_in_slot at c then Some (number_in_slot at p) else option_map (number_in_slot at) a.parent; children = if n == number_in_slot at p then entered (option_map (number_in_slot at) b) (number_in_slot at c) (map (number_in_slot at) a.children) else map (number_in_slot at) a.children }
      pieces s e a d i =
          let hx : (x : ℕ) → 0 < hits x a.children → IsSome (at x) = λ x k. child-held at l s x (rw d k) in
          λ j. record { value = a.value; parent = parents s a.parent e i j; children = lists s a.children e i hx j }

  pub by_number-unlinked : (at at' : (ℕ → Option (Entry (Node X)))) (sl : ℕ → Option ℕ) (c : ℕ) → IsTabled at sl → IsLinked at → IsSome (at c) → ((s : ℕ) → at' s ≡ cut_at c s (at s)) → (n : ℕ) → by_number at' sl n ≡ cut_at (number_in_slot at c) n (by_number at sl n)
  by_number-unlinked at at' sl c t l hc h n =
      elim (seen (sl n)) [
        | nothing e ↦ rw e refl
        | just s e ↦
            elim (seen (at s)) [
              | nothing d ↦ rw (e, h s, d) refl
              | just a d ↦
                  let i : IsSome (at s) = rw d refl in
                  rw (e, h s, d) (ap Some (pieces s e a d i))
            ]
      ]
    where
      numbers_same : (s : ℕ) → number_in (at' s) ≡ number_in (at s)
      numbers_same s = ap number_in (h s) ∙ number_in-unlinked c s (at s)

      parents : (s : ℕ) (o : Option ℕ) → sl n ≡ Some s → IsSome (at s) → option_map (number_in_slot at') (if s == c then None else o) ≡ (if n == number_in_slot at c then None else option_map (number_in_slot at) o)
      parents s o e i =
          let d = (t.named n s e).1 in
          let k = same_test at sl t s c i hc in
          let k2 = rw d at k in
          rw (option_numbers at at' (if s == c then None else o) numbers_same, k2)
          (elim (s == c) as (λ v. option_map (number_in_slot at) (if v then None else o) ≡ (if v then None else option_map (number_in_slot at) o)) [ true ↦ refl | false ↦ refl ])

      lists : (xs : List ℕ) → ((x : ℕ) → 0 < hits x xs → IsSome (at x)) → map (number_in_slot at') (left_out c xs) ≡ left_out (number_in_slot at c) (map (number_in_slot at) xs)
      lists xs hx =
          map_numbers at at' (left_out c xs) numbers_same ∙ sym (left_out-map (number_in_slot at) c xs (λ x k. same_test at sl t x c (hx x k) hc))

      pieces : (s : ℕ) → sl n ≡ Some s → (a : Entry (Node X)) → at s ≡ Some a → IsSome (at s) → renumbered at' (record { value = a.value; parent = if s == c then None else a.parent; children = left_out c a.children }) ≡ record { value = a.value; parent = if n == number_in_slot at c then None else option_map (number_in_slot at) a.parent; children = left_out (number_in_slot at c) (map (number_in_slot at) a.children) }
      pieces s e a d i =
          let hx : (x : ℕ) → 0 < hits x a.children → IsSome (at x) = λ x k. child-held at l s x (rw d k) in
          λ j. record { value = a.value; parent = parents s a.parent e i j; children = lists a.children hx j }

  -- the value of one slot changed, its number kept
  abbrev pub changed_at : (Node X → Node X) → ℕ → ℕ → Option (Entry (Node X)) → Option (Entry (Node X))
  changed_at g c s o = if s == c then option_map (λ (e : Entry (Node X)). record e { value = g e.value }) o else o

  number_in-changed : (g : Node X → Node X) → ((x : Node X) → (g x).number ≡ x.number) → (c s : ℕ) (o : Option (Entry (Node X))) → number_in (changed_at g c s o) ≡ number_in o
  number_in-changed g k c s None = elim (s == c) as (λ v. number_in (if◌then◌else◌ {A = Option (Entry (Node X))} v None None) ≡ 0) [ true ↦ refl | false ↦ refl ]
  number_in-changed g k c s (Some e) = elim (s == c) as (λ v. number_in (if v then Some (record e { value = g e.value }) else Some e) ≡ e.value.number) [ true ↦ k e.value | false ↦ refl ]

  held-changed : (g : Node X → Node X) (c s : ℕ) (o : Option (Entry (Node X))) → held (changed_at g c s o) ≡ held o
  held-changed g c s None = elim (s == c) as (λ v. held (if◌then◌else◌ {A = Option (Entry (Node X))} v None None) ≡ 0) [ true ↦ refl | false ↦ refl ]
  held-changed g c s (Some e) = elim (s == c) as (λ v. held (if v then Some (record e { value = g e.value }) else Some e) ≡ 1) [ true ↦ refl | false ↦ refl ]

  pub IsTabled-changed : (at at' : (ℕ → Option (Entry (Node X)))) (sl : ℕ → Option ℕ) (c : ℕ) (g : Node X → Node X) → ((x : Node X) → (g x).number ≡ x.number) → ((s : ℕ) → at' s ≡ changed_at g c s (at s)) → IsTabled at sl → IsTabled at' sl
  IsTabled-changed at at' sl c g k h t =
      IsTabled-kept at at' sl (λ s. ap held (h s) ∙ held-changed g c s (at s)) (λ s. ap number_in (h s) ∙ number_in-changed g k c s (at s)) t

  pub by_number-changed : (at at' : (ℕ → Option (Entry (Node X)))) (sl : ℕ → Option ℕ) (c : ℕ) (g : Node X → Node X) → ((x : Node X) → (g x).number ≡ x.number) → IsTabled at sl → IsSome (at c) → ((s : ℕ) → at' s ≡ changed_at g c s (at s)) → (n : ℕ) → by_number at' sl n ≡ change_at g (number_in_slot at c) n (by_number at sl n)
  by_number-changed at at' sl c g k t hc h n =
      elim (seen (sl n)) [
        | nothing e ↦ rw e refl
        | just s e ↦
            elim (seen (at s)) [
              | nothing d ↦ rw (e, h s, d) (elim (s == c) as (λ v. option_map (renumbered at') (if◌then◌else◌ {A = Option (Entry (Node X))} v None None) ≡ None) [ true ↦ refl | false ↦ refl ])
              | just a d ↦
                  let i : IsSome (at s) = rw d refl in
                  let j = same_test at sl t s c i hc in
                  let j2 = rw ((t.named n s e).1) at j in
                  rw (e, h s, d, j2) (elim (s == c) as (λ v. option_map (renumbered at') (if v then Some (record a { value = g a.value }) else Some a) ≡ Some (record { value = if v then g a.value else a.value; parent = option_map (number_in_slot at) a.parent; children = map (number_in_slot at) a.children })) [
                    | true ↦ (λ q. Some (record { value = g a.value; parent = option_numbers at at' a.parent numbers_same q; children = map_numbers at at' a.children numbers_same q }))
                    | false ↦ (λ q. Some (record { value = a.value; parent = option_numbers at at' a.parent numbers_same q; children = map_numbers at at' a.children numbers_same q }))
                  ])
            ]
      ]
    where
      numbers_same : (s : ℕ) → number_in (at' s) ≡ number_in (at s)
      numbers_same s = ap number_in (h s) ∙ number_in-changed g k c s (at s)

  -- a node in a fresh slot, under a new number
  pub IsTabled-added : (at at' : (ℕ → Option (Entry (Node X)))) (sl sl' : ℕ → Option ℕ) (made k : ℕ) (x : Node X) → x.number ≡ made → IsTabled at sl → sl made ≡ None → at k ≡ None → at' k ≡ Some (alone x) → ((s : ℕ) → (s ≡ k → ⊥) → at' s ≡ at s) → sl' made ≡ Some k → ((n : ℕ) → (n ≡ made → ⊥) → sl' n ≡ sl n) → IsTabled at' sl'
  IsTabled-added at at' sl sl' made k x nx t free fresh new old snew sold =
      record { named = named; listed = listed }
    where
      far : (s : ℕ) → IsSome (at s) → s ≡ k → ⊥
      far s i e = false≢true (sym (ap is_some (ap at e ∙ fresh)) ∙ i)

      named : (n s : ℕ) → sl' n ≡ Some s → IsSome (at' s) × (number_in_slot at' s ≡ n)
      named n s e =
          elim (same_or n made) [
            | same d v ↦
                let f : Some k ≡ Some s = sym snew ∙ ap sl' (sym d) ∙ e in
                let g : k ≡ s = cc f in
                (subst (λ m. IsSome (at' m)) g (rw new refl), subst (λ m. number_in_slot at' m ≡ n) g (rw new (nx ∙ sym d)))
            | apart ne v ↦
                let f : sl n ≡ Some s = sym (sold n ne) ∙ e in
                let g = t.named n s f in
                let w = old s (far s g.0) in
                (rw w g.0, rw w g.1)
          ]

      listed : (s : ℕ) → IsSome (at' s) → sl' (number_in_slot at' s) ≡ Some s
      listed s i =
          elim (same_or s k) [
            | same d v ↦ ap sl' (ap number_in (ap at' d ∙ new) ∙ nx) ∙ snew ∙ ap Some (sym d)
            | apart ne v ↦
                let w = old s ne in
                let i2 = rw w at i in
                let f = t.listed s i2 in
                let apart_from : number_in_slot at s ≡ made → ⊥ = λ m. none_not_some (sym free ∙ ap sl (sym m) ∙ f) in
                ap sl' (ap number_in w) ∙ sold (number_in_slot at s) apart_from ∙ f
          ]
        where
          none_not_some : None ≡ Some s → ⊥
          none_not_some z = cc z

  pub by_number-added : (at at' : (ℕ → Option (Entry (Node X)))) (sl sl' : ℕ → Option ℕ) (made k : ℕ) (x : Node X) → IsTabled at sl → IsLinked at → sl made ≡ None → at k ≡ None → at' k ≡ Some (alone x) → ((s : ℕ) → (s ≡ k → ⊥) → at' s ≡ at s) → sl' made ≡ Some k → ((n : ℕ) → (n ≡ made → ⊥) → sl' n ≡ sl n) → (by_number at' sl' made ≡ Some (alone x)) × ((n : ℕ) → (n ≡ made → ⊥) → by_number at' sl' n ≡ by_number at sl n)
  by_number-added at at' sl sl' made k x t l free fresh new old snew sold =
      (rw (snew, new) refl, others)
    where
      far : (s : ℕ) → IsSome (at s) → s ≡ k → ⊥
      far s i e = false≢true (sym (ap is_some (ap at e ∙ fresh)) ∙ i)

      number_kept : (s : ℕ) → IsSome (at s) → number_in_slot at' s ≡ number_in_slot at s
      number_kept s i = ap number_in (old s (far s i))

      option_kept : (o : Option ℕ) → ((p : ℕ) → o ≡ Some p → IsSome (at p)) → option_map (number_in_slot at') o ≡ option_map (number_in_slot at) o
      option_kept None h = refl
      option_kept (Some p) h = ap Some (number_kept p (h p refl))

      others : (n : ℕ) → (n ≡ made → ⊥) → by_number at' sl' n ≡ by_number at sl n
      others n ne =
          rw (sold n ne) (elim (seen (sl n)) [
            | nothing e ↦ rw e refl
            | just s e ↦
                let i = (t.named n s e).0 in
                elim (seen (at s)) [
                  | nothing d ↦ absurd (false≢true (sym (ap is_some d) ∙ i))
                  | just a d ↦
                      let ps = option_kept a.parent (λ p h. parent-held at l s p (rw d h)) in
                      let cs = map-same (number_in_slot at') (number_in_slot at) a.children (λ c h. number_kept c (child-held at l s c (rw d h))) in
                      rw (e, old s (far s i), d) (λ j. Some (record { value = a.value; parent = ps j; children = cs j }))
                ]
          ])
