-- Steps to the next and to the previous sibling, and which of two siblings comes first.
use Rattle.std.proofs.Common.{◌≡◌, ℕ, zero, suc, ◌+◌, ◌-◌, ◌<◌, ◌≤◌, nat_lt, true, false, List, [], ◌∷◌, length, Option, Some, None, IsSome, refl, ap, sym, ◌∙◌, subst, arith, ⊎_elim, slice_get}
use Rattle.std.proofs.lemmas.Bool.{cases_lt, lt-ltb, le-ltb, false≢true}
use Rattle.dom_model.specs.Definitions.{hits, last_of, before_from, siblings_in, Forest, Grove, entry_in, HasNode, parent_of, children_of, next_of, previous_of, index_of, IsForest}
use Rattle.dom_model.proofs.PlainLists.{Numbers.same_or, Numbers.same, Numbers.apart, Places.place-there}
use Rattle.dom_model.proofs.Forests.{Changes.seen, Changes.nothing, Changes.just, PutBack.hits-after, Chains.index-apart, Entries.occurs-HasNode, Entries.HasNode-occurs, Indices.child-parent, Indices.child-there, Indices.child-listed, Indices.child-once, Indices.index-child, Indices.parent-there, TreeOrder.Preceding.place-after, TreeOrder.Preceding.place-last, TreeOrder.Preceding.lt-step, Siblings.hits-get, Siblings.index-step, Siblings.index-first}
use Rattle.dom_tree.proofs.PlaceInLemmas.{get-place, place-get}

-- the last of a list, by its index
pub get-last : (l : List ℕ) → last_of l ≡ slice_get l (length l - 1)
get-last [] = refl
get-last (x ∷ []) = refl
get-last (x ∷ y ∷ ys) = get-last (y ∷ ys) ∙ ap (slice_get (y ∷ ys)) last_two ∙ ap (slice_get (x ∷ y ∷ ys)) (sym one_less)
  where
    last_two : length (y ∷ ys) - 1 ≡ length ys
    last_two = omega arith

    one_less : length (x ∷ y ∷ ys) - 1 ≡ suc (length ys)
    one_less = omega arith

before_from-get : (q : Option ℕ) (l : List ℕ) (i c : ℕ) → ((k : ℕ) → hits k l ≤ 1) → slice_get l (suc i) ≡ Some c → before_from q c l ≡ slice_get l i
before_from-get q [] i c o e = absurd (cc e)
before_from-get q (x ∷ xs) i c o e =
    elim (same_or x c) [
      | same d t ↦ absurd (let w = o c in let w2 = rw t at w in let z = hits-get xs i c e in omega arith)
      | apart ne t ↦ rw t (later xs i (λ k. let w = o k in omega arith) e (λ j f. before_from-get (Some x) xs j c (λ k. let w = o k in omega arith) f))
    ]
  where
    later : (ys : List ℕ) (j : ℕ) → ((k : ℕ) → hits k ys ≤ 1) → slice_get ys j ≡ Some c → ((m : ℕ) → slice_get ys (suc m) ≡ Some c → before_from (Some x) c ys ≡ slice_get ys m) → before_from (Some x) c ys ≡ slice_get (x ∷ ys) j
    later [] j u f r = absurd (cc f)
    later (y ∷ ys) zero u f r = (let d : y ≡ c = cc f in elim (same_or y c) [ same _ v ↦ rw v refl | apart ny v ↦ absurd (ny d) ])
    later (y ∷ ys) (suc j) u f r = r j f

back-step : (p q m : ℕ) → p ≡ 1 + m → (m ≡ q → ⊥) → nat_lt q m ≡ nat_lt q p
back-step p q m e ne =
    ⊎_elim
    (λ (lt : q < m). lt-ltb q m lt ∙ sym (lt-ltb q p (omega arith)))
    (λ (le : m ≤ q). le-ltb q m le ∙ sym (le-ltb q p (omega arith)))
    (cases_lt q m)

lt-from : (a b : ℕ) → nat_lt a b ≡ true → a < b
lt-from a b e = ⊎_elim (λ (lt : a < b). lt) (λ (le : b ≤ a). absurd (false≢true (sym (le-ltb a b le) ∙ e))) (cases_lt a b)

le-from : (a b : ℕ) → nat_lt a b ≡ false → b ≤ a
le-from a b e = ⊎_elim (λ (lt : a < b). absurd (false≢true (sym e ∙ lt-ltb a b lt))) (λ (le : b ≤ a). le) (cases_lt a b)

-- who has a parent is a node
pub child-held_under : {X : Type 0} (f : Forest X) (p c : ℕ) → parent_of f c ≡ Some p → HasNode f c
child-held_under f p c e = HasNode-occurs f c (parent-there f c p e)

module _ {X : Type 0} {g : Grove X} (s : IsForest g) where
  -- a step back in a list of children
  pub child-back : (p c k j : ℕ) → HasNode g.forest p → slice_get (children_of g.forest p) k ≡ Some c → k ≡ suc j → previous_of g.forest c ≡ slice_get (children_of g.forest p) j
  child-back p c k j h e i =
      let e2 : slice_get (children_of g.forest p) (suc j) ≡ Some c = ap (slice_get (children_of g.forest p)) (sym i) ∙ e in
      let pc = child-parent g.forest s.once c p (hits-get (children_of g.forest p) (suc j) c e2) in
      rw pc (before_from-get None (children_of g.forest p) j c (λ m. child-once g.forest s.once m p) e2)

  -- a child stands at its index
  pub child-indexed : (p c i : ℕ) → parent_of g.forest c ≡ Some p → i ≡ index_of g.forest c → slice_get (children_of g.forest p) i ≡ Some c
  child-indexed p c i e ei =
      ap (slice_get (children_of g.forest p)) (ei ∙ index-child g.forest c p e) ∙ place-get (children_of g.forest p) c (child-listed g.forest s.once c p (parent-there g.forest c p e) e)

  -- and the other way round
  pub indexed-child : (p c i : ℕ) → slice_get (children_of g.forest p) i ≡ Some c → i ≡ index_of g.forest c
  indexed-child p c i e =
      let pc = child-parent g.forest s.once c p (hits-get (children_of g.forest p) i c e) in
      sym (index-child g.forest c p pc ∙ get-place (children_of g.forest p) i c (λ k. child-once g.forest s.once k p) e)

  -- a step on
  pub forward-step : (n m : ℕ) → HasNode g.forest n → next_of g.forest n ≡ Some m → (index_of g.forest m ≡ 1 + index_of g.forest n) × ((parent_of g.forest m ≡ parent_of g.forest n) × HasNode g.forest m)
  forward-step n m h e =
      elim (seen (parent_of g.forest n)) [
        | nothing d ↦ absurd (let k = rw d at e in let z : None ≡ Some m = k in cc z)
        | just p d ↦
            let k = rw d at e in
            let on : 0 < hits m (children_of g.forest p) = hits-after n (children_of g.forest p) m k in
            let pm = child-parent g.forest s.once m p on in
            let b = place-after n m (children_of g.forest p) (λ j. child-once g.forest s.once j p) k in
            (rw (d, pm) b, (pm ∙ sym d, HasNode-occurs g.forest m (child-there g.forest s.once m p on)))
      ]

  forward-end : (n b q : ℕ) → HasNode g.forest n → HasNode g.forest b → parent_of g.forest n ≡ Some q → parent_of g.forest b ≡ Some q → next_of g.forest n ≡ None → index_of g.forest b ≤ index_of g.forest n
  forward-end n b q h hb pn pb e =
      let k = rw pn at e in
      let ln = child-listed g.forest s.once n q (occurs-HasNode g.forest n h) pn in
      let lb = child-listed g.forest s.once b q (occurs-HasNode g.forest b hb) pb in
      omega (arith, index-child g.forest n q pn, index-child g.forest b q pb, place-last n (children_of g.forest q) ln k, place-there b (children_of g.forest q) lb)

  -- a search from a to both sides that has come to the last sibling, with one still in front of where it stands on the other side
  pub sides-end : (a k f m : ℕ) → previous_of g.forest k ≡ Some m → parent_of g.forest k ≡ parent_of g.forest a → HasNode g.forest f → parent_of g.forest f ≡ parent_of g.forest a → next_of g.forest f ≡ None → length (siblings_in (entry_in g.forest) a) ≡ 1 + index_of g.forest f
  sides-end a k f m ek pk hf pf ef =
      elim (seen (parent_of g.forest a)) [
        | nothing d ↦ absurd (let pn = pk ∙ d in let e = rw pn at ek in let z : None ≡ Some m = e in cc z)
        | just q d ↦
            let pn = pf ∙ d in
            let e = rw pn at ef in
            let listed = child-listed g.forest s.once f q (occurs-HasNode g.forest f hf) pn in
            rw d (omega (arith, index-child g.forest f q pn, place-last f (children_of g.forest q) listed e))
      ]

  -- two siblings have two indices
  pub indices-apart : (m b : ℕ) → HasNode g.forest m → parent_of g.forest m ≡ parent_of g.forest b → IsSome (parent_of g.forest m) → (m ≡ b → ⊥) → index_of g.forest m ≡ index_of g.forest b → ⊥
  indices-apart m b h e i ne x =
      elim (seen (parent_of g.forest m)) [
        | nothing d ↦ false≢true (let j = rw d at i in j)
        | just p d ↦ ne (index-apart g.forest s.once m b p (occurs-HasNode g.forest m h) d (sym e ∙ d) x)
      ]

  -- a sibling of a child stands at an index below their count
  pub index-below : (a n : ℕ) → HasNode g.forest n → parent_of g.forest n ≡ parent_of g.forest a → IsSome (parent_of g.forest a) → index_of g.forest n < length (siblings_in (entry_in g.forest) a)
  index-below a n h e i =
      elim (seen (parent_of g.forest a)) [
        | nothing d ↦ absurd (false≢true (let j = rw d at i in j))
        | just q d ↦
            let pn = e ∙ d in
            let listed = child-listed g.forest s.once n q (occurs-HasNode g.forest n h) pn in
            rw d (omega (arith, index-child g.forest n q pn, place-there n (children_of g.forest q) listed))
      ]

  -- a search from a, in which b has not been met
  module _ (a b f k : ℕ) (hb : HasNode g.forest b) (one : parent_of g.forest a ≡ parent_of g.forest b) (child : IsSome (parent_of g.forest a)) (ne : a ≡ b → ⊥) where
    module _ (hf : HasNode g.forest f) (pf : parent_of g.forest f ≡ parent_of g.forest a) (same : nat_lt (index_of g.forest f) (index_of g.forest b) ≡ nat_lt (index_of g.forest a) (index_of g.forest b)) where
      pub ahead-met : (m : ℕ) → next_of g.forest f ≡ Some m → m ≡ b → true ≡ nat_lt (index_of g.forest a) (index_of g.forest b)
      ahead-met m e d =
          let i = forward-step f m hf e in
          sym (lt-ltb (index_of g.forest f) (index_of g.forest b) (omega (arith, i.0, ap (index_of g.forest) d))) ∙ same

      pub ahead-end : next_of g.forest f ≡ None → false ≡ nat_lt (index_of g.forest a) (index_of g.forest b)
      ahead-end e =
          elim (seen (parent_of g.forest a)) [
            | nothing d ↦ absurd (false≢true (let j = rw d at child in j))
            | just q d ↦ sym (le-ltb (index_of g.forest f) (index_of g.forest b) (forward-end f b q hf hb (pf ∙ d) (sym one ∙ d) e)) ∙ same
          ]

      pub ahead-on : (m : ℕ) → next_of g.forest f ≡ Some m → (m ≡ b → ⊥) → nat_lt (index_of g.forest m) (index_of g.forest b) ≡ nat_lt (index_of g.forest a) (index_of g.forest b)
      ahead-on m e nm =
          let i = forward-step f m hf e in
          let pm = i.1.0 ∙ pf in
          lt-step (index_of g.forest f) (index_of g.forest b) (index_of g.forest m) i.0 (indices-apart m b i.1.1 (pm ∙ one) (subst IsSome (sym pm) child) nm) ∙ same

    module _ (hk : HasNode g.forest k) (pk : parent_of g.forest k ≡ parent_of g.forest a) (same : nat_lt (index_of g.forest b) (index_of g.forest k) ≡ nat_lt (index_of g.forest b) (index_of g.forest a)) where
      pub behind-met : (m : ℕ) → previous_of g.forest k ≡ Some m → m ≡ b → false ≡ nat_lt (index_of g.forest a) (index_of g.forest b)
      behind-met m e d =
          let i = index-step s k m hk e in
          let lt : index_of g.forest b < index_of g.forest a = lt-from (index_of g.forest b) (index_of g.forest a) (sym same ∙ lt-ltb (index_of g.forest b) (index_of g.forest k) (omega (arith, i.0, ap (index_of g.forest) d))) in
          sym (le-ltb (index_of g.forest a) (index_of g.forest b) (omega arith))

      pub behind-end : HasNode g.forest a → previous_of g.forest k ≡ None → true ≡ nat_lt (index_of g.forest a) (index_of g.forest b)
      behind-end ha e =
          let z = index-first s k hk e in
          let le : index_of g.forest a ≤ index_of g.forest b = le-from (index_of g.forest b) (index_of g.forest a) (sym same ∙ le-ltb (index_of g.forest b) (index_of g.forest k) (omega arith)) in
          let far : index_of g.forest a ≡ index_of g.forest b → ⊥ = indices-apart a b ha one child ne in
          sym (lt-ltb (index_of g.forest a) (index_of g.forest b) (omega arith))

      pub behind-on : (m : ℕ) → previous_of g.forest k ≡ Some m → (m ≡ b → ⊥) → nat_lt (index_of g.forest b) (index_of g.forest m) ≡ nat_lt (index_of g.forest b) (index_of g.forest a)
      behind-on m e nm =
          let i = index-step s k m hk e in
          let pm = i.1.0 ∙ pk in
          back-step (index_of g.forest k) (index_of g.forest b) (index_of g.forest m) i.0 (indices-apart m b i.1.1 (pm ∙ one) (subst IsSome (sym pm) child) nm) ∙ same
