-- Children and siblings: a node, the one before it, the one after it, and their indices.
use Rattle.std.proofs.Common.{◌≡◌, ℕ, zero, suc, ◌+◌, ◌<◌, ◌≤◌, List, [], ◌∷◌, length, Some, None, refl, sym, ◌∙◌, arith, ⊎_elim, Option, ap, slice_get}
use Rattle.std.proofs.lemmas.Bool.Decides.{nat_tests}
use Rattle.dom_model.specs.Definitions.{hits, head_of, after, before, before_from, place_in, siblings_in, Forest, Grove, entry_in, HasNode, parent_of, children_of, next_of, previous_of, index_of, IsForest, occurs}
use Rattle.dom_model.proofs.PlainLists.{Numbers.same_or, Numbers.same, Numbers.apart, Members.hits-before, Places.place_before}
use Rattle.dom_model.proofs.Forests.{Changes.seen, Changes.nothing, Changes.just, Entries.occurs-HasNode, Entries.HasNode-occurs, Indices.child-parent, Indices.child-there, Indices.child-listed, Indices.child-once, Indices.index-child, PutBack.hits-after}

pub place_in-length : (n : ℕ) (l : List ℕ) → place_in n l ≤ length l
place_in-length n [] = omega arith
place_in-length n (x ∷ xs) =
    elim (same_or x n) [ same _ t ↦ rw t (omega arith) | apart _ t ↦ rw t (omega (arith, place_in-length n xs)) ]

place-from : (n m p : ℕ) (l : List ℕ) → ((k : ℕ) → hits k (p ∷ l) ≤ 1) → (p ≡ n → ⊥) → before_from (Some p) n l ≡ Some m → place_in n (p ∷ l) ≡ 1 + place_in m (p ∷ l)
place-from n m p [] o ne e = absurd (cc e)
place-from n m p (x ∷ xs) o ne e = grind (arith, place-from n m x xs, hits-before (Some x) n xs m)

-- the place just before
pub place-before : (n m : ℕ) (l : List ℕ) → ((k : ℕ) → hits k l ≤ 1) → before n l ≡ Some m → place_in n l ≡ 1 + place_in m l
place-before n m [] o e = absurd (cc e)
place-before n m (x ∷ xs) o e = grind (arith, place-from n m x xs o)

place-passed : (n p : ℕ) (l : List ℕ) → 0 < hits n l → before_from (Some p) n l ≡ None → ⊥
place-passed n p [] h e = omega arith
place-passed n p (x ∷ xs) h e =
    elim (same_or x n) [
      | same d t ↦ (let k = rw t at e in let z : Some p ≡ None = k in cc z)
      | apart ne t ↦ (let k = rw t at e in let w = rw t at h in place-passed n x xs (omega arith) k)
    ]

pub place-first : (n : ℕ) (l : List ℕ) → 0 < hits n l → before n l ≡ None → place_in n l ≡ 0
place-first n [] h e = refl
place-first n (x ∷ xs) h e = grind (arith, place-passed n x xs)

-- what comes next after the element at an index
pub after-get : (l : List ℕ) (i c : ℕ) → ((k : ℕ) → hits k l ≤ 1) → slice_get l i ≡ Some c → after c l ≡ slice_get l (suc i)
after-get [] i c o e = absurd (cc e)
after-get (x ∷ xs) zero c o e = grind arith
after-get (x ∷ xs) (suc i) c o e =
    let ih = after-get xs i c (λ j. let w = o j in omega arith) e in
    elim (same_or x c) [
      | same d t ↦ absurd (let w = o c in let w2 = rw t at w in let z = got xs i e in omega arith)
      | apart ne t ↦ rw t ih
    ]
  where
    got : (ys : List ℕ) (j : ℕ) → slice_get ys j ≡ Some c → 0 < hits c ys
    got [] j q = absurd (cc q)
    got (y ∷ ys) zero q = (let d : y ≡ c = cc q in elim (same_or y c) [ same _ t ↦ rw t (omega arith) | apart ne t ↦ absurd (ne d) ])
    got (y ∷ ys) (suc j) q = omega (arith, got ys j q)

pub hits-get : (l : List ℕ) (i c : ℕ) → slice_get l i ≡ Some c → 0 < hits c l
hits-get [] i c e = absurd (cc e)
hits-get (x ∷ xs) zero c e = (let d : x ≡ c = cc e in elim (same_or x c) [ same _ t ↦ rw t (omega arith) | apart ne t ↦ absurd (ne d) ])
hits-get (x ∷ xs) (suc i) c e = omega (arith, hits-get xs i c e)

pub get-past : (l : List ℕ) (i j : ℕ) → slice_get l i ≡ None → i ≤ j → slice_get l j ≡ None
get-past [] i j e h = refl
get-past (x ∷ xs) zero j e h = absurd (cc e)
get-past (x ∷ xs) (suc i) zero e h = absurd (omega arith)
get-past (x ∷ xs) (suc i) (suc j) e h = get-past xs i j e (omega arith)

pub get-head : (l : List ℕ) → head_of l ≡ slice_get l 0
get-head [] = refl
get-head (x ∷ xs) = refl

module _ {X : Type 0} {g : Grove X} (s : IsForest g) where
  -- how a walk back along the siblings counts
  pub index-step : (n m : ℕ) → HasNode g.forest n → previous_of g.forest n ≡ Some m → (index_of g.forest n ≡ 1 + index_of g.forest m) × ((parent_of g.forest m ≡ parent_of g.forest n) × HasNode g.forest m)
  index-step n m h e =
      elim (seen (parent_of g.forest n)) [
        | nothing d ↦ absurd (let k = rw d at e in let z : None ≡ Some m = k in cc z)
        | just p d ↦
            let k = rw d at e in
            let on : 0 < hits m (children_of g.forest p) =
            ⊎_elim (λ (q : None ≡ Some m). absurd (cc q)) (λ (q : 0 < hits m (children_of g.forest p)). q) (hits-before None n (children_of g.forest p) m k) in
            let pm = child-parent g.forest s.once m p on in
            let b = place-before n m (children_of g.forest p) (λ j. child-once g.forest s.once j p) k in
            (rw (d, pm) b, (pm ∙ sym d, HasNode-occurs g.forest m (child-there g.forest s.once m p on)))
      ]

  pub index-first : (n : ℕ) → HasNode g.forest n → previous_of g.forest n ≡ None → index_of g.forest n ≡ 0
  index-first n h e = grind (arith, place-first n, child-listed g.forest s.once n, occurs-HasNode g.forest n h)

  -- the next child is at the next index
  pub child-next : (p c i : ℕ) → HasNode g.forest p → slice_get (children_of g.forest p) i ≡ Some c → next_of g.forest c ≡ slice_get (children_of g.forest p) (suc i)
  child-next p c i h e =
      let pc = child-parent g.forest s.once c p (hits-get (children_of g.forest p) i c e) in
      rw pc (after-get (children_of g.forest p) i c (λ j. child-once g.forest s.once j p) e)

  pub child-held : (p c i : ℕ) → HasNode g.forest p → slice_get (children_of g.forest p) i ≡ Some c → HasNode g.forest c
  child-held p c i h e = HasNode-occurs g.forest c (child-there g.forest s.once c p (hits-get (children_of g.forest p) i c e))

pub index-within : {X : Type 0} (f : Forest X) (n : ℕ) → index_of f n ≤ length (siblings_in (entry_in f) n)
index-within f n = place_in-length n (siblings_in (entry_in f) n)

first-of : (ns : List ℕ) → slice_get ns 0 ≡ head_of ns
first-of [] = refl
first-of (x ∷ xs) = refl

get-after : (n : ℕ) (ns : List ℕ) → 0 < hits n ns → slice_get ns (suc (place_in n ns)) ≡ after n ns
get-after n [] h = absurd (omega arith)
get-after n (x ∷ xs) h =
    elim (same_or x n) [
      | same e t ↦ rw t (first-of xs)
      | apart ne t ↦ (let k = rw t at h in let e : 1 + place_in n xs ≡ suc (place_in n xs) = omega arith in rw (t, e) (get-after n xs (omega arith)))
    ]

place-after : (n : ℕ) (ns : List ℕ) → ((m : ℕ) → hits m ns ≤ 1) → 0 < hits n ns → place_before (after n ns) ns ≡ place_in n ns + 1
place-after n [] o h = absurd (omega arith)
place-after n (x ∷ xs) o h =
    elim (same_or x n) [
      | same e t ↦ rw t (at_head xs (o x))
      | apart ne t ↦
          let k = rw t at h in
          rw t (past_head (after n xs) (hits-after n xs) (place-after n xs (λ m. let j = o m in omega arith) (omega arith)))
    ]
  where
    at_head : (ys : List ℕ) → hits x (x ∷ ys) ≤ 1 → place_before (head_of ys) (x ∷ ys) ≡ 1
    at_head [] i = refl
    at_head (y ∷ ys) i = grind (arith, nat_tests)

    past_head : (b : Option ℕ) → ((k : ℕ) → b ≡ Some k → 0 < hits k xs) → place_before b xs ≡ place_in n xs + 1 → place_before b (x ∷ xs) ≡ 1 + place_in n xs + 1
    past_head None there e = omega arith
    past_head (Some b) there e = grind (arith, nat_tests, there b, o b)

module _ {X : Type 0} (f : Forest X) (o : (m : ℕ) → occurs m f ≤ 1) (n p : ℕ) (hn : 0 < occurs n f) (e : parent_of f n ≡ Some p) where
  next-after : next_of f n ≡ after n (children_of f p)
  next-after = rw e refl

  -- what comes in before the next sibling gets the index after the node's
  pub place-next : place_before (next_of f n) (children_of f p) ≡ index_of f n + 1
  place-next =
      ap (λ b. place_before b (children_of f p)) next-after
      ∙ place-after n (children_of f p) (λ m. child-once f o m p) (child-listed f o n p hn e)
      ∙ ap (λ k. k + 1) (sym (index-child f n p e))

  -- the next sibling is the child of the next index
  pub next-child : slice_get (children_of f p) (index_of f n + 1) ≡ next_of f n
  next-child = grind (arith, get-after n (children_of f p) (child-listed f o n p hn e))

  -- it is one of the parent's children
  pub next-listed : (m : ℕ) → next_of f n ≡ Some m → 0 < hits m (children_of f p)
  next-listed m i = hits-after n (children_of f p) m (sym next-after ∙ i)
