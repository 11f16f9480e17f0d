-- The inclusive ancestors of a node (what is above it): how deep they stand, their root, and where the ways up from two nodes meet.
use Rattle.std.proofs.Common.{◌≡◌, ℕ, zero, suc, ◌+◌, ◌<◌, ◌≤◌, Bool, true, false, List, [], ◌∷◌, length, drop, Some, IsSome, refl, ap, sym, ◌∙◌, subst, arith, length-append, filter, unwrap_or}
use Rattle.std.proofs.lemmas.Bool.Decides.{nat_tests}
use Rattle.std.proofs.Math.Seq.{drop-append_seam}
use Rattle.dom_model.specs.Definitions.{hits, among, head_of, last_of, up_to, Forest, occurs, size, parent_of, ancestors, root_of, common_ancestor}
use Rattle.dom_model.proofs.PlainLists.Numbers.{same_or, same, apart}
use Rattle.dom_model.proofs.Forests.{Changes.seen, Changes.nothing, Changes.just, Climbing.hits-append, Climbing.hits-first, Climbing.hits-among, Climbing.hits-not_among, Climbing.ancestors-there, Paths.parent-path, Paths.root-path}
use Rattle.dom_model.proofs.RangesAndContents.PathsApart.{along, along-ancestors, up_to-itself}
use Rattle.dom_model.proofs.BoundaryPoints.{RemovalOrder.ancestors-split, RootsKept.last_of-behind}

-- the first that passes, where none before it does
first-passing : (q : ℕ → Bool) (xs : List ℕ) (c : ℕ) → 0 < hits c xs → q c ≡ true → ((x : ℕ) → 0 < hits x (up_to c xs) → q x ≡ false) → head_of (filter q xs) ≡ Some c
first-passing q [] c h e none = absurd (omega arith)
first-passing q (y ∷ xs) c h e none = grind (arith, first-passing q xs c)

module _ {X : Type 0} where
  -- no node has more inclusive ancestors than there are nodes
  pub depth-size : (n : ℕ) (f : Forest X) → length (ancestors n f) ≤ size f
  depth-size n f = omega (arith, along-ones (ancestors n f), along-ancestors (λ _. 1) n f)
    where
      along-ones : (ns : List ℕ) → along (λ _. 1) ns ≡ length ns
      along-ones [] = refl
      along-ones (m ∷ ms) = omega (arith, along-ones ms)

  module _ (f : Forest X) (o : (m : ℕ) → occurs m f ≤ 1) where
    -- a child stands one deeper than its parent
    pub depth-child : (n q : ℕ) → 0 < occurs n f → parent_of f n ≡ Some q → length (ancestors n f) ≡ suc (length (ancestors q f))
    depth-child n q h e = ap length (parent-path f o n q h e).1

    -- a node with more than itself above it has a parent
    pub parent-above : (n : ℕ) → 0 < occurs n f → 1 < length (ancestors n f) → IsSome (parent_of f n)
    parent-above n h l =
        elim (seen (parent_of f n)) [
          | nothing e ↦ absurd (let k = rw (root-path f o n h e) at l in omega arith)
          | just q e ↦ rw e refl
        ]

    -- a node is above itself
    pub above-itself : (n : ℕ) → 0 < occurs n f → 0 < hits n (ancestors n f)
    above-itself n h = let i = ancestors-there n f h in rw i.1 (hits-first n i.0)

    -- what is above a node above is above
    pub above-twice : (a c n : ℕ) → 0 < occurs n f → 0 < hits c (ancestors n f) → 0 < hits a (ancestors c f) → 0 < hits a (ancestors n f)
    above-twice a c n h i j = grind (arith, ancestors-split f o c n h i, hits-append a)

    -- the parent of a node above is above
    pub above-child : (c q n : ℕ) → 0 < occurs n f → 0 < occurs c f → 0 < hits c (ancestors n f) → parent_of f c ≡ Some q → 0 < hits q (ancestors n f)
    above-child c q n h hc i e = grind (arith, parent-path f o c q hc e, above-itself q, above-twice q c n h i)

    -- a node above stands no deeper
    pub above-higher : (c n : ℕ) → 0 < occurs n f → 0 < hits c (ancestors n f) → length (ancestors c f) ≤ length (ancestors n f)
    above-higher c n h i = grind (arith, ancestors-split f o c n h i, length-append)

    -- and has the same root
    pub above-root : (c n : ℕ) → 0 < occurs n f → 0 < occurs c f → 0 < hits c (ancestors n f) → root_of f c ≡ root_of f n
    above-root c n h hc i = grind (arith, ancestors-split f o c n h i, ancestors-there c f hc, last_of-behind)

    -- two nodes above one that stand as deep as one another are one
    pub above-apart : (a b n : ℕ) → 0 < occurs n f → 0 < occurs a f → 0 < occurs b f → 0 < hits a (ancestors n f) → 0 < hits b (ancestors n f) → length (ancestors a f) ≡ length (ancestors b f) → a ≡ b
    above-apart a b n h ha hb i j e =
        let s = ancestors-split f o a n h i in
        let t = ancestors-split f o b n h j in
        let u = ancestors-there a f ha in
        let v = ancestors-there b f hb in
        let ls : length (ancestors n f) ≡ length s.0 + length (ancestors a f) = ap length s.1 ∙ length-append s.0 (ancestors a f) in
        let lt : length (ancestors n f) ≡ length t.0 + length (ancestors b f) = ap length t.1 ∙ length-append t.0 (ancestors b f) in
        let l : length s.0 ≡ length t.0 = omega arith in
        let k : ancestors a f ≡ ancestors b f =
        sym (ap (drop (length s.0)) s.1 ∙ drop-append_seam s.0 (ancestors a f)) ∙ ap (λ m. drop m (ancestors n f)) l ∙ ap (drop (length t.0)) t.1 ∙ drop-append_seam t.0 (ancestors b f) in
        let w : a ∷ u.0 ≡ b ∷ v.0 = sym u.1 ∙ k ∙ v.1 in
        cc w

    -- of two nodes of one root, as deep as one another and not one, each has a parent
    pub level-parent : (a b : ℕ) → 0 < occurs a f → 0 < occurs b f → root_of f a ≡ root_of f b → length (ancestors a f) ≡ length (ancestors b f) → (a ≡ b → ⊥) → IsSome (parent_of f a)
    level-parent a b ha hb r l ne =
        elim (seen (parent_of f a)) [
          | nothing e ↦
              absurd (
              let p = root-path f o a ha e in
              let one : length (ancestors b f) ≡ 1 = sym l ∙ ap length p in
              let q = ancestors-there b f hb in
              let z : q.0 ≡ [] = none q.0 (let k = rw q.1 at one in omega arith) in
              let s : ancestors b f ≡ b ∷ [] = q.1 ∙ ap (λ ns. b ∷ ns) z in
              let t : Some a ≡ Some b = sym (ap last_of p) ∙ r ∙ ap last_of s in
              ne (cc t))
          | just q e ↦ rw e refl
        ]
      where
        none : (ns : List ℕ) → length ns ≡ 0 → ns ≡ []
        none [] e = refl
        none (x ∷ xs) e = absurd (omega arith)

    -- what stands on the way from a node up to c, short of c, has above it the child through which the way comes to c
    below-last : (n c a x : ℕ) → 0 < occurs n f → 0 < hits a (ancestors n f) → parent_of f a ≡ Some c → 0 < occurs c f → 0 < hits x (up_to c (ancestors n f)) → 0 < hits a (ancestors x f)
    below-last n c a x h i e hc k = go (length (ancestors n f)) n (omega arith) h i k
      where
        go : (fuel m : ℕ) → length (ancestors m f) ≤ fuel → 0 < occurs m f → 0 < hits a (ancestors m f) → 0 < hits x (up_to c (ancestors m f)) → 0 < hits a (ancestors x f)
        go zero m l hm hi hx = absurd (let t = ancestors-there m f hm in let j = rw t.1 at l in omega arith)
        go (suc fuel) m l hm hi hx =
            elim (same_or x m) [
              | same d t ↦ subst (λ y. 0 < hits a (ancestors y f)) (sym d) hi
              | apart nx t ↦
                  elim (seen (parent_of f m)) [
                    | nothing d ↦ absurd (grind (arith, nat_tests, root-path f o m hm d))
                    | just q d ↦
                        let p = parent-path f o m q hm d in
                        go fuel q (let s = rw p.1 at l in omega arith) p.0 (grind (arith, nat_tests, p.1, d, e, up_to-itself c f)) (grind (arith, nat_tests, p.1))
                  ]
            ]

    -- the deepest node above both is the first on the way up from the one that is above the other
    met : (n m c : ℕ) → 0 < occurs n f → 0 < hits c (ancestors n f) → 0 < hits c (ancestors m f) → ((x : ℕ) → 0 < hits x (up_to c (ancestors n f)) → hits x (ancestors m f) ≡ 0) → common_ancestor f n m ≡ c
    met n m c h i j none =
        ap (λ r. unwrap_or r n) (first-passing (λ a. among a (ancestors m f)) (ancestors n f) c i (hits-among c (ancestors m f) j) (λ x k. hits-not_among x (ancestors m f) (none x k)))

    -- the first node itself, where it is above the second
    pub met-first : (n m : ℕ) → 0 < occurs n f → 0 < hits n (ancestors m f) → common_ancestor f n m ≡ n
    met-first n m h j = met n m n h (above-itself n h) j (λ x k. absurd (let w = rw (up_to-itself n f) at k in omega arith))

    -- the second, where the first stands below it
    pub met-second : (n m a : ℕ) → 0 < occurs n f → 0 < occurs m f → 0 < occurs a f → parent_of f a ≡ Some m → 0 < hits a (ancestors n f) → common_ancestor f n m ≡ m
    met-second n m a hn hm ha e i =
        grind (arith, met n m m hn (above-child a m n hn ha i e) (above-itself m hm), below-last n, above-higher a, above-twice a, depth-child a)

    -- a node of which both stand below different children
    pub met-between : (n m c a b : ℕ) → 0 < occurs n f → 0 < occurs m f → 0 < occurs c f → 0 < occurs a f → 0 < occurs b f → parent_of f a ≡ Some c → parent_of f b ≡ Some c → 0 < hits a (ancestors n f) → 0 < hits b (ancestors m f) → (a ≡ b → ⊥) → common_ancestor f n m ≡ c
    met-between n m c a b hn hm hc ha hb ea eb ia ib ne =
        grind (
          arith,
          met n m c hn (above-child a c n hn ha ia ea) (above-child b c m hm hb ib eb),
          below-last n,
          above-apart a,
          above-twice a,
          depth-child a c ha ea,
          depth-child b,
        )
