-- The deepest common ancestor of two nodes of one tree, and the ways from it down to them. DOM Standard, "Interface Range" (common ancestor container).
use Rattle.std.proofs.Common.{◌≡◌, ℕ, zero, suc, ◌<◌, ◌≤◌, Bool, true, false, List, [], ◌∷◌, ◌++◌, reverse, length, Some, refl, ap, sym, ◌∙◌, subst, arith, inl, inr, filter, unwrap_or}
use Rattle.std.proofs.lemmas.{Bool.cases_Bool, Bool.Decides.nat_tests, List.reverse-append}
use Rattle.dom_model.specs.Definitions.{hits, among, head_of, last_of, up_to, Forest, occurs, parent_of, ancestors, root_of, Content, common_ancestor, path_below, IsWay}
use Rattle.dom_model.proofs.PlainLists.{Numbers.same_or, Numbers.same, Numbers.apart, Members.hits-last_of}
use Rattle.dom_model.proofs.Forests.{Changes.seen, Changes.nothing, Changes.just, Totals.IsOnce, Climbing.hits-append, Climbing.hits-reverse, Climbing.hits-first, Climbing.hits-among, Climbing.among-hits, Climbing.hits-self, Climbing.ancestors-there, Paths.parent-path, Paths.root-path, Chains.way-last, Chains.way}
use Rattle.dom_model.proofs.BoundaryPoints.RemovalOrder.{ancestors-split}
use Rattle.dom_model.proofs.Traversal.IteratorsStay.{filter-passes}
use Rattle.dom_model.proofs.Worlds.Parts.{path-there}

pub last-hits : (c : ℕ) (ns : List ℕ) → last_of ns ≡ Some c → 0 < hits c ns
last-hits c ns e = hits-last_of ns c e

-- where one passes, there is a first that passes
pub first-passes : (q : ℕ → Bool) (xs : List ℕ) (x : ℕ) → 0 < hits x xs → q x ≡ true → (c : ℕ) × (head_of (filter q xs) ≡ Some c)
first-passes q [] x h e = absurd (omega arith)
first-passes q (y ∷ xs) x h e =
    elim (cases_Bool (q y)) [
      | inl d ↦ (y, rw d refl)
      | inr d ↦ (let c = first-passes q xs x (grind (arith, nat_tests)) e in (c.0, rw d c.1))
    ]

-- none before the first that passes does
before-first : (q : ℕ → Bool) (xs : List ℕ) (c x : ℕ) → head_of (filter q xs) ≡ Some c → 0 < hits x (up_to c xs) → q x ≡ false
before-first q [] c x e h = absurd (omega arith)
before-first q (y ∷ xs) c x e h = grind (arith, nat_tests, cases_Bool, before-first q xs c x)

module _ (f : Forest Content) (o : IsOnce f) where
  -- the path below an inclusive ancestor is the way down from it
  pub way-below : (a n : ℕ) → 0 < occurs n f → 0 < hits a (ancestors n f) → IsWay f a (path_below f a n) n
  way-below a n h i = go (length (ancestors n f)) n (omega arith) h i
    where
      go : (k m : ℕ) → length (ancestors m f) ≤ k → 0 < occurs m f → 0 < hits a (ancestors m f) → IsWay f a (path_below f a m) m
      go zero m l hm hi = absurd (let i = ancestors-there m f hm in let j = rw i.1 at l in omega arith)
      go (suc k) m l hm hi =
          elim (same_or m a) [
            | same e t ↦
                let i = ancestors-there m f hm in
                let z : path_below f a m ≡ [] = ap (λ ns. reverse (up_to a ns)) i.1 ∙ (rw t refl) in
                subst (λ ns. IsWay f a ns m) (sym z) (sym e)
            | apart ne t ↦
                elim (seen (parent_of f m)) [
                  | nothing e ↦ absurd (let j = rw (root-path f o m hm e, t) at hi in omega arith)
                  | just q e ↦
                      let i = parent-path f o m q hm e in
                      let s = rw i.1 at l in
                      let j = rw (i.1, t) at hi in
                      let r = go k q (omega arith) i.0 (omega arith) in
                      let z : path_below f a m ≡ path_below f a q ++ m ∷ [] = ap (λ ns. reverse (up_to a ns)) i.1 ∙ (rw t (reverse-append (m ∷ []) (up_to a (ancestors q f)))) in
                      subst (λ ns. IsWay f a ns m) (sym z) (way-last f a (path_below f a q) q m r hm e)
                ]
          ]

  ancestor-there : (a n : ℕ) → 0 < hits a (ancestors n f) → 0 < occurs a f
  ancestor-there a n h = path-there f o n a h

  -- what a way goes through is an inclusive ancestor of its end
  pub way-above : (u : ℕ) (ms : List ℕ) (n : ℕ) → 0 < occurs u f → 0 < occurs n f → IsWay f u ms n → 0 < hits u (ancestors n f)
  way-above u [] n hu hn w = hits-self n u f (sym w) hn
  way-above u (m ∷ ms) n hu hn w =
      let below = w.2 in
      let i = way-above m ms n w.0 hn below in
      let s = ancestors-split f o m n hn i in
      let p = parent-path f o m u w.0 w.1 in
      let t = ancestors-there u f hu in
      let first : 0 < hits u (ancestors u f) = rw t.1 (hits-first u t.0) in
      let all : ancestors n f ≡ s.0 ++ m ∷ ancestors u f = s.1 ∙ ap (λ ns. s.0 ++ ns) p.1 in
      let count = hits-append u s.0 (m ∷ ancestors u f) in
      rw all (omega arith)

  -- of two nodes of one root: their deepest common ancestor, and the ways down to both, which have no node in common
  pub record IsFork (n m a : ℕ) : Type 0 where
    pub there : 0 < occurs a f
    pub first : IsWay f a (path_below f a n) n
    pub second : IsWay f a (path_below f a m) m
    pub off : (x : ℕ) → 0 < hits x (path_below f a n) → among x (ancestors m f) ≡ false

  pub fork : (n m : ℕ) → 0 < occurs n f → 0 < occurs m f → root_of f n ≡ root_of f m → IsFork n m (common_ancestor f n m)
  fork n m hn hm e =
      let w = way f o n hn in
      let r = w.0 in
      let on_first = last-hits r (ancestors n f) w.1 in
      let on_second = hits-among r (ancestors m f) (last-hits r (ancestors m f) (sym e ∙ w.1)) in
      let c = first-passes (λ a. among a (ancestors m f)) (ancestors n f) r on_first on_second in
      let a : common_ancestor f n m ≡ c.0 = ap (λ x. unwrap_or x n) c.1 in
      rw a (at c.0 c.1)
    where
      at : (a : ℕ) → head_of (filter (λ x. among x (ancestors m f)) (ancestors n f)) ≡ Some a → IsFork n m a
      at a d =
          let p = filter-passes (λ x. among x (ancestors m f)) (ancestors n f) a d in
          record {
            there = ancestor-there a n p.0;
            first = way-below a n hn p.0;
            second = way-below a m hm (among-hits a (ancestors m f) p.1);
            off = λ x h. before-first (λ y. among y (ancestors m f)) (ancestors n f) a x d (let k = hits-reverse x (up_to a (ancestors n f)) in omega arith);
          }
