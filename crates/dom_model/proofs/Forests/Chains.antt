-- The way from a root down to a node: each step goes to a child.
use Rattle.std.proofs.Common.{◌≡◌, ℕ, zero, suc, ◌<◌, ◌≤◌, List, [], ◌∷◌, ◌++◌, reverse, drop, length, Some, refl, ap, sym, ◌∙◌, subst, arith}
use Rattle.std.proofs.lemmas.List.{reverse-append, length-reverse}
use Rattle.dom_model.specs.Definitions.{hits, place_in, last_of, Forest, occurs, parent_of, index_of, children_of, ancestors, root_of, IsWay}
use Rattle.dom_model.proofs.Forests.{Changes.seen, Changes.nothing, Changes.just, Climbing.ancestors-there, Paths.parent-path, Paths.root-path, Indices.child-listed, Indices.index-child}

-- a number stands at its place alone
pub place-apart : (m n : ℕ) (ns : List ℕ) → 0 < hits m ns → place_in m ns ≡ place_in n ns → m ≡ n
place-apart m n [] h e = absurd (omega arith)
place-apart m n (x ∷ xs) h e = grind (arith, place-apart m n xs)

module _ {X : Type 0} where
  -- the nodes on the way down to a node, without the root
  abbrev pub way_to : Forest X → ℕ → List ℕ
  way_to f n = drop 1 (reverse (ancestors n f))

  pub way-last : (f : Forest X) (u : ℕ) (ms : List ℕ) (q n : ℕ) → IsWay f u ms q → 0 < occurs n f → parent_of f n ≡ Some q → IsWay f u (ms ++ n ∷ []) n
  way-last f u [] q n w h e = (h, e ∙ ap (λ k. Some k) (sym w), refl)
  way-last f u (m ∷ ms) q n w h e = (w.0, w.1, way-last f m ms q n w.2 h e)

  -- the way to a child is its parent's, and the child
  pub way-child : (f : Forest X) → ((m : ℕ) → occurs m f ≤ 1) → (m q : ℕ) → 0 < occurs m f → parent_of f m ≡ Some q → way_to f m ≡ way_to f q ++ m ∷ []
  way-child f o m q hm e = grind (arith, parent-path f o m q hm e, ancestors-there q f, reverse-append (m ∷ []) (ancestors q f), length-reverse (ancestors q f))

  -- a child has its parent's root
  pub root-child : (f : Forest X) → ((m : ℕ) → occurs m f ≤ 1) → (m q : ℕ) → 0 < occurs m f → parent_of f m ≡ Some q → root_of f m ≡ root_of f q
  root-child f o m q hm e = grind (arith, parent-path f o m q hm e, ancestors-there q f)

  -- the way to a node goes down from its root
  pub way : (f : Forest X) → ((m : ℕ) → occurs m f ≤ 1) → (n : ℕ) → 0 < occurs n f → (r : ℕ) × (root_of f n ≡ Some r) × IsWay f r (way_to f n) n
  way f o n h = go (length (ancestors n f)) n (omega arith) h
    where
      go : (k m : ℕ) → length (ancestors m f) ≤ k → 0 < occurs m f → (r : ℕ) × (root_of f m ≡ Some r) × IsWay f r (way_to f m) m
      go zero m l hm = absurd (let i = ancestors-there m f hm in let j = rw i.1 at l in omega arith)
      go (suc k) m l hm =
          elim (seen (parent_of f m)) [
            | nothing e ↦
                let a = root-path f o m hm e in
                (m, ap last_of a, subst (λ ns. IsWay f m (drop 1 (reverse ns)) m) (sym a) refl)
            | just q e ↦
                let i = parent-path f o m q hm e in
                let s = rw i.1 at l in
                let r = go k q (omega arith) i.0 in
                let a = way-child f o m q hm e in
                let b = root-child f o m q hm e in
                (r.0, b ∙ r.1, subst (λ ns. IsWay f r.0 ns m) (sym a) (way-last f r.0 (way_to f q) q m r.2 hm e))
          ]

  -- a node without children stands last on a way
  pub childless-last : (f : Forest X) → ((m : ℕ) → occurs m f ≤ 1) → (u : ℕ) (ms : List ℕ) (n : ℕ) → children_of f u ≡ [] → IsWay f u ms n → (ms ≡ []) × (u ≡ n)
  childless-last f o u [] n c w = (refl, w)
  childless-last f o u (m ∷ ms) n c w = absurd (let h = rw c at (child-listed f o m u w.0 w.1) in omega arith)

  -- children of one parent with one index are one
  pub index-apart : (f : Forest X) → ((m : ℕ) → occurs m f ≤ 1) → (m n u : ℕ) → 0 < occurs m f → parent_of f m ≡ Some u → parent_of f n ≡ Some u → index_of f m ≡ index_of f n → m ≡ n
  index-apart f o m n u h e d i =
      place-apart m n (children_of f u) (child-listed f o m u h e) (sym (index-child f m u e) ∙ i ∙ index-child f n u d)
