-- The index of each node of a tree, as its place in the lists that the tree is made of.
use Rattle.std.proofs.Common.{◌≡◌, ℕ, ◌+◌, ◌≤◌, List, [], ◌∷◌, ◌++◌, length, Some, None, refl, ap, sym, ◌∙◌, subst, arith, append_assoc, length-append}
use Rattle.std.proofs.lemmas.Bool.Decides.{nat_tests}
use Rattle.dom_model.specs.Definitions.{hits, place_in, parent_in, children_in, Forest, empty, node, occurs, tops, entry_in, children_of, index_of, Lies}
use Rattle.dom_model.proofs.PlainLists.Numbers.{same_or, same, apart}
use Rattle.dom_model.proofs.Forests.{Climbing.hits-append, Entries.Lies-entry_in, Indices.child-once, Indices.index-child}

place-ahead : (n : ℕ) (ahead behind : List ℕ) → hits n ahead ≡ 0 → place_in n (ahead ++ n ∷ behind) ≡ length ahead
place-ahead n [] behind z = elim (same_or n n) [ same e t ↦ rw t refl | apart ne t ↦ absurd (ne refl) ]
place-ahead n (x ∷ xs) behind z = grind (arith, place-ahead n xs behind)

module _ {X : Type 0} where
  -- the children's indices go on from i, and so below each
  abbrev pub IsIndexed : (ℕ → ℕ) → ℕ → Forest X → Type 0
  IsIndexed index i empty = Unit {0}
  IsIndexed index i (node x kids rest) = (index x.number ≡ i) × IsIndexed index 0 kids × IsIndexed index (i + 1) rest

  -- so it is below each root
  abbrev pub AreIndexed : (ℕ → ℕ) → Forest X → Type 0
  AreIndexed index empty = Unit {0}
  AreIndexed index (node x kids rest) = IsIndexed index 0 kids × AreIndexed index rest

  module _ (f : Forest X) (o : (m : ℕ) → occurs m f ≤ 1) where
    indexed : (q : ℕ) (ahead : List ℕ) (g : Forest X) → Lies (entry_in f) (Some q) g → children_of f q ≡ ahead ++ tops g → IsIndexed (index_of f) (length ahead) g
    indexed q ahead empty l e = tt
    indexed q ahead (node x kids rest) l e =
        let once = child-once f o x.number q in
        let z : hits x.number ahead ≡ 0 = none_ahead (rw e at once) in
        let behind = indexed q (ahead ++ x.number ∷ []) rest l.2 (e ∙ sym (append_assoc ahead (x.number ∷ []) (tops rest))) in (
          index-child f x.number q (ap parent_in l.0) ∙ ap (place_in x.number) e ∙ place-ahead x.number ahead (tops rest) z,
          indexed x.number [] kids l.1 (ap children_in l.0),
          subst (λ k. IsIndexed (index_of f) k rest) (length-append ahead (x.number ∷ [])) behind,
        )
      where
        none_ahead : hits x.number (ahead ++ x.number ∷ tops rest) ≤ 1 → hits x.number ahead ≡ 0
        none_ahead h = grind (arith, nat_tests, hits-append x.number ahead (x.number ∷ tops rest))

    indexed_roots : (g : Forest X) → Lies (entry_in f) None g → AreIndexed (index_of f) g
    indexed_roots empty l = tt
    indexed_roots (node x kids rest) l = (indexed x.number [] kids l.1 (ap children_in l.0), indexed_roots rest l.2)

    -- the indices of a forest are the places in its lists
    pub indices : AreIndexed (index_of f) f
    indices = indexed_roots f (Lies-entry_in f o)
