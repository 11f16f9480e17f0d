-- What copying contents leaves as it was: all that is older than the fragment. DOM Standard, "Interface Range" (clone the contents).
use Rattle.std.proofs.Common.{◌≡◌, ℕ, ◌<◌, ◌≤◌, Bool, true, false, List, [], ◌∷◌, ◌++◌, Some, None, refl, ap, sym, ◌∙◌, subst, arith, ◌⊎◌, ⊎_elim}
use Rattle.std.proofs.lemmas.Bool.{cases_lt, false≢true}
use Rattle.dom_model.specs.Definitions.{hits, Forest, beside, parent_of, map_nodes, Content, node_document, with_data, renumbered, original, document_of_clone, clone_node, clone_with}
use Rattle.dom_model.specs.Worlds.World as model
use Rattle.dom_model.proofs.PlainLists.Numbers.{same_or, same, apart}
use Rattle.dom_model.proofs.DataAndCopies.CopiesPlaced.{parent-copies}
use Rattle.dom_model.proofs.Forests.{Changes.seen, Changes.nothing, Changes.just, Climbing.hits-append, Climbing.hits-first, Indices.parent-there}
use Rattle.dom_edit.specs.{declared.world.World.World, OlderNodes.AreNewer, Whole.IsWhole, Whole.Follows, Whole.unwatched}
use Rattle.dom_edit.proofs.FollowsLemmas.{keeps-unwatched}
use Rattle.dom_content.specs.{declared.partially_contained.Partial.Partial, Paths.numbers_of_copies}

-- contents that are copied are not moved
pub no_moves : {A : Type 0} (moves : Bool) → moves ≡ true → moves ≡ false → A
no_moves moves moved still = absurd (false≢true (sym still ∙ moved))

-- A copy is a root.

root-copies : (v b : World) → IsWhole v → (d : ℕ) (g : Forest Content) → b.tree.forest ≡ beside v.tree.forest (renumbered d v.tree.made g) → parent_of b.tree.forest v.tree.made ≡ None
root-copies v b h d g e =
    elim (seen (parent_of b.tree.forest v.tree.made)) [
      | nothing k ↦ k
      | just q k ↦
          let under : parent_of (beside v.tree.forest (renumbered d v.tree.made g)) v.tree.made ≡ Some q = ap (λ (f : Forest Content). parent_of f v.tree.made) (sym e) ∙ k in
          absurd (⊎_elim
          (λ (p : parent_of v.tree.forest v.tree.made ≡ Some q).
          let there = parent-there v.tree.forest v.tree.made q p in
          let z = h.forest.small v.tree.made (omega arith) in
          (omega arith))
          (λ (i : (v.tree.made ≤ q) × (q < v.tree.made)). let j = i.0 in let l = i.1 in (omega arith))
          (parent-copies d v.tree.made v.tree.forest g v.tree.made q under))
    ]

pub root-clone : (v b : World) → IsWhole v → (deep : Bool) (n : ℕ) → Follows v b (clone_node deep n) → parent_of b.tree.forest v.tree.made ≡ None
root-clone v b h deep n f =
    let u = unwatched v in
    root-copies v b h (document_of_clone u n) (original deep n v.tree.forest) (sym (f.keeps u (keeps-unwatched v)).forest)

pub root-part : (v b : World) → IsWhole v → (units : List ℕ) (n : ℕ) → Follows v b (clone_with units n) → parent_of b.tree.forest v.tree.made ≡ None
root-part v b h units n f =
    let u = unwatched v in
    root-copies v b h (node_document u n) (map_nodes (with_data units) (original false n v.tree.forest)) (sym (f.keeps u (keeps-unwatched v)).forest)

-- Numbers that are newer.

pub own-newer : (v : World) (n : ℕ) → n ≡ v.tree.made → AreNewer v (n ∷ [])
own-newer v n e m i = elim (same_or n m) [ same d _ ↦ omega (arith, d, e) | apart ne t ↦ absurd (let j = rw t at i in omega arith) ]

pub first-newer : (a : World) (n : ℕ) (ns : List ℕ) → AreNewer a (n ∷ ns) → AreNewer a (n ∷ [])
first-newer a n ns newer m i = newer m (omega arith)

pub rest-newer : (a : World) (n : ℕ) (ns : List ℕ) → AreNewer a (n ∷ ns) → AreNewer a ns
rest-newer a n ns newer m i = newer m (omega arith)

numbers-append : (ps qs : List Partial) → numbers_of_copies (ps ++ qs) ≡ numbers_of_copies ps ++ numbers_of_copies qs
numbers-append [] qs = refl
numbers-append (p ∷ ps) qs = ap (λ ns. p.copy ∷ p.inner ∷ ns) (numbers-append ps qs)

hits-numbers_of : (m : ℕ) (ps : List Partial) (p : Partial) → hits m (numbers_of_copies (ps ++ p ∷ [])) ≡ hits m (numbers_of_copies ps ++ (p.copy ∷ p.inner ∷ []))
hits-numbers_of m ps p = ap (hits m) (numbers-append ps (p ∷ []))

pub front-newer : (a : World) (ps : List Partial) (p : Partial) → AreNewer a (numbers_of_copies (ps ++ p ∷ [])) → AreNewer a (numbers_of_copies ps)
front-newer a ps p newer m i =
    newer m (let e = hits-numbers_of m ps p in let k = hits-append m (numbers_of_copies ps) (p.copy ∷ p.inner ∷ []) in omega arith)

pub last-newer : (a : World) (ps : List Partial) (p : Partial) → AreNewer a (numbers_of_copies (ps ++ p ∷ [])) → AreNewer a (p.copy ∷ p.inner ∷ [])
last-newer a ps p newer m i =
    newer m (let e = hits-numbers_of m ps p in let k = hits-append m (numbers_of_copies ps) (p.copy ∷ p.inner ∷ []) in omega arith)

-- one more copy is begun
pub more-newer : (a : World) (ps : List Partial) (p : Partial) → AreNewer a (numbers_of_copies ps) → AreNewer a (p.copy ∷ p.inner ∷ []) → AreNewer a (p.inner ∷ numbers_of_copies (ps ++ p ∷ []))
more-newer a ps p each two m i =
    elim (same_or p.inner m) [
      | same d _ ↦ subst (λ x. a.tree.made ≤ x) d (two p.inner (let z = hits-first p.inner [] in omega arith))
      | apart ne t ↦
          let j = rw t at i in
          ⊎_elim
          (λ (lt : 0 < hits m (numbers_of_copies ps)). each m lt)
          (λ (le : hits m (numbers_of_copies ps) ≤ 0). two m (let e = hits-numbers_of m ps p in let k = hits-append m (numbers_of_copies ps) (p.copy ∷ p.inner ∷ []) in omega arith))
          (cases_lt 0 (hits m (numbers_of_copies ps)))
    ]
