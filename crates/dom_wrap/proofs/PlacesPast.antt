-- What may come in under a parent stands within a bound: the children of the parent and what comes in are no more than all nodes. DOM Standard,
-- "Mutation algorithms" (insert).
use Rattle.std.proofs.Common.{◌≡◌, ℕ, zero, suc, ◌+◌, ◌<◌, ◌≤◌, Bool, true, false, if◌then◌else◌, List, [], ◌∷◌, ◌++◌, length, Option, Some, None, refl, ap, sym, ◌∙◌, subst, arith, length-append}
use Rattle.dom_model.specs.declared.DomError.TheVariants.{HierarchyRequestError}
use Rattle.dom_model.specs.Definitions.{hits, Forest, occurs, size, numbers, parent_of, children_of, Content, check_insert, kind_refuses, document_refuses, is_fragment, nodes_of, offset_past}
use Rattle.dom_model.specs.Worlds.World as model
use Rattle.dom_model.proofs.PlainLists.{Numbers.same_or, Numbers.same, Numbers.apart, Places.place-there}
use Rattle.dom_model.proofs.Forests.{Climbing.ancestors-there, Climbing.hits-append, Climbing.hits-first, Indices.child-listed, Indices.child-once, Indices.child-parent, Indices.child-there, Indices.index-child, Indices.parent-there, Paths.parent-path, TreeOrder.Flattened.hits-numbers}
use Rattle.dom_model.proofs.Worlds.Measured.{length-parent}
use Rattle.dom_model.proofs.Soundness.SoundEditing.{IsChecked, checks}
use Rattle.dom_model.proofs.RangesAndContents.{Drawing.passes_there, PlacesLeft.length_within}
use Rattle.dom_edit.specs.{declared.world.World.World, Whole.IsWhole, Whole.unwatched}
use Rattle.dom_wrap.specs.Outcomes.{insertion_index}
use Rattle.dom_edit.proofs.PlacedInLemmas.{length-numbers}

-- the offset is the sum of an index and a count
pub offset-sum : (w : model.World) (parent : ℕ) (reference : Option ℕ) (n : ℕ) → offset_past w parent reference n ≡ insertion_index w parent reference + length (nodes_of w n)
offset-sum w parent None n = refl
offset-sum w parent (Some c) n = refl

module _ (v : World) (h : IsWhole v) (parent n : ℕ) (reference : Option ℕ) (there : 0 < occurs n v.tree.forest) (allowed : check_insert v.tree.forest parent n reference ≡ None) where
  abbrev f : Forest Content
  f = v.tree.forest

  checked : IsChecked f parent n reference
  checked = checks f parent n reference ((kind_refuses (λ k. document_refuses k f parent n reference) f parent n, HierarchyRequestError) ∷ []) allowed

  parent_there : 0 < occurs parent f
  parent_there = passes_there _ f parent checked.may_hold

  -- the node is not the parent
  other : n ≡ parent → ⊥
  other e =
      let i = ancestors-there parent f parent_there in
      let j = ap (hits n) i.1 in
      let k : 0 < hits n (n ∷ i.0) = hits-first n i.0 in
      let l : hits n (parent ∷ i.0) ≡ hits n (n ∷ i.0) = ap (λ m. hits n (m ∷ i.0)) (sym e) in
      let z = checked.outside in
      omega arith

  -- lists of nodes that stand apart are no more than all nodes
  apart-within : (q : ℕ) (ns : List ℕ) → ((m : ℕ) → hits m ns ≤ 1) → ((m : ℕ) → 0 < hits m ns → 0 < occurs m f) → ((m : ℕ) → 0 < hits m ns → hits m (children_of f q) ≡ 0) → length (children_of f q) + length ns ≤ size f
  apart-within q ns once held away =
      let kids = children_of f q in
      let all = length_within (kids ++ ns) (numbers f) each within in
      let b = length-append kids ns in
      let c = length-numbers f in
      omega arith
    where
      split : (m a b : ℕ) → hits m (children_of f q) ≡ a → hits m ns ≡ b → a ≤ 1 → b ≤ 1 → (0 < b → a ≡ 0) → hits m (children_of f q ++ ns) ≤ 1
      split m a zero d e k l z = let i = hits-append m (children_of f q) ns in omega arith
      split m a (suc b) d e k l z = let i = hits-append m (children_of f q) ns in let y = z (omega arith) in omega arith

      each : (m : ℕ) → hits m (children_of f q ++ ns) ≤ 1
      each m = split m (hits m (children_of f q)) (hits m ns) refl refl (child-once f h.forest.once m q) (once m) (away m)

      known : (m a : ℕ) → hits m (children_of f q) ≡ a → 0 < hits m (children_of f q ++ ns) → 0 < occurs m f
      known m zero e k = held m (let i = hits-append m (children_of f q) ns in omega arith)
      known m (suc a) e k = child-there f h.forest.once m q (omega arith)

      within : (m : ℕ) → 0 < hits m (children_of f q ++ ns) → 0 < hits m (numbers f)
      within m k = rw (hits-numbers m f) (known m (hits m (children_of f q)) refl k)

  -- a parent is not among its own children
  itself : (m q : ℕ) → 0 < hits m (q ∷ []) → hits m (children_of f q) ≡ 0
  itself m q k = elim (same_or q m) [ same e t ↦ none (hits m (children_of f q)) refl e | apart ne t ↦ absurd (let j = rw t at k in omega arith) ]
    where
      no_loop : (m : ℕ) → parent_of f m ≡ Some m → ⊥
      no_loop m e = let i = parent-path f h.forest.once m m (parent-there f m m e) e in let l = ap (λ ns. length ns) i.1 in omega arith

      none : (a : ℕ) → hits m (children_of f q) ≡ a → q ≡ m → hits m (children_of f q) ≡ 0
      none zero d e = d
      none (suc a) d e = absurd (no_loop m (subst (λ x. parent_of f m ≡ Some x) e (child-parent f h.forest.once m q (omega arith))))

  children-and-one : length (children_of f parent) + 1 ≤ size f
  children-and-one = apart-within parent (parent ∷ []) (λ m. one m) (λ m k. held m k) (λ m k. itself m parent k)
    where
      one : (m : ℕ) → hits m (parent ∷ []) ≤ 1
      one m = elim (same_or parent m) [ same e t ↦ rw t (omega arith) | apart ne t ↦ rw t (omega arith) ]

      held : (m : ℕ) → 0 < hits m (parent ∷ []) → 0 < occurs m f
      held m k = elim (same_or parent m) [ same e t ↦ subst (λ x. 0 < occurs x f) e parent_there | apart ne t ↦ absurd (let j = rw t at k in omega arith) ]

  children-and-children : length (children_of f parent) + length (children_of f n) ≤ size f
  children-and-children = apart-within parent (children_of f n) (λ m. child-once f h.forest.once m n) (λ m k. child-there f h.forest.once m n k) (λ m k. away m (hits m (children_of f parent)) refl (child-parent f h.forest.once m n k))
    where
      away : (m a : ℕ) → hits m (children_of f parent) ≡ a → parent_of f m ≡ Some n → hits m (children_of f parent) ≡ 0
      away m zero d e = d
      away m (suc a) d e = absurd (other (let k : Some n ≡ Some parent = sym e ∙ child-parent f h.forest.once m parent (omega arith) in cc k))

  both : length (children_of f parent) + length (nodes_of (unwatched v) n) ≤ size f
  both = go (is_fragment (unwatched v) n)
    where
      go : (b : Bool) → length (children_of f parent) + length (if b then children_of f n else n ∷ []) ≤ size f
      go true = children-and-children
      go false = children-and-one

  index-within : (r : Option ℕ) → reference ≡ r → insertion_index (unwatched v) parent r ≤ length (children_of f parent)
  index-within None e = let l = length-parent f parent checked.may_hold in omega arith
  index-within (Some c) e =
      let up = child-is c e in
      let listed = child-listed f h.forest.once c parent (parent-there f c parent up) up in
      let p = place-there c (children_of f parent) listed in
      let i = index-child f c parent up in
      omega arith
    where
      child-is : (c : ℕ) → reference ≡ Some c → parent_of f c ≡ Some parent
      child-is c e = rw e at checked.child_of

  pub sum-within : insertion_index (unwatched v) parent reference + length (nodes_of (unwatched v) n) ≤ size v.tree.forest
  sum-within = let a = index-within reference refl in let b = both in omega arith
