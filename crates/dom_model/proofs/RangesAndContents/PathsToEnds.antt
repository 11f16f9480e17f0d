-- The path from an ancestor down to a node: what it is made of, and that all but its last may be drawn and have children. DOM Standard,
-- "Trees", "Interface Range".
use Rattle.std.proofs.Common.{◌≡◌, ℕ, zero, suc, ◌<◌, ◌≤◌, true, false, List, [], ◌∷◌, ◌++◌, reverse, length, Some, refl, ap, sym, ◌∙◌, subst, arith, None, unwrap_or}
use Rattle.std.proofs.lemmas.{Bool.false≢true, List.reverse-append, Bool.Decides.nat_tests}
use Rattle.dom_model.specs.Definitions.{hits, among, last_of, up_to, is_kind, is_character_data, may_be_parent, may_stand_in, Forest, occurs, parent_of, ancestors, root_of, Content, World, kind_passes, is_of_kind, data_of, path_below, IsSound, common_ancestor}
use Rattle.dom_model.specs.declared.{Kind.Kind, Kind.TheVariants.Document, Kind.TheVariants.DocumentType, Kind.TheVariants.DocumentFragment}
use Rattle.dom_model.proofs.PlainLists.{Numbers.same_or, Numbers.same, Numbers.apart, Members.hits-last_of}
use Rattle.dom_model.proofs.Forests.{Changes.seen, Changes.nothing, Changes.just, Climbing.hits-append, Climbing.hits-first, Climbing.ancestors-there, Climbing.hits-reverse, Climbing.among-hits, Climbing.hits-among, Paths.parent-path, Paths.root-path, Listed.hits-other, Mirrored.reverse-first}
use Rattle.dom_model.proofs.BoundaryPoints.RootsKept.{hits-up_to}
use Rattle.dom_model.proofs.RangesAndContents.{RangesCut.no_doctype, DrawnPieces.IsDrawable, DrawnPaths.ArePath, DrawnPaths.IsWithin, DrawnPaths.kind-drawn, WaysBelow.first-passes}
use Rattle.dom_model.proofs.Traversal.IteratorsStay.{filter-passes}
use Rattle.dom_model.proofs.Soundness.{SoundForests.IsWood, SoundForests.entry_there, SoundForests.child-fits, SoundForests.parent-passes, SoundForests.parent_no_data, SoundWorlds.child_there, SoundAppending.IsPlain, SoundPaths.IsTail, SoundPaths.IsHead, SoundForests.passes-also}

-- what stands below something is no Document and no fragment
pub below_kinds : (parent k : Kind) → may_stand_in parent k ≡ true → (is_kind Document k ≡ false) × (is_kind DocumentFragment k ≡ false)
below_kinds parent Document h = absurd (false≢true h)
below_kinds parent DocumentFragment h = absurd (false≢true h)
below_kinds parent k h = (refl, refl)

pub plain_below : (w : World) → IsSound w → (n u : ℕ) → parent_of w.forest n ≡ Some u → is_of_kind DocumentType w.forest n ≡ false → IsPlain w n
plain_below w s n u e t =
    let h = child_there w.forest n u e in
    let en = entry_there w.forest n h in
    let eu = entry_there w.forest u (parent-path w.forest s.forest.once n u h e).0 in
    let f = rw (en.1, eu.1) at (child-fits s.forest n u e h) in
    let k = below_kinds eu.0.value.label.kind en.0.value.label.kind f in
    record { there = h; no_document = rw en.1 k.0; no_doctype = t; no_fragment = rw en.1 k.1 }

-- the ancestors of a child's parent all have children
pub holders_above : (f : Forest Content) (made : ℕ) → IsWood f made → (c u x : ℕ) → parent_of f c ≡ Some u → 0 < hits x (ancestors u f) → kind_passes may_be_parent f x ≡ true
holders_above f made s c u x e h = go (length (ancestors u f)) c u (omega arith) e h
  where
    go : (k c u : ℕ) → length (ancestors u f) ≤ k → parent_of f c ≡ Some u → 0 < hits x (ancestors u f) → kind_passes may_be_parent f x ≡ true
    go zero c u l e h = absurd (let i = ancestors-there u f (parent-path f s.once c u (child_there f c u e) e).0 in let j = rw i.1 at l in omega arith)
    go (suc k) c u l e h =
        let hc = child_there f c u e in
        let hu = (parent-path f s.once c u hc e).0 in
        elim (same_or u x) [
          | same d _ ↦ subst (λ m. kind_passes may_be_parent f m ≡ true) d (parent-passes s c u e hc)
          | apart ne _ ↦
              elim (seen (parent_of f u)) [
                | nothing i ↦ absurd (let a = rw (root-path f s.once u hu i) at h in grind (arith, nat_tests))
                | just v i ↦
                    let a = parent-path f s.once u v hu i in
                    let h2 = rw a.1 at h in
                    let l2 = rw a.1 at l in
                    go k u v (omega arith) i (grind (arith, nat_tests))
              ]
        ]

-- a node that comes before another among the ancestors has a parent
pub below_has_parent : (f : Forest Content) → ((m : ℕ) → occurs m f ≤ 1) → (p n x : ℕ) → 0 < occurs n f → 0 < hits p (ancestors n f) → 0 < hits x (up_to p (ancestors n f)) → (u : ℕ) × (parent_of f x ≡ Some u)
below_has_parent f o p n x hn hp h = go (length (ancestors n f)) n (omega arith) hn hp h
  where
    go : (k n : ℕ) → length (ancestors n f) ≤ k → 0 < occurs n f → 0 < hits p (ancestors n f) → 0 < hits x (up_to p (ancestors n f)) → (u : ℕ) × (parent_of f x ≡ Some u)
    go zero n l hn hp h = absurd (let i = ancestors-there n f hn in let j = ap (λ ns. length ns) i.1 in omega arith)
    go (suc k) n l hn hp h =
        elim (seen (parent_of f n)) [
          | nothing i ↦
              let a = root-path f o n hn i in
              let hp2 = subst (λ ns. 0 < hits p ns) a hp in
              let h2 = subst (λ ns. 0 < hits x (up_to p ns)) a h in
              absurd (grind (arith, nat_tests))
          | just v i ↦
              let a = parent-path f o n v hn i in
              let hp2 = subst (λ ns. 0 < hits p ns) a.1 hp in
              let h2 = subst (λ ns. 0 < hits x (up_to p ns)) a.1 h in
              let l2 = rw a.1 at l in
              elim (same_or n x) [
                | same d _ ↦ (v, subst (λ m. parent_of f m ≡ Some v) d i)
                | apart nx _ ↦ go k v (omega arith) a.0 (grind (arith, nat_tests)) (grind (arith, nat_tests))
              ]
        ]

pub not_up_to : (p : ℕ) (ns : List ℕ) → hits p (up_to p ns) ≡ 0
not_up_to p [] = refl
not_up_to p (n ∷ ns) = elim (same_or n p) [ same e t ↦ rw t refl | apart ne t ↦ rw t (hits-other p n (up_to p ns) ne ∙ not_up_to p ns) ]

pub path_without_top : (f : Forest Content) (p n : ℕ) → hits p (path_below f p n) ≡ 0
path_without_top f p n = hits-reverse p (up_to p (ancestors n f)) ∙ not_up_to p (ancestors n f)

tail_from : (w : World) (offset n : ℕ) (xs : List ℕ) → ((x : ℕ) → 0 < hits x xs → IsPlain w x × (kind_passes may_be_parent w.forest x ≡ true)) → IsPlain w n → (kind_passes is_character_data w.forest n ≡ true → offset ≤ length (data_of w n)) → IsTail w offset (xs ++ n ∷ [])
tail_from w offset n [] h p k = (p, k)
tail_from w offset n (x ∷ []) h p k = let i = h x (hits-first x []) in (i.0, i.1, (p, k))
tail_from w offset n (x ∷ y ∷ xs) h p k =
    let i = h x (hits-first x (y ∷ xs)) in
    (i.0, i.1, tail_from w offset n (y ∷ xs) (λ m z. h m (let j = hits-append m (x ∷ []) (y ∷ xs) in omega arith)) p k)

head_from : (w : World) (n : ℕ) (xs : List ℕ) → ((x : ℕ) → 0 < hits x xs → IsPlain w x × (kind_passes may_be_parent w.forest x ≡ true)) → IsPlain w n → IsHead w (xs ++ n ∷ [])
head_from w n [] h p = p
head_from w n (x ∷ []) h p = let i = h x (hits-first x []) in (i.0, i.1, p)
head_from w n (x ∷ y ∷ xs) h p =
    let i = h x (hits-first x (y ∷ xs)) in
    (i.0, i.1, head_from w n (y ∷ xs) (λ m z. h m (let j = hits-append m (x ∷ []) (y ∷ xs) in omega arith)) p)

-- the path from an ancestor down to a node is empty, or ends in the node; all on it have parents, and all above the node have children
data PathShape (w : World) (n : ℕ) : List ℕ → Type 0 where
  top : PathShape w n []
  down : (xs : List ℕ) → ((x : ℕ) → 0 < hits x xs → (q : ℕ) × (parent_of w.forest x ≡ Some q) × (kind_passes may_be_parent w.forest x ≡ true)) → (q : ℕ) → parent_of w.forest n ≡ Some q → PathShape w n (xs ++ n ∷ [])

shape_is : (w : World) → IsSound w → (p n : ℕ) → 0 < occurs n w.forest → 0 < hits p (ancestors n w.forest) → PathShape w n (path_below w.forest p n)
shape_is w s p n hn hp =
    elim (seen (parent_of w.forest n)) [
      | nothing e ↦ subst (λ ns. PathShape w n (reverse (up_to p ns))) (sym (root-path w.forest s.forest.once n hn e)) (at_root (subst (λ ns. 0 < hits p ns) (root-path w.forest s.forest.once n hn e) hp))
      | just u e ↦
          let a = parent-path w.forest s.forest.once n u hn e in
          subst (λ ns. PathShape w n (reverse (up_to p ns))) (sym a.1) (below u e a.0 (subst (λ ns. 0 < hits p ns) a.1 hp))
    ]
  where
    at_root : 0 < hits p (n ∷ []) → PathShape w n (reverse (up_to p (n ∷ [])))
    at_root h = elim (same_or n p) [ same d y ↦ rw y top | apart ne y ↦ absurd (let j = rw y at h in omega arith) ]

    below : (u : ℕ) → parent_of w.forest n ≡ Some u → 0 < occurs u w.forest → 0 < hits p (n ∷ ancestors u w.forest) → PathShape w n (reverse (up_to p (n ∷ ancestors u w.forest)))
    below u e hu h =
        elim (same_or n p) [
          | same d y ↦ rw y top
          | apart ne y ↦
              let h2 = rw y at h in
              let above = up_to p (ancestors u w.forest) in
              let turned : reverse (n ∷ above) ≡ reverse above ++ n ∷ [] = reverse-append (n ∷ []) above in
              rw y (subst (PathShape w n) (sym turned) (down (reverse above) (each u e hu (omega arith)) u e))
        ]
      where
        each : (u : ℕ) → parent_of w.forest n ≡ Some u → 0 < occurs u w.forest → 0 < hits p (ancestors u w.forest) → (x : ℕ) → 0 < hits x (reverse (up_to p (ancestors u w.forest))) → (q : ℕ) × (parent_of w.forest x ≡ Some q) × (kind_passes may_be_parent w.forest x ≡ true)
        each u e hu hp2 x z =
            let a = hits-reverse x (up_to p (ancestors u w.forest)) in
            let b = hits-up_to x p (ancestors u w.forest) in
            let holds = holders_above w.forest w.made s.forest n u x e (omega arith) in
            let q = below_has_parent w.forest s.forest.once p u x hu hp2 (omega arith) in
            (q.0, q.1, holds)

-- the path is empty, or ends in the node; all above it have children
pub data PathTo (w : World) (n : ℕ) : List ℕ → Type 0 where
  no_path : PathTo w n []
  path_to : (xs : List ℕ) → ((x : ℕ) → 0 < hits x xs → IsPlain w x × (kind_passes may_be_parent w.forest x ≡ true)) → IsPlain w n → PathTo w n (xs ++ n ∷ [])

pub path_is : (w : World) → IsSound w → (p n : ℕ) → 0 < occurs n w.forest → 0 < hits p (ancestors n w.forest) → is_of_kind DocumentType w.forest n ≡ false → PathTo w n (path_below w.forest p n)
path_is w s p n hn hp t = go (path_below w.forest p n) (shape_is w s p n hn hp)
  where
    go : (ns : List ℕ) → PathShape w n ns → PathTo w n ns
    go [] top = no_path
    go ns (down xs above q e) = path_to xs (λ x z. let i = above x z in (plain_below w s x i.0 i.1 (no_doctype w.forest x i.2), i.2)) (plain_below w s n q e t)

pub tail_of_path : (w : World) (offset n : ℕ) (path : List ℕ) → PathTo w n path → (kind_passes is_character_data w.forest n ≡ true → offset ≤ length (data_of w n)) → IsTail w offset path
tail_of_path w offset n [] no_path k = tt
tail_of_path w offset n path (path_to xs h p) k = tail_from w offset n xs h p k

pub head_of_path : (w : World) (n : ℕ) (path : List ℕ) → PathTo w n path → IsHead w path
head_of_path w n [] no_path = tt
head_of_path w n path (path_to xs h p) = head_from w n xs h p

-- The common ancestor of two nodes of one root is an ancestor of both.

pub common-above : (f : Forest Content) (n m : ℕ) → 0 < occurs n f → root_of f n ≡ root_of f m → (0 < hits (common_ancestor f n m) (ancestors n f)) × (0 < hits (common_ancestor f n m) (ancestors m f))
common-above f n m h e =
    let i = ancestors-there n f h in
    elim (seen (last_of (ancestors n f))) [
      | nothing d ↦ absurd (some n i.0 (ap last_of (sym i.1) ∙ d))
      | just r d ↦
          let on_other = hits-among r (ancestors m f) (hits-last_of (ancestors m f) r (sym e ∙ d)) in
          let c = first-passes (λ a. among a (ancestors m f)) (ancestors n f) r (hits-last_of (ancestors n f) r d) on_other in
          let k = filter-passes (λ a. among a (ancestors m f)) (ancestors n f) c.0 c.1 in
          subst (λ x. (0 < hits x (ancestors n f)) × (0 < hits x (ancestors m f))) (sym (ap (λ o. unwrap_or o n) c.1)) (k.0, among-hits c.0 (ancestors m f) k.1)
    ]
  where
    some : (x : ℕ) (xs : List ℕ) → last_of (x ∷ xs) ≡ None → ⊥
    some x [] l = let u : Some x ≡ None = l in cc u
    some x (y ∷ ys) l = some y ys l

path-end : (low : ℕ) (v : World) (ns : List ℕ) (n : ℕ) → ((x : ℕ) → 0 < hits x ns → IsDrawable low v x × (kind_passes is_character_data v.forest x ≡ false)) → IsDrawable low v n → ArePath low v (ns ++ n ∷ [])
path-end low v [] n h k = k
path-end low v (m ∷ []) n h k = let i = h m (hits-first m []) in (i.0, i.1, k)
path-end low v (m ∷ l ∷ ns) n h k = let i = h m (hits-first m (l ∷ ns)) in (i.0, i.1, path-end low v (l ∷ ns) n (λ x z. h x (omega arith)) k)

within-end : (offset : ℕ) (v : World) (ns : List ℕ) (n : ℕ) → (kind_passes is_character_data v.forest n ≡ true → offset ≤ length (data_of v n)) → IsWithin offset v (ns ++ n ∷ [])
within-end offset v [] n h = h
within-end offset v (m ∷ []) n h = h
within-end offset v (m ∷ l ∷ ns) n h = within-end offset v (l ∷ ns) n h

-- an offset within the data of a node, on the path down to it
pub path-within : (v : World) (common n offset : ℕ) → 0 < occurs n v.forest → (kind_passes is_character_data v.forest n ≡ true → offset ≤ length (data_of v n)) → IsWithin offset v (path_below v.forest common n)
path-within v common n offset h within =
    let i = ancestors-there n v.forest h in
    elim (same_or n common) [
      | same _ t ↦ (let u : path_below v.forest common n ≡ [] = ap (λ ns. reverse (up_to common ns)) i.1 ∙ (rw t refl) in subst (λ ns. IsWithin offset v ns) (sym u) tt)
      | apart ne t ↦
          let u : path_below v.forest common n ≡ reverse (up_to common i.0) ++ n ∷ [] = ap (λ ns. reverse (up_to common ns)) i.1 ∙ (rw t (reverse-first n (up_to common i.0))) in
          subst (λ ns. IsWithin offset v ns) (sym u) (within-end offset v (reverse (up_to common i.0)) n within)
    ]

-- each node with a parent is old
module _ (low : ℕ) (v : World) (s : IsSound v) (old : (c q : ℕ) → parent_of v.forest c ≡ Some q → c < low) where
  child-drawn : (c q : ℕ) → 0 < occurs c v.forest → parent_of v.forest c ≡ Some q → is_of_kind DocumentType v.forest c ≡ false → IsDrawable low v c
  child-drawn c q h e d = record { old = old c q e; kind = kind-drawn v.forest v.made s.forest c q e h d }

  pub path-down : (common n : ℕ) → 0 < occurs n v.forest → is_of_kind DocumentType v.forest n ≡ false → 0 < hits common (ancestors n v.forest) → ArePath low v (path_below v.forest common n)
  path-down common n h d k = go (path_below v.forest common n) (shape_is v s common n h k)
    where
      go : (ns : List ℕ) → PathShape v n ns → ArePath low v ns
      go [] top = tt
      go ns (down xs above q e) =
          path-end low v xs n (λ x z.
          let i = above x z in
          (child-drawn x i.0 (child_there v.forest x i.0 i.1) i.1 (no_doctype v.forest x i.2), passes-also may_be_parent is_character_data false parent_no_data v.forest x i.2))
          (child-drawn n q h e d)
