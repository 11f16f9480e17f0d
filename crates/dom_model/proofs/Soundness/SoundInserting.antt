-- An insertion leaves a sound world. DOM Standard, "Mutation algorithms": insert, pre-insert, append.
use Rattle.std.proofs.Common.{◌≡◌, ℕ, ◌<◌, ◌≤◌, Bool, true, false, not, ◌&&◌, List, [], ◌∷◌, ◌++◌, length, Option, Some, None, IfSome, refl, ap, sym, ◌∙◌, subst, arith}
use Rattle.std.proofs.lemmas.{Bool.false≢true, Bool.cond-true, Bool.cond-false, Bool.eq-eqb, Bool.ne_eqb, Bool.Decides.nat_tests}
use Rattle.dom_model.specs.Definitions.{hits, is_kind, may_be_parent, may_stand_in, Forest, occurs, parent_of, children_of, ancestors, Content, World, is_of_kind, remove, remove_all, is_fragment, nodes_of, emptied_fragment, freed, put_all, gap_before, previous_to, insert_all, insert_nodes, insert, IsSound, may_stand_at, IsPlaceable, ArePlaceable, IsChildOf, IsInsertable}
use Rattle.dom_model.specs.declared.{Kind.Kind, Kind.TheVariants.Element, Kind.TheVariants.Document, Kind.TheVariants.DocumentType, Kind.TheVariants.DocumentFragment}
use Rattle.dom_model.proofs.Forests.{Climbing.hits-append, Climbing.ancestors-there, Paths.parent-path, Indices.child-parent, Indices.child-once, Indices.child-there, Listed.hits-itself}
use Rattle.dom_model.proofs.BoundaryPoints.RemovalOrder.{ancestors-split}
use Rattle.dom_model.proofs.Soundness.{SoundForests.IsWood, SoundForests.entry_there, SoundForests.child-fits, SoundWorlds.child_there, SoundWorlds.sound-record_unless, SoundWorlds.sound-tree_record, SoundWorlds.sound-remove, SoundWorlds.sound-remove_all, SoundPlacing.fits-kept, SoundPlacing.sound-put_all}
use Rattle.dom_model.proofs.MutationAlgorithms.Loosened.{loosened-remove, parent-remove, loosened-remove_all, parent-remove_all, root-remove_all}

-- Kinds.

document_of : (k : Kind) → not (is_kind Document k) ≡ false → is_kind k Document ≡ true
document_of Document h = refl
document_of k h = absurd (false≢true (sym h))

stands : (parent k : Kind) → may_be_parent parent ≡ true → is_kind Document k ≡ false → is_kind DocumentFragment k ≡ false → (is_kind DocumentType k && not (is_kind Document parent)) ≡ false → may_stand_in parent k ≡ true
stands parent Document p d g t = absurd (false≢true (sym d))
stands parent DocumentType p d g t = document_of parent t
stands parent DocumentFragment p d g t = absurd (false≢true (sym g))
stands parent k p d g t = p

fragment_kind : (k : Kind) → is_kind DocumentFragment k ≡ true → k ≡ DocumentFragment
fragment_kind DocumentFragment h = refl
fragment_kind k h = absurd (false≢true h)

-- what stands in a fragment may stand wherever there may be children
stands_too : (parent k : Kind) → may_be_parent parent ≡ true → may_stand_in DocumentFragment k ≡ true → may_stand_in parent k ≡ true
stands_too parent Element p h = p
stands_too parent k p h = cc

module _ {f : Forest Content} {made : ℕ} (s : IsWood f made) (n parent : ℕ) (child : Option ℕ) (k : IsInsertable f n parent child) where
  fits_alone : is_of_kind DocumentFragment f n ≡ false → may_stand_at f parent n ≡ true
  fits_alone g =
      let en = entry_there f n k.there in
      let ep = entry_there f parent k.parent_there in
      let p = rw ep.1 at k.may_hold in
      let d = rw en.1 at k.no_document in
      let t = rw (en.1, ep.1) at k.doctype_fits in
      let g2 = rw en.1 at g in
      rw (en.1, ep.1) (stands ep.0.value.label.kind en.0.value.label.kind p d g2 t)

  fits_of_fragment : (m : ℕ) → is_of_kind DocumentFragment f n ≡ true → parent_of f m ≡ Some n → may_stand_at f parent m ≡ true
  fits_of_fragment m g e =
      let hm = child_there f m n e in
      let en = entry_there f n k.there in
      let em = entry_there f m hm in
      let ep = entry_there f parent k.parent_there in
      let p = rw ep.1 at k.may_hold in
      let g2 = rw en.1 at g in
      let c = rw (em.1, en.1) at (child-fits s m n e hm) in
      let c2 = subst (λ l. may_stand_in l em.0.value.label.kind ≡ true) (fragment_kind en.0.value.label.kind g2) c in
      rw (em.1, ep.1) (stands_too ep.0.value.label.kind em.0.value.label.kind p c2)

  -- no child of the node is above the parent
  pub child_outside : (m : ℕ) → parent_of f m ≡ Some n → hits m (ancestors parent f) ≡ 0
  child_outside m e =
      let above : 0 < hits m (ancestors parent f) → ⊥ = λ lt.
      let i = ancestors-split f s.once m parent k.parent_there lt in
      let j = parent-path f s.once m n (child_there f m n e) e in
      let a = ancestors-there n f j.0 in
      let count = ap (hits n) (i.1 ∙ ap (λ ns. i.0 ++ ns) (j.1 ∙ ap (λ ns. m ∷ ns) a.1)) ∙ hits-append n i.0 (m ∷ n ∷ a.0) in
      grind (arith, nat_tests, k.outside) in
      omega arith

  -- nor is what it comes in before a child of it
  before_apart : (c : ℕ) → child ≡ Some c → hits c (children_of f n) ≡ 0
  before_apart c e =
      let q : parent_of f c ≡ Some parent = subst (λ o. IsChildOf f parent o) e k.before_child in
      let a = ancestors-there parent f k.parent_there in
      let i : hits n (parent ∷ a.0) ≡ 0 = ap (hits n) (sym a.1) ∙ k.outside in
      grind (arith, nat_tests, child-parent f s.once c n)

ArePlaceable-from : (g : Forest Content) (parent : ℕ) (ns : List ℕ) → ((m : ℕ) → hits m ns ≤ 1) → ((m : ℕ) → 0 < hits m ns → IsPlaceable g parent m) → ArePlaceable g parent ns
ArePlaceable-from g parent [] once each = tt
ArePlaceable-from g parent (n ∷ ns) once each =
    let o = once n in
    let i = hits-itself n ns in
    (each n (omega arith), omega arith, ArePlaceable-from g parent ns (λ m. let i = once m in omega arith) (λ m k. each m (omega arith)))

-- what is ready to be put in
pub record IsReady (v : World) (parent : ℕ) (child : Option ℕ) (nodes : List ℕ) : Type 0 where
  pub sound : IsSound v
  pub parent_there : 0 < occurs parent v.forest
  pub placeable : ArePlaceable v.forest parent nodes
  pub before_child : IsChildOf v.forest parent child

ready_alone : (n parent : ℕ) (child : Option ℕ) (w : World) → IsSound w → IsInsertable w.forest n parent child → is_fragment w n ≡ false → IsReady (remove false n w) parent child (n ∷ [])
ready_alone n parent child w s k g =
    let v = remove false n w in
    let a = loosened-remove false n w s k.there in
    record {
      sound = sound-remove false n w s;
      parent_there = subst (λ x. 0 < x) (sym (a.numbers parent)) k.parent_there;
      placeable = (
        record {
          there = subst (λ x. 0 < x) (sym (a.numbers n)) k.there;
          root = parent-remove false n w s k.there n ∙ (rw (eq-eqb n n refl) refl);
          outside = let i = a.paths n parent k.parent_there in let j = k.outside in omega arith;
          fits = fits-kept w.forest v.forest a.kinds parent n ∙ fits_alone s.forest n parent child k g;
        },
        refl,
        tt,
      );
      before_child = kept child k.before_child k.before_other;
    }
  where
    kept : (b : Option ℕ) → IsChildOf w.forest parent b → IfSome b (λ c. c ≡ n → ⊥) → IsChildOf (remove false n w).forest parent b
    kept None c ne = tt
    kept (Some d) c ne = parent-remove false n w s k.there d ∙ (rw (ne_eqb d n ne) c)

ready_children : (n parent : ℕ) (child : Option ℕ) (w : World) → IsSound w → IsInsertable w.forest n parent child → is_fragment w n ≡ true → IsReady (remove_all (children_of w.forest n) w) parent child (children_of w.forest n)
ready_children n parent child w s k g =
    let f = w.forest in
    let ns = children_of f n in
    let v = remove_all ns w in
    let there : (m : ℕ) → 0 < hits m ns → 0 < occurs m f = λ m h. child-there f s.forest.once m n h in
    let a = loosened-remove_all ns w s there in
    record {
      sound = sound-remove_all ns w s;
      parent_there = subst (λ x. 0 < x) (sym (a.numbers parent)) k.parent_there;
      placeable = ArePlaceable-from v.forest parent ns (λ m. child-once f s.forest.once m n)
          (λ m h. record {
            there = subst (λ x. 0 < x) (sym (a.numbers m)) (there m h);
            root = root-remove_all ns w s there m h;
            outside = let i = a.paths m parent k.parent_there in let j = child_outside s.forest n parent child k m (child-parent f s.forest.once m n h) in omega arith;
            fits = fits-kept f v.forest a.kinds parent m ∙ fits_of_fragment s.forest n parent child k m g (child-parent f s.forest.once m n h);
          });
      before_child = kept child k.before_child (before_apart s.forest n parent child k);
    }
  where
    kept : (b : Option ℕ) → IsChildOf w.forest parent b → ((c : ℕ) → b ≡ Some c → hits c (children_of w.forest n) ≡ 0) → IsChildOf (remove_all (children_of w.forest n) w).forest parent b
    kept None c z = tt
    kept (Some d) c z = parent-remove_all (children_of w.forest n) w s (λ m h. child-there w.forest s.forest.once m n h) d (z d refl) ∙ c

sound-insert_all : (suppressed : Bool) (parent : ℕ) (child : Option ℕ) (nodes : List ℕ) (v : World) → IsReady v parent child nodes → IsSound (insert_all suppressed parent child nodes v)
sound-insert_all suppressed parent child nodes v r =
    sound-record_unless suppressed parent nodes [] (previous_to v.forest parent child) child (put_all parent child nodes (gap_before parent child (length nodes) v))
    (sound-put_all parent child nodes v r.sound r.parent_there r.placeable r.before_child)

-- the nodes have left where they stood
pub freed_ready : (n parent : ℕ) (child : Option ℕ) (w : World) → IsSound w → IsInsertable w.forest n parent child → IsReady (freed n (nodes_of w n) w) parent child (nodes_of w n)
freed_ready n parent child w s k = go (is_fragment w n) refl
  where
    go : (v : Bool) → is_fragment w n ≡ v → IsReady (freed n (nodes_of w n) w) parent child (nodes_of w n)
    go false g =
        let e : nodes_of w n ≡ n ∷ [] = cond-false (is_fragment w n) (children_of w.forest n) (n ∷ []) g in
        let d : freed n (n ∷ []) w ≡ remove false n w = cond-false (is_fragment w n) (emptied_fragment n (n ∷ []) w) (remove false n w) g in
        subst (λ ns. IsReady (freed n ns w) parent child ns) (sym e) (subst (λ v. IsReady v parent child (n ∷ [])) (sym d) (ready_alone n parent child w s k g))
    go true g =
        let ns = children_of w.forest n in
        let e : nodes_of w n ≡ ns = cond-true (is_fragment w n) ns (n ∷ []) g in
        let d : freed n ns w ≡ emptied_fragment n ns w = cond-true (is_fragment w n) (emptied_fragment n ns w) (remove false n w) g in
        let r = ready_children n parent child w s k g in
        subst (λ ms. IsReady (freed n ms w) parent child ms) (sym e)
        (subst (λ v. IsReady v parent child ns) (sym d)
        (record {
          sound = sound-tree_record n [] ns None None (remove_all ns w) r.sound;
          parent_there = r.parent_there;
          placeable = r.placeable;
          before_child = r.before_child;
        }))

-- an insertion
pub sound-insert : (suppressed : Bool) (n parent : ℕ) (child : Option ℕ) (w : World) → IsSound w → IsInsertable w.forest n parent child → IsSound (insert suppressed n parent child w)
sound-insert suppressed n parent child w s k = go (nodes_of w n) (freed_ready n parent child w s k)
  where
    go : (ns : List ℕ) → IsReady (freed n ns w) parent child ns → IsSound (insert_nodes suppressed n parent child ns w)
    go [] r = s
    go (m ∷ ms) r = sound-insert_all suppressed parent child (m ∷ ms) (freed n (m ∷ ms) w) r
