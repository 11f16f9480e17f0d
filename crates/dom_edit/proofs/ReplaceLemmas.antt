-- Steps of a replacement, and what is known of the world between them. DOM Standard, "Mutation algorithms": pre-insert, replace, replace all.
use Rattle.std.specs.Option.{ForSome}
use Rattle.std.proofs.Common.{◌≡◌, ℕ, zero, suc, ◌<◌, ◌≤◌, ◌==◌, Bool, true, false, List, [], ◌∷◌, length, Option, Some, None, refl, ap, sym, ◌∙◌, subst, arith}
use Rattle.dom_model.specs.declared.{Kind.TheVariants.DocumentFragment, DomError.TheVariants.HierarchyRequestError}
use Rattle.dom_model.specs.Definitions.{hits, is_kind, Forest, HasNode, occurs, parent_of, children_of, next_of, previous_of, ancestors, Content, kind_refuses, document_refuses_instead, check_insert, check_replace, is_of_kind, remove, remove_all, tree_record, insert, pre_insert, replace, added_by, insert_if_any, replaced_record, replace_all, IsInsertable}
use Rattle.dom_model.specs.Worlds.World as model
use Rattle.dom_model.proofs.Forests.{Climbing.ancestors-there, Climbing.hits-first, Entries.HasNode-occurs, Entries.occurs-HasNode, Indices.child-parent, Indices.child-there, Lying.left_out-absent}
use Rattle.dom_model.proofs.MutationAlgorithms.{Emptied.children-remove, Emptied.children-remove_all, Loosened.IsLoosened, Loosened.loosened-remove, Loosened.loosened-remove_all}
use Rattle.dom_model.proofs.Soundness.{SoundWorlds.child_there, SoundEditing.IsChecked, SoundEditing.checks, SoundEditing.checks_insert, SoundEditing.may_come_before, SoundEditing.may_come_instead, SoundEditing.insertable-loosened}
use Rattle.dom_edit.specs.{declared.world.World.World, Whole.IsWhole, Whole.Keeps, Whole.Follows, Whole.unwatched, Refusals.check_only_child, declared.insertion.Incoming.Incoming, declared.insertion.Incoming.TheVariants.Alone, declared.insertion.Incoming.TheVariants.Children, Insertion.reference_in, Insertion.ComesIn, Insertion.brought_if_any, Insertion.AreThere}
use Rattle.dom_edit.proofs.{FollowsLemmas.follows-then, PlacedWorldLemmas.sound-unwatched, InsertLemmas.follows-as, InsertLemmas.forest-after, InsertLemmas.entering, InsertLemmas.entering_if_any, InsertLemmas.nodes-entering, InsertLemmas.brought-entering}
use Rattle.dom_model.proofs.TokenText.Fragments.AppendedChildren.{all_left_out-absent}

-- Records of what replaced all children.

some-added : (parent : ℕ) (added removed : List ℕ) (w : model.World) → (length added == 0) ≡ false → replaced_record parent added removed w ≡ tree_record parent added removed None None w
some-added parent [] removed w e = absurd (cc e)
some-added parent (a ∷ others) removed w e = refl

some-removed : (parent : ℕ) (added removed : List ℕ) (w : model.World) → (length removed == 0) ≡ false → replaced_record parent added removed w ≡ tree_record parent added removed None None w
some-removed parent added [] w e = absurd (cc e)
some-removed parent [] (r ∷ rs) w e = refl
some-removed parent (a ∷ others) (r ∷ rs) w e = refl

pub follows-added : (a b : World) (parent : ℕ) (added removed : List ℕ) → (length added == 0) ≡ false → Follows a b (tree_record parent added removed None None) → Follows a b (replaced_record parent added removed)
follows-added a b parent added removed e f = follows-as a b (tree_record parent added removed None None) (replaced_record parent added removed) (λ w k. some-added parent added removed w e) f

pub follows-removed : (a b : World) (parent : ℕ) (added removed : List ℕ) → (length removed == 0) ≡ false → Follows a b (tree_record parent added removed None None) → Follows a b (replaced_record parent added removed)
follows-removed a b parent added removed e f = follows-as a b (tree_record parent added removed None None) (replaced_record parent added removed) (λ w k. some-removed parent added removed w e) f

-- What comes in with a node stays the same as others leave.

apart-children : (f : Forest Content) → ((m : ℕ) → occurs m f ≤ 1) → (c n p : ℕ) → parent_of f c ≡ Some p → (p ≡ n → ⊥) → hits c (children_of f n) ≡ 0
apart-children f once c n p e ne = go (hits c (children_of f n)) refl
  where
    go : (k : ℕ) → hits c (children_of f n) ≡ k → hits c (children_of f n) ≡ 0
    go zero d = d
    go (suc k) d = absurd (ne (let i : Some p ≡ Some n = sym e ∙ child-parent f once c n (omega arith) in cc i))

-- a parent that a node is not above is not the node
pub parent-other : (f : Forest Content) (parent n : ℕ) → 0 < occurs parent f → hits n (ancestors parent f) ≡ 0 → parent ≡ n → ⊥
parent-other f parent n there outside e =
    let a = ancestors-there parent f there in
    let k : hits n (parent ∷ a.0) ≡ 0 = ap (hits n) (sym a.1) ∙ outside in
    let l = subst (λ m. 0 < hits m (parent ∷ a.0)) e (hits-first parent a.0) in
    omega arith

-- it is told by a kind and by the children
come-same : (f g : Forest Content) (n : ℕ) (i : Incoming) → is_of_kind DocumentFragment g n ≡ is_of_kind DocumentFragment f n → children_of g n ≡ children_of f n → ComesIn f n i → ComesIn g n i
come-same f g n Alone e d c = e ∙ c
come-same f g n (Children nodes) e d c = (e ∙ c.0, c.1 ∙ sym d)

module _ (a b : World) (h : IsWhole a) (parent n : ℕ) (there : 0 < occurs parent a.tree.forest) (outside : hits n (ancestors parent a.tree.forest) ≡ 0) (i : Incoming) (told : ComesIn a.tree.forest n i) where
  pub come-removed : (c : ℕ) (suppressed : Bool) → parent_of a.tree.forest c ≡ Some parent → Follows a b (remove suppressed c) → ComesIn b.tree.forest n i
  come-removed c suppressed e f =
      let s = sound-unwatched a h in
      let hc = child_there a.tree.forest c parent e in
      let l = loosened-remove suppressed c (unwatched a) s hc in
      let z = apart-children a.tree.forest h.forest.once c n parent e (parent-other a.tree.forest parent n there outside) in
      subst (λ (g : Forest Content). ComesIn g n i) (sym (forest-after a b (remove suppressed c) f))
      (come-same a.tree.forest (remove suppressed c (unwatched a)).forest n i (l.kinds (is_kind DocumentFragment) n)
      (children-remove suppressed c (unwatched a) s hc n ∙ left_out-absent c (children_of a.tree.forest n) z) told)

  pub come-emptied : Follows a b (remove_all (children_of a.tree.forest parent)) → ComesIn b.tree.forest n i
  come-emptied f =
      let s = sound-unwatched a h in
      let ns = children_of a.tree.forest parent in
      let held : AreThere a.tree.forest ns = λ m i. child-there a.tree.forest h.forest.once m parent i in
      let l = loosened-remove_all ns (unwatched a) s held in
      let z : (m : ℕ) → 0 < hits m ns → hits m (children_of a.tree.forest n) ≡ 0 =
      λ m i. apart-children a.tree.forest h.forest.once m n parent (child-parent a.tree.forest h.forest.once m parent i) (parent-other a.tree.forest parent n there outside) in
      subst (λ (g : Forest Content). ComesIn g n i) (sym (forest-after a b (remove_all ns) f))
      (come-same a.tree.forest (remove_all ns (unwatched a)).forest n i (l.kinds (is_kind DocumentFragment) n)
      (children-remove_all ns (unwatched a) s held n ∙ all_left_out-absent ns (children_of a.tree.forest n) z) told)

-- Pre-insert.

pub follows-pre_insert : (a c : World) (n parent : ℕ) (child reference : Option ℕ) → reference ≡ reference_in a.tree.forest n child → Follows a c (insert false n parent reference) → Follows a c (pre_insert n parent child)
follows-pre_insert a c n parent child reference e f =
    follows-as a c (insert false n parent reference) (pre_insert n parent child)
    (λ w k. ap (λ r. insert false n parent r w) (ap (λ (g : Forest Content). reference_in g n child) k.forest ∙ sym e)) f

pub insertable-checked : (a : World) → IsWhole a → (parent n : ℕ) (child reference : Option ℕ) → HasNode a.tree.forest n → check_insert a.tree.forest parent n child ≡ None → reference ≡ reference_in a.tree.forest n child → IsInsertable a.tree.forest n parent reference
insertable-checked a h parent n child reference there e r =
    subst (λ b. IsInsertable a.tree.forest n parent b) (sym r) (may_come_before (unwatched a) (sound-unwatched a h) parent n child (occurs-HasNode a.tree.forest n there) e)

-- Replace.

module _ (a b : World) (h : IsWhole a) (child n parent : ℕ) (reference : Option ℕ) (there : HasNode a.tree.forest n) (checked : check_replace a.tree.forest parent n child ≡ None) (r : reference ≡ reference_in a.tree.forest n (next_of a.tree.forest child)) (f : Follows a b (remove true child)) where
  told : IsChecked a.tree.forest parent n (Some child)
  told = checks a.tree.forest parent n (Some child) ((kind_refuses (λ k. document_refuses_instead k a.tree.forest parent n child) a.tree.forest parent n, HierarchyRequestError) ∷ []) checked

  pub insertable-instead : IsInsertable b.tree.forest n parent reference
  insertable-instead =
      let i = may_come_instead child n parent (unwatched a) (sound-unwatched a h) (occurs-HasNode a.tree.forest n there) checked in
      subst (λ (g : Forest Content). IsInsertable g n parent reference) (sym (forest-after a b (remove true child) f))
      (subst (λ d. IsInsertable (remove true child (unwatched a)).forest n parent d) (sym r) i)

  pub come-instead : (i : Incoming) → ComesIn a.tree.forest n i → ComesIn b.tree.forest n i
  come-instead i c =
      let l = loosened-remove true child (unwatched a) (sound-unwatched a h) (child_there a.tree.forest child parent told.child_of) in
      let k = subst (λ (g : Forest Content). 0 < occurs parent g) (forest-after a b (remove true child) f) insertable-instead.parent_there in
      come-removed a b h parent n (subst (λ x. 0 < x) (l.numbers parent) k) told.outside i c child true told.child_of f

pub follows-replace : (a b c d : World) (child n parent : ℕ) (previous reference : Option ℕ) (nodes : List ℕ) → previous ≡ previous_of a.tree.forest child → reference ≡ reference_in a.tree.forest n (next_of a.tree.forest child) → nodes ≡ entering a.tree.forest n →
    Follows a b (remove true child) → Follows b c (insert true n parent reference) → Follows c d (tree_record parent nodes (child ∷ []) previous reference) → Follows a d (replace child n parent)
follows-replace a b c d child n parent previous reference nodes p r e removed inserted recorded =
    follows-as a d (λ w. tree_record parent nodes (child ∷ []) previous reference (insert true n parent reference (remove true child w))) (replace child n parent)
    (λ w k.
    let p2 = ap (λ (g : Forest Content). previous_of g child) k.forest ∙ sym p in
    let r2 = ap (λ (g : Forest Content). reference_in g n (next_of g child)) k.forest ∙ sym r in
    let e2 = nodes-entering a n w k ∙ sym e in
    same_records child n parent w _ _ _ _ _ _ e2 p2 r2)
    (follows-then a c d (λ w. insert true n parent reference (remove true child w)) (tree_record parent nodes (child ∷ []) previous reference)
    (follows-then a b c (remove true child) (insert true n parent reference) removed inserted) recorded)
  where
    same_records : (child n parent : ℕ) (w : model.World) (ns ms : List ℕ) (p q r s : Option ℕ) → ns ≡ ms → p ≡ q → r ≡ s →
        tree_record parent ns (child ∷ []) p r (insert true n parent r (remove true child w)) ≡ tree_record parent ms (child ∷ []) q s (insert true n parent s (remove true child w))
    same_records child n parent w ns ms p q r s e d g =
        ap (λ xs. tree_record parent xs (child ∷ []) p r (insert true n parent r (remove true child w))) e
        ∙ ap (λ x. tree_record parent ms (child ∷ []) x r (insert true n parent r (remove true child w))) d
        ∙ ap (λ x. tree_record parent ms (child ∷ []) q x (insert true n parent x (remove true child w))) g

-- Replace all.

pub children-held : (a : World) → IsWhole a → (parent : ℕ) (removed : List ℕ) → removed ≡ children_of a.tree.forest parent → AreThere a.tree.forest removed
children-held a h parent removed r m i = child-there a.tree.forest h.forest.once m parent (subst (λ (ns : List ℕ). 0 < hits m ns) r i)

module _ (a b : World) (h : IsWhole a) (parent : ℕ) (removed : List ℕ) (r : removed ≡ children_of a.tree.forest parent) (f : Follows a b (remove_all removed)) where
  loosened : IsLoosened a.tree.forest b.tree.forest
  loosened = subst (IsLoosened a.tree.forest) (sym (forest-after a b (remove_all removed) f)) (loosened-remove_all removed (unwatched a) (sound-unwatched a h) (children-held a h parent removed r))

  pub parent-emptied : HasNode a.tree.forest parent → HasNode b.tree.forest parent
  parent-emptied held = HasNode-occurs b.tree.forest parent (subst (λ x. 0 < x) (sym (loosened.numbers parent)) (occurs-HasNode a.tree.forest parent held))

  pub insertable-only : (node : Option ℕ) → ForSome node (λ n. HasNode a.tree.forest n) → check_only_child a.tree.forest parent node ≡ None → ForSome node (λ n. IsInsertable b.tree.forest n parent None)
  insertable-only None held checked n e = absurd (cc e)
  insertable-only (Some m) held checked n e =
      let d : m ≡ n = cc e in
      let i = may_come_before (unwatched a) (sound-unwatched a h) parent m None (occurs-HasNode a.tree.forest m (held m refl)) checked in
      subst (λ k. IsInsertable b.tree.forest k parent None) d (insertable-loosened a.tree.forest b.tree.forest m parent loosened i)

  pub come-only : HasNode a.tree.forest parent → (node : Option ℕ) → ForSome node (λ n. HasNode a.tree.forest n) → check_only_child a.tree.forest parent node ≡ None → (i : Incoming) → ForSome node (λ n. ComesIn a.tree.forest n i) →
      ForSome node (λ n. ComesIn b.tree.forest n i)
  come-only there None held checked i told n e = absurd (cc e)
  come-only there (Some m) held checked i told n e =
      let d : m ≡ n = cc e in
      subst (λ k. ComesIn b.tree.forest k i) d
      (come-emptied a b h parent m (occurs-HasNode a.tree.forest parent there) (checks_insert a.tree.forest parent m None checked).outside i (told m refl)
      (subst (λ (ns : List ℕ). Follows a b (remove_all ns)) r f))

pub brought-if_any : (f : Forest Content) (node : Option ℕ) (i : Incoming) → ForSome node (λ n. ComesIn f n i) → brought_if_any node i ≡ entering_if_any f node
brought-if_any f None i all = refl
brought-if_any f (Some n) i all = brought-entering f n i (all n refl)

-- what comes in with a node that may be given
pub added-entering : (a : World) (n : Option ℕ) (w : model.World) → Keeps a w → added_by w n ≡ entering_if_any a.tree.forest n
added-entering a None w k = refl
added-entering a (Some n) w k = nodes-entering a n w k

pub follows-replace_all : (a b c d : World) (n : Option ℕ) (parent : ℕ) (added removed : List ℕ) → added ≡ entering_if_any a.tree.forest n → removed ≡ children_of a.tree.forest parent →
    Follows a b (remove_all removed) → Follows b c (insert_if_any n parent) → Follows c d (replaced_record parent added removed) → Follows a d (replace_all n parent)
follows-replace_all a b c d n parent added removed e r gone inserted recorded =
    follows-as a d (λ w. replaced_record parent added removed (insert_if_any n parent (remove_all removed w))) (replace_all n parent)
    (λ w k.
    ap (λ xs. replaced_record parent xs (children_of w.forest parent) (insert_if_any n parent (remove_all (children_of w.forest parent) w))) (added-entering a n w k ∙ sym e)
    ∙ ap (λ xs. replaced_record parent added xs (insert_if_any n parent (remove_all xs w))) (ap (λ (g : Forest Content). children_of g parent) k.forest ∙ sym r))
    (follows-then a c d (λ w. insert_if_any n parent (remove_all removed w)) (replaced_record parent added removed)
    (follows-then a b c (remove_all removed) (insert_if_any n parent) gone inserted) recorded)
