-- Pre-insert, append, replace, replace all and adopt leave a sound world. DOM Standard, "Mutation algorithms".
use Rattle.std.proofs.Common.{◌≡◌, ℕ, ◌+◌, ◌<◌, ◌≤◌, Bool, true, false, not, ◌&&◌, if◌then◌else◌, List, [], ◌∷◌, ◌++◌, Option, Some, None, IfSome, refl, ap, sym, ◌∙◌, subst, arith}
use Rattle.std.proofs.lemmas.{Bool.false≢true, Bool.Decides.nat_tests, Bool.not-false, Bool.or_parts, Bool.ne_eqb}
use Rattle.dom_model.specs.Definitions.{hits, is_number, head_of, after, place_in, first_refusal, list_under, is_kind, may_be_parent, Forest, occurs, in_document, adopted, entry_in, parent_of, children_of, next_of, ancestors, Content, World, if_given, common_conditions, check_insert, check_replace, kind_refuses, document_refuses, document_refuses_instead, kind_passes, is_of_kind, remove, remove_all, insert, reference_child, pre_insert, replace, insert_if_any, added_by, replaced_record, replace_all, adopt, IsSound, IsChildOf, IsInsertable}
use Rattle.dom_model.specs.declared.{Kind.TheVariants.Text, Kind.TheVariants.Document, Kind.TheVariants.DocumentType, DomError.DomError, DomError.TheVariants.HierarchyRequestError}
use Rattle.dom_model.proofs.PlainLists.Numbers.{same_or, same, apart}
use Rattle.dom_model.proofs.Forests.{Climbing.not_among-hits, PutBack.hits-after, PutBack.hits-head_of, Indices.child-parent, Indices.child-once, Indices.child-there, Entries.entry_under-absent}
use Rattle.dom_model.proofs.Worlds.{SameShape.IsAlike, SameShape.with_tree-alike, Measured.length-adopted}
use Rattle.dom_model.proofs.Soundness.{SoundForests.IsWood-alike, SoundWorlds.ranges-kept, SoundWorlds.child_there, SoundWorlds.sound-tree_record, SoundWorlds.sound-remove, SoundWorlds.sound-remove_all, SoundInserting.sound-insert, SoundWorlds.sound-on}
use Rattle.dom_model.proofs.RangesAndContents.RangesSpliced.{range-alike, iterator-alike, there-alike}
use Rattle.dom_model.proofs.MutationAlgorithms.Loosened.{IsLoosened, loosened-remove, parent-remove, loosened-remove_all}

-- What a check that refuses nothing tells.

-- no test of the list holds
abbrev pub AreClear : {E : Type 0} → List (Bool × E) → Type 0
AreClear [] = Unit {0}
AreClear (c ∷ cs) = (c.0 ≡ false) × AreClear cs

pub clear : {E : Type 0} (cs : List (Bool × E)) → first_refusal cs ≡ None → AreClear cs
clear [] h = tt
clear {E} (c ∷ cs) h = go c.0 refl h (clear cs)
  where
    go : (v : Bool) → c.0 ≡ v → (if v then Some c.1 else first_refusal cs) ≡ None → (first_refusal cs ≡ None → AreClear cs) → AreClear (c ∷ cs)
    go true e h more = absurd (let k : Some c.1 ≡ None = h in cc k)
    go false e h more = (e, more h)

pub number_is : (o : Option ℕ) (n : ℕ) → is_number o n ≡ true → o ≡ Some n
number_is None n h = absurd (false≢true h)
number_is (Some m) n h = grind (arith, nat_tests)

-- what both checks tell
pub record IsChecked (f : Forest Content) (parent n : ℕ) (child : Option ℕ) : Type 0 where
  pub may_hold : kind_passes may_be_parent f parent ≡ true
  pub outside : hits n (ancestors parent f) ≡ 0
  pub child_of : IsChildOf f parent child
  pub no_document : is_of_kind Document f n ≡ false
  pub doctype_fits : (is_of_kind DocumentType f n && not (is_of_kind Document f parent)) ≡ false

pub checks : (f : Forest Content) (parent n : ℕ) (child : Option ℕ) (more : List (Bool × DomError)) → first_refusal (common_conditions f parent n child ++ more) ≡ None → IsChecked f parent n child
checks f parent n child more h =
    let c = clear (common_conditions f parent n child ++ more) h in
    record {
      may_hold = not-false (kind_passes may_be_parent f parent) c.0;
      outside = not_among-hits n (ancestors parent f) c.1.0;
      child_of = given child c.1.1.0;
      no_document = c.1.1.1.0;
      doctype_fits = (or_parts (is_of_kind Text f n && is_of_kind Document f parent) _ c.1.1.1.1.0).1;
    }
  where
    given : (o : Option ℕ) → if_given (λ c. not (is_number (parent_of f c) parent)) o ≡ false → IsChildOf f parent o
    given None k = tt
    given (Some c) k = number_is (parent_of f c) parent (not-false (is_number (parent_of f c) parent) k)

pub checks_insert : (f : Forest Content) (parent n : ℕ) (child : Option ℕ) → check_insert f parent n child ≡ None → IsChecked f parent n child
checks_insert f parent n child c = checks f parent n child ((kind_refuses (λ k. document_refuses k f parent n child) f parent n, HierarchyRequestError) ∷ []) c

pub holder_there : (f : Forest Content) (p : ℕ) → kind_passes may_be_parent f p ≡ true → 0 < occurs p f
holder_there f p h = grind (arith, entry_under-absent None p f)

-- The child that comes next.

place-head : (d : ℕ) (ns : List ℕ) → head_of ns ≡ Some d → place_in d ns ≡ 0
place-head d [] e = absurd (cc e)
place-head d (n ∷ ns) e = grind (arith, nat_tests)

place-after : (n d : ℕ) (ns : List ℕ) → ((m : ℕ) → hits m ns ≤ 1) → after n ns ≡ Some d → place_in d ns ≡ place_in n ns + 1
place-after n d [] o e = absurd (cc e)
place-after n d (x ∷ ns) o e =
    grind (arith, nat_tests, o d, hits-head_of ns d, place-head d ns, hits-after n ns d, place-after n d ns (λ m. let j = o m in omega arith))

-- the node that follows a child is another child of its parent
pub record IsNextOf (f : Forest Content) (parent n d : ℕ) : Type 0 where
  pub child : parent_of f d ≡ Some parent
  pub place : place_in d (children_of f parent) ≡ place_in n (children_of f parent) + 1

pub next_child : (f : Forest Content) → ((m : ℕ) → occurs m f ≤ 1) → (parent n d : ℕ) → parent_of f n ≡ Some parent → next_of f n ≡ Some d → IsNextOf f parent n d
next_child f o parent n d e h =
    let k : after n (children_of f parent) ≡ Some d = ap (after n) (ap (list_under (entry_in f)) (sym e)) ∙ h in
    record {
      child = child-parent f o d parent (hits-after n (children_of f parent) d k);
      place = place-after n d (children_of f parent) (λ m. child-once f o m parent) k;
    }

-- a child of the parent other than the node, or nothing
pub record IsReference (f : Forest Content) (parent n : ℕ) (b : Option ℕ) : Type 0 where
  pub child_of : IsChildOf f parent b
  pub other : IfSome b (λ c. c ≡ n → ⊥)

following : (f : Forest Content) → ((m : ℕ) → occurs m f ≤ 1) → (parent n : ℕ) → parent_of f n ≡ Some parent → (b : Option ℕ) → next_of f n ≡ b → IsReference f parent n b
following f o parent n e None h = record { child_of = tt; other = tt }
following f o parent n e (Some d) h =
    let i = next_child f o parent n d e h in
    record { child_of = i.child; other = λ same_node. let k = ap (λ m. place_in m (children_of f parent)) same_node in let j = i.place in omega arith }

is_reference : (f : Forest Content) → ((m : ℕ) → occurs m f ≤ 1) → (parent n : ℕ) (child : Option ℕ) → IsChildOf f parent child → IsReference f parent n (if is_number child n then next_of f n else child)
is_reference f o parent n None c = record { child_of = tt; other = tt }
is_reference f o parent n (Some d) c =
    elim (same_or d n) [
      | same e t ↦ rw t (following f o parent n (subst (λ m. parent_of f m ≡ Some parent) e c) (next_of f n) refl)
      | apart ne t ↦ rw t (record { child_of = c; other = ne })
    ]

pub insertable : (w : World) → IsSound w → (parent n : ℕ) (child : Option ℕ) → 0 < occurs n w.forest → IsChecked w.forest parent n child → IsInsertable w.forest n parent (reference_child w n child)
insertable w s parent n child h c =
    let r = is_reference w.forest s.forest.once parent n child c.child_of in
    record {
      there = h;
      parent_there = holder_there w.forest parent c.may_hold;
      outside = c.outside;
      may_hold = c.may_hold;
      no_document = c.no_document;
      doctype_fits = c.doctype_fits;
      before_child = r.child_of;
      before_other = r.other;
    }

-- a node that passes the check may come in before the reference child
pub may_come_before : (w : World) → IsSound w → (parent n : ℕ) (child : Option ℕ) → 0 < occurs n w.forest → check_insert w.forest parent n child ≡ None → IsInsertable w.forest n parent (reference_child w n child)
may_come_before w s parent n child h c =
    insertable w s parent n child h (checks w.forest parent n child ((kind_refuses (λ k. document_refuses k w.forest parent n child) w.forest parent n, HierarchyRequestError) ∷ []) c)

pub sound-pre_insert : (n parent : ℕ) (child : Option ℕ) (w : World) → IsSound w → 0 < occurs n w.forest → check_insert w.forest parent n child ≡ None → IsSound (pre_insert n parent child w)
sound-pre_insert n parent child w s h c = sound-insert false n parent (reference_child w n child) w s (may_come_before w s parent n child h c)

-- what may be inserted last may be so where cuts were made
pub insertable-loosened : (f g : Forest Content) (n parent : ℕ) → IsLoosened f g → IsInsertable f n parent None → IsInsertable g n parent None
insertable-loosened f g n parent a k =
    record {
      there = subst (λ x. 0 < x) (sym (a.numbers n)) k.there;
      parent_there = subst (λ x. 0 < x) (sym (a.numbers parent)) k.parent_there;
      outside = let i = a.paths n parent k.parent_there in let j = k.outside in omega arith;
      may_hold = a.kinds may_be_parent parent ∙ k.may_hold;
      no_document = a.kinds (is_kind Document) n ∙ k.no_document;
      doctype_fits = rw (a.kinds (is_kind DocumentType) n, a.kinds (is_kind Document) parent) k.doctype_fits;
      before_child = tt;
      before_other = tt;
    }

-- Replace.

-- the reference of a replacement is neither the child nor the node
replacing : (f : Forest Content) → ((m : ℕ) → occurs m f ≤ 1) → (parent n child : ℕ) → parent_of f child ≡ Some parent → IsReference f parent n (if is_number (next_of f child) n then next_of f n else next_of f child) × IfSome (if is_number (next_of f child) n then next_of f n else next_of f child) (λ d. d ≡ child → ⊥)
replacing f o parent n child e = go (next_of f child) refl
  where
    second : (d : ℕ) → next_of f child ≡ Some d → d ≡ n → (b : Option ℕ) → next_of f n ≡ b → IsReference f parent n b × IfSome b (λ d. d ≡ child → ⊥)
    second d h r None k = (record { child_of = tt; other = tt }, tt)
    second d h r (Some l) k =
        let i = next_child f o parent child d e h in
        let pn : parent_of f n ≡ Some parent = subst (λ m. parent_of f m ≡ Some parent) r i.child in
        let j = next_child f o parent n l pn k in
        let a = i.place in
        let b = j.place in
        let c = ap (λ m. place_in m (children_of f parent)) r in (
          record { child_of = j.child; other = λ same_node. let x = ap (λ m. place_in m (children_of f parent)) same_node in omega arith },
          λ same_node. let x = ap (λ m. place_in m (children_of f parent)) same_node in omega arith,
        )

    go : (b : Option ℕ) → next_of f child ≡ b → IsReference f parent n (if is_number b n then next_of f n else b) × IfSome (if is_number b n then next_of f n else b) (λ d. d ≡ child → ⊥)
    go None h = (record { child_of = tt; other = tt }, tt)
    go (Some d) h =
        let i = next_child f o parent child d e h in
        elim (same_or d n) [
          | same r t ↦ rw t (second d h r (next_of f n) refl)
          | apart ne t ↦ rw t (record { child_of = i.child; other = ne }, λ same_node. let x = ap (λ m. place_in m (children_of f parent)) same_node in let y = i.place in omega arith)
        ]

-- a node that passes the check of a replacement may come in once the child is removed
module _ (child n parent : ℕ) (w : World) (s : IsSound w) (h : 0 < occurs n w.forest) (c : check_replace w.forest parent n child ≡ None) where
  abbrev removed : World
  removed = remove true child w

  told : IsChecked w.forest parent n (Some child)
  told = checks w.forest parent n (Some child) ((kind_refuses (λ k. document_refuses_instead k w.forest parent n child) w.forest parent n, HierarchyRequestError) ∷ []) c

  child_stands : 0 < occurs child w.forest
  child_stands = child_there w.forest child parent told.child_of

  cuts : IsLoosened w.forest removed.forest
  cuts = loosened-remove true child w s child_stands

  last : IsInsertable removed.forest n parent None
  last =
      insertable-loosened w.forest removed.forest n parent cuts (record {
        there = h;
        parent_there = holder_there w.forest parent told.may_hold;
        outside = told.outside;
        may_hold = told.may_hold;
        no_document = told.no_document;
        doctype_fits = told.doctype_fits;
        before_child = tt;
        before_other = tt;
      })

  kept : (b : Option ℕ) → IsChildOf w.forest parent b → IfSome b (λ d. d ≡ child → ⊥) → IsChildOf removed.forest parent b
  kept None i ne = tt
  kept (Some d) i ne = parent-remove true child w s child_stands d ∙ (rw (ne_eqb d child ne) i)

  pub may_come_instead : IsInsertable removed.forest n parent (reference_child w n (next_of w.forest child))
  may_come_instead =
      let r = replacing w.forest s.forest.once parent n child told.child_of in
      record {
        there = last.there;
        parent_there = last.parent_there;
        outside = last.outside;
        may_hold = last.may_hold;
        no_document = last.no_document;
        doctype_fits = last.doctype_fits;
        before_child = kept (reference_child w n (next_of w.forest child)) r.0.child_of r.1;
        before_other = r.0.other;
      }

  pub sound-replace : IsSound (replace child n parent w)
  sound-replace = sound-tree_record parent _ (child ∷ []) _ _ (insert true n parent (reference_child w n (next_of w.forest child)) removed) (sound-insert true n parent (reference_child w n (next_of w.forest child)) removed (sound-remove true child w s) may_come_instead)

-- Replace all.

sound-replaced_record : (parent : ℕ) (added removed : List ℕ) (w : World) → IsSound w → IsSound (replaced_record parent added removed w)
sound-replaced_record parent [] [] w s = s
sound-replaced_record parent [] (r ∷ rs) w s = sound-tree_record parent [] (r ∷ rs) None None w s
sound-replaced_record parent (a ∷ others) removed w s = sound-tree_record parent (a ∷ others) removed None None w s

-- what comes in may be inserted last, where something does
abbrev pub MayComeIn : Forest Content → Option ℕ → ℕ → Type 0
MayComeIn f n parent = IfSome n (λ m. IsInsertable f m parent None)

pub sound-replace_all : (n : Option ℕ) (parent : ℕ) (w : World) → IsSound w → MayComeIn w.forest n parent → IsSound (replace_all n parent w)
sound-replace_all n parent w s k =
    sound-replaced_record parent (added_by w n) (children_of w.forest parent) (insert_if_any n parent v) (go n k)
  where
    v : World
    v = remove_all (children_of w.forest parent) w

    a : IsLoosened w.forest v.forest
    a = loosened-remove_all (children_of w.forest parent) w s (λ m h. child-there w.forest s.forest.once m parent h)

    sv : IsSound v
    sv = sound-remove_all (children_of w.forest parent) w s

    go : (o : Option ℕ) → MayComeIn w.forest o parent → IsSound (insert_if_any o parent v)
    go None i = sv
    go (Some m) i = sound-insert true m parent None v sv (insertable-loosened w.forest v.forest m parent a i)

pub may_come_in : (w : World) → IsSound w → (parent n : ℕ) → 0 < occurs n w.forest → check_insert w.forest parent n None ≡ None → IsInsertable w.forest n parent None
may_come_in w s parent n h c = may_come_before w s parent n None h c

-- Adopt.

pub sound-adopted : (n document : ℕ) (w : World) → IsSound w → IsSound (record w { forest = adopted n document w.forest })
sound-adopted n document w s =
    let a : IsAlike w.forest (adopted n document w.forest) = with_tree-alike (in_document document) (λ x. refl) n w.forest in
    sound-on w s (adopted n document w.forest) w.made w.ranges (IsWood-alike s.forest a)
    (ranges-kept w.forest (adopted n document w.forest) (range-alike a (length-adopted n document w.forest)) w.ranges s.ranges) (iterator-alike a) (there-alike a)

pub sound-adopt : (n document : ℕ) (w : World) → IsSound w → IsSound (adopt n document w)
sound-adopt n document w s = sound-adopted n document (remove false n w) (sound-remove false n w s)
