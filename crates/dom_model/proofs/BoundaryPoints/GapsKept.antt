-- An insertion of a root leaves the point ahead of what it comes in before, and all that comes in stands behind it.
use Rattle.std.proofs.Common.{◌≡◌, ℕ, ◌<◌, ◌==◌, nat_lt, Bool, true, false, ◌&&◌, if◌then◌else◌, List, [], ◌∷◌, Option, Some, None, IfSome, refl, ap, sym, ◌∙◌, subst, arith, ◌⊎◌, inl, inr}
use Rattle.std.proofs.lemmas.{Bool.le-ltb, Bool.Decides.nat_tests}
use Rattle.std.proofs.Math.Bool.{and-false}
use Rattle.std.specs.{Ordering.nat_cmp, declared.cmp.Ordering.TheVariants.Greater, Cmp.Lexicographic.slice_cmp}
use Rattle.dom_model.specs.Definitions.{hits, place_in, Forest, occurs, parent_of, children_of, index_of, Content, Point, World, tree_record, tree_record_unless, remove, remove_all, is_fragment, nodes_of, emptied_fragment, insert_all, insert_nodes, insert, IsSound, IsChildOf, IsInsertable}
use Rattle.dom_model.proofs.Forests.{Climbing.hits-append, Climbing.hits-first, Climbing.ancestors-there, Lying.left_out-absent, Entries.children-cut, Indices.child-listed, Indices.child-parent, Indices.child-there, Indices.index-child}
use Rattle.dom_model.proofs.PlainLists.Places.{place_before}
use Rattle.dom_model.proofs.BoundaryPoints.{MovedPoints.map_ranges-none, MovedPoints.KeepsPoint, MovedPoints.keeps-then, MovedPoints.keeps-same, MovedPoints.keeps_remove_all, MovedPoints.IsAheadOf, MovedPoints.keeps_record, MovedPoints.keeps_insert_all, SplitEnds.keeps_insert_root}
use Rattle.dom_model.proofs.Soundness.{SoundWorlds.child_there, SoundWorlds.sound-remove, SoundWorlds.sound-remove_all, SoundInserting.child_outside}
use Rattle.dom_model.proofs.MutationAlgorithms.Loosened.{loosened-remove, forest-remove}

-- of three places, where the first comes after the last, it comes after the middle one or the middle one after the last
pub between : (xs ys zs : List ℕ) → slice_cmp nat_cmp xs zs ≡ Greater → (slice_cmp nat_cmp xs ys ≡ Greater) ⊎ (slice_cmp nat_cmp ys zs ≡ Greater)
between [] ys [] g = absurd (cc g)
between [] ys (z ∷ zs) g = absurd (cc g)
between (x ∷ xs) [] zs g = inl refl
between (x ∷ xs) (y ∷ ys) [] g = inr refl
between (x ∷ xs) (y ∷ ys) (z ∷ zs) g = grind (arith, nat_tests, between xs ys zs)

children_after : (ns : List ℕ) (w : World) (parent : ℕ) → IsSound w → ((m : ℕ) → 0 < hits m ns → (0 < occurs m w.forest) × (hits m (children_of w.forest parent) ≡ 0)) → children_of (remove_all ns w).forest parent ≡ children_of w.forest parent
children_after [] w parent s each = refl
children_after (m ∷ ns) w parent s each =
    let v = remove true m w in
    let i = each m (hits-first m ns) in
    let a = loosened-remove true m w s i.0 in
    let e : children_of v.forest parent ≡ children_of w.forest parent =
    ap (λ (g : Forest Content). children_of g parent) (forest-remove true m w s i.0) ∙ children-cut w.forest s.forest.once m parent ∙ left_out-absent m (children_of w.forest parent) i.1 in
    children_after ns v parent (sound-remove true m w s)
    (λ l k.
    let j = each l (let x = hits-append l (m ∷ []) ns in omega arith) in
    (subst (λ x. 0 < x) (sym (a.numbers l)) j.0, ap (hits l) e ∙ j.1))
    ∙ e

-- A root comes in under a parent, before a child or last.
module _ (n parent : ℕ) (child : Option ℕ) (w : World) (s : IsSound w) (root : parent_of w.forest n ≡ None) (k : IsInsertable w.forest n parent child) where
  abbrev pub position : ℕ
  position = place_before child (children_of w.forest parent)

  -- the point ahead of all that comes in
  abbrev pub ahead : Point
  ahead = record { node = parent; offset = position }

  pub other_parent : parent ≡ n → ⊥
  other_parent e =
      let i = ap (hits n) (ancestors-there parent w.forest k.parent_there).1 in
      let o = k.outside in
      grind (arith, nat_tests)

  pub fragment_child : (m : ℕ) → 0 < hits m (children_of w.forest n) → hits m (children_of w.forest parent) ≡ 0
  fragment_child m h =
      let no : 0 < hits m (children_of w.forest parent) → ⊥ = λ lt.
      other_parent (let u : Some parent ≡ Some n = sym (child-parent w.forest s.forest.once m parent lt) ∙ child-parent w.forest s.forest.once m n h in cc u) in
      omega arith

  is_ahead : (v : World) → children_of v.forest parent ≡ children_of w.forest parent → ((c : ℕ) → child ≡ Some c → parent_of v.forest c ≡ Some parent) → IsAheadOf v parent child ahead
  is_ahead v e par = go child refl
    where
      go : (b : Option ℕ) → child ≡ b → IfSome b (λ c. ((parent == parent) && nat_lt (index_of v.forest c) position) ≡ false)
      go None d = tt
      go (Some c) d =
          let i = index-child v.forest c parent (par c d) ∙ ap (place_in c) e in
          let j : position ≡ place_in c (children_of w.forest parent) = ap (λ b. place_before b (children_of w.forest parent)) d in
          rw (le-ltb (index_of v.forest c) position (omega arith)) (and-false (parent == parent))

  child_under : (c : ℕ) → child ≡ Some c → parent_of w.forest c ≡ Some parent
  child_under c d = subst (λ b. IsChildOf w.forest parent b) d k.before_child

  there_in : (m : ℕ) → 0 < hits m (children_of w.forest n) → 0 < occurs m w.forest
  there_in m h = child-there w.forest s.forest.once m n h

  keeps_children : is_fragment w n ≡ true → (ns : List ℕ) → children_of w.forest n ≡ ns → KeepsPoint (insert_nodes false n parent child ns) w ahead
  keeps_children g [] e = record { by = record { moves = λ q. q; acts = λ rs. ap (λ xs. record w { ranges = xs }) (sym (map_ranges-none rs)) }; kept = refl }
  keeps_children g (m ∷ ms) e =
      let ns = m ∷ ms in
      let v = remove_all ns w in
      let told = tree_record n [] ns None None v in
      let of_fragment = λ (x : ℕ) (h : 0 < hits x ns). subst (λ xs. 0 < hits x xs) (sym e) h in
      let c = children_after ns w parent s (λ x h. (there_in x (of_fragment x h), fragment_child x (of_fragment x h))) in
      let par = λ (x : ℕ) (d : child ≡ Some x). child-parent v.forest (sound-remove_all ns w s).forest.once x parent (subst (λ xs. 0 < hits x xs) (sym c) (child-listed w.forest s.forest.once x parent (child_there w.forest x parent (child_under x d)) (child_under x d))) in
      let a = keeps_remove_all ns n w ahead s k.parent_there other_parent
      (λ x h. (
        there_in x (of_fragment x h),
        child_outside s.forest n parent child k x (child-parent w.forest s.forest.once x n (of_fragment x h)),
        λ u d. let q : Some u ≡ Some n = sym d ∙ child-parent w.forest s.forest.once x n (of_fragment x h) in cc q,
      )) in
      let b = keeps-then (remove_all ns) (tree_record_unless false n [] ns None None) w ahead a (keeps_record false n [] ns None None v ahead) in
      let f = keeps-then (λ x. tree_record n [] ns None None (remove_all ns x)) (insert_all false parent child ns) w ahead b (keeps_insert_all false parent child ns told ahead (is_ahead told c par)) in
      keeps-same (insert_nodes false n parent child ns) (λ x. insert_all false parent child ns (tree_record n [] ns None None (remove_all ns x))) w ahead
      (λ rs. ap (λ z. insert_all false parent child ns (if z then emptied_fragment n ns (record w { ranges = rs }) else remove false n (record w { ranges = rs }))) g) f

  pub keeps_ahead : KeepsPoint (insert false n parent child) w ahead
  keeps_ahead = go (is_fragment w n) refl
    where
      go : (v : Bool) → is_fragment w n ≡ v → KeepsPoint (insert false n parent child) w ahead
      go false g = keeps_insert_root n parent child w ahead g root (is_ahead w refl child_under)
      go true g =
          let e : nodes_of w n ≡ children_of w.forest n = ap (λ v. if v then children_of w.forest n else n ∷ []) g in
          let kept = subst (λ ns. KeepsPoint (insert_nodes false n parent child ns) w ahead) (sym e) (keeps_children g (children_of w.forest n) refl) in
          keeps-same (insert false n parent child) (insert_nodes false n parent child (nodes_of w n)) w ahead (λ rs. refl) kept
