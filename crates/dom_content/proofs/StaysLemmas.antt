-- What the steps of drawing contents leave: nodes under their parents, and ends of live ranges out of what was made. DOM Standard, "Interface Range"
-- (extract, clone the contents), "Live ranges".
use Rattle.std.proofs.Common.{◌≡◌, ℕ, zero, suc, ◌<◌, ◌≤◌, Bool, true, false, if◌then◌else◌, List, [], ◌∷◌, length, Option, Some, None, IsSome, refl, ap, sym, ◌∙◌, subst, arith, ⊎_elim}
use Rattle.std.proofs.lemmas.Bool.{cases_lt, false≢true}
use Rattle.dom_model.specs.Definitions.{hits, last_of, Forest, occurs, beside, parent_of, children_of, ancestors, root_of, spliced, Content, Range, is_fragment, nodes_of, append, IsInsertable, cut_count, data_of, with_data, replace_data, clone_node, new_fragment, clone_with}
use Rattle.dom_model.specs.Worlds.World as model
use Rattle.dom_model.proofs.PlainLists.{Members.hits-last_of, Numbers.same_or, Numbers.same, Numbers.apart}
use Rattle.dom_model.proofs.Forests.{Chains.root-child, Chains.way, Changes.seen, Changes.nothing, Changes.just, Entries.HasNode-occurs, Indices.child-parent, Indices.parent-there, Paths.parent-path, Paths.root-path, ToTheRoot.root-top, ToTheRoot.root-parent, Tops.hits-tops, WaysMeeting.above-root}
use Rattle.dom_model.proofs.Worlds.SameShape.{IsAlike, parent-alike, with_node-alike}
use Rattle.dom_model.proofs.MutationAlgorithms.Extending.{Extends, IsPut, extends-beside, put_by_insert}
use Rattle.dom_model.proofs.RangesAndContents.RangesElsewhere.{ends_of}
use Rattle.dom_ranges.specs.Tables.{live_nodes}
use Rattle.dom_edit.specs.{declared.world.World.World, Whole.IsWhole, Whole.Follows, Whole.unwatched, Insertion.IsUnreferred}
use Rattle.dom_edit.proofs.{FollowsLemmas.keeps-unwatched, PlacedWorldLemmas.sound-unwatched}
use Rattle.dom_content.specs.{Paths.EndsStayOut, Paths.Stays, DrawConditions.HasRisingNumbers}
use Rattle.dom_content.proofs.EndsStayOutLemmas.{rooted-there, live-there, AreUnder, under-append, under-beside, under-replaced}

-- One step after another.

pub stays-none : (a : World) → Stays a a
stays-none a = record { children = λ m h. h; ends = λ low h. h }

pub stays-then : (a b c : World) → Stays a b → Stays b c → Stays a c
stays-then a b c s t =
    record { children = λ m h. t.children m (s.children m h); ends = λ low h. t.ends low (s.ends low h) }

-- From a step of the definitions.

-- where a node has a parent in one forest, it has one in the other
children-stay : (f g : Forest Content) → ((m q : ℕ) → parent_of f m ≡ Some q → IsSome (parent_of g m)) → (m : ℕ) → IsSome (parent_of f m) → IsSome (parent_of g m)
children-stay f g told m h =
    elim (seen (parent_of f m)) [
      | nothing e ↦ absurd (let k = rw e at h in false≢true k)
      | just q e ↦ told m q e
    ]

ends-after : (passes : ℕ → Type 0) (a b : World) (step : model.World → model.World) → Follows a b step → AreUnder passes (step (unwatched a)) → AreUnder passes (unwatched b)
ends-after passes a b step f h m i =
    let k = f.keeps (unwatched a) (keeps-unwatched a) in
    let u = h m (subst (λ (rs : List (Option Range)). 0 < hits m (ends_of rs)) (sym k.ranges) i) in
    record { root = u.root; under = subst (λ (g : Forest Content). root_of g m ≡ Some u.root) k.forest u.under; passed = u.passed }

-- a tree is made beside the others
stays-beside : (a b : World) (step : model.World → model.World) (g : Forest Content) → Follows a b step → (step (unwatched a)).forest ≡ beside a.tree.forest g → (step (unwatched a)).ranges ≡ a.ranges.ranges → Stays a b
stays-beside a b step g f forest ranges =
    let k = f.keeps (unwatched a) (keeps-unwatched a) in
    let e : b.tree.forest ≡ beside a.tree.forest g = sym k.forest ∙ forest in
    let x : Extends a.tree.forest b.tree.forest [] = subst (λ (t : Forest Content). Extends a.tree.forest t []) (sym e) (extends-beside a.tree.forest g) in
    record {
      children = children-stay a.tree.forest b.tree.forest (λ m q p. rw (x.parents m (parent-there a.tree.forest m q p) refl ∙ p) refl);
      ends = λ low h. ends-after (λ root. root < low) a b step f (under-beside (λ root. root < low) (unwatched a) (step (unwatched a)) g forest ranges h);
    }

pub stays-fragment : (a b : World) (d : ℕ) → Follows a b (new_fragment d) → Stays a b
stays-fragment a b d f = stays-beside a b (new_fragment d) _ f refl refl

pub stays-clone : (a b : World) (deep : Bool) (n : ℕ) → Follows a b (clone_node deep n) → Stays a b
stays-clone a b deep n f = stays-beside a b (clone_node deep n) _ f refl refl

pub stays-copied : (a b : World) (units : List ℕ) (n : ℕ) → Follows a b (clone_with units n) → Stays a b
stays-copied a b units n f = stays-beside a b (clone_with units n) _ f refl refl

-- units are cut
pub stays-cut : (a b : World) (n offset count : ℕ) → Follows a b (replace_data n offset count []) → Stays a b
stays-cut a b n offset count f =
    let w = unwatched a in
    let k = f.keeps w (keeps-unwatched a) in
    let alike : IsAlike w.forest (replace_data n offset count [] w).forest = with_node-alike (with_data (spliced offset (cut_count (length (data_of w n)) offset count) [] (data_of w n))) (λ x. refl) n w.forest in
    record {
      children = children-stay a.tree.forest b.tree.forest (λ m q p. rw (ap (λ (g : Forest Content). parent_of g m) (sym k.forest) ∙ parent-alike alike m ∙ p) refl);
      ends = λ low h. ends-after (λ root. root < low) a b (replace_data n offset count []) f (under-replaced (λ root. root < low) n offset count w h);
    }

-- A node, or the children of a fragment, comes in last.

module _ (a b : World) (h : IsWhole a) (parent n : ℕ) (c : IsInsertable a.tree.forest n parent None) (f : Follows a b (append n parent)) where
  abbrev w : model.World
  w = unwatched a

  put : IsPut a.tree.forest (append n parent w).forest parent (nodes_of w n)
  put = put_by_insert false n parent None w (sound-unwatched a h) c

  forest : b.tree.forest ≡ (append n parent w).forest
  forest = sym (f.keeps w (keeps-unwatched a)).forest

  children-put : (m q : ℕ) → parent_of a.tree.forest m ≡ Some q → IsSome (parent_of b.tree.forest m)
  children-put m q p =
      let there = parent-there a.tree.forest m q p in
      let moved : parent_of b.tree.forest m ≡ parent_of (append n parent w).forest m = ap (λ (g : Forest Content). parent_of g m) forest in
      ⊎_elim
      (λ (lt : 0 < hits m (nodes_of w n)). rw (moved ∙ put.put_under m lt) refl)
      (λ (le : hits m (nodes_of w n) ≤ 0). rw (moved ∙ put.extends.parents m there (omega arith) ∙ p) refl)
      (cases_lt 0 (hits m (nodes_of w n)))

  module _ (apart_from : (m r : ℕ) → 0 < hits m (live_nodes a.ranges) → root_of a.tree.forest m ≡ Some r → r ≡ n → ⊥) where
    -- no root of a tree in which an end stands comes in
    root-stays : (m r : ℕ) → 0 < hits m (live_nodes a.ranges) → root_of a.tree.forest m ≡ Some r → (x : ℕ) → 0 < hits x (nodes_of w n) → x ≡ r → ⊥
    root-stays m r i e x k d = go (is_fragment w n) k
      where
        top : parent_of a.tree.forest r ≡ None
        top = root-parent {g = a.tree} h.forest m r (HasNode-occurs a.tree.forest m (rooted-there a.tree.forest m r e)) e

        go : (v : Bool) → 0 < hits x (if v then children_of a.tree.forest n else n ∷ []) → ⊥
        go true j = let p : Some n ≡ None = sym (child-parent a.tree.forest h.forest.once x n j) ∙ ap (parent_of a.tree.forest) d ∙ top in cc p
        go false j =
            elim (same_or n x) [
              | same q t ↦ apart_from m r i e (sym d ∙ sym q)
              | apart ne t ↦ (let l = rw t at j in absurd (omega arith))
            ]

    abbrev stays_outside : ℕ → ℕ → Type 0
    stays_outside low root = (root < low) × ((x : ℕ) → 0 < hits x (nodes_of w n) → x ≡ root → ⊥)

    ends-before : (low : ℕ) → EndsStayOut low a → AreUnder (stays_outside low) w
    ends-before low o m i = let u = o m i in record { root = u.root; under = u.under; passed = (u.passed, root-stays m u.root i u.under) }

    ends-put : (low : ℕ) → EndsStayOut low a → EndsStayOut low b
    ends-put low o m i =
        let u = ends-after (stays_outside low) a b (append n parent) f (under-append (stays_outside low) n parent w (sound-unwatched a h) c (λ x k p. p.1 x k refl) (ends-before low o)) m i in
        record { root = u.root; under = u.under; passed = u.passed.0 }

    stays-put : Stays a b
    stays-put = record {
      children = children-stay a.tree.forest b.tree.forest children-put;
      ends = ends-put;
    }

  -- where it stood under a parent
  pub stays-moved : IsSome (parent_of a.tree.forest n) → Stays a b
  stays-moved child =
      stays-put (λ m r i e d.
      let top = root-parent {g = a.tree} h.forest m r (HasNode-occurs a.tree.forest m (rooted-there a.tree.forest m r e)) e in
      let none : parent_of a.tree.forest n ≡ None = ap (parent_of a.tree.forest) (sym d) ∙ top in
      let k = rw none at child in
      false≢true k)

  -- where no end stands inside it
  pub stays-appended : IsUnreferred a n → Stays a b
  stays-appended free =
      stays-put (λ m r i e d.
      let z = free m i in
      let l = subst (λ x. 0 < hits x (ancestors m a.tree.forest)) d (hits-last_of (ancestors m a.tree.forest) r e) in
      omega arith)

-- Ends, and what was made.

-- all ends stand in trees of nodes that were made already
pub ends-old : (v : World) → IsWhole v → EndsStayOut v.tree.made v
ends-old v h m i =
    let f = v.tree.forest in
    let hm = live-there f v.ranges.ranges h.ranges m i in
    let r = way f h.forest.once m hm in
    record {
      root = r.0;
      under = r.1;
      passed =
          ⊎_elim
          (λ (lt : r.0 < v.tree.made). lt)
          (λ (le : v.tree.made ≤ r.0). absurd (let t = root-top m r.0 f hm r.1 in let o = hits-tops r.0 f in let z = h.forest.small r.0 le in omega arith))
          (cases_lt r.0 v.tree.made);
    }

module _ (low : ℕ) (v : World) (h : IsWhole v) (rising : HasRisingNumbers low v) where
  top-new : (n r : ℕ) → low ≤ n → 0 < occurs n v.tree.forest → root_of v.tree.forest n ≡ Some r → parent_of v.tree.forest n ≡ None → low ≤ r
  top-new n r l hn e p =
      let d : Some n ≡ Some r = sym (ap last_of (root-path v.tree.forest h.forest.once n hn p)) ∙ e in
      let same : n ≡ r = cc d in
      omega arith

  -- the root of a new node is new
  root-new : (most n r : ℕ) → n ≤ most → low ≤ n → 0 < occurs n v.tree.forest → root_of v.tree.forest n ≡ Some r → low ≤ r
  root-new zero n r b l hn e =
      elim (seen (parent_of v.tree.forest n)) [
        | nothing p ↦ top-new n r l hn e p
        | just q p ↦ absurd (let i = rising.rising n q l p in let x = i.1 in omega arith)
      ]
  root-new (suc most) n r b l hn e =
      elim (seen (parent_of v.tree.forest n)) [
        | nothing p ↦ top-new n r l hn e p
        | just q p ↦
            let i = rising.rising n q l p in
            let above = parent-path v.tree.forest h.forest.once n q hn p in
            root-new most q r (let x = i.1 in omega arith) i.0 above.0 (sym (root-child v.tree.forest h.forest.once n q hn p) ∙ e)
      ]

  -- no end stands inside a new node
  pub new-unreferred : (n : ℕ) → low ≤ n → 0 < occurs n v.tree.forest → IsUnreferred v n
  new-unreferred n l hn m i =
      let u = rising.ends m i in
      ⊎_elim
      (λ (lt : 0 < hits n (ancestors m v.tree.forest)).
      let hm = rooted-there v.tree.forest m u.root u.under in
      let e = above-root v.tree.forest h.forest.once n m hm hn lt ∙ u.under in
      absurd (let a = root-new n n u.root (omega arith) l hn e in let b = u.passed in omega arith))
      (λ (le : hits n (ancestors m v.tree.forest) ≤ 0). omega arith)
      (cases_lt 0 (hits n (ancestors m v.tree.forest)))
