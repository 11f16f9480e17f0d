-- As long as Texts leave, what is below a node is told by its having a parent.
use Rattle.std.proofs.Common.{◌≡◌, ℕ, ◌<◌, ◌≤◌, ◌==◌, Bool, true, false, if◌then◌else◌, List, [], ◌∷◌, drop, length, Option, Some, None, is_some, refl, ap, sym, ◌∙◌, subst, arith, ⊎_elim}
use Rattle.std.proofs.lemmas.Bool.{cases_lt, false≢true}
use Rattle.dom_model.specs.declared.Kind.TheVariants.{Text}
use Rattle.dom_model.specs.Definitions.{hits, among, is_kind, Forest, occurs, one_at, numbers, parent_of, ancestors, tree_at, cut, inclusive_descendants, spliced, Content, World, kind_passes, is_of_kind, removed_from, remove, data_of, with_data, cut_count, replace_data, following_texts, joined_data, merge_ends, remove_each, join_following, normalize_text, is_descendant, IsSound, AreJoinable}
use Rattle.dom_model.proofs.PlainLists.Numbers.{same_or, same, apart}
use Rattle.dom_model.proofs.Forests.{Changes.seen, Changes.nothing, Changes.just, Totals.IsOnce-cut, Totals.total-tree_at, Totals.tree_at-absent, Tops.tops-tree_at, Climbing.hits-append, Climbing.hits-first, Climbing.hits-not_among, Climbing.hits-ancestors, TreeOrder.Flattened.hits-numbers, Listed.hits-itself, Entries.parent-cut, Entries.occurs-HasNode, Paths.up_with, Paths.ancestors-cut}
use Rattle.dom_model.proofs.BoundaryPoints.SplitOrder.{inside-childless}
use Rattle.dom_model.proofs.Worlds.{SameShape.IsAlike, SameShape.inside-alike, SameShape.parent-alike, SameShape.kind-alike, SameShape.with_node-alike, Measured.kind-cut}
use Rattle.dom_model.proofs.Soundness.{SoundForests.IsWood, SoundForests.data-childless, SoundForests.IsWood-alike, SoundForests.IsWood-cut, SoundSplitting.text_has_data, SoundNormalizing.SameKinds, SoundNormalizing.joinable, SoundNormalizing.below_parent, SoundNormalizing.numbers-first}
use Rattle.dom_traverse.proofs.DescendantLemmas.{among-inside}
use Rattle.dom_data.specs.JoinedTexts.{is_told_by_parent}
use Rattle.dom_data.proofs.{TextHeldLemmas.text-held, JoinedInTurn.without_ranges, JoinedInTurn.merges-bare}

-- A node below another.

module _ (f : Forest Content) (o : (m : ℕ) → occurs m f ≤ 1) (n above : ℕ) where
  abbrev all : List ℕ
  all = inclusive_descendants f above

  first : 0 < occurs above f → all ≡ above ∷ drop 1 all
  first h = numbers-first above (tree_at above f) (tops-tree_at above f (let k = o above in omega arith))

  none : occurs above f ≤ 0 → all ≡ []
  none h = ap (λ (g : Forest Content). numbers g) (tree_at-absent above f (omega arith))

  pub below-apart : (n ≡ above → ⊥) → among above (ancestors n f) ≡ among n (drop 1 all)
  below-apart ne = sym (among-inside f o n above) ∙ ⊎_elim there absent (cases_lt 0 (occurs above f))
    where
      there : 0 < occurs above f → among n all ≡ among n (drop 1 all)
      there h = ap (among n) (first h) ∙ (elim (same_or above n) [ same e t ↦ absurd (ne (sym e)) | apart _ t ↦ rw t refl ])

      absent : occurs above f ≤ 0 → among n all ≡ among n (drop 1 all)
      absent h = let e = none h in ap (among n) e ∙ sym (ap (λ ns. among n (drop 1 ns)) e)

  pub below-itself : false ≡ among above (drop 1 all)
  below-itself = sym (hits-not_among above (drop 1 all) (⊎_elim there absent (cases_lt 0 (occurs above f))))
    where
      there : 0 < occurs above f → hits above (drop 1 all) ≡ 0
      there h =
          let a = ap (hits above) (first h) in
          let b = hits-itself above (drop 1 all) in
          let c = hits-numbers above (tree_at above f) in
          let d = total-tree_at (one_at above) above f in
          let e = o above in
          omega arith

      absent : occurs above f ≤ 0 → hits above (drop 1 all) ≡ 0
      absent h = ap (λ ns. hits above (drop 1 ns)) (none h)

-- One Text leaves.

pub up_with-clear : (c : ℕ) (xs : List ℕ) → hits c xs ≡ 0 → up_with c xs ≡ xs
up_with-clear c [] h = refl
up_with-clear c (x ∷ xs) h =
    elim (same_or x c) [
      | same e t ↦ absurd (let k = rw t at h in omega arith)
      | apart ne t ↦ (let k = rw t at h in rw t (ap (λ ns. x ∷ ns) (up_with-clear c xs (omega arith))))
    ]

module _ (w : World) (s : IsWood w.forest w.made) (t : ℕ) (text : is_of_kind Text w.forest t ≡ true) (top m : ℕ) (h : is_told_by_parent w.forest top m) where
  abbrev left : Forest Content
  left = cut t w.forest

  once : (n : ℕ) → occurs n left ≤ 1
  once = IsOnce-cut t w.forest s.once

  root : parent_of left m ≡ None → is_told_by_parent left top m
  root e = rw e (go (among m (drop 1 (inclusive_descendants left top))) refl)
    where
      go : (v : Bool) → among m (drop 1 (inclusive_descendants left top)) ≡ v → v ≡ false
      go false d = refl
      go true d = absurd (let i = below_parent left once top m d in let k : Some i.1 ≡ None = sym i.2 ∙ e in cc k)

  child : (p : ℕ) → parent_of left m ≡ Some p → is_told_by_parent left top m
  child p e = rw e (sym (below-apart left once m top far) ∙ path ∙ above)
    where
      other : (m ≡ t → ⊥) × (parent_of w.forest m ≡ Some p)
      other =
          let k = parent-cut w.forest s.once t m in
          elim (same_or m t) [
            | same d u ↦ absurd (let k2 = rw u at k in let z : Some p ≡ None = sym e ∙ k2 in cc z)
            | apart ne u ↦ (let k2 = rw u at k in (ne, sym k2 ∙ e))
          ]

      was_below : among m (drop 1 (inclusive_descendants w.forest top)) ≡ true
      was_below = h ∙ ap (λ (o : Option ℕ). is_some o) other.1

      far : m ≡ top → ⊥
      far d = false≢true (below-itself w.forest s.once m top ∙ ap (λ n. among n (drop 1 (inclusive_descendants w.forest top))) (sym d) ∙ was_below)

      above : among top (ancestors m w.forest) ≡ true
      above = below-apart w.forest s.once m top far ∙ was_below

      there : 0 < occurs m w.forest
      there = (below_parent w.forest s.once top m was_below).0

      clear : hits t (ancestors m w.forest) ≡ 0
      clear =
          hits-ancestors t m w.forest s.once
          ∙ inside-childless w.forest s.once t m (data-childless s t (text_has_data w t text)) there other.0

      path : among top (ancestors m left) ≡ among top (ancestors m w.forest)
      path = ap (among top) (ancestors-cut w.forest s.once t m there ∙ up_with-clear t (ancestors m w.forest) clear)

  pub tells-cut : is_told_by_parent left top m
  tells-cut =
      elim (seen (parent_of left m)) [
        | nothing e ↦ root e
        | just p e ↦ child p e
      ]

-- a world that Texts have left
pub record IsLeft (w v : World) : Type 0 where
  pub forest : IsWood v.forest v.made
  pub kinds : SameKinds w.forest v.forest
  pub tells : (top m : ℕ) → is_told_by_parent w.forest top m → is_told_by_parent v.forest top m

left-same : (w : World) → IsWood w.forest w.made → IsLeft w w
left-same w s = record { forest = s; kinds = λ test n. refl; tells = λ top m h. h }

left-then : (u v w : World) → IsLeft u v → IsLeft v w → IsLeft u w
left-then u v w a b = record {
  forest = b.forest;
  kinds = λ test n. b.kinds test n ∙ a.kinds test n;
  tells = λ top m h. b.tells top m (a.tells top m h);
}

left-remove : (t : ℕ) (w : World) → IsWood w.forest w.made → is_of_kind Text w.forest t ≡ true → IsLeft w (remove false t w)
left-remove t w s text = go (parent_of w.forest t)
  where
    go : (p : Option ℕ) → IsLeft w (removed_from false t p w)
    go None = left-same w s
    go (Some p) = record {
      forest = IsWood-cut s t (occurs-HasNode w.forest t (text-held w.forest t text));
      kinds = kinds_cut;
      tells = λ top m h. tells-cut w s t text top m h;
    }
      where
        kinds_cut : SameKinds w.forest (cut t w.forest)
        kinds_cut = λ test n. kind-cut w.forest s.once t test n

left-each : (ts : List ℕ) (w : World) → IsWood w.forest w.made → ((m : ℕ) → 0 < hits m ts → is_of_kind Text w.forest m ≡ true) → IsLeft w (remove_each ts w)
left-each [] w s texts = left-same w s
left-each (t ∷ ts) w s texts =
    let first = left-remove t w s (texts t (hits-first t ts)) in
    left-then w (remove false t w) (remove_each ts (remove false t w)) first
    (left-each ts (remove false t w) first.forest (λ m h. first.kinds (is_kind Text) m ∙ texts m (let i = hits-append m (t ∷ []) ts in omega arith)))

left-join : (t p : ℕ) (w : World) → IsSound w → is_of_kind Text w.forest t ≡ true → 0 < occurs t w.forest → parent_of w.forest t ≡ Some p → IsLeft w (join_following t (following_texts w t) w)
left-join t p w s text there par =
    left-then w moved (remove_each ts moved) first (left-each ts moved first.forest texts)
  where
    ts : List ℕ
    ts = following_texts w t

    base : ℕ
    base = length (data_of w t)

    joint : World
    joint = replace_data t base 0 (joined_data w ts) w

    moved : World
    moved = merge_ends t base ts joint

    ready : AreJoinable joint t p base ts
    ready = joinable t p w s text there par

    alike : IsAlike w.forest joint.forest
    alike = with_node-alike (with_data (spliced base (cut_count base base 0) (joined_data w ts) (data_of w t))) (λ x. refl) t w.forest

    bare : without_ranges moved ≡ without_ranges joint
    bare = merges-bare t base ts joint

    forest_is : moved.forest ≡ joint.forest
    forest_is = ap (λ (v : World). v.forest) bare

    made_is : moved.made ≡ joint.made
    made_is = ap (λ (v : World). v.made) bare

    joint_left : IsLeft w joint
    joint_left = record {
      forest = IsWood-alike s.forest alike;
      kinds = λ test n. kind-alike alike test n;
      tells = λ top m h. ap (λ ns. among m (drop 1 ns)) (inside-alike alike top) ∙ h ∙ ap (λ (o : Option ℕ). is_some o) (sym (parent-alike alike m));
    }

    first : IsLeft w moved
    first = record {
      forest = rw (forest_is, made_is) joint_left.forest;
      kinds = λ test n. ap (λ (g : Forest Content). kind_passes test g n) forest_is ∙ joint_left.kinds test n;
      tells = λ top m h. subst (λ (g : Forest Content). is_told_by_parent g top m) (sym forest_is) (joint_left.tells top m h);
    }

    texts : (m : ℕ) → 0 < hits m ts → is_of_kind Text moved.forest m ≡ true
    texts m h = ap (λ (g : Forest Content). is_of_kind Text g m) forest_is ∙ ready.texts m h

left-text : (n t : ℕ) (w : World) → IsSound w → is_of_kind Text w.forest t ≡ true → is_descendant w n t ≡ true → IsLeft w (normalize_text t w)
left-text n t w s text below = go (length (data_of w t) == 0)
  where
    go : (v : Bool) → IsLeft w (if v then remove false t w else join_following t (following_texts w t) w)
    go true = left-remove t w s.forest text
    go false = (let i = below_parent w.forest s.forest.once n t below in left-join t i.1 w s text i.0 i.2)

-- a Text normalized, where it is below a node
pub left-one : (n t : ℕ) (w : World) → IsSound w → is_of_kind Text w.forest t ≡ true → IsLeft w (if is_descendant w n t then normalize_text t w else w)
left-one n t w s text = go (is_descendant w n t) refl
  where
    go : (v : Bool) → is_descendant w n t ≡ v → IsLeft w (if v then normalize_text t w else w)
    go true e = left-text n t w s text e
    go false e = left-same w s.forest

-- what is below a node has a parent
pub below-tells : (f : Forest Content) → ((m : ℕ) → occurs m f ≤ 1) → (top m : ℕ) → among m (drop 1 (inclusive_descendants f top)) ≡ true → is_told_by_parent f top m
below-tells f o top m h = h ∙ sym (ap (λ (p : Option ℕ). is_some p) (below_parent f o top m h).2)
