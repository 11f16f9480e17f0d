-- Texts that are joined to a Text before them: the ends may all move first, or each Text may leave before the ends in the next one move.
-- DOM Standard, "Interface Node": normalize.
use Rattle.std.proofs.Common.{◌≡◌, ℕ, ◌+◌, ◌<◌, ◌≤◌, ◌==◌, false, List, [], ◌∷◌, length, Option, Some, None, IfSome, option_map, refl, ap, sym, ◌∙◌, arith}
use Rattle.std.proofs.lemmas.{List.Elements.All-head, List.Elements.All-tail, Bool.Decides.nat_tests}
use Rattle.dom_model.specs.Definitions.{hits, among, parent_of, index_of, inclusive_descendants, Point, Range, World, after_merge, after_removal, moved_range, map_ranges, removed_from, remove, data_of, merged_ends, merge_ends, Lives}
use Rattle.dom_model.proofs.Forests.Climbing.{hits-first}
use Rattle.dom_model.proofs.BoundaryPoints.PointOrder.{map_ranges-twice}
use Rattle.dom_model.proofs.RangesAndContents.RangesMerged.{IsPast}
use Rattle.dom_model.proofs.Soundness.SoundWorlds.{each-moved}

-- The ends alone.

abbrev merge_by : ℕ → ℕ → ℕ → Option ℕ → World → List (Option Range) → List (Option Range)
merge_by t into base None w rs = rs
merge_by t into base (Some p) w rs = map_ranges (after_merge t into base p (index_of w.forest t)) rs

abbrev merged_list : ℕ → ℕ → List ℕ → World → List (Option Range) → List (Option Range)
merged_list into base [] w rs = rs
merged_list into base (t ∷ ts) w rs = merged_list into (base + length (data_of w t)) ts w (merge_by t into base (parent_of w.forest t) w rs)

merged-one : (t into base : ℕ) (o : Option ℕ) (w : World) (rs : List (Option Range)) → merged_ends t into base o (record w { ranges = rs }) ≡ record w { ranges = merge_by t into base o w rs }
merged-one t into base None w rs = refl
merged-one t into base (Some p) w rs = refl

merged-all : (into base : ℕ) (ts : List ℕ) (w : World) (rs : List (Option Range)) → merge_ends into base ts (record w { ranges = rs }) ≡ record w { ranges = merged_list into base ts w rs }
merged-all into base [] w rs = refl
merged-all into base (t ∷ ts) w rs =
    ap (merge_ends into (base + length (data_of w t)) ts) (merged-one t into base (parent_of w.forest t) w rs)
    ∙ merged-all into (base + length (data_of w t)) ts w (merge_by t into base (parent_of w.forest t) w rs)

-- a removal with other ends
abbrev pub leaving : World → ℕ → ℕ → Point → Point
leaving w n p q = after_removal (inclusive_descendants w.forest n) p (index_of w.forest n) q

pub removed-ranges : (n p : ℕ) (w : World) (rs : List (Option Range)) → parent_of w.forest n ≡ Some p → remove false n (record w { ranges = rs }) ≡ record (remove false n w) { ranges = map_ranges (leaving w n p) rs }
removed-ranges n p w rs e =
    ap (λ o. removed_from false n o (record w { ranges = rs })) e
    ∙ ap (λ o. record (removed_from false n o w) { ranges = map_ranges (leaving w n p) rs }) (sym e)

-- One point.

module _ (inside : List ℕ) (first p into t base i j k : ℕ) (outside : (m : ℕ) → (m ≡ first → ⊥) → among m inside ≡ false) (into_first : into ≡ first → ⊥) (into_parent : (into == p) ≡ false) (t_first : t ≡ first → ⊥) (t_parent : (t == p) ≡ false) (later : k ≤ j) (step : i ≡ j + 1) where
  abbrev leaves : Point → Point
  leaves q = after_removal inside p k q

  abbrev joins : ℕ → Point → Point
  joins index q = after_merge t into base p index q

  in_turn : (q : Point) → IsPast first p k q → leaves (joins i q) ≡ joins j (leaves q)
  in_turn q past =
      let a = outside q.node past.other_node in
      let b = outside into into_first in
      rw a (grind (arith, nat_tests, past.other_place))

  -- a point that is past the first Text stays so
  past-joined : (q : Point) → IsPast first p k q → IsPast first p k (joins i q)
  past-joined q past = record { other_node = grind (arith, nat_tests, past.other_node); other_place = grind (arith, nat_tests, past.other_place) }

-- Whole lists.

-- both ends are past
abbrev pub ArePast : ℕ → ℕ → ℕ → Range → Type 0
ArePast first p k r = IsPast first p k r.start × IsPast first p k r.end

map_ranges-agree : (first p k : ℕ) (F G : Point → Point) → ((q : Point) → IsPast first p k q → F q ≡ G q) → (rs : List (Option Range)) → Lives (ArePast first p k) rs → map_ranges F rs ≡ map_ranges G rs
map_ranges-agree first p k F G agree [] h = refl
map_ranges-agree first p k F G agree (r ∷ rs) h =
    let P = λ (o : Option Range). IfSome o (ArePast first p k) in
    rw (map_ranges-agree first p k F G agree rs (All-tail P r rs h)) (ap (λ x. x ∷ map_ranges G rs) (each r (All-head P r rs h)))
  where
    each : (o : Option Range) → IfSome o (ArePast first p k) → option_map (moved_range F) o ≡ option_map (moved_range G) o
    each None i = refl
    each (Some r) i = rw (agree r.start i.0, agree r.end i.1) refl

-- a later Text of the parent, before and after the first has left
pub record IsLater (u v : World) (first p t : ℕ) : Type 0 where
  pub parent : parent_of u.forest t ≡ Some p
  pub parent_after : parent_of v.forest t ≡ Some p
  pub other : t ≡ first → ⊥
  pub step : index_of u.forest t ≡ index_of v.forest t + 1
  pub later : index_of u.forest first ≤ index_of v.forest t
  pub contents : data_of v t ≡ data_of u t

module _ (u v : World) (first p into : ℕ) (outside : (m : ℕ) → (m ≡ first → ⊥) → among m (inclusive_descendants u.forest first) ≡ false) (into_first : into ≡ first → ⊥) (into_parent : (into == p) ≡ false) where
  lists_in_turn : (base : ℕ) (ts : List ℕ) (rs : List (Option Range)) → ((t : ℕ) → 0 < hits t ts → IsLater u v first p t) → ((t : ℕ) → 0 < hits t ts → (t == p) ≡ false) → Lives (ArePast first p (index_of u.forest first)) rs →
      map_ranges (leaving u first p) (merged_list into base ts u rs) ≡ merged_list into base ts v (map_ranges (leaving u first p) rs)
  lists_in_turn base [] rs later far h = refl
  lists_in_turn base (t ∷ ts) rs later far h =
      let l = later t (hits-first t ts) in
      let tp = far t (hits-first t ts) in
      let k = index_of u.forest first in
      let i = index_of u.forest t in
      let j = index_of v.forest t in
      let inside = inclusive_descendants u.forest first in
      let moved : Lives (ArePast first p k) (map_ranges (after_merge t into base p i) rs) =
      each-moved (ArePast first p k) (ArePast first p k) (after_merge t into base p i)
      (λ r a. (past-joined inside first p into t base i j k outside into_first into_parent l.other tp l.later l.step r.start a.0, past-joined inside first p into t base i j k outside into_first into_parent l.other tp l.later l.step r.end a.1)) rs h in
      let here : map_ranges (leaving u first p) (map_ranges (after_merge t into base p i) rs) ≡ map_ranges (after_merge t into base p j) (map_ranges (leaving u first p) rs) =
      map_ranges-twice (leaving u first p) (after_merge t into base p i) rs
      ∙ map_ranges-agree first p k (λ q. leaving u first p (after_merge t into base p i q)) (λ q. after_merge t into base p j (leaving u first p q)) (in_turn inside first p into t base i j k outside into_first into_parent l.other tp l.later l.step) rs h
      ∙ sym (map_ranges-twice (after_merge t into base p j) (leaving u first p) rs) in
      ap (λ o. map_ranges (leaving u first p) (merged_list into (base + length (data_of u t)) ts u (merge_by t into base o u rs))) l.parent
      ∙ lists_in_turn (base + length (data_of u t)) ts (map_ranges (after_merge t into base p i) rs) (λ m a. later m (omega arith)) (λ m a. far m (omega arith)) moved
      ∙ ap (merged_list into (base + length (data_of u t)) ts v) here
      ∙ ap (λ xs. merged_list into (base + length xs) ts v (map_ranges (after_merge t into base p j) (map_ranges (leaving u first p) rs))) (sym l.contents)
      ∙ ap (λ o. merged_list into (base + length (data_of v t)) ts v (merge_by t into base o v (map_ranges (leaving u first p) rs))) (sym l.parent_after)

-- the first Text leaves before or after the ends in the later ones move
pub worlds_in_turn : (u : World) (first p into base : ℕ) (ts : List ℕ) → parent_of u.forest first ≡ Some p → ((m : ℕ) → (m ≡ first → ⊥) → among m (inclusive_descendants u.forest first) ≡ false) → (into ≡ first → ⊥) → (into == p) ≡ false →
    ((t : ℕ) → 0 < hits t ts → IsLater u (remove false first u) first p t) → ((t : ℕ) → 0 < hits t ts → (t == p) ≡ false) → Lives (ArePast first p (index_of u.forest first)) u.ranges →
    remove false first (merge_ends into base ts u) ≡ merge_ends into base ts (remove false first u)
worlds_in_turn u first p into base ts e outside into_first into_parent later far h =
    let v = remove false first u in
    ap (remove false first) (merged-all into base ts u u.ranges)
    ∙ removed-ranges first p u (merged_list into base ts u u.ranges) e
    ∙ ap (λ rs. record v { ranges = rs }) (lists_in_turn u v first p into outside into_first into_parent base ts u.ranges later far h ∙ ap (merged_list into base ts v) (sym (ap (λ (x : World). x.ranges) (removed-ranges first p u u.ranges e))))
    ∙ sym (merged-all into base ts v v.ranges)
