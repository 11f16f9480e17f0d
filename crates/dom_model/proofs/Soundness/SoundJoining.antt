-- Texts that follow a Text are joined to it: a sound world is left. DOM Standard, "Interface Node": normalize.
use Rattle.std.proofs.Common.{◌≡◌, ℕ, ◌+◌, ◌<◌, ◌≤◌, ◌==◌, true, false, List, [], ◌∷◌, ◌++◌, flat_map, length, Option, Some, None, IfSome, slice_index_or, refl, ap, sym, ◌∙◌, subst, arith, append_assoc, length-append}
use Rattle.std.proofs.lemmas.{Bool.false≢true, Bool.lt-ltb, Bool.Decides.nat_tests, Bool.ne_eqb, Bool.cases_Bool}
use Rattle.std.proofs.Math.Path.{fun_ext}
use Rattle.dom_model.proofs.Worlds.Measured.{kept-cut}
use Rattle.dom_model.specs.Definitions.{hits, among, place_in, left_out, is_kind, Forest, occurs, one_at, tree_at, cut, entry_in, parent_of, children_of, index_of, inclusive_descendants, Content, Point, Range, World, after_merge, map_ranges, is_of_kind, unit_count, node_length, remove, content_in, data_of, joined_data, merged_ends, merge_ends, remove_each, IsRange, IsSound, Lives, IsUpTo, AreUpTo, AreJoinable}
use Rattle.dom_model.specs.declared.{Kind.Kind, Kind.TheVariants.Text, Kind.TheVariants.DocumentType}
use Rattle.dom_model.proofs.Forests.{Totals.total-tree_at, Climbing.hits-append, Climbing.hits-first, Climbing.hits-not_among, Entries.children-cut, Entries.parent-cut, TreeOrder.Flattened.hits-numbers, Indices.child-once, Indices.child-parent, Indices.child-there, Indices.index-child, Indices.index-cut, Listed.hits-itself, Listed.place-behind, Listed.left_out-here}
use Rattle.dom_model.proofs.BoundaryPoints.SplitOrder.{inside-childless}
use Rattle.dom_model.proofs.Soundness.{SoundForests.data-childless, SoundWorlds.each-moved, SoundWorlds.sound-remove, SoundData.length-data, SoundSplitting.text_has_data, SoundForests.passes-also}
use Rattle.dom_model.proofs.MutationAlgorithms.Loosened.{loosened-remove, forest-remove}
use Rattle.dom_model.proofs.RangesAndContents.RangesMerged.{IsPast, range-merged, point-past, up_to-merged}
use Rattle.dom_model.proofs.DataAndCopies.MergesInTurn.{ArePast, IsLater, leaving, removed-ranges, worlds_in_turn}

text_no_doctype : (k : Kind) → is_kind Text k ≡ true → is_kind DocumentType k ≡ false
text_no_doctype DocumentType h = absurd (false≢true h)
text_no_doctype k h = refl

pub text_is_no_doctype : (f : Forest Content) (n : ℕ) → is_of_kind Text f n ≡ true → is_of_kind DocumentType f n ≡ false
text_is_no_doctype = passes-also (is_kind Text) (is_kind DocumentType) false text_no_doctype

-- both facts hold of each live range
pub lives-both : (P Q R : Range → Type 0) → ((r : Range) → P r → Q r → R r) → (rs : List (Option Range)) → Lives P rs → Lives Q rs → Lives R rs
lives-both P Q R join rs h g k d l = each (slice_index_or rs k d) (h k d l) (g k d l)
  where
    each : (o : Option Range) → IfSome o P → IfSome o Q → IfSome o R
    each None a b = tt
    each (Some r) a b = join r a b

module _ (v : World) (t p base first : ℕ) (ts : List ℕ) (j : AreJoinable v t p base (first ∷ ts)) where
  once : (m : ℕ) → hits m j.ahead + (hits m (t ∷ first ∷ (ts ++ j.behind))) ≤ 1
  once m = omega (arith, child-once v.forest j.sound.forest.once m p, ap (hits m) j.listed, hits-append m j.ahead (t ∷ first ∷ (ts ++ j.behind)))

  child : (m : ℕ) → 0 < hits m (t ∷ first ∷ (ts ++ j.behind)) → 0 < hits m (children_of v.forest p)
  child m h = omega (arith, ap (hits m) j.listed, hits-append m j.ahead (t ∷ first ∷ (ts ++ j.behind)))

  pub is_child : (m : ℕ) → 0 < hits m (t ∷ first ∷ (ts ++ j.behind)) → parent_of v.forest m ≡ Some p
  is_child m h = child-parent v.forest j.sound.forest.once m p (child m h)

  pub is_there : (m : ℕ) → 0 < hits m (t ∷ first ∷ (ts ++ j.behind)) → 0 < occurs m v.forest
  is_there m h = child-there v.forest j.sound.forest.once m p (child m h)

  t_in : 0 < hits t (t ∷ first ∷ (ts ++ j.behind))
  t_in = hits-first t (first ∷ (ts ++ j.behind))

  pub first_in : 0 < hits first (t ∷ first ∷ (ts ++ j.behind))
  first_in = grind (arith, nat_tests)

  later_in : (m : ℕ) → 0 < hits m ts → 0 < hits m (ts ++ j.behind)
  later_in m h = omega (arith, hits-append m ts j.behind)

  later_all : (m : ℕ) → 0 < hits m ts → 0 < hits m (t ∷ first ∷ (ts ++ j.behind))
  later_all m h = omega (arith, later_in m h)

  pub t_apart : t ≡ first → ⊥
  t_apart e = grind (arith, nat_tests, once first)

  later_apart : (m : ℕ) → 0 < hits m ts → m ≡ first → ⊥
  later_apart m h e = grind (arith, nat_tests, once first, later_in m h)

  later_apart_t : (m : ℕ) → 0 < hits m (first ∷ (ts ++ j.behind)) → t ≡ m → ⊥
  later_apart_t m h e = grind (arith, nat_tests, once m)

  place_of_t : place_in t (children_of v.forest p) ≡ length j.ahead
  place_of_t = grind (arith, nat_tests, ap (place_in t) j.listed, place-behind t j.ahead (t ∷ first ∷ (ts ++ j.behind)), once t, t_in)

  place_of_first : place_in first (children_of v.forest p) ≡ length j.ahead + 1
  place_of_first = grind (arith, nat_tests, ap (place_in first) j.listed, place-behind first j.ahead (t ∷ first ∷ (ts ++ j.behind)), once first, first_in, t_apart)

  place_of_later : (m : ℕ) → 0 < hits m ts → length j.ahead + 2 ≤ place_in m (children_of v.forest p)
  place_of_later m h =
      grind (arith, nat_tests, ap (place_in m) j.listed, place-behind m j.ahead (t ∷ first ∷ (ts ++ j.behind)), once m, later_in m h, later_apart m h, later_apart_t m)

  pub text_first : is_of_kind Text v.forest first ≡ true
  text_first = j.texts first (hits-first first ts)

  bare_of : (m : ℕ) → is_of_kind Text v.forest m ≡ true → children_of v.forest m ≡ []
  bare_of m h = data-childless j.sound.forest m (text_has_data v m h)

  pub index_first : index_of v.forest first ≡ index_of v.forest t + 1
  index_first =
      omega (arith, index-child v.forest first p (is_child first first_in), index-child v.forest t p (is_child t t_in), place_of_t, place_of_first)

  length_first : node_length unit_count v.forest first ≡ length (data_of v first)
  length_first = length-data v.forest first (text_has_data v first text_first)

  room_first : base + node_length unit_count v.forest first ≤ node_length unit_count v.forest t
  room_first =
      omega (arith, j.room, length-append (data_of v first) (joined_data v ts), length_first, length-data v.forest t (text_has_data v t j.text))

  -- The ends in the first Text move.

  abbrev merged : World
  merged = merged_ends first t base (parent_of v.forest first) v

  abbrev pub joins : Point → Point
  joins q = after_merge first t base p (index_of v.forest first) q

  pub merged_is : merged ≡ record v { ranges = map_ranges joins v.ranges }
  merged_is = ap (λ o. merged_ends first t base o v) (is_child first first_in)

  pub sound-merged_ranges : IsSound (record v { ranges = map_ranges joins v.ranges })
  sound-merged_ranges =
      record {
        forest = j.sound.forest;
        ranges =
            each-moved (λ r. IsRange v.forest r × AreUpTo t base r) (IsRange v.forest) joins
            (λ r h. range-merged j.sound.forest p t first base (is_there t t_in) (is_there first first_in) (is_child t t_in) (is_child first first_in) index_first (bare_of t j.text) (bare_of first text_first) (text_is_no_doctype v.forest t j.text) room_first r h.0 h.1.0 h.1.1)
            v.ranges
            (lives-both (IsRange v.forest) (AreUpTo t base) (λ r. IsRange v.forest r × AreUpTo t base r) (λ r a b. (a, b)) v.ranges j.sound.ranges j.up_to);
        iterators = j.sound.iterators;
        walkers = j.sound.walkers;
        registrations = j.sound.registrations;
        statics = j.sound.statics;
      }

  past_ranges : Lives (ArePast first p (index_of v.forest first)) (map_ranges joins v.ranges)
  past_ranges =
      each-moved (IsRange v.forest) (ArePast first p (index_of v.forest first)) joins (λ r h. (past r.start, past r.end)) v.ranges j.sound.ranges
    where
      past : (q : Point) → IsPast first p (index_of v.forest first) (joins q)
      past q = point-past j.sound.forest p t first base (is_there t t_in) (is_there first first_in) (is_child t t_in) (is_child first first_in) index_first (bare_of t j.text) (bare_of first text_first) (text_is_no_doctype v.forest t j.text) room_first q

  abbrev pub further : ℕ
  further = base + length (data_of v first)

  up_to_ranges : Lives (AreUpTo t further) (map_ranges joins v.ranges)
  up_to_ranges =
      each-moved (λ r. IsRange v.forest r × AreUpTo t base r) (AreUpTo t further) joins
      (λ r h. (up r.start h.0.starts.within h.1.0, up r.end h.0.ends.within h.1.1))
      v.ranges (lives-both (IsRange v.forest) (AreUpTo t base) (λ r. IsRange v.forest r × AreUpTo t base r) (λ r a b. (a, b)) v.ranges j.sound.ranges j.up_to)
    where
      up : (q : Point) → q.offset ≤ node_length unit_count v.forest q.node → IsUpTo t base q → IsUpTo t further (joins q)
      up q h u =
          subst (λ k. IsUpTo t (base + k) (joins q)) length_first
          (up_to-merged j.sound.forest p t first base (is_there t t_in) (is_there first first_in) (is_child t t_in) (is_child first first_in) index_first (bare_of t j.text) (bare_of first text_first) (text_is_no_doctype v.forest t j.text) room_first q h u)

  -- Then it leaves.

  abbrev pub moved : World
  moved = record v { ranges = map_ranges joins v.ranges }

  abbrev pub left : World
  left = remove false first moved

  sound-left : IsSound left
  sound-left = sound-remove false first moved sound-merged_ranges

  pub forest_left : left.forest ≡ cut first v.forest
  forest_left = forest-remove false first moved sound-merged_ranges (is_there first first_in)

  pub content_left : (m : ℕ) → data_of left m ≡ data_of v m
  content_left m =
      ap (λ (g : Forest Content). (content_in (entry_in g m)).text) forest_left
      ∙ kept-cut v.forest j.sound.forest.once first (λ o. (content_in o).text) m (λ e. refl)

  kind_left : (m : ℕ) → is_of_kind Text left.forest m ≡ is_of_kind Text v.forest m
  kind_left m = (loosened-remove false first moved sound-merged_ranges (is_there first first_in)).kinds (is_kind Text) m

  listed_left : children_of left.forest p ≡ j.ahead ++ t ∷ (ts ++ j.behind)
  listed_left =
      let i = once first in
      let a = first_in in
      let b = hits-append first (j.ahead ++ t ∷ []) (first ∷ (ts ++ j.behind)) in
      let c = hits-append first j.ahead (t ∷ []) in
      let d = hits-append first (t ∷ []) (first ∷ (ts ++ j.behind)) in
      let e = hits-itself first (ts ++ j.behind) in
      ap (λ (g : Forest Content). children_of g p) forest_left
      ∙ children-cut v.forest j.sound.forest.once first p
      ∙ ap (left_out first) (j.listed ∙ sym (append_assoc j.ahead (t ∷ []) (first ∷ (ts ++ j.behind))))
      ∙ left_out-here first (j.ahead ++ t ∷ []) (ts ++ j.behind) (omega arith) (omega arith)
      ∙ append_assoc j.ahead (t ∷ []) (ts ++ j.behind)

  up_to_left : Lives (AreUpTo t further) left.ranges
  up_to_left =
      subst (λ rs. Lives (AreUpTo t further) rs) (sym (ap (λ (x : World). x.ranges) (removed-ranges first p moved moved.ranges (is_child first first_in))))
      (each-moved (AreUpTo t further) (AreUpTo t further) (leaving moved first p) (λ r h. (stays r.start h.0, stays r.end h.1)) moved.ranges up_to_ranges)
    where
      not_parent : t ≡ p → ⊥
      not_parent e = let h = rw (ap (children_of v.forest) (sym e) ∙ bare_of t j.text) at (child t t_in) in omega arith

      stays : (q : Point) → IsUpTo t further q → IsUpTo t further (leaving moved first p q)
      stays q u = λ d. grind (arith, nat_tests, not_parent, cases_Bool (among q.node (inclusive_descendants v.forest first)))

  pub joinable_left : AreJoinable left t p further ts
  joinable_left =
      record {
        sound = sound-left;
        text = kind_left t ∙ j.text;
        ahead = j.ahead;
        behind = j.behind;
        listed = listed_left;
        texts = λ m h. kind_left m ∙ j.texts m (let i = hits-append m (first ∷ []) ts in omega arith);
        room = (
            let a : joined_data left ts ≡ joined_data v ts = ap (λ (data_at : ℕ → List ℕ). flat_map data_at ts) (fun_ext content_left) in
            omega (arith, ap length a, ap length (content_left t), j.room, length-append (data_of v first) (joined_data v ts))
            );
        up_to = up_to_left;
      }

  pub in_either_order : remove false first (merge_ends t further ts moved) ≡ merge_ends t further ts left
  in_either_order =
      worlds_in_turn moved first p t further ts (is_child first first_in) outside t_apart (far t (bare_of t j.text) t_in)
      later (λ m h. far m (bare_of m (j.texts m (let i = hits-append m (first ∷ []) ts in omega arith))) (later_all m h)) past_ranges
    where
      outside : (m : ℕ) → (m ≡ first → ⊥) → among m (inclusive_descendants v.forest first) ≡ false
      outside m ne =
          hits-not_among m (inclusive_descendants v.forest first)
          (hits-numbers m (tree_at first v.forest)
          ∙ grind (arith, inside-childless v.forest j.sound.forest.once first m (bare_of first text_first), total-tree_at (one_at m) first v.forest))

      far : (m : ℕ) → children_of v.forest m ≡ [] → 0 < hits m (t ∷ first ∷ (ts ++ j.behind)) → (m == p) ≡ false
      far m e h =
          grind (arith, nat_tests, child m h, ap (hits m) e)

      later : (m : ℕ) → 0 < hits m ts → IsLater moved left first p m
      later m h =
          let ne = later_apart m h in
          let apart_first = ne_eqb m first ne in
          let par = is_child m (later_all m h) in
          let a = index-child v.forest m p par in
          let b = place_of_later m h in
          let c = place_of_first in
          let d = index-child v.forest first p (is_child first first_in) in
          let e = index-cut v.forest j.sound.forest.once first m p apart_first par in
          let f = rw (lt-ltb (place_in first (children_of v.forest p)) (index_of v.forest m) (omega arith)) at e in
          let g : index_of left.forest m ≡ index_of (cut first v.forest) m = ap (λ (x : Forest Content). index_of x m) forest_left in
          record {
            parent = par;
            parent_after = ap (λ (x : Forest Content). parent_of x m) forest_left ∙ parent-cut v.forest j.sound.forest.once first m ∙ (rw apart_first par);
            other = ne;
            step = omega arith;
            later = omega arith;
            contents = content_left m;
          }

-- all of them, one after another
pub sound-joined : (v : World) (t p base : ℕ) (ts : List ℕ) → AreJoinable v t p base ts → IsSound (remove_each ts (merge_ends t base ts v))
sound-joined v t p base [] j = j.sound
sound-joined v t p base (first ∷ ts) j =
    let next = sound-joined (left v t p base first ts j) t p (base + length (data_of v first)) ts (joinable_left v t p base first ts j) in
    let turned = subst (λ x. IsSound (remove_each ts x)) (sym (in_either_order v t p base first ts j)) next in
    subst (λ x. IsSound (remove_each ts (remove false first (merge_ends t (base + length (data_of v first)) ts x)))) (sym (merged_is v t p base first ts j)) turned
