-- A step moves the ends of live ranges by a map of points that does not depend on the ranges.
use Rattle.std.proofs.Common.{◌≡◌, ℕ, ◌<◌, ◌≤◌, ◌==◌, nat_lt, Bool, true, false, ◌&&◌, List, [], ◌∷◌, length, Option, Some, None, IfSome, option_map, refl, ap, sym, ◌∙◌, subst, arith}
use Rattle.std.proofs.Math.ListN.{get_or-map}
use Rattle.std.proofs.lemmas.{Bool.ne_eqb, List.Elements.All-nil, List.Elements.All-cons, List.Elements.All-head}
use Rattle.dom_model.specs.Definitions.{hits, among, occurs, tree_at, parent_of, ancestors, inclusive_descendants, index_of, previous_of, next_of, Point, Range, World, moved_range, map_ranges, after_gap, after_removal, tree_record_unless, taken_out, transients_made, removed_from, remove, remove_all, put_in, put_all, gap_before, previous_to, insert_all, range_at, IsRange, IsSound}
use Rattle.dom_model.proofs.PlainLists.Numbers.{same_or, same, apart}
use Rattle.dom_model.proofs.Forests.{Climbing.hits-append, Climbing.hits-first, Climbing.hits-ancestors, Climbing.hits-not_among, TreeOrder.Flattened.hits-numbers}
use Rattle.dom_model.proofs.BoundaryPoints.PointOrder.{map_ranges-twice}
use Rattle.dom_model.proofs.Soundness.SoundWorlds.{IsLive, sound-remove}
use Rattle.dom_model.proofs.MutationAlgorithms.Loosened.{loosened-remove, parent-remove}

pub record MovesBy (step : World → World) (w : World) : Type 0 where
  pub moves : Point → Point
  pub acts : (rs : List (Option Range)) → step (record w { ranges = rs }) ≡ record (step w) { ranges = map_ranges moves rs }

pub map_ranges-none : (rs : List (Option Range)) → map_ranges (λ q. q) rs ≡ rs
map_ranges-none [] = refl
map_ranges-none (None ∷ rs) = ap (λ xs. None ∷ xs) (map_ranges-none rs)
map_ranges-none (Some r ∷ rs) = ap (λ xs. Some r ∷ xs) (map_ranges-none rs)

-- one step after another
pub moves-then : (first second : World → World) (w : World) → MovesBy first w → MovesBy second (first w) → MovesBy (λ v. second (first v)) w
moves-then first second w a b =
    record {
      moves = λ q. b.moves (a.moves q);
      acts = λ rs.
          ap second (a.acts rs) ∙ b.acts (map_ranges a.moves rs)
          ∙ ap (λ xs. record (second (first w)) { ranges = xs }) (map_ranges-twice b.moves a.moves rs);
    }

-- where a live range goes
pub range_at-moved : (step : World → World) (w : World) (m : MovesBy step w) (r : ℕ) → range_at (step w) r ≡ option_map (moved_range m.moves) (range_at w r)
range_at-moved step w m r =
    ap (λ (v : World). range_at v r) (m.acts w.ranges)
    ∙ get_or-map (λ (o : Option Range). option_map (moved_range m.moves) o) w.ranges r None

-- a range of a world that a step leaves sound is moved to one
pub moved-range : (step : World → World) (w : World) (m : MovesBy step w) → IsSound w → ((v : World) → IsSound v → v.forest ≡ w.forest → v.made ≡ w.made → IsSound (step v)) → (range : Range) → IsRange w.forest range → IsRange (step w).forest (moved_range m.moves range)
moved-range step w m s keeps range h =
    let v : World = record w { ranges = Some range ∷ [] } in
    let alone : IsSound v = record { forest = s.forest; ranges = All-cons (IsLive w.forest) (Some range) [] h (All-nil (IsLive w.forest)); iterators = s.iterators; walkers = s.walkers; registrations = s.registrations; statics = s.statics } in
    let after = subst IsSound (m.acts (Some range ∷ [])) (keeps v alone refl refl) in
    All-head (IsLive (step w).forest) (Some (moved_range m.moves range)) [] after.ranges

-- Removals.

unless : (v : Bool) (p : ℕ) (a b : List ℕ) (x y : Option ℕ) (u : World) (rs : List (Option Range)) → tree_record_unless v p a b x y (record u { ranges = rs }) ≡ record (tree_record_unless v p a b x y u) { ranges = rs }
unless true p a b x y u rs = refl
unless false p a b x y u rs = refl

-- what a removal does to points
abbrev pub leaves_by : Option ℕ → World → ℕ → Point → Point
leaves_by None w n q = q
leaves_by (Some p) w n q = after_removal (inclusive_descendants w.forest n) p (index_of w.forest n) q

pub moves_remove : (suppressed : Bool) (n : ℕ) (w : World) → MovesBy (remove suppressed n) w
moves_remove suppressed n w = record { moves = leaves_by (parent_of w.forest n) w n; acts = go (parent_of w.forest n) }
  where
    go : (p : Option ℕ) (rs : List (Option Range)) → removed_from suppressed n p (record w { ranges = rs }) ≡ record (removed_from suppressed n p w) { ranges = map_ranges (leaves_by p w n) rs }
    go None rs = ap (λ xs. record w { ranges = xs }) (sym (map_ranges-none rs))
    go (Some p) rs = unless suppressed p [] (n ∷ []) (previous_of w.forest n) (next_of w.forest n) (transients_made n p (taken_out n p w)) (map_ranges (after_removal (inclusive_descendants w.forest n) p (index_of w.forest n)) rs)

-- A step that leaves a point where it is.
pub record KeepsPoint (step : World → World) (w : World) (q : Point) : Type 0 where
  pub by : MovesBy step w
  pub kept : by.moves q ≡ q

pub keeps-then : (first second : World → World) (w : World) (q : Point) → KeepsPoint first w q → KeepsPoint second (first w) q → KeepsPoint (λ v. second (first v)) w q
unfolding moves-then
keeps-then first second w q a b =
    record { by = moves-then first second w a.by b.by; kept = ap b.by.moves a.kept ∙ b.kept }

-- a point that is neither inside the node nor of its parent
pub keeps_remove : (suppressed : Bool) (n : ℕ) (w : World) (q : Point) → ((m : ℕ) → occurs m w.forest ≤ 1) → hits n (ancestors q.node w.forest) ≡ 0 → ((u : ℕ) → parent_of w.forest n ≡ Some u → q.node ≡ u → ⊥) → KeepsPoint (remove suppressed n) w q
unfolding moves_remove
keeps_remove suppressed n w q o out far = record { by = moves_remove suppressed n w; kept = go (parent_of w.forest n) refl }
  where
    outside : among q.node (inclusive_descendants w.forest n) ≡ false
    outside = hits-not_among q.node (inclusive_descendants w.forest n) (hits-numbers q.node (tree_at n w.forest) ∙ sym (hits-ancestors n q.node w.forest o) ∙ out)

    go : (p : Option ℕ) → parent_of w.forest n ≡ p → leaves_by p w n q ≡ q
    go None e = refl
    go (Some p) e = rw (outside, ne_eqb q.node p (far p e)) refl

pub leaves-remove : (suppressed : Bool) (n : ℕ) (w : World) (q : Point) → (moves_remove suppressed n w).moves q ≡ leaves_by (parent_of w.forest n) w n q
unfolding moves_remove
leaves-remove suppressed n w q = refl

-- Insertion.

-- a point that is not in the parent past the child
abbrev pub IsAheadOf : World → ℕ → Option ℕ → Point → Type 0
IsAheadOf w parent child q = IfSome child (λ c. ((q.node == parent) && nat_lt (index_of w.forest c) q.offset) ≡ false)

pub keeps_gap : (parent : ℕ) (child : Option ℕ) (count : ℕ) (w : World) (q : Point) → IsAheadOf w parent child q → KeepsPoint (gap_before parent child count) w q
keeps_gap parent None count w q h = record { by = record { moves = λ x. x; acts = λ rs. ap (λ xs. record w { ranges = xs }) (sym (map_ranges-none rs)) }; kept = refl }
keeps_gap parent (Some c) count w q h =
    record {
      by = record { moves = after_gap parent (index_of w.forest c) count; acts = λ rs. refl };
      kept = rw h refl;
    }

moves_put_all : (parent : ℕ) (child : Option ℕ) (ns : List ℕ) (w : World) (rs : List (Option Range)) → put_all parent child ns (record w { ranges = rs }) ≡ record (put_all parent child ns w) { ranges = rs }
moves_put_all parent child [] w rs = refl
moves_put_all parent child (n ∷ ns) w rs = moves_put_all parent child ns (put_in parent child n w) rs

pub keeps_put_all : (parent : ℕ) (child : Option ℕ) (ns : List ℕ) (w : World) (q : Point) → KeepsPoint (put_all parent child ns) w q
keeps_put_all parent child ns w q = record { by = record { moves = λ x. x; acts = λ rs. moves_put_all parent child ns w rs ∙ ap (λ xs. record (put_all parent child ns w) { ranges = xs }) (sym (map_ranges-none rs)) }; kept = refl }

pub keeps_record : (v : Bool) (p : ℕ) (a b : List ℕ) (x y : Option ℕ) (w : World) (q : Point) → KeepsPoint (tree_record_unless v p a b x y) w q
keeps_record v p a b x y w q = record { by = record { moves = λ z. z; acts = λ rs. unless v p a b x y w rs ∙ ap (λ xs. record (tree_record_unless v p a b x y w) { ranges = xs }) (sym (map_ranges-none rs)) }; kept = refl }

-- a step that depends on the forest alone may be told by what it is there
pub keeps-same : (step other : World → World) (w : World) (q : Point) → ((rs : List (Option Range)) → step (record w { ranges = rs }) ≡ other (record w { ranges = rs })) → KeepsPoint other w q → KeepsPoint step w q
keeps-same step other w q same_step k =
    record {
      by = record {
        moves = k.by.moves;
        acts = λ rs. same_step rs ∙ k.by.acts rs ∙ ap (λ (v : World). record v { ranges = map_ranges k.by.moves rs }) (sym (same_step w.ranges));
      };
      kept = k.kept;
    }

pub keeps_insert_all : (suppressed : Bool) (parent : ℕ) (child : Option ℕ) (nodes : List ℕ) (w : World) (q : Point) → IsAheadOf w parent child q → KeepsPoint (insert_all suppressed parent child nodes) w q
keeps_insert_all suppressed parent child nodes w q h =
    let a = keeps_gap parent child (length nodes) w q h in
    let b = keeps-then (gap_before parent child (length nodes)) (put_all parent child nodes) w q a (keeps_put_all parent child nodes (gap_before parent child (length nodes) w) q) in
    let c = keeps-then (λ v. put_all parent child nodes (gap_before parent child (length nodes) v)) (tree_record_unless suppressed parent nodes [] (previous_to w.forest parent child) child) w q b (keeps_record suppressed parent nodes [] (previous_to w.forest parent child) child (put_all parent child nodes (gap_before parent child (length nodes) w)) q) in
    keeps-same (insert_all suppressed parent child nodes) (λ v. tree_record_unless suppressed parent nodes [] (previous_to w.forest parent child) child (put_all parent child nodes (gap_before parent child (length nodes) v))) w q (λ rs. refl) c

-- each of the nodes is a child of another node, or a root, and has the point outside
pub keeps_remove_all : (ns : List ℕ) (n : ℕ) (w : World) (q : Point) → IsSound w → 0 < occurs q.node w.forest → (q.node ≡ n → ⊥) →
    ((m : ℕ) → 0 < hits m ns → (0 < occurs m w.forest) × (hits m (ancestors q.node w.forest) ≡ 0) × ((u : ℕ) → parent_of w.forest m ≡ Some u → u ≡ n)) → KeepsPoint (remove_all ns) w q
keeps_remove_all [] n w q s hq ne each = record { by = record { moves = λ x. x; acts = λ rs. ap (λ xs. record w { ranges = xs }) (sym (map_ranges-none rs)) }; kept = refl }
keeps_remove_all (m ∷ ns) n w q s hq ne each =
    let v = remove true m w in
    let i = each m (hits-first m ns) in
    let a = loosened-remove true m w s i.0 in
    keeps-then (remove true m) (remove_all ns) w q
    (keeps_remove true m w q s.forest.once i.1 (λ u e d. ne (d ∙ i.2 u e)))
    (keeps_remove_all ns n v q (sound-remove true m w s) (subst (λ x. 0 < x) (sym (a.numbers q.node)) hq) ne
    (λ l k.
    let j = each l (let x = hits-append l (m ∷ []) ns in omega arith) in (
      subst (λ x. 0 < x) (sym (a.numbers l)) j.0,
      (let x = a.paths l q.node hq in let y = j.1 in omega arith),
      λ u e. parent_then m i.0 l u j.2 e,
    )))
  where
    parent_then : (m : ℕ) → 0 < occurs m w.forest → (l u : ℕ) → ((x : ℕ) → parent_of w.forest l ≡ Some x → x ≡ n) → parent_of (remove true m w).forest l ≡ Some u → u ≡ n
    parent_then m h l u k e =
        let f = parent-remove true m w s h l in
        elim (same_or l m) [
          | same d t ↦ absurd (let g = rw t at f in let x : None ≡ Some u = sym g ∙ e in cc x)
          | apart nd t ↦ (let g = rw t at f in k u (sym g ∙ e))
        ]
