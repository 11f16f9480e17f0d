-- Walks through the nodes inside a node that forget each, or gather the ends that stand there.
use Rattle.std.proofs.Common.{◌≡◌, ℕ, ◌+◌, ◌-◌, ◌^◌, ◌≤◌, ◌<◌, ◌==◌, nat_lt, nat_le, ◌&&◌, true, false, Bool, if◌then◌else◌, List, [], ◌∷◌, set, Option, Some, None, IfSome, slice_index_or, refl, sym, ap, subst, ◌∙◌, ⊎_elim, arith}
use Rattle.std.specs.List.{list_any, flat_map}
use Rattle.std.proofs.lemmas.{Bool.cases_Bool, Bool.cases_eq, Bool.false≢true, Bool.eq-eqb, Bool.ne_eqb, Bool.Decides.nat_tests}
use Rattle.std.proofs.Math.Path.{fun_ext}
use Rattle.dom_model.specs.Definitions.{hits, among, after, from_first, Grove, HasNode, inclusive_descendants, IsForest, Point, Range, after_splice, after_removal, moved_range, map_ranges, nodes_of_range, nodes_unless_released}
use Rattle.dom_model.proofs.PlainLists.{Numbers.same_or, Numbers.same, Numbers.apart, Heads.among-first, Heads.among-rest, Searches.passes_not, Searches.any-either}
use Rattle.dom_model.proofs.Forests.{Climbing.hits-among, Climbing.hits-not_among, TreeOrder.InsideWalks.IsAt, TreeOrder.InsideWalks.from-top, TreeOrder.InsideWalks.at-top, TreeOrder.InsideWalks.at-next, TreeOrder.InsideWalks.inside-one, TreeOrder.InsideWalks.here-inside, TreeOrder.InsideWalks.rest-next, TreeOrder.InsideWalks.rest-end, Listed.hits-itself}
use Rattle.dom_model.proofs.BoundaryPoints.PointOrder.{map_ranges-twice}
use Rattle.dom_model.proofs.Soundness.SoundPlacing.{map_ranges-same}
use Rattle.dom_model.proofs.RangesAndContents.RangesElsewhere.{removal-elsewhere}
use Rattle.dom_ranges.specs.Tables.{RangeTable, FitsMoved, OffsetsFit, live_nodes, uncovered, moved_in, on_node}
use Rattle.dom_model.proofs.TokenText.Contents.ExtractedAsDeleted.{splice-node}

-- ranges moved twice
pub ranges-twice : (g h k : Point → Point) → ((p : Point) → h (g p) ≡ k p) → (rs : List (Option Range)) → map_ranges h (map_ranges g rs) ≡ map_ranges k rs
ranges-twice g h k e rs = map_ranges-twice h g rs ∙ ap (λ (move : Point → Point). map_ranges move rs) (fun_ext e)

-- ranges moved alike, where the moves agree at the nodes that live ranges name
pub ranges-alike : (g h : Point → Point) (p : ℕ → Bool) → ((q : Point) → p q.node ≡ false → g q ≡ h q) → (rs : List (Option Range)) → list_any p (flat_map (nodes_unless_released nodes_of_range) rs) ≡ false → map_ranges g rs ≡ map_ranges h rs
ranges-alike g h p e [] n = refl
ranges-alike g h p e (None ∷ rs) n = ap (λ xs. None ∷ xs) (ranges-alike g h p e rs n)
ranges-alike g h p e (Some r ∷ rs) n =
    ⊎_elim (λ (a : p r.start.node ≡ true). let z : true ≡ false = rw a at n in absurd (false≢true (sym z)))
    (λ (a : p r.start.node ≡ false).
    ⊎_elim (λ (b : p r.end.node ≡ true). let z : true ≡ false = rw (a, b) at n in absurd (false≢true (sym z)))
    (λ (b : p r.end.node ≡ false).
    let rest : list_any p (flat_map (nodes_unless_released nodes_of_range) rs) ≡ false = rw (a, b) at n in
    let x = e r.start a in
    let y = e r.end b in
    let w : moved_range g r ≡ moved_range h r = rw (x, y) refl in
    ap (λ z. Some z ∷ map_ranges g rs) w ∙ ap (λ xs. Some (moved_range h r) ∷ xs) (ranges-alike g h p e rs rest)) (cases_Bool (p r.end.node))) (cases_Bool (p r.start.node))

-- from a number on stand no more than in the whole list
pub from-fewer : (n k : ℕ) (l : List ℕ) → hits k (from_first n l) ≤ hits k l
from-fewer n k [] = omega arith
from-fewer n k (x ∷ xs) = elim (same_or x n) [ same _ v ↦ rw v (omega arith) | apart _ v ↦ rw v (let i = from-fewer n k xs in omega arith) ]

-- whichever way it is
either-way : (v : Bool) (to : Point) → (if v then to else to) ≡ to
either-way true to = refl
either-way false to = refl

module _ {X : Type 0} (g : Grove X) (s : IsForest g) (top : ℕ) where
  -- how far the nodes have been forgotten
  pub record IsForgetting (start v : RangeTable) (here : ℕ) : Type 0 where
    pub at : IsAt g.forest top here
    pub ranges : v.ranges ≡ start.ranges
    pub covered : uncovered (from_first here (inclusive_descendants g.forest top)) v.covered ≡ uncovered (inclusive_descendants g.forest top) start.covered

  pub forgetting-top : (v : RangeTable) → HasNode g.forest top → IsForgetting v v top
  forgetting-top v h = record { at = at-top g s top h; ranges = refl; covered = ap (λ ns. uncovered ns v.covered) (from-top g s top h) }

  pub forgetting-empty : (start v : RangeTable) (here : ℕ) → IsForgetting start v here → list_any (λ m. among m (inclusive_descendants g.forest top)) (live_nodes start) ≡ false → among here (live_nodes v) ≡ false
  forgetting-empty start v here c n =
      let same : live_nodes v ≡ live_nodes start = ap (flat_map (nodes_unless_released nodes_of_range)) c.ranges in
      let nodes = live_nodes start in
      let all = inclusive_descendants g.forest top in
      ap (among here) same ∙ passes_not (λ m. among m nodes) all here (any-either nodes all ∙ n) (hits-among here all (here-inside g s top here c.at))

  pub forgetting-next : (start v w : RangeTable) (here m : ℕ) → IsForgetting start v here → after here (inclusive_descendants g.forest top) ≡ Some m → w ≡ record v { covered = set v.covered here false } → IsForgetting start w m
  forgetting-next start v w here m c e h = record {
    at = at-next g s top here m e;
    ranges = ap (λ (x : RangeTable). x.ranges) h ∙ c.ranges;
    covered =
        ap (λ (x : RangeTable). uncovered (from_first m (inclusive_descendants g.forest top)) x.covered) h ∙ ap (λ ns. uncovered ns v.covered) (sym (rest-next g s top here m e)) ∙ c.covered;
  }

  pub forgetting-end : (start v w : RangeTable) (here : ℕ) → IsForgetting start v here → after here (inclusive_descendants g.forest top) ≡ None → w ≡ record v { covered = set v.covered here false }
      → w ≡ record start { covered = uncovered (inclusive_descendants g.forest top) start.covered }
  forgetting-end start v w here c e h =
      let a : set v.covered here false ≡ uncovered (inclusive_descendants g.forest top) start.covered = ap (λ ns. uncovered ns v.covered) (sym (rest-end g s top here c.at e)) ∙ c.covered in
      h ∙ ap (λ rs. record { ranges = rs; covered = set v.covered here false }) c.ranges ∙ ap (λ cs. record { ranges = start.ranges; covered = cs }) a

  -- the points that were passed go to one point, the rest stay
  abbrev pub moved_out : List ℕ → Point → Point → Point
  moved_out rest to p = if among p.node rest then p else moved_in (inclusive_descendants g.forest top) to p

  out-all : (to p : Point) → moved_out (inclusive_descendants g.forest top) to p ≡ p
  out-all to p =
      ⊎_elim (λ (a : among p.node (inclusive_descendants g.forest top) ≡ true). rw a refl) (λ (a : among p.node (inclusive_descendants g.forest top) ≡ false). rw a refl) (cases_Bool (among p.node (inclusive_descendants g.forest top)))

  out-step : (here : ℕ) (rest : List ℕ) (to : Point) → 0 < hits here (inclusive_descendants g.forest top) → hits here rest ≡ 0 → (p : Point) → on_node here (λ _. to) (moved_out (here ∷ rest) to p) ≡ moved_out rest to p
  out-step here rest to there absent p =
      ⊎_elim (λ (q : p.node ≡ here).
      let a : among p.node (here ∷ rest) ≡ true = ap (λ m. among m (here ∷ rest)) q ∙ among-first here rest in
      let b : among p.node rest ≡ false = ap (λ m. among m rest) q ∙ hits-not_among here rest absent in
      let d : among p.node (inclusive_descendants g.forest top) ≡ true = ap (λ m. among m (inclusive_descendants g.forest top)) q ∙ hits-among here (inclusive_descendants g.forest top) there in
      let y : (p.node == here) ≡ true = eq-eqb p.node here q in
      rw (a, b, d, y) refl)
      (λ (n : p.node ≡ here → ⊥).
      let a = among-rest p.node here rest n in
      let y : (p.node == here) ≡ false = ne_eqb p.node here n in
      ⊎_elim (λ (b : among p.node rest ≡ true). rw (a, b, y) refl)
      (λ (b : among p.node rest ≡ false).
      ⊎_elim (λ (d : among p.node (inclusive_descendants g.forest top) ≡ true). rw (a, b, d) (either-way (to.node == here) to))
      (λ (d : among p.node (inclusive_descendants g.forest top) ≡ false). rw (a, b, d, y) refl) (cases_Bool (among p.node (inclusive_descendants g.forest top)))) (cases_Bool (among p.node rest))) (cases_eq p.node here)

  -- how far the ends have been gathered
  pub record IsGathered (start v : RangeTable) (to : Point) (here : ℕ) : Type 0 where
    pub at : IsAt g.forest top here
    pub moved : v ≡ record start { ranges = map_ranges (moved_out (from_first here (inclusive_descendants g.forest top)) to) start.ranges }

  pub gathered-top : (v : RangeTable) (to : Point) → HasNode g.forest top → IsGathered v v to top
  gathered-top v to h = record {
    at = at-top g s top h;
    moved =
        let a : map_ranges (moved_out (from_first top (inclusive_descendants g.forest top)) to) v.ranges ≡ v.ranges =
        ap (λ l. map_ranges (moved_out l to) v.ranges) (from-top g s top h) ∙ map_ranges-same (moved_out (inclusive_descendants g.forest top) to) (out-all to) v.ranges in
        ap (λ rs. record v { ranges = rs }) (sym a);
  }

  gathered-on : (start v w : RangeTable) (to : Point) (here : ℕ) (rest : List ℕ) → IsGathered start v to here → from_first here (inclusive_descendants g.forest top) ≡ here ∷ rest → w ≡ record v { ranges = map_ranges (on_node here (λ _. to)) v.ranges }
      → w ≡ record start { ranges = map_ranges (moved_out rest to) start.ranges }
  gathered-on start v w to here rest c e h =
      let absent : hits here rest ≡ 0 = omega (arith, inside-one g s top here, from-fewer here here (inclusive_descendants g.forest top), ap (hits here) e, hits-itself here rest) in
      let a : map_ranges (on_node here (λ _. to)) (map_ranges (moved_out (here ∷ rest) to) start.ranges) ≡ map_ranges (moved_out rest to) start.ranges =
      ranges-twice (moved_out (here ∷ rest) to) (on_node here (λ _. to)) (moved_out rest to) (out-step here rest to (here-inside g s top here c.at) absent) start.ranges in
      h ∙ ap (λ (x : RangeTable). record x { ranges = map_ranges (on_node here (λ _. to)) x.ranges }) c.moved
      ∙ ap (λ l. record start { ranges = map_ranges (on_node here (λ _. to)) (map_ranges (moved_out l to) start.ranges) }) e
      ∙ ap (λ rs. record start { ranges = rs }) a

  pub gathered-next : (start v w : RangeTable) (to : Point) (here m : ℕ) → IsGathered start v to here → after here (inclusive_descendants g.forest top) ≡ Some m → w ≡ record v { ranges = map_ranges (on_node here (λ _. to)) v.ranges } → IsGathered start w to m
  gathered-next start v w to here m c e h = record { at = at-next g s top here m e; moved = gathered-on start v w to here (from_first m (inclusive_descendants g.forest top)) c (rest-next g s top here m e) h }

  pub gathered-end : (start v w : RangeTable) (to : Point) (here : ℕ) → IsGathered start v to here → after here (inclusive_descendants g.forest top) ≡ None → w ≡ record v { ranges = map_ranges (on_node here (λ _. to)) v.ranges } → w ≡ record start { ranges = map_ranges (moved_in (inclusive_descendants g.forest top) to) start.ranges }
  gathered-end start v w to here c e h = gathered-on start v w to here [] c (rest-end g s top here c.at e) h

  -- the rest is gathered at once
  out-rest : (rest : List ℕ) (to p : Point) → moved_in (inclusive_descendants g.forest top) to (moved_out rest to p) ≡ moved_in (inclusive_descendants g.forest top) to p
  out-rest rest to p =
      ⊎_elim (λ (a : among p.node rest ≡ true). rw a refl)
      (λ (a : among p.node rest ≡ false).
      ⊎_elim (λ (b : among p.node (inclusive_descendants g.forest top) ≡ true). rw (a, b) (either-way (among to.node (inclusive_descendants g.forest top)) to))
      (λ (b : among p.node (inclusive_descendants g.forest top) ≡ false). rw (a, b) (rw b refl)) (cases_Bool (among p.node (inclusive_descendants g.forest top)))) (cases_Bool (among p.node rest))

  pub gathered-rest : (start v w : RangeTable) (to : Point) (here : ℕ) → IsGathered start v to here → w ≡ record v { ranges = map_ranges (moved_in (inclusive_descendants g.forest top) to) v.ranges }
      → w ≡ record start { ranges = map_ranges (moved_in (inclusive_descendants g.forest top) to) start.ranges }
  gathered-rest start v w to here c h =
      let rest = from_first here (inclusive_descendants g.forest top) in
      h ∙ ap (λ (x : RangeTable). record x { ranges = map_ranges (moved_in (inclusive_descendants g.forest top) to) x.ranges }) c.moved
      ∙ ap (λ rs. record start { ranges = rs })
      (ranges-twice (moved_out rest to) (moved_in (inclusive_descendants g.forest top) to) (moved_in (inclusive_descendants g.forest top) to) (out-rest rest to) start.ranges)

-- the node leaves, where no end stands inside it
pub removal-splice : (parent index : ℕ) (p : Point) → after_splice parent index 1 0 p ≡ (if (p.node == parent) && nat_lt index p.offset then record p { offset = p.offset - 1 } else p)
removal-splice parent index p =
    ⊎_elim (λ (a : ((p.node == parent) && nat_lt index p.offset) ≡ true).
    ⊎_elim (λ (b : nat_le p.offset (index + 1) ≡ true). let d : index ≡ p.offset - 1 = one a b in rw (a, b) (ap (λ o. record { node = p.node; offset = o }) d))
    (λ (b : nat_le p.offset (index + 1) ≡ false). let d : p.offset - 1 + 0 ≡ p.offset - 1 = omega arith in rw (a, b) (ap (λ o. record { node = p.node; offset = o }) d)) (cases_Bool (nat_le p.offset (index + 1))))
    (λ (a : ((p.node == parent) && nat_lt index p.offset) ≡ false). rw a refl) (cases_Bool ((p.node == parent) && nat_lt index p.offset))
  where
    one : ((p.node == parent) && nat_lt index p.offset) ≡ true → nat_le p.offset (index + 1) ≡ true → index ≡ p.offset - 1
    one a b = grind (arith, nat_tests)

pub removed-outside : (inside : List ℕ) (parent index : ℕ) (p : Point) → among p.node inside ≡ false → after_removal inside parent index p ≡ after_splice parent index 1 0 p
removed-outside inside parent index p h = rw h (sym (removal-splice parent index p))

pub removed-all : (inside : List ℕ) (parent index : ℕ) (p : Point) → moved_in inside (record { node = parent; offset = index }) (after_splice parent index 1 0 p) ≡ after_removal inside parent index p
removed-all inside parent index p =
    let n : (after_splice parent index 1 0 p).node ≡ p.node = splice-node parent index 1 0 p in
    ⊎_elim (λ (a : among p.node inside ≡ true).
    let b : among (after_splice parent index 1 0 p).node inside ≡ true = ap (λ m. among m inside) n ∙ a in
    ap (λ (v : Bool). if v then record { node = parent; offset = index } else after_splice parent index 1 0 p) b ∙ sym (rw a refl))
    (λ (a : among p.node inside ≡ false).
    let b : among (after_splice parent index 1 0 p).node inside ≡ false = ap (λ m. among m inside) n ∙ a in
    ap (λ (v : Bool). if v then record { node = parent; offset = index } else after_splice parent index 1 0 p) b ∙ sym (removed-outside inside parent index p a)) (cases_Bool (among p.node inside))

close-fits : (parent index : ℕ) (p : Point) → p.offset < 2 ^ 64 → (after_splice parent index 1 0 p).offset < 2 ^ 64
close-fits parent index p h = rw (removal-splice parent index p) (⊎_elim (λ (a : ((p.node == parent) && nat_lt index p.offset) ≡ true). rw a (omega arith)) (λ (a : ((p.node == parent) && nat_lt index p.offset) ≡ false). rw a h) (cases_Bool ((p.node == parent) && nat_lt index p.offset)))

-- no offset grows where a child leaves
pub closed-fit : (parent index : ℕ) (rs : List (Option Range)) → OffsetsFit (after_splice parent index 1 0) rs
closed-fit parent index rs k d within = each (slice_index_or rs k d)
  where
    each : (o : Option Range) → IfSome o (FitsMoved (after_splice parent index 1 0))
    each None = tt
    each (Some r) = record { start = close-fits parent index r.start; end = close-fits parent index r.end }

-- the ranges, once the node has left: where no end stands inside it, where none stands in its parent either, where there is none at all, and else
module _ (v : RangeTable) (inside : List ℕ) (parent index : ℕ) where
  pub outside-removed : list_any (λ m. among m inside) (live_nodes v) ≡ false → map_ranges (after_splice parent index 1 0) v.ranges ≡ map_ranges (after_removal inside parent index) v.ranges
  outside-removed h = sym (ranges-alike (after_removal inside parent index) (after_splice parent index 1 0) (λ m. among m inside) (removed-outside inside parent index) v.ranges h)

  pub still-removed : list_any (λ m. among m inside) (live_nodes v) ≡ false → among parent (live_nodes v) ≡ false → v ≡ record v { ranges = map_ranges (after_removal inside parent index) v.ranges }
  still-removed h n = ap (λ rs. record v { ranges = rs }) (sym (removal-elsewhere inside parent index v.ranges h n))

  pub idle-removed : live_nodes v ≡ [] → v ≡ record v { ranges = map_ranges (after_removal inside parent index) v.ranges }
  idle-removed none = still-removed (ap (list_any (λ m. among m inside)) none) (ap (among parent) none)

  pub closed-removed : (w : RangeTable) → list_any (λ m. among m inside) (live_nodes v) ≡ false → w ≡ record v { ranges = map_ranges (after_splice parent index 1 0) v.ranges } → w ≡ record v { ranges = map_ranges (after_removal inside parent index) v.ranges }
  closed-removed w h e = e ∙ ap (λ rs. record v { ranges = rs }) (outside-removed h)

  pub gathered-removed : (w u : RangeTable) → w ≡ record v { ranges = map_ranges (after_splice parent index 1 0) v.ranges } → u ≡ record w { ranges = map_ranges (moved_in inside (record { node = parent; offset = index })) w.ranges }
      → u ≡ record v { ranges = map_ranges (after_removal inside parent index) v.ranges }
  gathered-removed w u e f =
      f ∙ ap (λ (x : RangeTable). record x { ranges = map_ranges (moved_in inside (record { node = parent; offset = index })) x.ranges }) e
      ∙ ap (λ rs. record v { ranges = rs }) (ranges-twice (after_splice parent index 1 0) (moved_in inside (record { node = parent; offset = index })) (after_removal inside parent index) (removed-all inside parent index) v.ranges)

pub if-each : (o : Option ℕ) (P : ℕ → Type 0) → ((x : ℕ) → P x) → IfSome o P
if-each None P h = tt
if-each (Some x) P h = h x

pub if-some : (o : Option ℕ) (P : ℕ → Type 0) (x : ℕ) → o ≡ Some x → P x → IfSome o P
if-some o P x h p = subst (λ (y : Option ℕ). IfSome y P) (sym h) p
