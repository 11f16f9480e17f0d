-- Roots that are put under a node, one after another, leave a sound world. DOM Standard, "Mutation algorithms": insert.
use Rattle.std.proofs.Common.{◌≡◌, ℕ, suc, ◌+◌, ◌<◌, ◌==◌, nat_le, Bool, true, false, if◌then◌else◌, List, [], ◌∷◌, length, Option, Some, None, All, refl, ap, sym, ◌∙◌, subst, arith, append-nil}
use Rattle.std.proofs.lemmas.{Bool.Decides.nat_tests, Bool.ne_eqb}
use Rattle.std.proofs.Math.Path.{fun_ext}
use Rattle.dom_model.proofs.BoundaryPoints.{PointOrder.map_ranges-twice, GapOrder.gap-more}
use Rattle.dom_model.specs.Definitions.{hits, may_be_parent, may_stand_in, Forest, occurs, one_at, tree_at, put, in_document, adopted, HasNode, parent_of, children_of, index_of, ancestors, Content, Point, Range, World, after_gap, moved_range, map_ranges, kind_passes, node_document, put_in, put_all, gap_before, IsBoundary, IsRange, IsSound, may_stand_at, IsPlaceable, ArePlaceable, IsChildOf, Lives}
use Rattle.dom_model.specs.declared.Kind.{Kind}
use Rattle.dom_model.proofs.PlainLists.Places.{place_before}
use Rattle.dom_model.proofs.Forests.{Totals.total-tree_at, Totals.total-put, Climbing.hits-ancestors, Climbing.hits-not_among, Entries.HasNode-occurs, Entries.occurs-HasNode, Entries.parent-put, Paths.ancestors-put, Indices.index-child, Indices.index-put, Changes.seen, Changes.nothing, Changes.just}
use Rattle.dom_model.proofs.Soundness.{SoundForests.parent_kind, SoundForests.entry_there, SoundForests.IsWood-alike, SoundForests.IsWood-put, SoundWorlds.IsLive, SoundWorlds.each-moved, SoundWorlds.each-kept, SoundWorlds.child_there, SoundWorlds.sound-on}
use Rattle.dom_model.proofs.Worlds.{SameShape.IsAlike, SameShape.with_tree-alike, SameShape.occurs-alike, SameShape.parent-alike, SameShape.ancestors-alike, SameShape.kind-alike, SameShape.index-alike, Measured.kind-put, Measured.length-parent, Measured.length-adopted}
use Rattle.dom_model.proofs.RangesAndContents.{RangesPut.range-put, RangesPut.iterator-put, RangesSpliced.range-alike, RangesSpliced.iterator-alike, RangesSpliced.there-alike}

pub parent_by_fit : (f : Forest Content) (p c : ℕ) → 0 < occurs p f → 0 < occurs c f → may_stand_at f p c ≡ true → kind_passes may_be_parent f p ≡ true
parent_by_fit f p c hp hc k =
    let ec = entry_there f c hc in
    let ep = entry_there f p hp in
    let m = rw (ec.1, ep.1) at k in
    rw ep.1 (parent_kind ep.0.value.label.kind ec.0.value.label.kind m)

-- kinds that are kept fit as they did
pub fits-kept : (f g : Forest Content) → ((test : Kind → Bool) (n : ℕ) → kind_passes test g n ≡ kind_passes test f n) → (p c : ℕ) → may_stand_at g p c ≡ may_stand_at f p c
fits-kept f g kinds p c =
    kinds (λ k. kind_passes (may_stand_in k) g c) p
    ∙ ap (λ (test : Kind → Bool). kind_passes test f p) (fun_ext (λ k. kinds (may_stand_in k) c))

-- Gaps.

pub map_ranges-same : (g : Point → Point) → ((p : Point) → g p ≡ p) → (rs : List (Option Range)) → map_ranges g rs ≡ rs
map_ranges-same g e [] = refl
map_ranges-same g e (r ∷ rs) = rw (map_ranges-same g e rs) (elim (seen r) [ nothing z ↦ rw z refl | just x z ↦ rw (z, e x.start, e x.end) refl ])

pub gap-none : (parent index : ℕ) (p : Point) → after_gap parent index 0 p ≡ p
gap-none parent index p = grind arith

pub gap_before-none : (parent : ℕ) (child : Option ℕ) (w : World) → gap_before parent child 0 w ≡ w
gap_before-none parent None w = refl
gap_before-none parent (Some c) w = ap (λ rs. record w { ranges = rs }) (map_ranges-same (after_gap parent (index_of w.forest c) 0) (gap-none parent (index_of w.forest c)) w.ranges)

-- what the gap makes of each live range
pub gap_each : (P Q : Range → Type 0) (parent : ℕ) (child : Option ℕ) (w : World) → IsChildOf w.forest parent child → kind_passes may_be_parent w.forest parent ≡ true → ((r : Range) → P r → IsRange w.forest r) →
    ((r : Range) → P r → Q (moved_range (after_gap parent (place_before child (children_of w.forest parent)) 1) r)) → Lives P w.ranges → Lives Q (gap_before parent child 1 w).ranges
gap_each P Q parent None w c p ranged keeps h = each-kept P Q (λ r k. subst Q (past_all r (ranged r k)) (keeps r k)) w.ranges h
  where
    -- no point of the parent is past its last child
    past : (q : Point) → IsBoundary w.forest q → after_gap parent (length (children_of w.forest parent)) 1 q ≡ q
    past q b = grind (arith, nat_tests, length-parent w.forest parent p, b.within)

    past_all : (r : Range) → IsRange w.forest r → moved_range (after_gap parent (length (children_of w.forest parent)) 1) r ≡ r
    past_all r k = rw (past r.start k.starts, past r.end k.ends) refl
gap_each P Q parent (Some d) w c p ranged keeps h =
    each-moved P Q (after_gap parent (index_of w.forest d) 1) (λ r k. subst (λ i. Q (moved_range (after_gap parent i 1) r)) (sym (index-child w.forest d parent c)) (keeps r k)) w.ranges h

gap_all : (g : Forest Content) (parent : ℕ) (child : Option ℕ) (w : World) → IsChildOf w.forest parent child → kind_passes may_be_parent w.forest parent ≡ true →
    ((r : Range) → IsRange w.forest r → IsRange g (moved_range (after_gap parent (place_before child (children_of w.forest parent)) 1) r)) → All (IsLive w.forest) w.ranges → All (IsLive g) (gap_before parent child 1 w).ranges
gap_all g parent child w c p keeps h = gap_each (IsRange w.forest) (IsRange g) parent child w c p (λ r k. k) keeps h

-- One node is put.

module _ (parent n : ℕ) (child : Option ℕ) (w : World) (s : IsSound w) (hp : 0 < occurs parent w.forest) (k : IsPlaceable w.forest parent n) where
  pub apart_from : occurs parent (tree_at n w.forest) ≡ 0
  apart_from = let i = hits-ancestors n parent w.forest s.forest.once in let j = k.outside in omega arith

  pub passes : kind_passes may_be_parent w.forest parent ≡ true
  passes = parent_by_fit w.forest parent n hp k.there k.fits

  abbrev pub after_put : Forest Content
  after_put = put parent n child w.forest

  abbrev pub after_adoption : Forest Content
  after_adoption = adopted n (node_document w parent) after_put

  pub renamed : IsAlike after_put after_adoption
  renamed = with_tree-alike (in_document (node_document w parent)) (λ x. refl) n after_put

  pub total_put : (m : ℕ) → occurs m after_put ≡ occurs m w.forest
  total_put m = total-put (one_at m) parent n child w.forest (let o = s.forest.once parent in let t = total-tree_at (one_at parent) n w.forest in let z = apart_from in omega arith)

  there_placed : (m : ℕ) → HasNode w.forest m → HasNode after_adoption m
  there_placed m h = there-alike renamed m (HasNode-occurs after_put m (subst (λ x. 0 < x) (sym (total_put m)) (occurs-HasNode w.forest m h)))

  pub range_placed : (r : Range) → IsRange w.forest r → IsRange after_adoption (moved_range (after_gap parent (place_before child (children_of w.forest parent)) 1) r)
  range_placed r h =
      range-alike renamed (length-adopted n (node_document w parent) after_put) _ (range-put s.forest parent n child hp k.there k.root apart_from passes r h)

  placed : (rs : List (Option Range)) → All (IsLive after_adoption) rs → IsSound (record w { forest = after_adoption; ranges = rs })
  placed rs h =
      sound-on w s after_adoption w.made rs (IsWood-alike (IsWood-put s.forest parent n child hp k.there k.root apart_from k.fits) renamed) h
      (λ i j. iterator-alike renamed i (iterator-put s.forest parent n child hp k.there k.root apart_from passes i j)) there_placed

  -- What is left for the nodes that follow.

  pub occurs_placed : (m : ℕ) → occurs m after_adoption ≡ occurs m w.forest
  occurs_placed m = occurs-alike renamed m ∙ total_put m

  pub parent_placed : (m : ℕ) → 0 < occurs m w.forest → parent_of after_adoption m ≡ (if m == n then Some parent else parent_of w.forest m)
  parent_placed m h = parent-alike renamed m ∙ parent-put w.forest s.forest.once parent n child hp k.there k.root apart_from m h

  path_placed : ancestors parent after_adoption ≡ ancestors parent w.forest
  path_placed =
      ancestors-alike renamed parent
      ∙ ancestors-put w.forest s.forest.once parent n child hp k.there k.root apart_from parent hp
      ∙ (rw (hits-not_among n (ancestors parent w.forest) k.outside) (append-nil (ancestors parent w.forest)))

  pub kind_placed : (test : Kind → Bool) (m : ℕ) → kind_passes test after_adoption m ≡ kind_passes test w.forest m
  kind_placed test m = kind-alike renamed test m ∙ kind-put w.forest s.forest.once parent n child hp k.there k.root apart_from test m

  pub index_placed : (c : ℕ) → parent_of w.forest c ≡ Some parent → child ≡ Some c → index_of after_adoption c ≡ index_of w.forest c + 1
  index_placed c e d =
      let j = index-child w.forest c parent e in
      index-alike renamed c
      ∙ index-put w.forest s.forest.once parent n child hp k.there k.root apart_from c parent (child_there w.forest c parent e) hp e
      ∙ moved (index_of w.forest c) (place_before child (children_of w.forest parent)) (ap (λ b. place_before b (children_of w.forest parent)) d ∙ sym j)
    where
      moved : (x k : ℕ) → k ≡ x → x + (if parent == parent then (if nat_le k x then 1 else 0) else 0) ≡ x + 1
      moved x k e = grind (arith, nat_tests)

  -- another root may be put there still
  still_placeable : (m : ℕ) → (n ≡ m → ⊥) → IsPlaceable w.forest parent m → IsPlaceable after_adoption parent m
  still_placeable m ne h =
      let far = ne_eqb m n (λ e. ne (sym e)) in
      record {
        there = subst (λ x. 0 < x) (sym (occurs_placed m)) h.there;
        root = parent_placed m h.there ∙ (rw far h.root);
        outside = ap (hits m) path_placed ∙ h.outside;
        fits = fits-kept w.forest after_adoption kind_placed parent m ∙ h.fits;
      }

  pub all_placeable : (ns : List ℕ) → hits n ns ≡ 0 → ArePlaceable w.forest parent ns → ArePlaceable after_adoption parent ns
  all_placeable [] z h = tt
  all_placeable (m ∷ ns) z h =
      (still_placeable m (λ e. grind (arith, nat_tests)) h.0, h.1, all_placeable ns (omega arith) h.2)

  pub child_placed : (b : Option ℕ) → IsChildOf w.forest parent b → IsChildOf after_adoption parent b
  child_placed None c = tt
  child_placed (Some d) c = parent_placed d (child_there w.forest d parent c) ∙ go (d == n) refl
    where
      go : (v : Bool) → (d == n) ≡ v → (if d == n then Some parent else parent_of w.forest d) ≡ Some parent
      go true t = rw t refl
      go false t = rw t c

pub sound-put_one : (parent n : ℕ) (child : Option ℕ) (w : World) → IsSound w → 0 < occurs parent w.forest → IsPlaceable w.forest parent n → IsChildOf w.forest parent child → IsSound (put_in parent child n (gap_before parent child 1 w))
sound-put_one parent n None w s hp k c = placed parent n None w s hp k w.ranges (gap_all (after_adoption parent n None w s hp k) parent None w c (passes parent n None w s hp k) (range_placed parent n None w s hp k) s.ranges)
sound-put_one parent n (Some d) w s hp k c =
    placed parent n (Some d) w s hp k (gap_before parent (Some d) 1 w).ranges (gap_all (after_adoption parent n (Some d) w s hp k) parent (Some d) w c (passes parent n (Some d) w s hp k) (range_placed parent n (Some d) w s hp k) s.ranges)

-- The gap for several is the gaps for one after another.

pub gap-apart : (parent n : ℕ) (child : Option ℕ) (more : ℕ) (w : World) → IsSound w → 0 < occurs parent w.forest → IsPlaceable w.forest parent n → IsChildOf w.forest parent child → put_in parent child n (gap_before parent child (1 + more) w) ≡ gap_before parent child more (put_in parent child n (gap_before parent child 1 w))
gap-apart parent n None more w s hp k c = refl
gap-apart parent n (Some d) more w s hp k c =
    let i = index_placed parent n (Some d) w s hp k d c refl in
    ap (λ rs. record w { forest = after_adoption parent n (Some d) w s hp k; ranges = rs })
    (sym (ap (λ x. map_ranges (after_gap parent x more) (map_ranges (after_gap parent (index_of w.forest d) 1) w.ranges)) i
    ∙ map_ranges-twice (after_gap parent (index_of w.forest d + 1) more) (after_gap parent (index_of w.forest d) 1) w.ranges
    ∙ ap (λ (g : Point → Point). map_ranges g w.ranges) (fun_ext (gap-more parent (index_of w.forest d) 1 more))))

pub placed-forest : (parent n : ℕ) (child : Option ℕ) (w : World) (s : IsSound w) (hp : 0 < occurs parent w.forest) (k : IsPlaceable w.forest parent n) → (put_in parent child n (gap_before parent child 1 w)).forest ≡ after_adoption parent n child w s hp k
placed-forest parent n None w s hp k = refl
placed-forest parent n (Some d) w s hp k = refl

-- several are put, one after another
pub sound-put_all : (parent : ℕ) (child : Option ℕ) (ns : List ℕ) (w : World) → IsSound w → 0 < occurs parent w.forest → ArePlaceable w.forest parent ns → IsChildOf w.forest parent child → IsSound (put_all parent child ns (gap_before parent child (length ns) w))
sound-put_all parent child [] w s hp k c = subst IsSound (sym (gap_before-none parent child w)) s
sound-put_all parent child (n ∷ ns) w s hp k c =
    let v = put_in parent child n (gap_before parent child 1 w) in
    let e = placed-forest parent n child w s hp k.0 in
    let count : suc (length ns) ≡ 1 + length ns = omega arith in
    let next = sound-put_all parent child ns v (sound-put_one parent n child w s hp k.0 c)
    (subst (λ (g : Forest Content). 0 < occurs parent g) (sym e) (subst (λ x. 0 < x) (sym (occurs_placed parent n child w s hp k.0 parent)) hp))
    (subst (λ (g : Forest Content). ArePlaceable g parent ns) (sym e) (all_placeable parent n child w s hp k.0 ns k.1 k.2))
    (subst (λ (g : Forest Content). IsChildOf g parent child) (sym e) (child_placed parent n child w s hp k.0 child c)) in
    subst (λ x. IsSound (put_all parent child ns (put_in parent child n (gap_before parent child x w)))) (sym count)
    (subst (λ x. IsSound (put_all parent child ns x)) (sym (gap-apart parent n child (length ns) w s hp k.0 c)) next)
