-- The edits of an insertion leave what the insertion leaves: each node comes into a gap of its own, where the standard makes one for all.
-- DOM Standard, "Mutation algorithms": insert, pre-insert, append.
use Rattle.std.proofs.Common.{◌≡◌, ℕ, suc, ◌+◌, ◌<◌, ◌≤◌, true, List, [], ◌∷◌, length, Option, Some, None, All, slice_get, refl, ap, sym, ◌∙◌, subst, arith, option_map, IfSome}
use Rattle.std.proofs.lemmas.{Bool.le-ltb, Option.slice_get_past, List.Elements.All-head, List.Elements.All-tail}
use Rattle.dom_model.specs.Definitions.{hits, place_in, entered, may_be_parent, Forest, occurs, children_of, index_of, put, Content, Point, Range, World, after_gap, map_ranges, kind_passes, unit_count, node_length, put_in, put_all, gap_before, point, Insertion, index_before, insertions, on_world, IsBoundary, IsRange, IsSound, IsPlaceable, ArePlaceable, IsChildOf, Fits, fits_insertion, moved_range, Lives}
use Rattle.dom_model.proofs.PlainLists.Numbers.{same_or, same, apart}
use Rattle.dom_model.proofs.Forests.{Entries.children-put, Indices.child-listed, Indices.index-child, Siblings.place_in-length}
use Rattle.dom_model.proofs.Worlds.{Measured.length-parent, Measured.length-entered, SameShape.children-alike}
use Rattle.dom_model.proofs.Soundness.{SoundWorlds.IsLive, SoundWorlds.child_there, SoundPlacing.gap_before-none, SoundPlacing.gap-apart, SoundPlacing.placed-forest, SoundPlacing.apart_from, SoundPlacing.passes, SoundPlacing.renamed, SoundPlacing.after_adoption, SoundPlacing.occurs_placed, SoundPlacing.index_placed, SoundPlacing.all_placeable, SoundPlacing.child_placed, SoundPlacing.sound-put_one}
use Rattle.dom_model.proofs.TokenText.{EditsMade.FittingEdits.ready-sound, EditsMade.FittingEdits.holder-no_data, EditsMade.EditsLeave.laid, EditsMade.EditsLeave.Leave, EditsMade.EditsLeave.leave-none, EditsMade.EditsLeave.leave-edit, EditsMade.EditsLeave.leave-then}

-- the child of an index
pub get-place : (n : ℕ) (ns : List ℕ) → 0 < hits n ns → slice_get ns (place_in n ns) ≡ Some n
get-place n [] h = absurd (omega arith)
get-place n (x ∷ xs) h =
    elim (same_or x n) [
      | same e t ↦ rw t (ap (λ k. Some k) e)
      | apart ne t ↦ (let k = rw t at h in let e : 1 + place_in n xs ≡ suc (place_in n xs) = omega arith in rw (t, e) (get-place n xs (omega arith)))
    ]

-- Ends of live ranges that a map leaves.

-- ends that a map leaves
pub lives-stay : (P : Range → Type 0) (move : Point → Point) → ((r : Range) → P r → moved_range move r ≡ r) → (rs : List (Option Range)) → Lives P rs → map_ranges move rs ≡ rs
lives-stay P move stays [] h = refl
lives-stay P move stays (r ∷ rs) h = rw (lives-stay P move stays rs (All-tail (λ (o : Option Range). IfSome o P) r rs h)) (ap (λ x. x ∷ rs) (each r (All-head (λ (o : Option Range). IfSome o P) r rs h)))
  where
    each : (o : Option Range) → IfSome o P → option_map (moved_range move) o ≡ o
    each None k = refl
    each (Some r) k = ap (λ x. Some x) (stays r k)

pub ranges-stay : (f : Forest Content) (move : Point → Point) → ((q : Point) → IsBoundary f q → move q ≡ q) → (rs : List (Option Range)) → All (IsLive f) rs → map_ranges move rs ≡ rs
ranges-stay f move stays rs h = lives-stay (IsRange f) move (λ r k. rw (stays r.start k.starts, stays r.end k.ends) refl) rs h

-- no point of a parent is past its last child
pub gap-last : (f : Forest Content) (parent count : ℕ) → kind_passes may_be_parent f parent ≡ true → (q : Point) → IsBoundary f q → after_gap parent (length (children_of f parent)) count q ≡ q
gap-last f parent count p q b =
    elim (same_or q.node parent) [
      | same e t ↦
          let i = length-parent f parent p in
          let j : q.offset ≤ node_length unit_count f parent = subst (λ n. q.offset ≤ node_length unit_count f n) e b.within in
          rw (t, le-ltb (length (children_of f parent)) q.offset (omega arith)) refl
      | apart ne t ↦ rw t refl
    ]

-- One node comes in.

module _ (parent n : ℕ) (child : Option ℕ) (w : World) (s : IsSound w) (hp : 0 < occurs parent w.forest) (k : IsPlaceable w.forest parent n) (c : IsChildOf w.forest parent child) where
  abbrev pub come_in : World
  come_in = put_in parent child n (gap_before parent child 1 w)

  -- the next one comes in behind it
  index-behind : index_before come_in parent child ≡ suc (index_before w parent child)
  index-behind = go child c refl
    where
      go : (b : Option ℕ) → IsChildOf w.forest parent b → child ≡ b → index_before (put_in parent b n (gap_before parent b 1 w)) parent b ≡ suc (index_before w parent b)
      go None c e =
          let p = put parent n None w.forest in
          let a : children_of (after_adoption parent n None w s hp k) parent ≡ entered None n (children_of w.forest parent) =
          children-alike (renamed parent n None w s hp k) parent
          ∙ children-put w.forest s.forest.once parent n None hp k.there k.root (apart_from parent n None w s hp k) parent hp
          ∙ (elim (same_or parent parent) [ same d t ↦ rw t refl | apart ne t ↦ absurd (ne refl) ]) in
          let l = ap length a ∙ length-entered None n (children_of w.forest parent) in
          omega arith
      go (Some d) c e = let i = index_placed parent n (Some d) w s hp k d c refl in omega arith

  -- and no later than last
  index-within : index_before w parent child ≤ length (children_of w.forest parent)
  index-within = go child c
    where
      go : (b : Option ℕ) → IsChildOf w.forest parent b → index_before w parent b ≤ length (children_of w.forest parent)
      go None c = omega arith
      go (Some d) c = let i = index-child w.forest d parent c in let j = place_in-length d (children_of w.forest parent) in omega arith

  pub come_in-fits : Fits w (Insertion n (point parent (index_before w parent child)))
  come_in-fits =
      fits_insertion n (point parent (index_before w parent child)) k.there k.root hp (apart_from parent n child w s hp k)
      (holder-no_data w.forest parent (passes parent n child w s hp k)) index-within

  pub come_in-edit : on_world (Insertion n (point parent (index_before w parent child))) w ≡ come_in
  come_in-edit = go child c refl
    where
      go : (b : Option ℕ) → IsChildOf w.forest parent b → child ≡ b → on_world (Insertion n (point parent (index_before w parent b))) w ≡ put_in parent b n (gap_before parent b 1 w)
      go None c e =
          ap (λ b. put_in parent b n (record w { ranges = map_ranges (after_gap parent (length (children_of w.forest parent)) 1) w.ranges })) (slice_get_past (children_of w.forest parent) (length (children_of w.forest parent)) (omega arith))
          ∙ ap (λ rs. put_in parent None n (record w { ranges = rs })) (ranges-stay w.forest (after_gap parent (length (children_of w.forest parent)) 1) (gap-last w.forest parent 1 (passes parent n child w s hp k)) w.ranges s.ranges)
      go (Some d) c e =
          let l = child-listed w.forest s.forest.once d parent (child_there w.forest d parent c) c in
          let i = index-child w.forest d parent c in
          ap (λ b. put_in parent b n (record w { ranges = map_ranges (after_gap parent (index_of w.forest d) 1) w.ranges }))
          (ap (slice_get (children_of w.forest parent)) i ∙ get-place d (children_of w.forest parent) l)

-- Several come in, one after another.

pub leave-insertions : (parent : ℕ) (child : Option ℕ) (ns : List ℕ) (w : World) → IsSound w → 0 < occurs parent w.forest → ArePlaceable w.forest parent ns → IsChildOf w.forest parent child →
    Leave (insertions parent (index_before w parent child) ns) w (put_all parent child ns (gap_before parent child (length ns) w))
leave-insertions parent child [] w s hp k c = leave-none w (gap_before parent child 0 w) (ap laid (sym (gap_before-none parent child w)))
leave-insertions parent child (n ∷ ns) w s hp k c =
    let v = come_in parent n child w s hp k.0 c in
    let e = placed-forest parent n child w s hp k.0 in
    let next = leave-insertions parent child ns v (sound-put_one parent n child w s hp k.0 c)
    (subst (λ (g : Forest Content). 0 < occurs parent g) (sym e) (subst (λ x. 0 < x) (sym (occurs_placed parent n child w s hp k.0 parent)) hp))
    (subst (λ (g : Forest Content). ArePlaceable g parent ns) (sym e) (all_placeable parent n child w s hp k.0 ns k.1 k.2))
    (subst (λ (g : Forest Content). IsChildOf g parent child) (sym e) (child_placed parent n child w s hp k.0 child c)) in
    let behind = subst (λ i. Leave (insertions parent i ns) v (put_all parent child ns (gap_before parent child (length ns) v))) (index-behind parent n child w s hp k.0 c) next in
    let count : suc (length ns) ≡ 1 + length ns = omega arith in
    let all : put_all parent child (n ∷ ns) (gap_before parent child (length (n ∷ ns)) w) ≡ put_all parent child ns (gap_before parent child (length ns) v) =
    ap (λ x. put_all parent child ns (put_in parent child n (gap_before parent child x w))) count
    ∙ ap (put_all parent child ns) (gap-apart parent n child (length ns) w s hp k.0 c) in
    subst (λ u. Leave (insertions parent (index_before w parent child) (n ∷ ns)) w u) (sym all)
    (leave-then (Insertion n (point parent (index_before w parent child)) ∷ []) (insertions parent (suc (index_before w parent child)) ns) w v (put_all parent child ns (gap_before parent child (length ns) v))
    (leave-edit (Insertion n (point parent (index_before w parent child))) w v (ready-sound w s) (come_in-fits parent n child w s hp k.0 c) (ap laid (come_in-edit parent n child w s hp k.0 c)))
    behind)
