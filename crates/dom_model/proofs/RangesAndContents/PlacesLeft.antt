-- The new place of a live range is a boundary point of each forest that keeps the children ahead of it.
use Rattle.std.proofs.Common.{◌≡◌, ℕ, zero, suc, ◌+◌, ◌<◌, ◌≤◌, ◌==◌, Bool, true, false, ◌&&◌, if◌then◌else◌, List, [], ◌∷◌, filter, find, take, length, Option, Some, None, unwrap_or, option_and_then, option_map, refl, ap, sym, ◌∙◌, subst, arith}
use Rattle.std.proofs.lemmas.{Bool.false≢true, List.length-take-le, Bool.Decides.nat_tests, Bool.false_from_ne_true}
use Rattle.dom_model.specs.Definitions.{hits, among, head_of, place_in, left_out, Entry, is_character_data, may_be_parent, Node, Forest, occurs, entry_in, parent_of, children_of, index_of, ancestors, Content, Point, Range, if_given, entry_has, kind_passes, is_of_kind, is_before, point_after, common_ancestor, new_place, IsBoundary, IsRange}
use Rattle.dom_model.specs.declared.Kind.TheVariants.{DocumentType}
use Rattle.dom_model.proofs.PlainLists.{Places.place-there, Members.hits-last_of}
use Rattle.dom_model.proofs.Forests.{Changes.seen, Changes.nothing, Changes.just, Climbing.hits-first, Climbing.among-hits, Climbing.ancestors-there, Entries.HasNode-occurs, Entries.occurs-HasNode, Paths.parent-path, Paths.root-path, Indices.child-listed, Indices.child-once, Indices.child-parent, Indices.index-child, Chains.way, Climbing.hits-among}
use Rattle.dom_model.proofs.RangesAndContents.{RangesCut.no_doctype, PathsToEnds.holders_above, NewPlaces.past_not_before, NewPlaces.inside_not_before, NewPlaces.IsMeeting, NewPlaces.meeting, DrawnPaths.hits-take, OldTrees.kept_out}
use Rattle.dom_model.proofs.Soundness.{SoundForests.IsWood, SoundForests.entry_there, SoundForests.parent_no_data, SoundForests.parent-passes, SoundWorlds.child_there, SoundEditing.holder_there, SoundPaths.other_kinds}
use Rattle.dom_model.proofs.Worlds.Measured.{length-parent, length-left_out}

-- the new place, under the deepest common ancestor
pub record IsNewPlace (f : Forest Content) (r : Range) (q : Point) : Type 0 where
  pub common : q.node ≡ common_ancestor f r.start.node r.end.node
  pub may_hold : kind_passes may_be_parent f q.node ≡ true
  pub within : q.offset ≤ length (children_of f q.node)
  pub ahead : (c : ℕ) → parent_of f c ≡ Some q.node → index_of f c < q.offset → is_before f r.start (record { node = c; offset = 0 }) ≡ false

may_hold_no_data : (f : Forest Content) (n : ℕ) → 0 < occurs n f → kind_passes is_character_data f n ≡ false → is_of_kind DocumentType f n ≡ false → kind_passes may_be_parent f n ≡ true
may_hold_no_data f n h c d =
    let e = entry_there f n h in
    let c2 = rw e.1 at c in
    let d2 = rw e.1 at d in
    rw e.1 (other_kinds e.0.value.label.kind c2 d2)

data_holds_nothing : (f : Forest Content) (n : ℕ) → kind_passes is_character_data f n ≡ true → kind_passes may_be_parent f n ≡ true → ⊥
data_holds_nothing f n c p = go (entry_in f n) c p
  where
    go : (o : Option (Entry (Node Content))) → entry_has is_character_data o ≡ true → entry_has may_be_parent o ≡ true → ⊥
    go None c p = false≢true c
    go (Some e) c p = false≢true (sym (parent_no_data e.value.label.kind p) ∙ c)

module _ {f : Forest Content} {made : ℕ} (s : IsWood f made) (r : Range) (h : IsRange f r) (apart_data : ((r.start.node == r.end.node) && kind_passes is_character_data f r.start.node) ≡ false) where
  hs : 0 < occurs r.start.node f
  hs = occurs-HasNode f r.start.node h.starts.there

  he : 0 < occurs r.end.node f
  he = occurs-HasNode f r.end.node h.ends.there

  -- a start node above the end node has no data
  no_data : among r.start.node (ancestors r.end.node f) ≡ true → kind_passes is_character_data f r.start.node ≡ false
  no_data a = false_from_ne_true (kind_passes is_character_data f r.start.node) above
    where
      above : kind_passes is_character_data f r.start.node ≡ true → ⊥
      above k =
          let i = among-hits r.start.node (ancestors r.end.node f) a in
          elim (seen (parent_of f r.end.node)) [
            | nothing e ↦ (let j = rw (root-path f s.once r.end.node he e) at i in grind (arith, nat_tests))
            | just u e ↦
                let j = rw (parent-path f s.once r.end.node u he e).1 at i in
                data_holds_nothing f r.start.node k (holders_above f made s r.end.node u r.start.node e (grind (arith, nat_tests)))
          ]

  at_start : among r.start.node (ancestors r.end.node f) ≡ true → IsNewPlace f r r.start
  at_start a =
      let may = may_hold_no_data f r.start.node hs (no_data a) h.starts.kind in
      let top = ancestors-there r.start.node f hs in
      record {
        common = sym (ap (λ ns. unwrap_or (head_of (filter (λ x. among x (ancestors r.end.node f)) ns)) r.start.node) top.1 ∙ (rw a refl));
        may_hold = may;
        within = (let i = h.starts.within in let j = length-parent f r.start.node may in omega arith);
        ahead = λ c e lt. past_not_before f s.once r.start.node c r.start.offset e lt;
      }

  met : among r.start.node (ancestors r.end.node f) ≡ false → IsMeeting f s.once (ancestors r.end.node f) r.start.node
  met a =
      let v = way f s.once r.start.node hs in
      meeting f s.once (ancestors r.end.node f) v.0 r.start.node hs v.1 (hits-among v.0 (ancestors r.end.node f) (hits-last_of (ancestors r.end.node f) v.0 (sym h.one_root ∙ v.1))) a

  behind_nearest : (m : IsMeeting f s.once (ancestors r.end.node f) r.start.node) → IsNewPlace f r (record { node = m.above; offset = index_of f m.nearest + 1 })
  behind_nearest m =
      let hq = child_there f m.nearest m.above m.parent in
      record {
        common = sym (ap (λ o. unwrap_or o r.start.node) m.deepest);
        may_hold = parent-passes s m.nearest m.above m.parent hq;
        within = (let i = place-there m.nearest (children_of f m.above) (child-listed f s.once m.nearest m.above hq m.parent) in let j = index-child f m.nearest m.above m.parent in omega arith);
        ahead = λ c e lt. inside_not_before f s.once m.nearest m.above c r.start.node r.start.offset hs m.on_path m.parent e (omega arith);
      }

  pub place_is : IsNewPlace f r (new_place f r)
  place_is = go (among r.start.node (ancestors r.end.node f)) refl
    where
      go : (v : Bool) → among r.start.node (ancestors r.end.node f) ≡ v → IsNewPlace f r (if v then r.start else unwrap_or (option_and_then (point_after f) (find (λ q. if_given (λ p. among p (ancestors r.end.node f)) (parent_of f q)) (ancestors r.start.node f))) r.start)
      go true a = at_start a
      go false a =
          let m = met a in
          let e : unwrap_or (option_and_then (point_after f) (find (λ q. if_given (λ p. among p (ancestors r.end.node f)) (parent_of f q)) (ancestors r.start.node f))) r.start ≡ record { node = m.above; offset = index_of f m.nearest + 1 } =
          ap (λ o. unwrap_or (option_and_then (point_after f) o) r.start) m.found
          ∙ ap (λ o. unwrap_or (option_map (λ parent. record { node = parent; offset = index_of f m.nearest + 1 }) o) r.start) m.parent in
          subst (IsNewPlace f r) (sym e) (behind_nearest m)

-- Counting children.

pub length_within : (xs ys : List ℕ) → ((m : ℕ) → hits m xs ≤ 1) → ((m : ℕ) → 0 < hits m xs → 0 < hits m ys) → length xs ≤ length ys
length_within [] ys once each = omega arith
length_within (x ∷ xs) ys once each =
    let i = length_within xs (left_out x ys) (λ m. let j = once m in omega arith) (λ m k. let o = once m in grind (arith, nat_tests, each m, kept_out x m ys)) in
    omega (arith, length-left_out x ys, each x (hits-first x xs))

taken_early : (k m : ℕ) (ns : List ℕ) → 0 < hits m (take k ns) → (place_in m ns < k) × (0 < hits m ns)
taken_early zero m ns h = absurd (omega arith)
taken_early (suc k) m [] h = absurd (omega arith)
taken_early (suc k) m (n ∷ ns) h = (grind (arith, nat_tests, taken_early k m ns), grind (arith, nat_tests, taken_early k m ns))

-- where the children ahead of the place stay, it is a boundary point
pub place_stays : (f g : Forest Content) (made more : ℕ) → IsWood f made → IsWood g more → (q : Point) → kind_passes may_be_parent g q.node ≡ true → q.offset ≤ length (children_of f q.node) → ((c : ℕ) → parent_of f c ≡ Some q.node → index_of f c < q.offset → parent_of g c ≡ Some q.node) → IsBoundary g q
place_stays f g made more s t q may h kept =
    record {
      there = HasNode-occurs g q.node (holder_there g q.node may);
      kind = no_doctype g q.node may;
      within = (let a = length-parent g q.node may in let b = length_within early (children_of g q.node) (λ m. let i = hits-take m q.offset (children_of f q.node) in let j = child-once f s.once m q.node in omega arith) listed in let c = length-take-le q.offset (children_of f q.node) h in omega arith);
    }
  where
    early : List ℕ
    early = take q.offset (children_of f q.node)

    listed : (m : ℕ) → 0 < hits m early → 0 < hits m (children_of g q.node)
    listed m k =
        let i = taken_early q.offset m (children_of f q.node) k in
        let e = child-parent f s.once m q.node i.1 in
        let d = kept m e (let a = index-child f m q.node e in let b = i.0 in omega arith) in
        child-listed g t.once m q.node (child_there g m q.node d) d
