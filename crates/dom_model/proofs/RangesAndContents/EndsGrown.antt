-- A live range that ends ahead of what comes in may end behind it. DOM Standard, "Interface Range": insert.
use Rattle.std.proofs.Common.{◌≡◌, ℕ, ◌+◌, ◌<◌, ◌≤◌, Bool, true, false, if◌then◌else◌, [], ◌∷◌, ◌++◌, length, Option, Some, None, ap, sym, ◌∙◌, subst, arith, length-append, ◌⊎◌, inl, inr, ⊎_elim, Greater}
use Rattle.std.proofs.lemmas.Bool.{cases_lt}
use Rattle.dom_model.specs.Definitions.{hits, may_be_parent, Forest, parent_of, children_of, root_of, Content, Point, Range, World, place_of, order_of, moved_range, kind_passes, is_fragment, nodes_of, insert, offset_past, IsBoundary, IsRange, IsSound, IsChildOf, IsInsertable}
use Rattle.dom_model.proofs.PlainLists.{Numbers.same_or, Numbers.same, Numbers.apart, Places.place_before, Places.place-there}
use Rattle.dom_model.proofs.Forests.{Climbing.hits-append, Entries.HasNode-occurs, Indices.child-listed, Indices.child-once, Indices.child-parent, Indices.child-there, Indices.index-child, Listed.hits-other}
use Rattle.dom_model.proofs.BoundaryPoints.{MovedPoints.moved-range, MovedPoints.KeepsPoint, GapsKept.between, GapsKept.position, GapsKept.ahead, GapsKept.fragment_child, GapsKept.keeps_ahead, PointOrder.order-later}
use Rattle.dom_model.proofs.RangesAndContents.{RangesCut.no_doctype, PlacesLeft.length_within}
use Rattle.dom_model.proofs.Worlds.Measured.{length-parent}
use Rattle.dom_model.proofs.Soundness.{SoundWorlds.child_there, SoundInserting.sound-insert}
use Rattle.dom_model.proofs.MutationAlgorithms.Extending.{IsPut, put_by_insert}

module _ (n parent : ℕ) (child : Option ℕ) (w : World) (s : IsSound w) (root : parent_of w.forest n ≡ None) (k : IsInsertable w.forest n parent child) where
  abbrev pub after : World
  after = insert false n parent child w

  pub sound_after : IsSound after
  sound_after = sound-insert false n parent child w s k

  put : IsPut w.forest after.forest parent (nodes_of w n)
  put = put_by_insert false n parent child w s k

  -- what comes in is not among the children yet
  once_more : (m : ℕ) → hits m (children_of w.forest parent) + hits m (nodes_of w n) ≤ 1
  once_more m = go (is_fragment w n)
    where
      go : (v : Bool) → hits m (children_of w.forest parent) + hits m (if v then children_of w.forest n else n ∷ []) ≤ 1
      go true =
          grind (arith, fragment_child n parent child w s root k m, child-once w.forest s.forest.once m n, child-once w.forest s.forest.once m parent)
      go false =
          elim (same_or m n) [
            | same e t ↦
                let no : 0 < hits m (children_of w.forest parent) → ⊥ = λ lt.
                let b : None ≡ Some parent = sym root ∙ ap (parent_of w.forest) (sym e) ∙ child-parent w.forest s.forest.once m parent lt in
                cc b in
                omega (arith, once_one m)
            | apart ne t ↦ (let i = hits-other m n [] (λ d. ne (sym d)) in let j = child-once w.forest s.forest.once m parent in omega arith)
          ]
        where
          once_one : (m : ℕ) → hits m (n ∷ []) ≤ 1
          once_one m = elim (same_or n m) [ same e t ↦ rw t (omega arith) | apart ne t ↦ rw t (omega arith) ]

  all_listed : (m : ℕ) → 0 < hits m (children_of w.forest parent ++ nodes_of w n) → 0 < hits m (children_of after.forest parent)
  all_listed m h =
      let a = hits-append m (children_of w.forest parent) (nodes_of w n) in
      let o = once_more m in
      ⊎_elim
      (λ (lt : 0 < hits m (nodes_of w n)). let e = put.put_under m lt in child-listed after.forest sound_after.forest.once m parent (child_there after.forest m parent e) e)
      (λ (le : hits m (nodes_of w n) ≤ 0).
      let lt : 0 < hits m (children_of w.forest parent) = omega arith in
      let hm = child-there w.forest s.forest.once m parent lt in
      let e = put.extends.parents m hm (omega arith) ∙ child-parent w.forest s.forest.once m parent lt in
      child-listed after.forest sound_after.forest.once m parent (child_there after.forest m parent e) e)
      (cases_lt 0 (hits m (nodes_of w n)))

  grown : length (children_of w.forest parent) + length (nodes_of w n) ≤ length (children_of after.forest parent)
  grown =
      let a = length_within (children_of w.forest parent ++ nodes_of w n) (children_of after.forest parent) (λ m. let i = hits-append m (children_of w.forest parent) (nodes_of w n) in let j = once_more m in omega arith) all_listed in
      let b = length-append (children_of w.forest parent) (nodes_of w n) in
      omega arith

  pub position_within : position n parent child w s root k ≤ length (children_of w.forest parent)
  position_within = go child k.before_child
    where
      go : (b : Option ℕ) → IsChildOf w.forest parent b → place_before b (children_of w.forest parent) ≤ length (children_of w.forest parent)
      go None c = omega arith
      go (Some d) c = let i = place-there d (children_of w.forest parent) (child-listed w.forest s.forest.once d parent (child_there w.forest d parent c) c) in omega arith

  -- the point behind all that came in
  abbrev pub behind : Point
  behind = record { node = parent; offset = position n parent child w s root k + length (nodes_of w n) }

  pub behind_is : offset_past w parent child n ≡ position n parent child w s root k + length (nodes_of w n)
  behind_is = go child k.before_child
    where
      go : (b : Option ℕ) → IsChildOf w.forest parent b → offset_past w parent b n ≡ place_before b (children_of w.forest parent) + length (nodes_of w n)
      go None c = ap (λ l. l + length (nodes_of w n)) (length-parent w.forest parent k.may_hold)
      go (Some d) c = ap (λ l. l + length (nodes_of w n)) (index-child w.forest d parent c)

  holds_after : kind_passes may_be_parent after.forest parent ≡ true
  holds_after = put.extends.kinds may_be_parent parent k.parent_there ∙ k.may_hold

  boundary_behind : IsBoundary after.forest behind
  boundary_behind =
      record {
        there = HasNode-occurs after.forest parent (put.extends.there parent k.parent_there);
        kind = no_doctype after.forest parent holds_after;
        within = (let a = length-parent after.forest parent holds_after in let b = grown in let c = position_within in omega arith);
      }

  pub boundary_ahead : IsBoundary w.forest (ahead n parent child w s root k)
  boundary_ahead =
      record {
        there = HasNode-occurs w.forest parent k.parent_there;
        kind = no_doctype w.forest parent k.may_hold;
        within = (let a = length-parent w.forest parent k.may_hold in let b = position_within in omega arith);
      }

  pub keeps : KeepsPoint (insert false n parent child) w (ahead n parent child w s root k)
  keeps = keeps_ahead n parent child w s root k

  still_sound : (v : World) → IsSound v → v.forest ≡ w.forest → v.made ≡ w.made → IsSound (insert false n parent child v)
  still_sound v sv e d = sound-insert false n parent child v sv (subst (λ (g : Forest Content). IsInsertable g n parent child) (sym e) k)

  pub moved_ends : Point → Point
  moved_ends = keeps.by.moves

  -- a range from a start that is not past the point ahead, to behind what came in
  pub range_behind : (range : Range) → IsRange w.forest range → IsRange w.forest (record { start = range.start; end = ahead n parent child w s root k }) → IsRange after.forest (record (moved_range keeps.by.moves range) { end = behind })
  range_behind range h x =
      let a = moved-range (insert false n parent child) w keeps.by s still_sound range h in
      let b = moved-range (insert false n parent child) w keeps.by s still_sound (record { start = range.start; end = ahead n parent child w s root k }) x in
      record {
        starts = a.starts;
        ends = boundary_behind;
        one_root = b.one_root ∙ ap (λ (q : Point). root_of after.forest q.node) keeps.kept;
        in_order = λ g. from b (between (place_of after.forest (keeps.by.moves range.start)) (place_of after.forest (ahead n parent child w s root k)) (place_of after.forest behind) g);
      }
    where
      from : IsRange after.forest (moved_range keeps.by.moves (record { start = range.start; end = ahead n parent child w s root k })) → (order_of after.forest (keeps.by.moves range.start) (ahead n parent child w s root k) ≡ Greater) ⊎ (order_of after.forest (ahead n parent child w s root k) behind ≡ Greater) → ⊥
      from b (inl g) = b.in_order (ap (order_of after.forest (keeps.by.moves range.start)) keeps.kept ∙ g)
      from b (inr g) = order-later after.forest parent (position n parent child w s root k) (position n parent child w s root k + length (nodes_of w n)) (omega arith) g
