-- The answers of the commands on ranges, as the world of the code tells them.
use Rattle.std.proofs.Common.{◌≡◌, ℕ, ◌+◌, nat_lt, Bool, true, false, [], ◌∷◌, ◌++◌, length, Option, Some, None, Ok, Err, refl, sym, ap, ◌∙◌, is_some, is_none, slice_set, option_map}
use Rattle.dom_model.specs.declared.{Kind.TheVariants.Document, DomError.DomError, DomError.TheVariants.InvalidNodeTypeError}
use Rattle.dom_model.specs.Definitions.{Forest, entry_in, parent_of, index_of, unit_count, Content, Point, Range, CreateRange, CloneRange, SetStart, SetEnd, SetStartBefore, SetStartAfter, SetEndBefore, SetEndAfter, Collapse, SelectNode, SelectNodeContents, ComparePoint, IsPointInRange, CreateStaticRange, Bounds, answer, sets_start, sets_end, first_refusal, is_of_kind, same_root, start_set, end_set, point_before, point_after, around, contents_of, collapsed_at, collapsed, check_point, check_parent, check_contents, place_against, is_point_in, check_static}
use Rattle.dom_model.specs.Worlds.World as model
use Rattle.dom_model.specs.Commands.Reply as model_reply
use Rattle.dom_ranges.specs.Tables.{range_in, result_of_check}
use Rattle.dom_edit.specs.{declared.world.World.World, Whole.Shows}
use Rattle.dom_session.proofs.TreeEdits.{not-none}

-- an answer without refusal
pub passed : (o : Option DomError) (u : Unit {0}) → Ok u ≡ result_of_check o → o ≡ None
passed None u h = refl
passed (Some e) u h = absurd (cc h)

-- the refusal that an answer tells
pub told : (o : Option DomError) (e : DomError) → Err e ≡ result_of_check o → o ≡ Some e
told None e h = absurd (cc h)
told (Some x) e h = let same : x ≡ e = cc h in ap (λ y. Some y) same

-- a node that has a parent has a range around it
pub around-there : (f : Forest Content) (n : ℕ) → check_parent f n ≡ None → is_some (around f n) ≡ true
around-there f n h = go (parent_of f n) h
  where
    check_at : Option ℕ → Option DomError
    check_at p = first_refusal ((is_none p, InvalidNodeTypeError) ∷ [])

    go : (p : Option ℕ) → check_at p ≡ None → is_some {T = Range} (option_map (λ parent. record {
      start = record { node = parent; offset = index_of f n };
      end = record { node = parent; offset = index_of f n + 1 };
    }) p) ≡ true
    go None k = absurd (cc k)
    go (Some parent) k = refl

module _ (v : World) (b : Bounds) (w : model.World) (shown : Shows v w) where
  pub answer-create_range : (d : ℕ) → is_some (entry_in v.tree.forest d) ≡ true → is_of_kind Document v.tree.forest d ≡ true → nat_lt b.numbers (length v.ranges.ranges + 1) ≡ false → answer b w (CreateRange d) ≡ record { reply = model_reply.Done (model_reply.Number (length v.ranges.ranges)); world = record w { ranges = v.ranges.ranges ++ Some (collapsed_at (record { node = d; offset = 0 })) ∷ [] } }
  answer-create_range d there kind room =
      rw (shown.keeps.forest, shown.keeps.ranges, not-none (entry_in v.tree.forest d) there, kind, room) refl

  pub answer-clone_range : (r : ℕ) (range : Range) → range_in v.ranges r ≡ Some range → nat_lt b.numbers (length v.ranges.ranges + 1) ≡ false → answer b w (CloneRange r) ≡ record { reply = model_reply.Done (model_reply.Number (length v.ranges.ranges)); world = record w { ranges = v.ranges.ranges ++ Some range ∷ [] } }
  answer-clone_range r range held room = rw (shown.keeps.ranges, held, room) refl

  -- what stands for a node and a range that are held
  module _ (r n : ℕ) (live : is_some (range_in v.ranges r) ≡ true) (there : is_some (entry_in v.tree.forest n) ≡ true) where
    pub answer-set_start : (offset : ℕ) (range : Range) → range_in v.ranges r ≡ Some range → check_point unit_count v.tree.forest (record { node = n; offset = offset }) ≡ None → answer b w (SetStart r n offset) ≡ record { reply = model_reply.Done model_reply.Nothing; world = record w { ranges = slice_set v.ranges.ranges r (Some (start_set v.tree.forest (record { node = n; offset = offset }) range)) } }
    answer-set_start offset range held check = rw (shown.keeps.forest, shown.keeps.ranges, not-none (entry_in v.tree.forest n) there, held, check) refl

    pub answer-set_end : (offset : ℕ) (range : Range) → range_in v.ranges r ≡ Some range → check_point unit_count v.tree.forest (record { node = n; offset = offset }) ≡ None → answer b w (SetEnd r n offset) ≡ record { reply = model_reply.Done model_reply.Nothing; world = record w { ranges = slice_set v.ranges.ranges r (Some (end_set v.tree.forest (record { node = n; offset = offset }) range)) } }
    answer-set_end offset range held check = rw (shown.keeps.forest, shown.keeps.ranges, not-none (entry_in v.tree.forest n) there, held, check) refl

    pub refusal-set_start : (offset : ℕ) (e : DomError) → check_point unit_count v.tree.forest (record { node = n; offset = offset }) ≡ Some e → answer b w (SetStart r n offset) ≡ record { reply = model_reply.Dom e; world = w }
    refusal-set_start offset e check = rw (shown.keeps.forest, shown.keeps.ranges, not-none (range_in v.ranges r) live, not-none (entry_in v.tree.forest n) there, check) refl

    pub refusal-set_end : (offset : ℕ) (e : DomError) → check_point unit_count v.tree.forest (record { node = n; offset = offset }) ≡ Some e → answer b w (SetEnd r n offset) ≡ record { reply = model_reply.Dom e; world = w }
    refusal-set_end offset e check = rw (shown.keeps.forest, shown.keeps.ranges, not-none (range_in v.ranges r) live, not-none (entry_in v.tree.forest n) there, check) refl

    pub answer-sets_start : (o : Option Point) (p : Point) (range : Range) → o ≡ Some p → range_in v.ranges r ≡ Some range → sets_start r n o w ≡ record { reply = model_reply.Done model_reply.Nothing; world = record w { ranges = slice_set v.ranges.ranges r (Some (start_set v.tree.forest p range)) } }
    answer-sets_start o p range is held = rw (is, shown.keeps.forest, shown.keeps.ranges, not-none (entry_in v.tree.forest n) there, held) refl

    pub answer-sets_end : (o : Option Point) (p : Point) (range : Range) → o ≡ Some p → range_in v.ranges r ≡ Some range → sets_end r n o w ≡ record { reply = model_reply.Done model_reply.Nothing; world = record w { ranges = slice_set v.ranges.ranges r (Some (end_set v.tree.forest p range)) } }
    answer-sets_end o p range is held = rw (is, shown.keeps.forest, shown.keeps.ranges, not-none (entry_in v.tree.forest n) there, held) refl

    pub answer-select_node : (ends : Range) → around v.tree.forest n ≡ Some ends → answer b w (SelectNode r n) ≡ record { reply = model_reply.Done model_reply.Nothing; world = record w { ranges = slice_set v.ranges.ranges r (Some ends) } }
    answer-select_node ends is = rw (shown.keeps.forest, shown.keeps.ranges, not-none (range_in v.ranges r) live, not-none (entry_in v.tree.forest n) there, is) refl

    pub answer-select_node_contents : check_contents v.tree.forest n ≡ None → answer b w (SelectNodeContents r n) ≡ record { reply = model_reply.Done model_reply.Nothing; world = record w { ranges = slice_set v.ranges.ranges r (Some (contents_of unit_count v.tree.forest n)) } }
    answer-select_node_contents check = rw (shown.keeps.forest, shown.keeps.ranges, not-none (range_in v.ranges r) live, not-none (entry_in v.tree.forest n) there, check) refl

    pub refusal-select_node_contents : (e : DomError) → check_contents v.tree.forest n ≡ Some e → answer b w (SelectNodeContents r n) ≡ record { reply = model_reply.Dom e; world = w }
    refusal-select_node_contents e check = rw (shown.keeps.forest, shown.keeps.ranges, not-none (range_in v.ranges r) live, not-none (entry_in v.tree.forest n) there, check) refl

    module _ (offset : ℕ) (range : Range) (held : range_in v.ranges r ≡ Some range) (root : same_root v.tree.forest n range.start.node ≡ true) where
      pub answer-compare_point : check_point unit_count v.tree.forest (record { node = n; offset = offset }) ≡ None → answer b w (ComparePoint r n offset) ≡ record { reply = model_reply.Done (model_reply.Order (place_against v.tree.forest (record { node = n; offset = offset }) range)); world = w }
      answer-compare_point check = rw (shown.keeps.forest, shown.keeps.ranges, not-none (entry_in v.tree.forest n) there, held, root, check) refl

      pub refusal-compare_point : (e : DomError) → check_point unit_count v.tree.forest (record { node = n; offset = offset }) ≡ Some e → answer b w (ComparePoint r n offset) ≡ record { reply = model_reply.Dom e; world = w }
      refusal-compare_point e check = rw (shown.keeps.forest, shown.keeps.ranges, not-none (entry_in v.tree.forest n) there, held, root, check) refl

      pub answer-is_point_in_range : check_point unit_count v.tree.forest (record { node = n; offset = offset }) ≡ None → answer b w (IsPointInRange r n offset) ≡ record { reply = model_reply.Done (model_reply.Flag (is_point_in v.tree.forest (record { node = n; offset = offset }) range)); world = w }
      answer-is_point_in_range check = rw (shown.keeps.forest, shown.keeps.ranges, not-none (entry_in v.tree.forest n) there, held, root, check) refl

      pub refusal-is_point_in_range : (e : DomError) → check_point unit_count v.tree.forest (record { node = n; offset = offset }) ≡ Some e → answer b w (IsPointInRange r n offset) ≡ record { reply = model_reply.Dom e; world = w }
      refusal-is_point_in_range e check = rw (shown.keeps.forest, shown.keeps.ranges, not-none (entry_in v.tree.forest n) there, held, root, check) refl

  pub answer-collapse : (r : ℕ) (to_start : Bool) (range : Range) → range_in v.ranges r ≡ Some range → answer b w (Collapse r to_start) ≡ record { reply = model_reply.Done model_reply.Nothing; world = record w { ranges = slice_set v.ranges.ranges r (Some (collapsed to_start range)) } }
  answer-collapse r to_start range held = rw (shown.keeps.ranges, held) refl

  -- a point beside a node
  module _ (r n : ℕ) (o : Option Point) where
    pub answer-set_start_before : o ≡ point_before v.tree.forest n → answer b w (SetStartBefore r n) ≡ sets_start r n o w
    answer-set_start_before is = ap (λ p. sets_start r n p w) (ap (λ f. point_before f n) shown.keeps.forest ∙ sym is)

    pub answer-set_start_after : o ≡ point_after v.tree.forest n → answer b w (SetStartAfter r n) ≡ sets_start r n o w
    answer-set_start_after is = ap (λ p. sets_start r n p w) (ap (λ f. point_after f n) shown.keeps.forest ∙ sym is)

    pub answer-set_end_before : o ≡ point_before v.tree.forest n → answer b w (SetEndBefore r n) ≡ sets_end r n o w
    answer-set_end_before is = ap (λ p. sets_end r n p w) (ap (λ f. point_before f n) shown.keeps.forest ∙ sym is)

    pub answer-set_end_after : o ≡ point_after v.tree.forest n → answer b w (SetEndAfter r n) ≡ sets_end r n o w
    answer-set_end_after is = ap (λ p. sets_end r n p w) (ap (λ f. point_after f n) shown.keeps.forest ∙ sym is)

  module _ (start end : Point) (first : is_some (entry_in v.tree.forest start.node) ≡ true) (last : is_some (entry_in v.tree.forest end.node) ≡ true) (room : nat_lt b.numbers (length v.statics + 1) ≡ false) where
    pub answer-create_static_range : check_static v.tree.forest start.node end.node ≡ None → answer b w (CreateStaticRange start end) ≡ record { reply = model_reply.Done (model_reply.Number (length v.statics)); world = record w { static_ranges = v.statics ++ Some (record { start = start; end = end }) ∷ [] } }
    answer-create_static_range check = rw (shown.keeps.forest, shown.keeps.static_ranges, not-none (entry_in v.tree.forest start.node) first, not-none (entry_in v.tree.forest end.node) last, room, check) refl

    pub refusal-create_static_range : (e : DomError) → check_static v.tree.forest start.node end.node ≡ Some e → answer b w (CreateStaticRange start end) ≡ record { reply = model_reply.Dom e; world = w }
    refusal-create_static_range e check = rw (shown.keeps.forest, shown.keeps.static_ranges, not-none (entry_in v.tree.forest start.node) first, not-none (entry_in v.tree.forest end.node) last, room, check) refl
