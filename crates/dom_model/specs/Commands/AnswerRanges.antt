-- The answers of the commands on live ranges. DOM Standard, "Interface AbstractRange", "Interface Range".
use Rattle.std.specs.Prelude.{ℕ, [], ◌∷◌, length, Bool, Option, Some, None, is_none, Ok, Err}
use Rattle.dom_model.specs.declared.Kind.TheVariants.{Document}
use Rattle.dom_model.specs.declared.DomError.TheVariants.{InvalidNodeTypeError}
use Rattle.dom_model.specs.declared.OwnError.TheVariants.{NoSuchObject}
use Rattle.dom_model.specs.Forests.Kinds.{is_kind}
use Rattle.dom_model.specs.Worlds.World.{Point, Range, World}
use Rattle.dom_model.specs.Commands.Reply.{Number, Flag, Order, Ends, Units, Reply, Done, Dom, Own}
use Rattle.dom_model.specs.Worlds.Lengths.{unit_count}
use Rattle.dom_model.specs.RangesAndContents.Ranges.{start_set, end_set, point_before, point_after, around, contents_of, collapsed_at, collapsed, check_point, check_contents, check_compare, compared, check_point_against, place_against, check_point_in, is_point_in, intersects, common_ancestor, range_at, with_range, made_range, released}
use Rattle.dom_model.specs.RangesAndContents.Contents.{range_text, delete_contents, check_extract, extract, clone_contents}
use Rattle.dom_model.specs.RangesAndContents.Wrapping.{Outcome, insert_node, surround}
use Rattle.dom_model.specs.Commands.Guards.{Bounds, Step, refused, guarded, checked, no_node, wrong_kind, no_room, no_room_for_copies, answers, does}

-- no live range of that number
abbrev pub no_range : ℕ → World → Bool × Reply
no_range r w = (is_none (range_at w r), Own NoSuchObject)

-- a step on a range that is there; one that is not there is refused before
abbrev pub on_range : Option Range → World → (Range → Step) → Step
on_range None w step = refused (Own NoSuchObject) w
on_range (Some range) w step = step range

-- a step to a point beside a node; a node without a parent has none
abbrev pub at_point : Option Point → World → (Point → Step) → Step
at_point None w step = refused (Dom InvalidNodeTypeError) w
at_point (Some p) w step = step p

abbrev pub at_ends : Option Range → World → (Range → Step) → Step
at_ends None w step = refused (Dom InvalidNodeTypeError) w
at_ends (Some ends) w step = step ends

-- a new range, with the next number
abbrev pub makes_range : Range → World → Step
makes_range range w = record { reply = Done (Number (length w.ranges)); world = made_range range w }

abbrev pub answer_create_range : Bounds → ℕ → World → Step
answer_create_range b d w =
    guarded (no_node d w ∷ wrong_kind (is_kind Document) d w ∷ no_room b (length w.ranges) 1 ∷ []) w
    (makes_range (collapsed_at (record { node = d; offset = 0 })) w)

abbrev pub answer_clone_range : Bounds → ℕ → World → Step
answer_clone_range b r w =
    guarded (no_range r w ∷ no_room b (length w.ranges) 1 ∷ []) w (on_range (range_at w r) w (λ range. makes_range range w))

abbrev pub answer_range : Bounds → ℕ → World → Step
answer_range b r w = guarded (no_range r w ∷ []) w (on_range (range_at w r) w (λ range. answers (Ends range) w))

abbrev pub answer_release_range : Bounds → ℕ → World → Step
answer_release_range b r w = guarded (no_range r w ∷ []) w (does (released r w))

abbrev pub answer_set_start : Bounds → ℕ → ℕ → ℕ → World → Step
answer_set_start b r n offset w =
    let p : Point = record { node = n; offset = offset } in
    guarded (no_range r w ∷ no_node n w ∷ []) w
    (checked (check_point unit_count w.forest p) w
    (on_range (range_at w r) w (λ range. does (with_range r (start_set w.forest p range) w))))

abbrev pub answer_set_end : Bounds → ℕ → ℕ → ℕ → World → Step
answer_set_end b r n offset w =
    let p : Point = record { node = n; offset = offset } in
    guarded (no_range r w ∷ no_node n w ∷ []) w
    (checked (check_point unit_count w.forest p) w
    (on_range (range_at w r) w (λ range. does (with_range r (end_set w.forest p range) w))))

-- the start, or the end, set to a point beside a node
abbrev pub sets_start : ℕ → ℕ → Option Point → World → Step
sets_start r n p w =
    guarded (no_range r w ∷ no_node n w ∷ []) w
    (at_point p w (λ p. on_range (range_at w r) w (λ range. does (with_range r (start_set w.forest p range) w))))

abbrev pub sets_end : ℕ → ℕ → Option Point → World → Step
sets_end r n p w =
    guarded (no_range r w ∷ no_node n w ∷ []) w
    (at_point p w (λ p. on_range (range_at w r) w (λ range. does (with_range r (end_set w.forest p range) w))))

abbrev pub answer_set_start_before : Bounds → ℕ → ℕ → World → Step
answer_set_start_before b r n w = sets_start r n (point_before w.forest n) w

abbrev pub answer_set_start_after : Bounds → ℕ → ℕ → World → Step
answer_set_start_after b r n w = sets_start r n (point_after w.forest n) w

abbrev pub answer_set_end_before : Bounds → ℕ → ℕ → World → Step
answer_set_end_before b r n w = sets_end r n (point_before w.forest n) w

abbrev pub answer_set_end_after : Bounds → ℕ → ℕ → World → Step
answer_set_end_after b r n w = sets_end r n (point_after w.forest n) w

abbrev pub answer_collapse : Bounds → ℕ → Bool → World → Step
answer_collapse b r to_start w =
    guarded (no_range r w ∷ []) w (on_range (range_at w r) w (λ range. does (with_range r (collapsed to_start range) w)))

abbrev pub answer_select_node : Bounds → ℕ → ℕ → World → Step
answer_select_node b r n w =
    guarded (no_range r w ∷ no_node n w ∷ []) w (at_ends (around w.forest n) w (λ ends. does (with_range r ends w)))

abbrev pub answer_select_node_contents : Bounds → ℕ → ℕ → World → Step
answer_select_node_contents b r n w =
    guarded (no_range r w ∷ no_node n w ∷ []) w
    (checked (check_contents w.forest n) w (does (with_range r (contents_of unit_count w.forest n) w)))

abbrev pub answer_compare_boundary_points : Bounds → ℕ → ℕ → ℕ → World → Step
answer_compare_boundary_points b r how s w =
    guarded (no_range r w ∷ no_range s w ∷ []) w
    (on_range (range_at w r) w (λ range. on_range (range_at w s) w (λ source.
    checked (check_compare w.forest how range source) w (answers (Order (compared w.forest how range source)) w))))

abbrev pub answer_compare_point : Bounds → ℕ → ℕ → ℕ → World → Step
answer_compare_point b r n offset w =
    let p : Point = record { node = n; offset = offset } in
    guarded (no_range r w ∷ no_node n w ∷ []) w
    (on_range (range_at w r) w (λ range.
    checked (check_point_against unit_count w.forest p range) w (answers (Order (place_against w.forest p range)) w)))

abbrev pub answer_is_point_in_range : Bounds → ℕ → ℕ → ℕ → World → Step
answer_is_point_in_range b r n offset w =
    let p : Point = record { node = n; offset = offset } in
    guarded (no_range r w ∷ no_node n w ∷ []) w
    (on_range (range_at w r) w (λ range.
    checked (check_point_in unit_count w.forest p range) w (answers (Flag (is_point_in w.forest p range)) w)))

abbrev pub answer_intersects_node : Bounds → ℕ → ℕ → World → Step
answer_intersects_node b r n w =
    guarded (no_range r w ∷ no_node n w ∷ []) w
    (on_range (range_at w r) w (λ range. answers (Flag (intersects w.forest n range)) w))

abbrev pub answer_common_ancestor : Bounds → ℕ → World → Step
answer_common_ancestor b r w =
    guarded (no_range r w ∷ []) w
    (on_range (range_at w r) w (λ range. answers (Number (common_ancestor w.forest range.start.node range.end.node)) w))

abbrev pub answer_range_text : Bounds → ℕ → World → Step
answer_range_text b r w = guarded (no_range r w ∷ []) w (on_range (range_at w r) w (λ range. answers (Units (range_text w range)) w))

abbrev pub answer_delete_contents : Bounds → ℕ → World → Step
answer_delete_contents b r w = guarded (no_range r w ∷ []) w (does (delete_contents r w))

abbrev pub answer_extract_contents : Bounds → ℕ → World → Step
answer_extract_contents b r w =
    guarded (no_range r w ∷ no_room_for_copies b w ∷ []) w
    (checked (check_extract r w) w (record { reply = Done (Number w.made); world = extract r w }))

abbrev pub answer_clone_contents : Bounds → ℕ → World → Step
answer_clone_contents b r w =
    guarded (no_range r w ∷ no_room_for_copies b w ∷ []) w
    (checked (check_extract r w) w (record { reply = Done (Number w.made); world = clone_contents r w }))

-- a refusal at any step leaves the world before the first
abbrev pub done_or_refused : Outcome → World → Step
done_or_refused (Ok v) w = does v
done_or_refused (Err e) w = refused (Dom e) w

abbrev pub answer_insert_node : Bounds → ℕ → ℕ → World → Step
answer_insert_node b r n w =
    guarded (no_range r w ∷ no_node n w ∷ no_room b w.made 1 ∷ []) w (done_or_refused (insert_node r n w) w)

abbrev pub answer_surround_contents : Bounds → ℕ → ℕ → World → Step
answer_surround_contents b r n w =
    guarded (no_range r w ∷ no_node n w ∷ no_room_for_copies b w ∷ []) w (done_or_refused (surround r n w) w)
