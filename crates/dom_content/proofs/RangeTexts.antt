-- The text of a live range, put together of its pieces. DOM Standard, "Interface Range", stringification.
use Rattle.std.proofs.Common.{◌≡◌, ℕ, ◌-◌, ◌<◌, ◌≤◌, ◌==◌, Bool, true, false, ◌&&◌, if◌then◌else◌, List, [], ◌∷◌, ◌++◌, length, filter, flat_map, Some, refl, ap, sym, ◌∙◌, subst, append_assoc, cond, arith, ⊎_elim}
use Rattle.std.proofs.lemmas.Bool.{false≢true, cases_lt}
use Rattle.dom_model.specs.declared.Kind.TheVariants.{Text}
use Rattle.dom_model.specs.Definitions.{Forest, Grove, numbers, entry_in, unit_count, Content, Point, Range, IsRange, order_of, is_of_kind, is_contained, contained_in, range_text, text_between, content_in, joined_data}
use Rattle.dom_model.proofs.PlainLists.Numbers.{same_or, same, apart}
use Rattle.dom_model.proofs.BoundaryPoints.PointOrder.{nat_cmp-greater, order-one_node}
use Rattle.dom_model.proofs.TokenText.EditsMade.EditsOfDrawnContents.{sound-range}
use Rattle.dom_ranges.specs.Tables.{range_in}
use Rattle.dom_edit.specs.{declared.world.World.World, Whole.IsWhole, Whole.unwatched}
use Rattle.dom_data.proofs.IsWholeLemmas.{sound-unwatched}
use Rattle.dom_content.specs.RangeTexts.{part_of, text_within, texts_within}
use Rattle.dom_content.proofs.PartsBetween.{TellsContained}

and-last : (a : Bool) → (a && false) ≡ false
and-last true = refl
and-last false = refl

-- no text is told of a node that is not contained
pub texts-contained : (g : Grove Content) (r : Range) → TellsContained g r (text_within g.forest r)
texts-contained g r = λ n e. rw (e, and-last (is_of_kind Text g.forest n)) refl

pub range-held : (v : World) → IsWhole v → (r : ℕ) (range : Range) → range_in v.ranges r ≡ Some range → IsRange v.tree.forest range
range-held v h r range e = sound-range (unwatched v) r range (sound-unwatched v h) e

-- two points of one node
pub offsets-ordered : (f : Forest Content) (range : Range) → IsRange f range → range.start.node ≡ range.end.node → range.start.offset ≤ range.end.offset
offsets-ordered f range is e =
    ⊎_elim
    (λ (lt : range.end.offset < range.start.offset).
    absurd (is.in_order (ap (λ m. order_of f range.start (record { node = m; offset = range.end.offset })) (sym e) ∙ order-one_node f range.start.node range.start.offset range.end.offset ∙ nat_cmp-greater range.start.offset range.end.offset lt)))
    (λ (le : range.start.offset ≤ range.end.offset). le)
    (cases_lt range.end.offset range.start.offset)

within-filtered : (v : World) (range : Range) (ns : List ℕ) → flat_map (text_within v.tree.forest range) ns ≡ joined_data (unwatched v) (filter (λ n. is_of_kind Text v.tree.forest n && contained_in (unwatched v) range n) ns)
within-filtered v range [] = refl
within-filtered v range (n ∷ ns) = go (is_of_kind Text v.tree.forest n && is_contained unit_count v.tree.forest range n) (filter (λ n. is_of_kind Text v.tree.forest n && contained_in (unwatched v) range n) ns) (within-filtered v range ns)
  where
    go : (b : Bool) (chosen : List ℕ) → flat_map (text_within v.tree.forest range) ns ≡ joined_data (unwatched v) chosen
        → (if b then (content_in (entry_in v.tree.forest n)).text else []) ++ flat_map (text_within v.tree.forest range) ns ≡ joined_data (unwatched v) (cond b (n ∷ chosen) chosen)
    go true chosen i = ap (λ us. (content_in (entry_in v.tree.forest n)).text ++ us) i
    go false chosen i = i

-- the pieces make the text
pub pieces-text : (v : World) (range : Range) (text : List ℕ) → ((range.start.node == range.end.node) && is_of_kind Text v.tree.forest range.start.node) ≡ false
    → text ≡ (part_of v.tree.forest range.start.node range.start.offset (length (content_in (entry_in v.tree.forest range.start.node)).text - range.start.offset) ++ texts_within v.tree.forest range) ++ part_of v.tree.forest range.end.node 0 range.end.offset
    → text ≡ range_text (unwatched v) range
pieces-text v range text far e =
    let first = part_of v.tree.forest range.start.node range.start.offset (length (content_in (entry_in v.tree.forest range.start.node)).text - range.start.offset) in
    let last = part_of v.tree.forest range.end.node 0 range.end.offset in
    let all : text ≡ text_between (unwatched v) range =
    e ∙ append_assoc (part_of v.tree.forest range.start.node range.start.offset (length (content_in (entry_in v.tree.forest range.start.node)).text - range.start.offset)) (texts_within v.tree.forest range) (part_of v.tree.forest range.end.node 0 range.end.offset)
    ∙ ap (λ us. part_of v.tree.forest range.start.node range.start.offset (length (content_in (entry_in v.tree.forest range.start.node)).text - range.start.offset) ++ (us ++ part_of v.tree.forest range.end.node 0 range.end.offset)) (within-filtered v range (numbers v.tree.forest)) in
    let way : range_text (unwatched v) range ≡ text_between (unwatched v) range = rw far refl in
    all ∙ sym way

-- the same of the two ends as they were read
pub ahead-of : (f : Forest Content) (range : Range) (s e : Point) → IsRange f range → s ≡ range.start → e ≡ range.end → (s.node == e.node) ≡ true → s.offset ≤ e.offset
ahead-of f range s e is ds de h =
    let d : s.node ≡ e.node = elim (same_or s.node e.node) [ same d t ↦ d | apart ne t ↦ absurd (false≢true (sym t ∙ h)) ] in
    let l = offsets-ordered f range is (sym (ap (λ p. p.node) ds) ∙ d ∙ ap (λ p. p.node) de) in
    let i = ap (λ p. p.offset) ds in
    let j = ap (λ p. p.offset) de in
    omega arith

pub apart-kinds : (f : Forest Content) (range : Range) (s e : Point) → s ≡ range.start → e ≡ range.end → is_of_kind Text f s.node ≡ false → ((range.start.node == range.end.node) && is_of_kind Text f range.start.node) ≡ false
apart-kinds f range s e ds de h =
    subst (λ p. ((p.node == range.end.node) && is_of_kind Text f p.node) ≡ false) ds (rw h (last (s.node == range.end.node)))
  where
    last : (b : Bool) → (b && false) ≡ false
    last true = refl
    last false = refl

pub apart-nodes : (f : Forest Content) (range : Range) (s e : Point) → s ≡ range.start → e ≡ range.end → (s.node == e.node) ≡ false → ((range.start.node == range.end.node) && is_of_kind Text f range.start.node) ≡ false
apart-nodes f range s e ds de h =
    subst (λ p. ((p.node == range.end.node) && is_of_kind Text f p.node) ≡ false) ds
    (subst (λ q. ((s.node == q.node) && is_of_kind Text f s.node) ≡ false) de (rw h refl))

pub none-less : (n : ℕ) → n - 0 ≡ n
none-less n = omega arith
