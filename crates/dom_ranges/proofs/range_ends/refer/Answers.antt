-- Each step asks one end.
use Rattle.std.proofs.Common.{◌≡◌, ℕ, ◌+◌, Bool, true, false, ◌||◌, List, drop, Some, slice_get, sym, ap, ◌∙◌}
use Rattle.std.specs.List.{list_any}
use Rattle.std.proofs.lemmas.{List.at_drop_more, Option.slice_get_within, Option.get_or_from_slice_get}
use Rattle.dom_model.specs.Definitions.{among, inclusive_descendants, Point}
use Rattle.dom_chains.specs.Keyed.{keys_of}
use Rattle.dom_ranges.specs.Ends.{keyed_end}
use Rattle.dom_ranges.proofs.range_ends.refer.Goals as goal

-- the next end, and those behind it
next : (p : ℕ → Bool) (ends : List (ℕ × ℕ)) (id : ℕ) (end : ℕ × ℕ) → slice_get ends id ≡ Some end → list_any p (keys_of (drop id ends)) ≡ (p end.0 || list_any p (keys_of (drop (id + 1) ends)))
next p ends id end at =
    at_drop_more (λ es. list_any p (keys_of es)) ends id end (slice_get_within ends id end at)
    ∙ ap (λ (e : ℕ × ℕ). p e.0 || list_any p (keys_of (drop (id + 1) ends))) (get_or_from_slice_get ends id end end at)

pub returns-then-is_inside : goal.returns-then-is_inside
returns-then-is_inside g c =
    let inside = λ (m : ℕ). among m (inclusive_descendants c.args.tree.now.forest c.args.top) in
    let told : inside c.point-end.result.node ≡ true = sym (c.is_inside.ensures ∙ ap (λ (p : Point). inside p.node) c.end.view_is) ∙ c.if-is_inside.true in
    sym (next inside c.args.ends.now.items c.loop-id.id (keyed_end c.point-end.result) c.point-end.ensures ∙ ap (λ b. b || list_any inside (keys_of (drop (c.loop-id.id + 1) c.args.ends.now.items))) told)
    ∙ c.loop-id.invariant

pub loop-id-preserved : goal.loop-id-preserved
loop-id-preserved g c =
    let inside = λ (m : ℕ). among m (inclusive_descendants c.args.tree.now.forest c.args.top) in
    let told : inside c.point-end.result.node ≡ false = sym (c.is_inside.ensures ∙ ap (λ (p : Point). inside p.node) c.end.view_is) ∙ c.if-is_inside.false in
    sym (next inside c.args.ends.now.items c.loop-id.id (keyed_end c.point-end.result) c.point-end.ensures ∙ ap (λ b. b || list_any inside (keys_of (drop (c.loop-id.id + 1) c.args.ends.now.items))) told)
    ∙ c.loop-id.invariant
