-- Each step asks one end.
use Rattle.std.proofs.Common.{◌≡◌, ℕ, ◌+◌, ◌<◌, ◌++◌, true, false, List, length, map, take, drop, Some, slice_get, slice_index_or, slice_set, refl, sym, ap, ◌∙◌, arith, length-append, length-take, length-drop}
use Rattle.std.proofs.lemmas.{List.Edits.map_over_more, List.length-map, List.set-get_or, Option.get_or_from_slice_get}
use Rattle.dom_model.specs.Definitions.{among, inclusive_descendants, Point}
use Rattle.dom_chains.specs.Keyed.{Keyed}
use Rattle.dom_ranges.specs.{Ends.keyed_end, Ends.moved_end, Tables.moved_in}
use Rattle.dom_ranges.proofs.range_ends.gather.Goals.{then-is_inside, else-is_inside}
use Rattle.dom_ranges.proofs.range_ends.gather.Goals as goal

-- ends of which each of the first has moved
module _ (f : ℕ × ℕ → ℕ × ℕ) (ends now : Keyed ℕ) (id : ℕ) (so_far : now ≡ record ends { items = map f (take id ends.items) ++ drop id ends.items }) where
  long : length now.items ≡ length ends.items
  long =
      omega (
        arith,
        ap (λ (k : Keyed ℕ). length k.items) so_far,
        length-append (map f (take id ends.items)) (drop id ends.items),
        length-map (take id ends.items) f,
        length-take id ends.items,
        length-drop id ends.items,
      )

  -- the next moves so too
  module _ (within : id < length ends.items) (end : ℕ × ℕ) (at : slice_get now.items id ≡ Some end) where
    read : end ≡ slice_index_or now.items id end
    read = sym (get_or_from_slice_get now.items id end end at)

    more : (moved : ℕ × ℕ) (next : Keyed ℕ) → moved ≡ f end → next ≡ record now { items = slice_set now.items id moved } → next ≡ record ends { items = map f (take (id + 1) ends.items) ++ drop (id + 1) ends.items }
    more moved next is set =
        set ∙ ap (λ (e : ℕ × ℕ). record now { items = slice_set now.items id e }) is
        ∙ ap (λ (es : List (ℕ × ℕ)). record now { items = es }) (map_over_more f ends.items now.items id end within (ap (λ (k : Keyed ℕ). k.items) so_far) read)
        ∙ ap (λ (k : Keyed ℕ). record k { items = map f (take (id + 1) ends.items) ++ drop (id + 1) ends.items }) so_far

    stays : now ≡ record now { items = slice_set now.items id end }
    stays = ap (λ (es : List (ℕ × ℕ)). record now { items = es }) (sym (ap (slice_set now.items id) read ∙ set-get_or now.items id end))

pub point-end-requires : goal.point-end-requires
point-end-requires g c =
    let f = moved_end (moved_in (inclusive_descendants c.args.tree.now.forest c.args.top) c.args.to) in
    omega (arith, long f c.args.ends.now c.loop-id.ends c.loop-id.id c.loop-id.invariant, c.loop-id-test.true, c.count-id-end.ensures)

pub loop-id-preserved : goal.loop-id-preserved
loop-id-preserved g c =
    let inside = inclusive_descendants c.args.tree.now.forest c.args.top in
    let f = moved_end (moved_in inside c.args.to) in
    let end = keyed_end c.point-end.result in
    let told : among c.point-end.result.node inside ≡ c.is_inside.result = sym (c.is_inside.ensures ∙ ap (λ (p : Point). among p.node inside) c.end.view_is) in
    let within : c.loop-id.id < length c.args.ends.now.items = omega (arith, c.loop-id-test.true, c.count-id-end.ensures) in
    elim c.if-is_inside.branch [
      | then-is_inside w ↦
          let moves : among c.point-end.result.node inside ≡ true = told ∙ w.if-is_inside.true in
          rw w.ends-is (more f c.args.ends.now c.loop-id.ends c.loop-id.id c.loop-id.invariant within end c.point-end.ensures (keyed_end c.args.to) w.place.new.ends (rw moves refl) w.place.ensures)
      | else-is_inside w ↦
          let rests : among c.point-end.result.node inside ≡ false = told ∙ w.if-is_inside.false in
          rw w.ends-is
          (more f c.args.ends.now c.loop-id.ends c.loop-id.id c.loop-id.invariant within end c.point-end.ensures end c.loop-id.ends (rw rests refl)
          (stays f c.args.ends.now c.loop-id.ends c.loop-id.id c.loop-id.invariant within end c.point-end.ensures))
    ]
