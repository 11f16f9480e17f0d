use Rattle.std.proofs.Common.{refl}
use Rattle.std.proofs.lemmas.Result.{on_ok_weaker}
use Rattle.dom_model.specs.Definitions.{Range}
use Rattle.dom_model.proofs.Soundness.{SoundDeleting.offset_of_start, SoundSplitting.text_has_data}
use Rattle.dom_model.proofs.TokenText.EditsMade.EditsOfDrawnContents.{sound-range}
use Rattle.dom_edit.specs.Whole.{unwatched}
use Rattle.dom_edit.proofs.FollowsLemmas.{sound-unwatched}
use Rattle.dom_wrap.proofs.{InsertedNode.checks-passed, InsertedNode.held-split, InsertedNode.placeable, InsertedNode.insert-allowed-so, InsertedNode.follows-inserted, SurroundingSteps.on-ok_both}
use Rattle.dom_wrap.proofs.insert_into_range.insert_at_start.Goals as goal

pub reference_after-requires-clause-within : goal.reference_after-requires-clause-within
reference_after-requires-clause-within c =
    let u = unwatched c.args.world.now in
    let range : Range = record { start = c.ends-start.result.0; end = c.ends-start.result.1 } in
    λ text. offset_of_start u range (sound-range u c.args.range range (sound-unwatched c.args.world.now c.requires.whole) c.ends-start.ensures.ends) (text_has_data u range.start.node text)

pub reference_after-requires-clause-room : goal.reference_after-requires-clause-room
reference_after-requires-clause-room c =
    let range : Range = record { start = c.ends-start.result.0; end = c.ends-start.result.1 } in
    c.requires.room range c.ends-start.ensures.ends

pub reference_child-reference-requires : goal.reference_child-reference-requires
reference_child-reference-requires c =
    let range : Range = record { start = c.ends-start.result.0; end = c.ends-start.result.1 } in
    held-split c.args.world.now c.reference_after.new.world c.requires.whole c.args.range c.args.node range.start range c.ends-start.ensures.ends refl c.requires.node_held (checks-passed c.args.world.now c.args.range c.args.node range c.ends-start.ensures.ends c.requires.allowed).0 (checks-passed c.args.world.now c.args.range c.args.node range c.ends-start.ensures.ends c.requires.allowed).1 c.in_ok-after.ensures.split

pub place-requires-clause-held : goal.place-requires-clause-held
place-requires-clause-held c =
    let range : Range = record { start = c.ends-start.result.0; end = c.ends-start.result.1 } in
    held-split c.args.world.now c.reference_after.new.world c.requires.whole c.args.range c.args.node range.start range c.ends-start.ensures.ends refl c.requires.node_held (checks-passed c.args.world.now c.args.range c.args.node range c.ends-start.ensures.ends c.requires.allowed).0 (checks-passed c.args.world.now c.args.range c.args.node range c.ends-start.ensures.ends c.requires.allowed).1 c.in_ok-after.ensures.split

pub place-requires-clause-placeable : goal.place-requires-clause-placeable
place-requires-clause-placeable c =
    let range : Range = record { start = c.ends-start.result.0; end = c.ends-start.result.1 } in
    placeable c.args.world.now c.reference_after.new.world c.requires.whole c.args.range c.args.node range.start range c.ends-start.ensures.ends refl c.requires.node_held (checks-passed c.args.world.now c.args.range c.args.node range c.ends-start.ensures.ends c.requires.allowed).0 (checks-passed c.args.world.now c.args.range c.args.node range c.ends-start.ensures.ends c.requires.allowed).1 c.in_ok-after.ensures.split
    c.parent_at-parent.result c.in_ok-after.after c.reference_child-reference.result c.parent_at-parent.ensures.parent c.in_ok-after.ensures.reference c.reference_child-reference.ensures

pub returns-clause-allowed : goal.returns-clause-allowed
returns-clause-allowed c =
    let range : Range = record { start = c.ends-start.result.0; end = c.ends-start.result.1 } in
    on_ok_weaker c.place.result
    (insert-allowed-so c.args.world.now c.reference_after.new.world c.requires.whole c.args.range c.args.node range.start range c.ends-start.ensures.ends refl c.requires.node_held (checks-passed c.args.world.now c.args.range c.args.node range c.ends-start.ensures.ends c.requires.allowed).0 (checks-passed c.args.world.now c.args.range c.args.node range c.ends-start.ensures.ends c.requires.allowed).1 c.in_ok-after.ensures.split
    c.parent_at-parent.result c.in_ok-after.after c.reference_child-reference.result c.parent_at-parent.ensures.parent c.in_ok-after.ensures.reference c.reference_child-reference.ensures)
    c.place.ensures.allowed

pub returns-clause-inserted : goal.returns-clause-inserted
returns-clause-inserted c =
    let range : Range = record { start = c.ends-start.result.0; end = c.ends-start.result.1 } in
    on-ok_both c.place.result
    (λ allowed. follows-inserted c.args.world.now c.reference_after.new.world c.requires.whole c.args.range c.args.node range.start range c.ends-start.ensures.ends refl c.requires.node_held (checks-passed c.args.world.now c.args.range c.args.node range c.ends-start.ensures.ends c.requires.allowed).0 (checks-passed c.args.world.now c.args.range c.args.node range c.ends-start.ensures.ends c.requires.allowed).1 c.in_ok-after.ensures.split
    c.parent_at-parent.result c.in_ok-after.after c.reference_child-reference.result c.parent_at-parent.ensures.parent c.in_ok-after.ensures.reference c.reference_child-reference.ensures allowed c.place.new.world)
    c.place.ensures.allowed c.place.ensures.placed
