-- The pieces are in order, and make the text.
use Rattle.std.proofs.Common.{◌≡◌, ◌-◌, ◌++◌, length, sym, ap, ◌∙◌, subst, arith, IfSome}
use Rattle.std.proofs.lemmas.Grind.{common_steps}
use Rattle.dom_model.specs.Definitions.{range_text, entry_in, Point, content_in}
use Rattle.dom_edit.specs.Whole.{unwatched}
use Rattle.dom_content.specs.RangeTexts.{part_of, texts_within}
use Rattle.dom_content.proofs.{RangeTexts.range-held, RangeTexts.ahead-of, RangeTexts.apart-kinds, RangeTexts.apart-nodes, RangeTexts.none-less, RangeTexts.pieces-text, stringification.gather_text.Goals.else-eq-via-then-eq+else-is_of_kind, stringification.gather_text.Goals.else-eq-via-else-eq}
use Rattle.dom_content.proofs.stringification.gather_text.Goals as goal

pub append_part-requires-clause-ahead : goal.append_part-requires-clause-ahead
append_part-requires-clause-ahead c =
    λ k. ahead-of c.args.world.now.tree.forest (record { start = c.ends.result.0; end = c.ends.result.1 }) (record { node = c.start.inside.node; offset = c.start.inside.offset }) (record { node = c.end.inside.node; offset = c.end.inside.offset })
    (range-held c.args.world.now c.requires.whole c.args.range (record { start = c.ends.result.0; end = c.ends.result.1 }) c.ends.ensures.ends)
    c.start.view_is c.end.view_is (sym c.if-eq.ensures)

pub append_between-requires : goal.append_between-requires
append_between-requires c = record { range = range-held c.args.world.now c.requires.whole c.args.range (record { start = c.ends.result.0; end = c.ends.result.1 }) c.ends.ensures.ends }

pub returns : goal.returns
returns c =
    subst (λ o. IfSome o (λ r. c.append_part-2.new.text ≡ range_text (unwatched c.args.world.now) r)) (sym c.ends.ensures.ends)
    (pieces-text c.args.world.now (record { start = c.ends.result.0; end = c.ends.result.1 }) c.append_part-2.new.text
    (elim c.else-eq.branch [
      | else-eq-via-then-eq+else-is_of_kind w ↦ apart-kinds c.args.world.now.tree.forest (record { start = c.ends.result.0; end = c.ends.result.1 }) (record { node = c.start.inside.node; offset = c.start.inside.offset }) (record { node = c.end.inside.node; offset = c.end.inside.offset }) c.start.view_is c.end.view_is (sym w.if-is_of_kind.ensures)
      | else-eq-via-else-eq w ↦ apart-nodes c.args.world.now.tree.forest (record { start = c.ends.result.0; end = c.ends.result.1 }) (record { node = c.start.inside.node; offset = c.start.inside.offset }) (record { node = c.end.inside.node; offset = c.end.inside.offset }) c.start.view_is c.end.view_is (sym w.if-eq.ensures)
    ])
    (c.in_ok-append_part-2.ensures
    ∙ ap (λ (p : Point). c.append_between.new.text ++ part_of c.args.world.now.tree.forest p.node 0 (p.offset - 0)) c.end-2.view_is
    ∙ ap (λ n. c.append_between.new.text ++ part_of c.args.world.now.tree.forest c.ends.result.1.node 0 n) (none-less c.ends.result.1.offset)
    ∙ ap (λ us. us ++ part_of c.args.world.now.tree.forest c.ends.result.1.node 0 c.ends.result.1.offset)
    (c.in_ok-append_between.ensures
    ∙ ap (λ us. us ++ texts_within c.args.world.now.tree.forest (record { start = c.ends.result.0; end = c.ends.result.1 }))
    (c.in_ok-append_tail.ensures
    ∙ ap (λ us. us ++ part_of c.args.world.now.tree.forest c.ends.result.0.node c.ends.result.0.offset (length (content_in (entry_in c.args.world.now.tree.forest c.ends.result.0.node)).text - c.ends.result.0.offset)) c.new-text.ensures))))

pub is_of_kind-requires : goal.is_of_kind-requires
is_of_kind-requires c = grind (arith, common_steps)

pub append_part-requires-clause-within : goal.append_part-requires-clause-within
append_part-requires-clause-within c = grind (arith, common_steps)

pub append_tail-requires-clause-held : goal.append_tail-requires-clause-held
append_tail-requires-clause-held c = grind (arith, common_steps)

pub append_tail-requires-clause-within : goal.append_tail-requires-clause-within
append_tail-requires-clause-within c = grind (arith, common_steps)

pub append_part-requires-2-clause-held : goal.append_part-requires-2-clause-held
append_part-requires-2-clause-held c = grind (arith, common_steps)

pub append_part-requires-2-clause-within : goal.append_part-requires-2-clause-within
append_part-requires-2-clause-within c = grind (arith, common_steps)
