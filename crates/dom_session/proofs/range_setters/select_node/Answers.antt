use Rattle.std.proofs.Common.{◌≡◌, true, refl, sym, ◌∙◌, is_some}
use Rattle.dom_model.specs.Definitions.{HasNode, entry_in, around, check_parent, SelectNode}
use Rattle.dom_model.proofs.Forests.Above.{above}
use Rattle.dom_edit.specs.Whole.{IsShown}
use Rattle.dom_ranges.specs.Tables.{range_in}
use Rattle.dom_commands.specs.{declared.brief.Brief.TheVariants.Nothing, declared.reply.Reply.TheVariants.Brief}
use Rattle.dom_session.proofs.{RangeTableLemmas.step-set, RangeFacts.node-covered, RangeAnswers.passed, RangeAnswers.around-there, RangeAnswers.answer-select_node}
use Rattle.dom_session.proofs.range_setters.select_node.Goals as goal

pub select-requires-clause-covered : goal.select-requires-clause-covered
select-requires-clause-covered c =
    let old = c.args.world.now in
    let whole = c.requires.shown.shows.whole in
    let there : HasNode old.tree.forest c.args.node = cc in
    rw c.cache_index.ensures (λ parent e. node-covered old whole parent (above whole.forest c.args.node parent there e).there)

pub returns-in-Ok : goal.returns-in-Ok
returns-in-Ok c =
    let old = c.cache_index.new.world in
    let f = old.tree.forest in
    let r = c.args.range in
    let n = c.args.node in
    let shown : IsShown old = rw c.cache_index.ensures c.requires.shown in
    let live : is_some (range_in old.ranges r) ≡ true = rw c.cache_index.ensures cc in
    let there : is_some (entry_in f n) ≡ true = rw c.cache_index.ensures cc in
    let check = passed (check_parent f n) c.in-Ok.field-0 (sym c.in-Ok.is ∙ c.select.ensures.refusal) in
    record {
      step = λ b. rw (← c.cache_index.ensures) (step-set b (SelectNode r n) (Brief Nothing) old c.select.new.self r (around f n) (λ ends. ends) refl shown (around-there f n check) c.in-Ok.ensures.set
          (λ ends is w shows. answer-select_node old b w shows r n live there ends is));
    }
