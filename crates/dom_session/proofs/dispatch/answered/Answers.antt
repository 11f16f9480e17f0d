use Rattle.std.proofs.Common.{Result, Ok, Err, OnErr}
use Rattle.dom_commands.specs.{Views.editing_view, Views.texts_view, Views.attributes_view, Views.copying_view, Views.contents_view}
use Rattle.dom_session.proofs.GoingOn.{as_it_was-on_err, unasked-making, ending-editing, going-asked}
use Rattle.dom_session.proofs.dispatch.answered.Goals as goal

always : {A E P : Type 0} (r : Result A E) → P → OnErr r P
always (Ok x) p = tt
always (Err e) p = p

pub returns-in_err-make_nodes-in-Making-clause-asked : goal.returns-in_err-make_nodes-in-Making-clause-asked
returns-in_err-make_nodes-in-Making-clause-asked c =
    rw c.in-Making.is (λ asked. absurd (cc (asked, unasked-making c.in-Making.command)))

pub returns-in_err-make_nodes-in-Making-clause-goes_on : goal.returns-in_err-make_nodes-in-Making-clause-goes_on
returns-in_err-make_nodes-in-Making-clause-goes_on c _ = always c.from_residual.result c.in_err-make_nodes-in-Making.ensures.as_it_was

pub returns-in_err-edit_tree-in-Editing-clause-asked : goal.returns-in_err-edit_tree-in-Editing-clause-asked
returns-in_err-edit_tree-in-Editing-clause-asked c =
    rw c.in-Editing.is (λ asked. absurd (cc (going-asked (editing_view c.in-Editing.command) asked, ending-editing c.in-Editing.command)))

pub returns-in_err-edit_tree-in-Editing-clause-goes_on : goal.returns-in_err-edit_tree-in-Editing-clause-goes_on
returns-in_err-edit_tree-in-Editing-clause-goes_on c =
    rw c.in-Editing.is (λ going. absurd (cc (going, ending-editing c.in-Editing.command)))

pub returns-in-Asking-clause-asked : goal.returns-in-Asking-clause-asked
returns-in-Asking-clause-asked c _ = c.ask_tree.ensures.unchanged

pub returns-in-Asking-clause-goes_on : goal.returns-in-Asking-clause-goes_on
returns-in-Asking-clause-goes_on c _ =
    as_it_was-on_err c.ask_tree.result c.args.world.now c.ask_tree.new.world c.ask_tree.ensures.unchanged

pub returns-in-Ranging-clause-asked : goal.returns-in-Ranging-clause-asked
returns-in-Ranging-clause-asked c _ = c.act_on_ranges.ensures.unchanged

pub returns-in-Ranging-clause-goes_on : goal.returns-in-Ranging-clause-goes_on
returns-in-Ranging-clause-goes_on c _ =
    as_it_was-on_err c.act_on_ranges.result c.args.world.now c.act_on_ranges.new.world c.act_on_ranges.ensures.unchanged

pub returns-in-StaticRanging-clause-asked : goal.returns-in-StaticRanging-clause-asked
returns-in-StaticRanging-clause-asked c _ = c.act_on_statics.ensures.unchanged

pub returns-in-StaticRanging-clause-goes_on : goal.returns-in-StaticRanging-clause-goes_on
returns-in-StaticRanging-clause-goes_on c _ =
    as_it_was-on_err c.act_on_statics.result c.args.world.now c.act_on_statics.new.world c.act_on_statics.ensures.unchanged

pub returns-in-Traversing-clause-asked : goal.returns-in-Traversing-clause-asked
returns-in-Traversing-clause-asked c _ = c.traverse.ensures.unchanged

pub returns-in-Traversing-clause-goes_on : goal.returns-in-Traversing-clause-goes_on
returns-in-Traversing-clause-goes_on c _ =
    as_it_was-on_err c.traverse.result c.args.world.now c.traverse.new.world c.traverse.ensures.unchanged

pub returns-in-Observing-clause-asked : goal.returns-in-Observing-clause-asked
returns-in-Observing-clause-asked c _ = c.watch.ensures.unchanged

pub returns-in-Observing-clause-goes_on : goal.returns-in-Observing-clause-goes_on
returns-in-Observing-clause-goes_on c _ =
    as_it_was-on_err c.watch.result c.args.world.now c.watch.new.world c.watch.ensures.unchanged

pub returns-in-Texts-clause-asked : goal.returns-in-Texts-clause-asked
returns-in-Texts-clause-asked c =
    rw c.in-Texts.is (λ asked. c.change_texts.ensures.unchanged (going-asked (texts_view c.in-Texts.command) asked))

pub returns-in-Texts-clause-goes_on : goal.returns-in-Texts-clause-goes_on
returns-in-Texts-clause-goes_on c =
    rw c.in-Texts.is
    (λ going. as_it_was-on_err c.change_texts.result c.args.world.now c.change_texts.new.world (c.change_texts.ensures.unchanged going))

pub returns-in-Attributes-clause-asked : goal.returns-in-Attributes-clause-asked
returns-in-Attributes-clause-asked c =
    rw c.in-Attributes.is (λ asked. c.change_attributes.ensures.unchanged (going-asked (attributes_view c.in-Attributes.command) asked))

pub returns-in-Attributes-clause-goes_on : goal.returns-in-Attributes-clause-goes_on
returns-in-Attributes-clause-goes_on c =
    rw c.in-Attributes.is
    (λ going. as_it_was-on_err c.change_attributes.result c.args.world.now c.change_attributes.new.world (c.change_attributes.ensures.unchanged going))

pub returns-in-Copying-clause-asked : goal.returns-in-Copying-clause-asked
returns-in-Copying-clause-asked c =
    rw c.in-Copying.is (λ asked. c.copy_nodes.ensures.unchanged (going-asked (copying_view c.in-Copying.command) asked))

pub returns-in-Copying-clause-goes_on : goal.returns-in-Copying-clause-goes_on
returns-in-Copying-clause-goes_on c =
    rw c.in-Copying.is
    (λ going. as_it_was-on_err c.copy_nodes.result c.args.world.now c.copy_nodes.new.world (c.copy_nodes.ensures.unchanged going))

pub returns-in-Contents-clause-asked : goal.returns-in-Contents-clause-asked
returns-in-Contents-clause-asked c =
    rw c.in-Contents.is (λ asked. c.change_contents.ensures.unchanged (going-asked (contents_view c.in-Contents.command) asked))

pub returns-in-Contents-clause-goes_on : goal.returns-in-Contents-clause-goes_on
returns-in-Contents-clause-goes_on c =
    rw c.in-Contents.is
    (λ going. as_it_was-on_err c.change_contents.result c.args.world.now c.change_contents.new.world (c.change_contents.ensures.unchanged going))
