-- The new root is in itself, and then in its document.
use Rattle.std.proofs.Common.{refl, ap, ◌∙◌, unwrap_or}
use Rattle.dom_model.specs.Definitions.{Node}
use Rattle.dom_tree.proofs.DocumentsKept.{made-held, made-moved}
use Rattle.dom_tree.proofs.tree.Tree.make.Goals as goal

pub move_to-requires : goal.move_to-requires
move_to-requires g c =
    let x : Node g.row.X.Denot = record { number = c.args.self.now.made; document = c.args.self.now.made; label = c.args.label; body = c.args.body } in
    made-held c.args.self.now c.make_alone.new.self x c.in_ok-id.id c.state_law.ensures refl c.in_ok-id.ensures.number c.in_ok-id.ensures.made

pub returns-clause-made : goal.returns-clause-made
returns-clause-made g c =
    let x : Node g.row.X.Denot = record { number = c.args.self.now.made; document = c.args.self.now.made; label = c.args.label; body = c.args.body } in
    made-moved c.args.self.now c.make_alone.new.self x c.in_ok-id.id c.state_law.ensures refl c.in_ok-id.ensures.number c.in_ok-id.ensures.made
    c.move_to.new.self c.unwrap_or.result (unwrap_or c.args.document c.args.self.now.made) (c.unwrap_or.ensures ∙ ap (unwrap_or c.args.document) c.in_ok-id.ensures.number) c.move_to.ensures
