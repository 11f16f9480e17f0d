use Rattle.std.proofs.Common.{◌∙◌, subst}
use Rattle.dom_edit.specs.Insertion.{ComesIn}
use Rattle.dom_edit.proofs.world.World.enter_unreferred.Goals as goal

pub enter_alone-requires-clause-alone : goal.enter_alone-requires-clause-alone
enter_alone-requires-clause-alone c = subst (ComesIn c.args.self.now.tree.forest c.args.node) c.in-Alone.is c.requires.incoming

pub enter_children_unreferred-requires-clause-fragment : goal.enter_children_unreferred-requires-clause-fragment
enter_children_unreferred-requires-clause-fragment c = (subst (ComesIn c.args.self.now.tree.forest c.args.node) c.in-Children.is c.requires.incoming).0

pub enter_children_unreferred-requires-clause-nodes : goal.enter_children_unreferred-requires-clause-nodes
enter_children_unreferred-requires-clause-nodes c = c.as_slice.ensures.value ∙ (subst (ComesIn c.args.self.now.tree.forest c.args.node) c.in-Children.is c.requires.incoming).1

pub returns-in-Alone-clause-left : goal.returns-in-Alone-clause-left
returns-in-Alone-clause-left c last root = c.enter_alone.ensures.left last (root (subst (ComesIn c.args.self.now.tree.forest c.args.node) c.in-Alone.is c.requires.incoming))

pub returns-in-Children-clause-left : goal.returns-in-Children-clause-left
returns-in-Children-clause-left c last root = c.enter_children_unreferred.ensures.left last
