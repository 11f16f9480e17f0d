-- None of the nodes that were passed is a doctype.
use Rattle.std.proofs.Common.{◌≡◌, drop}
use Rattle.dom_model.specs.declared.Kind.TheVariants.{DocumentType}
use Rattle.dom_model.specs.Definitions.{has_kind}
use Rattle.dom_content.proofs.extraction.has_doctype.Given as goal

abbrev pub invariant-loop-node : goal.invariant-loop-node
invariant-loop-node l = has_kind DocumentType l.tree.forest l.nodes ≡ has_kind DocumentType l.tree.forest (drop l.node-index l.nodes)
