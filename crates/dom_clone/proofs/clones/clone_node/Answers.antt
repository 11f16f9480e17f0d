use Rattle.std.proofs.Common.{tests, rules}
use Rattle.dom_clone.proofs.PutUnderLemmas.{copies_document-kind}
use Rattle.dom_clone.proofs.clones.clone_node.Goals as goal

pub copy_tree-requires-clause-document_kind : goal.copy_tree-requires-clause-document_kind
copy_tree-requires-clause-document_kind c =
    copies_document-kind c.args.world.now.tree.forest c.requires.whole.owners c.args.node c.requires.held c.document_of_copies-document.result c.document_of_copies-document.ensures

pub returns-clause-number : goal.returns-clause-number
returns-clause-number c = search (tests, rules)

pub returns-clause-cloned : goal.returns-clause-cloned
returns-clause-cloned c = search (tests, rules)

pub returns-clause-whole : goal.returns-clause-whole
returns-clause-whole c = search (tests, rules)
