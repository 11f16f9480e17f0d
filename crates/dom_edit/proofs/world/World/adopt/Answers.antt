use Rattle.std.proofs.Common.{◌≡◌, false, refl, ap, ◌∙◌, arith, tests, rules}
use Rattle.std.proofs.lemmas.Bool.Decides.{nat_tests}
use Rattle.dom_model.specs.Definitions.{Grove, Content}
use Rattle.dom_model.proofs.TokenText.{AlikeTrees.TreesAlike.bared, AlikeTrees.TreesAlikeAfter.bared-adopted}
use Rattle.dom_edit.specs.declared.world.World.{World}
use Rattle.dom_edit.proofs.{StandByEditsLemmas.stand-by_adopt, AdoptLemmas.removed-held, AdoptLemmas.removed-root, AdoptLemmas.removed-document, AdoptLemmas.whole-adopted, AdoptLemmas.follows-staying, KeepsNodesLemmas.nodes-then, KeepsNodesLemmas.nodes-adopted, KeepsWatchersLemmas.watchers-ranged}
use Rattle.dom_edit.proofs.world.World.adopt.Goals as goal

pub document_of-requires : goal.document_of-requires
document_of-requires c =
    removed-held c.args.self.now c.remove_node.new.self false c.args.node c.requires.whole c.requires.node_held c.in_ok-remove_node.ensures.removed c.args.node c.requires.node_held

pub set_document-requires : goal.set_document-requires
set_document-requires c =
    removed-held c.args.self.now c.remove_node.new.self false c.args.node c.requires.whole c.requires.node_held c.in_ok-remove_node.ensures.removed c.args.node c.requires.node_held

pub returns-then-ne-clause-whole : goal.returns-then-ne-clause-whole
returns-then-ne-clause-whole c =
    let v = c.args.self.now in
    let out = c.remove_node.new.self in
    let new : World = record { tree = c.set_document.new.self; ranges = out.ranges; statics = out.statics; iterators = out.iterators; walkers = out.walkers; observers = out.observers } in
    let root = removed-root v out false c.args.node c.requires.whole c.requires.node_held c.in_ok-remove_node.ensures.removed in
    let document = removed-document v out false c.args.node c.requires.whole c.requires.node_held c.in_ok-remove_node.ensures.removed c.args.document c.requires.document_kind in
    whole-adopted out new c.args.node c.args.document c.in_ok-remove_node.ensures.whole root document c.set_document.ensures refl refl refl refl refl

pub returns-then-ne-clause-markers : goal.returns-then-ne-clause-markers
returns-then-ne-clause-markers c =
    let out = c.remove_node.new.self in
    let new : World = record { tree = c.set_document.new.self; ranges = out.ranges; statics = out.statics; iterators = out.iterators; walkers = out.walkers; observers = out.observers } in
    stand-by_adopt c.args.self.now new c.requires.whole (returns-then-ne-clause-whole c) out c.args.node c.in_ok-remove_node.ensures.removed
    (ap (λ (t : Grove Content). bared t.forest) c.set_document.ensures ∙ bared-adopted c.args.node c.args.document out.tree.forest) refl

pub returns-else-ne-clause-adopted : goal.returns-else-ne-clause-adopted
returns-else-ne-clause-adopted c =
    let same_document : c.document_of.result ≡ c.args.document = grind (arith, nat_tests) in
    follows-staying c.args.self.now c.remove_node.new.self c.args.node c.args.document c.document_of.result c.in_ok-remove_node.ensures.whole c.in_ok-remove_node.ensures.removed c.document_of.ensures same_document

pub returns-else-ne-clause-markers : goal.returns-else-ne-clause-markers
returns-else-ne-clause-markers c =
    let out = c.remove_node.new.self in
    stand-by_adopt c.args.self.now out c.requires.whole c.in_ok-remove_node.ensures.whole out c.args.node c.in_ok-remove_node.ensures.removed refl refl

pub returns-then-is_of_kind-clause-allowed : goal.returns-then-is_of_kind-clause-allowed
returns-then-is_of_kind-clause-allowed c = search (tests, rules)

pub returns-then-is_of_kind-clause-adopted : goal.returns-then-is_of_kind-clause-adopted
returns-then-is_of_kind-clause-adopted c = search (tests, rules)

pub returns-then-is_of_kind-clause-markers : goal.returns-then-is_of_kind-clause-markers
returns-then-is_of_kind-clause-markers c = search (tests, rules)

pub returns-then-is_of_kind-clause-refused : goal.returns-then-is_of_kind-clause-refused
returns-then-is_of_kind-clause-refused c = search (tests, rules)

pub returns-then-is_of_kind-clause-whole : goal.returns-then-is_of_kind-clause-whole
returns-then-is_of_kind-clause-whole c = search (tests, rules)

pub returns-then-ne-clause-allowed : goal.returns-then-ne-clause-allowed
returns-then-ne-clause-allowed c = search (tests, rules)

pub returns-then-ne-clause-adopted : goal.returns-then-ne-clause-adopted
returns-then-ne-clause-adopted c = search (tests, rules)

pub returns-then-ne-clause-refused : goal.returns-then-ne-clause-refused
returns-then-ne-clause-refused c = search (tests, rules)

pub returns-else-ne-clause-allowed : goal.returns-else-ne-clause-allowed
returns-else-ne-clause-allowed c = search (tests, rules)

pub returns-else-ne-clause-refused : goal.returns-else-ne-clause-refused
returns-else-ne-clause-refused c = search (tests, rules)

pub returns-else-ne-clause-whole : goal.returns-else-ne-clause-whole
returns-else-ne-clause-whole c = search (tests, rules)

pub returns-then-ne-clause-kept : goal.returns-then-ne-clause-kept
returns-then-ne-clause-kept c =
    let out = c.remove_node.new.self in
    let new : World = record { tree = c.set_document.new.self; ranges = out.ranges; statics = out.statics; iterators = out.iterators; walkers = out.walkers; observers = out.observers } in
    nodes-then c.args.self.now out new c.remove_node.ensures.kept (nodes-adopted out new c.args.node c.args.document c.set_document.ensures refl refl (watchers-ranged out new refl refl refl))
