-- Each step lets go of one leaf.
use Rattle.std.proofs.Common.{sym, ◌∙◌}
use Rattle.dom_tree.proofs.FreeLemmas.{freeing-start, leaf-held, leaf-bare, freeing-end, leaf-cut_held, leaf-cut_root, leaf-cut_bare, freeing-next, freeing-smaller}
use Rattle.dom_tree.proofs.tree.Tree.free.Goals as goal

pub loop-parent-init : goal.loop-parent-init
loop-parent-init g c = freeing-start c.state_law.ensures c.args.top c.requires.held c.requires.unnamed

pub last_inside-leaf-requires : goal.last_inside-leaf-requires
last_inside-leaf-requires g c = c.loop-parent.invariant.held

pub parent-requires : goal.parent-requires
parent-requires g c = leaf-held c.loop-parent.invariant c.last_inside-leaf.result c.last_inside-leaf.ensures

pub take_root-requires-clause-held : goal.take_root-requires-clause-held
take_root-requires-clause-held g c = leaf-held c.loop-parent.invariant c.last_inside-leaf.result c.last_inside-leaf.ensures

pub take_root-requires-clause-no_child : goal.take_root-requires-clause-no_child
take_root-requires-clause-no_child g c = leaf-bare c.loop-parent.invariant c.last_inside-leaf.result c.last_inside-leaf.ensures

pub returns-in_default : goal.returns-in_default
returns-in_default g c = freeing-end c.loop-parent.invariant c.last_inside-leaf.result c.last_inside-leaf.ensures (sym c.parent.ensures ∙ c.in_default.is) c.take_root.new.self c.take_root.ensures

pub take_root-requires-in-loop-parent-clause-held : goal.take_root-requires-in-loop-parent-clause-held
take_root-requires-in-loop-parent-clause-held g c = leaf-cut_held c.loop-parent.invariant c.last_inside-leaf.result c.last_inside-leaf.ensures c.in-Some.parent (sym c.parent.ensures ∙ c.in-Some.is) c.cut.new.self c.cut.ensures

pub take_root-requires-in-loop-parent-clause-no_parent : goal.take_root-requires-in-loop-parent-clause-no_parent
take_root-requires-in-loop-parent-clause-no_parent g c = leaf-cut_root c.loop-parent.invariant c.last_inside-leaf.result c.last_inside-leaf.ensures c.in-Some.parent (sym c.parent.ensures ∙ c.in-Some.is) c.cut.new.self c.cut.ensures

pub take_root-requires-in-loop-parent-clause-no_child : goal.take_root-requires-in-loop-parent-clause-no_child
take_root-requires-in-loop-parent-clause-no_child g c = leaf-cut_bare c.loop-parent.invariant c.last_inside-leaf.result c.last_inside-leaf.ensures c.in-Some.parent (sym c.parent.ensures ∙ c.in-Some.is) c.cut.new.self c.cut.ensures

pub loop-parent-smaller : goal.loop-parent-smaller
loop-parent-smaller g c = freeing-smaller c.loop-parent.invariant c.last_inside-leaf.result c.last_inside-leaf.ensures c.in-Some.parent (sym c.parent.ensures ∙ c.in-Some.is) c.cut.new.self c.cut.ensures c.take_root-in-loop-parent.new.self c.take_root-in-loop-parent.ensures c.state_law-in-loop-parent.ensures

pub loop-parent-preserved : goal.loop-parent-preserved
loop-parent-preserved g c = freeing-next c.loop-parent.invariant c.last_inside-leaf.result c.last_inside-leaf.ensures c.in-Some.parent (sym c.parent.ensures ∙ c.in-Some.is) c.cut.new.self c.cut.ensures c.take_root-in-loop-parent.new.self c.take_root-in-loop-parent.ensures c.state_law-in-loop-parent.ensures
