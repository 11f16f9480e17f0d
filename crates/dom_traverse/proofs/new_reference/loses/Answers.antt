-- Where the root is another node, the ancestors tell.
use Rattle.std.proofs.Common.{sym, ◌∙◌}
use Rattle.dom_traverse.proofs.DescendantLemmas.{among-inside}
use Rattle.dom_traverse.proofs.new_reference.loses.Goals as goal

pub returns-then-ne : goal.returns-then-ne
returns-then-ne g c =
    rw (sym c.ne.ensures ∙ c.if-ne.true) (c.is_ancestor.ensures ∙ sym (among-inside c.args.tree.now.forest c.state_law.ensures.once c.args.node c.args.root))
