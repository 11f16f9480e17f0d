use Rattle.std.proofs.Common.{tests, rules}
use Rattle.dom_model.proofs.Forests.Siblings.{index-within}
use Rattle.dom_tree.proofs.tree.Tree.index.Goals as goal

-- There are no more preceding siblings than siblings.

pub unwrap-requires : goal.unwrap-requires
unwrap-requires g c = c.index_within.ensures.found (rw c.siblings-count.ensures (index-within c.args.self.now.forest c.args.id))

pub returns : goal.returns
returns g c = search (tests, rules)
