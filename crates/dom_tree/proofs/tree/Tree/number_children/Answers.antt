-- The last child is held.
use Rattle.std.proofs.Common.{sym, ◌∙◌}
use Rattle.dom_model.specs.Definitions.{children_of}
use Rattle.dom_model.proofs.PlainLists.Members.{hits-last_of}
use Rattle.dom_model.proofs.Forests.{Entries.HasNode-occurs, Indices.child-there}
use Rattle.dom_tree.proofs.tree.Tree.number_children.Goals as goal

pub index-index-requires : goal.index-index-requires
index-index-requires g c =
    let f = c.args.self.now.forest in
    let last = c.in-Some.last in
    HasNode-occurs f last (child-there f c.state_law.ensures.once last c.args.parent (hits-last_of (children_of f c.args.parent) last (sym c.last.ensures ∙ c.in-Some.is)))

pub cache_index-requires-clause-held : goal.cache_index-requires-clause-held
cache_index-requires-clause-held g c =
    let f = c.args.self.now.forest in
    let last = c.in-Some.last in
    HasNode-occurs f last (child-there f c.state_law.ensures.once last c.args.parent (hits-last_of (children_of f c.args.parent) last (sym c.last.ensures ∙ c.in-Some.is)))
