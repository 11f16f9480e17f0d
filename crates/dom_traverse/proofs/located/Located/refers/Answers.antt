-- What is named by the items in slots is what is named by those that were not released.
use Rattle.std.proofs.Common.{ℕ, Bool, ap, ◌∙◌}
use Rattle.std.specs.List.{list_any, flat_map}
use Rattle.dom_model.specs.Definitions.{among, inclusive_descendants, nodes_unless_released}
use Rattle.dom_traverse.specs.NamedNodes.{named_by}
use Rattle.dom_traverse.proofs.{BySlotLemmas.any-entry, LocatedLemmas.found-names, FlushLemmas.told-none}
use Rattle.dom_traverse.proofs.located.Located.refers.Goals as goal

pub returns-then-is_some : goal.returns-then-is_some
returns-then-is_some g c =
    let inside : ℕ → Bool = λ m. among m (inclusive_descendants c.args.tree.now.forest c.args.top) in
    let names = named_by g.T.Positioned.root_of g.T.Positioned.node_of in
    c.refer.ensures ∙ ap (λ xs. list_any inside (flat_map names xs)) c.items.ensures ∙ any-entry inside names c.state_law.ensures.slotted ∙ ap (λ es. list_any inside (flat_map (nodes_unless_released names) es)) c.self.view_is

pub returns-in-Some : goal.returns-in-Some
returns-in-Some g c =
    let inside : ℕ → Bool = λ m. among m (inclusive_descendants c.args.tree.now.forest c.args.top) in
    let names = named_by g.T.Positioned.root_of g.T.Positioned.node_of in
    c.in-Some.ensures (flat_map names c.self.inside.items.items)
    (found-names g.T.Positioned.root_of g.T.Positioned.node_of c.self.inside.items.items c.self.inside.roots c.self.inside.whereabouts c.self.invariant
    (told-none c.waiting.result c.is_some.result c.is_some.ensures c.if-is_some.false c.waiting.ensures.none))
    ∙ any-entry inside names c.state_law.ensures.slotted ∙ ap (λ es. list_any inside (flat_map (nodes_unless_released names) es)) c.self.view_is

pub returns-in-None : goal.returns-in-None
returns-in-None g c =
    let inside : ℕ → Bool = λ m. among m (inclusive_descendants c.args.tree.now.forest c.args.top) in
    let names = named_by g.T.Positioned.root_of g.T.Positioned.node_of in
    c.refer-in-None.ensures ∙ ap (λ xs. list_any inside (flat_map names xs)) c.items-in-None.ensures ∙ any-entry inside names c.state_law.ensures.slotted ∙ ap (λ es. list_any inside (flat_map (nodes_unless_released names) es)) c.self.view_is
