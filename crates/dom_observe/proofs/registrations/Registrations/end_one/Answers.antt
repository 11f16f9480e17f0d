-- It goes with its key, and the node with the last.
use Rattle.std.proofs.Common.{◌≡◌, ℕ, filter, ap, ◌∙◌}
use Rattle.dom_observe.specs.{Watchers.on, Registrations.at, Registrations.in_table, Registrations.listed, Registrations.is_live, Registrations.is_on_node}
use Rattle.dom_observe.proofs.{EndByNodeLemmas.one-swept, AreRegisteredLemmas.unique-in, AreRegisteredLemmas.are-live, AreRegisteredLemmas.registered-swept, NodeOrderLemmas.goes-after, registrations.Registrations.end_one.Goals.After-leave_out}
use Rattle.dom_observe.proofs.registrations.Registrations.end_one.Goals as goal

pub end_key_on-is_bare-requires-clause-unique : goal.end_key_on-is_bare-requires-clause-unique
end_key_on-is_bare-requires-clause-unique c = unique-in c.self.inside.nodes.entries c.self.invariant.unique

pub end_key_on-is_bare-requires-clause-rising : goal.end_key_on-is_bare-requires-clause-rising
end_key_on-is_bare-requires-clause-rising c = c.self.invariant.rising c.args.node

pub end_key_on-is_bare-requires-clause-live : goal.end_key_on-is_bare-requires-clause-live
end_key_on-is_bare-requires-clause-live c = are-live c.self.invariant c.args.node

pub end_key_on-is_bare-requires-clause-there : goal.end_key_on-is_bare-requires-clause-there
end_key_on-is_bare-requires-clause-there c =
    let a = c.self.inside in
    c.self.invariant.placed c.args.node c.args.key ∙ ap (is_on_node c.args.node) (ap (λ r. at r c.args.key) c.self.view_is) ∙ c.requires

swept_in : (c : After-leave_out) → (n : ℕ) → on n (listed c.leave_out.new.nodes.entries) ≡ filter (is_live (in_table c.end_key_on-is_bare.new.table)) (on n (listed c.self.inside.nodes.entries))
swept_in c n =
    let a = c.self.inside in
    c.leave_out.ensures.kept n ∙ one-swept (in_table a.table) (in_table c.end_key_on-is_bare.new.table) c.args.key c.end_key_on-is_bare.ensures.left (listed a.nodes.entries) (listed c.end_key_on-is_bare.new.nodes.entries) c.args.node c.self.invariant.placed (ap (is_on_node c.args.node) (ap (λ r. at r c.args.key) c.self.view_is) ∙ c.requires) c.end_key_on-is_bare.ensures.keys.kept n

pub invariant_of-self : goal.invariant_of-self
invariant_of-self c =
    let a = c.self.inside in
    registered-swept a.table a.nodes.entries c.self.invariant c.end_key_on-is_bare.new.table c.leave_out.new.nodes.entries c.leave_out.ensures.unique
    (c.leave_out.ensures.full (listed a.nodes.entries) c.self.invariant.full c.end_key_on-is_bare.ensures.keys.others) c.end_key_on-is_bare.ensures.fewer (swept_in (goal.at.invariant_of-self c).After-leave_out)

pub returns-clause-left : goal.returns-clause-left
returns-clause-left c = rw (← c.self.view_is) c.end_key_on-is_bare.ensures.left

pub returns-clause-swept : goal.returns-clause-swept
returns-clause-swept c = rw (← c.self.view_is) (swept_in (goal.at.returns-clause-swept c).After-leave_out)

pub returns-clause-nodes : goal.returns-clause-nodes
returns-clause-nodes c =
    let a = c.self.inside in
    rw (← c.self.view_is) (goes-after c.args.node (listed a.nodes.entries) (listed c.end_key_on-is_bare.new.nodes.entries) (listed c.leave_out.new.nodes.entries) c.end_key_on-is_bare.ensures.nodes c.leave_out.ensures.nodes)
