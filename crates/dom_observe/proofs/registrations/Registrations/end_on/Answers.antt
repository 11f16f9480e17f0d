-- What ends goes with its keys, and the node with the last.
use Rattle.std.proofs.Common.{◌≡◌, ℕ, filter, ◌∙◌}
use Rattle.dom_observe.specs.{Watchers.on, Registrations.in_table, Registrations.listed, Registrations.is_live}
use Rattle.dom_observe.proofs.{EndByNodeLemmas.on-swept, AreRegisteredLemmas.unique-in, AreRegisteredLemmas.registered-swept, registrations.Registrations.end_on.Goals.After-leave_out}
use Rattle.dom_observe.proofs.registrations.Registrations.end_on.Goals as goal

pub end_keys_on-is_bare-requires : goal.end_keys_on-is_bare-requires
end_keys_on-is_bare-requires c = unique-in c.self.inside.nodes.entries c.self.invariant.unique

swept_in : (c : After-leave_out) → (n : ℕ) → on n (listed c.leave_out.new.nodes.entries) ≡ filter (is_live (in_table c.end_keys_on-is_bare.new.table)) (on n (listed c.self.inside.nodes.entries))
swept_in c n =
    let a = c.self.inside in
    c.leave_out.ensures.kept n ∙ on-swept c.args.ending.now (in_table a.table) (in_table c.end_keys_on-is_bare.new.table) (listed a.nodes.entries) c.args.node c.self.invariant.placed c.end_keys_on-is_bare.ensures.left (listed c.end_keys_on-is_bare.new.nodes.entries) c.end_keys_on-is_bare.ensures.keys.kept n

pub invariant_of-self : goal.invariant_of-self
invariant_of-self c =
    let a = c.self.inside in
    registered-swept a.table a.nodes.entries c.self.invariant c.end_keys_on-is_bare.new.table c.leave_out.new.nodes.entries c.leave_out.ensures.unique
    (c.leave_out.ensures.full (listed a.nodes.entries) c.self.invariant.full c.end_keys_on-is_bare.ensures.keys.others) c.end_keys_on-is_bare.ensures.fewer (swept_in (goal.at.invariant_of-self c).After-leave_out)

pub returns-clause-left : goal.returns-clause-left
returns-clause-left c = rw (← c.self.view_is) c.end_keys_on-is_bare.ensures.left

pub returns-clause-swept : goal.returns-clause-swept
returns-clause-swept c = rw (← c.self.view_is) (swept_in (goal.at.returns-clause-swept c).After-leave_out)
