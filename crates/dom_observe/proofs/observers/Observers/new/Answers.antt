-- Nothing stands under any key.
use Rattle.std.proofs.Common.{◌≡◌, ℕ, zero, suc, false, [], None, Some, refl, sym, ◌∙◌, subst, tests, rules, arith}
use Rattle.dom_model.specs.Worlds.World as model
use Rattle.dom_observe.specs.{Invariant.has_queue, Registrations.Registered, Registrations.at, Registrations.AllStand, Registrations.Agree, Roster.queues_by}
use Rattle.dom_observe.proofs.observers.Observers.new.Goals as goal

abbrev no_options : model.Options
no_options = record { child_list = false; attributes = false; character_data = false; subtree = false; attribute_old_value = false; character_data_old_value = false; attribute_filter = None }

abbrev none_registered : Registered
none_registered = record { rows = []; lists = [] }

nothing : (key : ℕ) → at none_registered key ≡ None
nothing zero = refl
nothing (suc key) = refl

agree-empty : Agree (at none_registered)
agree-empty = record {
  options = λ o n. no_options;
  alike = λ key r is. let d : None ≡ Some r = sym (nothing key) ∙ is in cc d;
  one = λ key other r t is there at_node by from. let d : None ≡ Some r = sym (nothing key) ∙ is in let no : ⊥ = cc d in absurd no;
}

pub invariant_of-result : goal.invariant_of-result
invariant_of-result c =
    let none = sym c.new-registrations.ensures in (
      record {
        are = c.state_law.ensures;
        stand = subst (λ r. AllStand (at r) (has_queue (queues_by c.new.result)) r.lists) none (λ n. tt);
        there = search (tests, rules);
      },
      search (tests, rules),
      search (tests, rules),
      subst (λ r. Agree (at r)) none agree-empty,
      search (tests, rules),
      omega (arith, c.new-3.ensures.len),
    )

pub returns : goal.returns
returns c = search (tests, rules)
