use Rattle.std.proofs.Common.{None, is_some, ◌≡◌, false, refl, ap, sym, ◌∙◌, tests, rules}
use Rattle.dom_model.specs.declared.Kind.TheVariants.{Document}
use Rattle.dom_model.specs.Definitions.{parent_of, is_of_kind}
use Rattle.dom_edit.proofs.IsUsedLemmas.{root-not_held, not_in_use, not_used}
use Rattle.dom_edit.proofs.world.World.can_discard.Goals as goal
use Rattle.dom_tree.proofs.RefersLemmas.{none-from}

pub returns-then-not-is_of_kind-clause-unused : goal.returns-then-not-is_of_kind-clause-unused
returns-then-not-is_of_kind-clause-unused c =
    let v = c.args.self.now in
    let root : parent_of v.tree.forest c.args.top ≡ None =
    none-from (parent_of v.tree.forest c.args.top) (ap is_some (sym c.parent.ensures) ∙ (sym c.is_some.ensures ∙ c.if-is_some.false)) in
    let other : is_of_kind Document v.tree.forest c.args.top ≡ false = sym c.is_of_kind.ensures ∙ c.if-not-is_of_kind.true in
    let free = not_used v c.args.top c.is_named.result c.is_named.ensures.own c.if-is_named.false (root-not_held v c.requires.whole c.args.top root other) in
    rw (c.if-not-is_of_kind.true, free) refl

pub returns-then-not-is_of_kind-clause-shown : goal.returns-then-not-is_of_kind-clause-shown
returns-then-not-is_of_kind-clause-shown c w s =
    let v = c.args.self.now in
    let root : parent_of v.tree.forest c.args.top ≡ None =
    none-from (parent_of v.tree.forest c.args.top) (ap is_some (sym c.parent.ensures) ∙ (sym c.is_some.ensures ∙ c.if-is_some.false)) in
    let other : is_of_kind Document v.tree.forest c.args.top ≡ false = sym c.is_of_kind.ensures ∙ c.if-not-is_of_kind.true in
    let free = not_in_use v w c.args.top c.is_named.result s.keeps (c.is_named.ensures.shown w s) c.if-is_named.false (root-not_held v c.requires.whole c.args.top root other) in
    rw (c.if-not-is_of_kind.true, free) refl

pub returns-then-is_some-clause-unused : goal.returns-then-is_some-clause-unused
returns-then-is_some-clause-unused c = search (tests, rules)

pub returns-then-is_some-clause-shown : goal.returns-then-is_some-clause-shown
returns-then-is_some-clause-shown c = search (tests, rules)

pub returns-else-not-is_of_kind-clause-unused : goal.returns-else-not-is_of_kind-clause-unused
returns-else-not-is_of_kind-clause-unused c = search (tests, rules)

pub returns-else-not-is_of_kind-clause-shown : goal.returns-else-not-is_of_kind-clause-shown
returns-else-not-is_of_kind-clause-shown c = search (tests, rules)
