-- Where there are children, the ancestors tell.
use Rattle.std.proofs.Common.{◌≡◌, None, is_some, ap, sym, ◌∙◌, subst, refl}
use Rattle.dom_model.specs.Definitions.{head_of, HasNode, children_of}
use Rattle.dom_tree.proofs.{SlotStepLemmas.holds-read, PlaceWalkLemmas.begins, PlaceWalkLemmas.stands, PlaceWalkLemmas.childless, PlaceWalkLemmas.led, RefersLemmas.inside-none, RefersLemmas.nothing-under, RefersLemmas.inside-alone}
use Rattle.dom_model.proofs.Forests.ToTheRoot.{inside-same}
use Rattle.dom_tree.proofs.tree.Tree.is_inside.Goals as goal

pub place_at-requires : goal.place_at-requires
place_at-requires g c = c.self.invariant.placed

pub first-requires : goal.first-requires
first-requires g c = (led c.in-Some.is c.place_at.ensures).placed c.in-Some.place refl

pub returns-in_default : goal.returns-in_default
returns-in_default g c =
    let e = sym (holds-read c.self.invariant.tree c.self.view_is c.args.top) ∙ ap is_some (sym (led c.in_default.is c.place_at.ensures).slot) in
    sym (nothing-under c.state_law.ensures c.args.top e c.args.node)

pub returns-in-None : goal.returns-in-None
returns-in-None g c =
    let f = c.args.self.now.forest in
    let b = begins c.self.invariant.tree c.self.view_is c.args.top c.in-Some.place (led c.in-Some.is c.place_at.ensures) in
    let h = subst (λ n. HasNode f n) b.1 (stands c.self.invariant.tree c.self.view_is c.in-Some.place b.0) in
    let z : head_of (children_of f c.args.top) ≡ None = ap (λ n. head_of (children_of f n)) (sym b.1) ∙ childless c.self.invariant.tree c.self.view_is c.state_law-2.ensures c.in-Some.place b.0 (led c.in-None.is c.first.ensures) in
    c.eq.ensures ∙ sym (inside-alone c.state_law.ensures c.args.top h z c.args.node)

pub returns-then-holds : goal.returns-then-holds
returns-then-holds g c = c.is_ancestor.ensures ∙ inside-same c.state_law.ensures c.args.top c.args.node

pub returns-else-holds : goal.returns-else-holds
returns-else-holds g c =
    c.if-holds.false ∙ sym (inside-none c.state_law.ensures c.args.top c.args.node (sym c.holds.ensures ∙ c.if-holds.false))
