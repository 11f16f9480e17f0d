-- The iterators of one node more give way.
use Rattle.std.proofs.Common.{refl, sym, ◌∙◌}
use Rattle.dom_model.proofs.Forests.TreeOrder.InsideWalks.{smaller}
use Rattle.dom_traverse.proofs.{DescendantLemmas.among-inside, GaveWayInsideLemmas.leaving-top, GaveWayInsideLemmas.leaving-next, GaveWayInsideLemmas.leaving-end}
use Rattle.dom_traverse.proofs.pre_removal.removing_inside.Goals as goal

pub loop-next-init : goal.loop-next-init
loop-next-init g c = record {
  leaving = λ s. leaving-top c.args.tree.now s c.args.node c.args.iterators.now.items c.requires.held;
  slots = refl;
  stand = c.requires.stand;
  found = λ x e. absurd (cc e);
}

pub give_way-last-requires-clause-inside : goal.give_way-last-requires-clause-inside
give_way-last-requires-clause-inside g c =
    among-inside c.args.tree.now.forest c.state_law.ensures.once c.loop-next.here c.args.node ∙ (c.loop-next.invariant.leaving c.state_law.ensures).at.under

pub next_inside-requires-clause-held : goal.next_inside-requires-clause-held
next_inside-requires-clause-held g c = (c.loop-next.invariant.leaving c.state_law.ensures).at.there

pub next_inside-requires-clause-under : goal.next_inside-requires-clause-under
next_inside-requires-clause-under g c = (c.loop-next.invariant.leaving c.state_law.ensures).at.under

pub loop-next-smaller : goal.loop-next-smaller
loop-next-smaller g c =
    smaller c.args.tree.now c.state_law.ensures c.args.node c.loop-next.here c.in-Some.next (sym c.next_inside.ensures ∙ c.in-Some.is)

pub loop-next-preserved : goal.loop-next-preserved
loop-next-preserved g c = record {
  leaving = λ s.
      leaving-next c.args.tree.now s c.args.node c.args.iterators.now.items c.loop-next.iterators.items c.give_way-last.new.iterators.items c.loop-next.here c.in-Some.next (c.loop-next.invariant.leaving s) (sym c.next_inside.ensures ∙ c.in-Some.is) c.give_way-last.ensures.gave;
  slots = c.give_way-last.ensures.slots ∙ c.loop-next.invariant.slots;
  stand = c.give_way-last.ensures.stand;
  found = c.give_way-last.ensures.found;
}

pub returns-in_default-clause-removed : goal.returns-in_default-clause-removed
returns-in_default-clause-removed g c =
    leaving-end c.args.tree.now c.state_law.ensures c.args.node c.args.iterators.now.items c.loop-next.iterators.items c.give_way-last.new.iterators.items c.loop-next.here (c.loop-next.invariant.leaving c.state_law.ensures) (sym c.next_inside.ensures ∙ c.in_default.is) c.give_way-last.ensures.gave
