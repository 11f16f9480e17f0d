-- The iterator stands inside its root.
use Rattle.std.proofs.Common.{◌≡◌, true, sym, subst}
use Rattle.dom_model.specs.Definitions.{among, HasNode, ancestors, Iterator}
use Rattle.dom_traverse.proofs.StandAtReferencesLemmas.{reference-there, reference-under}
use Rattle.dom_traverse.proofs.iterator.NodeIterator.found_previous.Goals as goal

pub accepts_number-requires : goal.accepts_number-requires
accepts_number-requires g c =
    subst (λ (i : Iterator). HasNode c.args.tree.now.forest i.reference) (sym c.self.view_is) (reference-there c.args.tree.now.forest c.state_law.ensures.once c.args.self.now c.requires)

pub previous_accepted-requires-clause-held : goal.previous_accepted-requires-clause-held
previous_accepted-requires-clause-held g c =
    subst (λ (i : Iterator). HasNode c.args.tree.now.forest i.reference) (sym c.self.view_is) (reference-there c.args.tree.now.forest c.state_law.ensures.once c.args.self.now c.requires)

pub previous_accepted-requires-clause-under : goal.previous_accepted-requires-clause-under
previous_accepted-requires-clause-under g c =
    subst (λ (i : Iterator). among i.root (ancestors i.reference c.args.tree.now.forest) ≡ true) (sym c.self.view_is) (reference-under c.args.tree.now.forest c.state_law.ensures.once c.args.self.now c.requires)
