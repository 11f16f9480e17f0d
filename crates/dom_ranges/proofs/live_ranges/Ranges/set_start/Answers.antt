use Rattle.std.proofs.Common.{sym, ap, ◌∙◌, tests, rules}
use Rattle.dom_model.specs.Definitions.{Point, root_of}
use Rattle.dom_ranges.proofs.{SameRootLemmas.one-root, SetAsMarkersLemmas.start-stands}
use Rattle.dom_ranges.proofs.live_ranges.Ranges.set_start.Goals as goal

pub same_root-requires-clause-b_held : goal.same_root-requires-clause-b_held
same_root-requires-clause-b_held g c = rw (ap (λ (q : Point). q.node) c.start.view_is) (c.requires.stands _ c.ends.ensures.ends).start

pub found_before-requires-clause-a_held : goal.found_before-requires-clause-a_held
found_before-requires-clause-a_held g c = (c.requires.stands _ c.ends.ensures.ends).end

pub found_before-requires-clause-one_root : goal.found_before-requires-clause-one_root
found_before-requires-clause-one_root g c =
    sym (c.requires.stands _ c.ends.ensures.ends).one_root
    ∙ ap (λ (q : Point). root_of c.args.tree.now.forest q.node) (sym c.start.view_is)
    ∙ sym (one-root c.args.tree.now.forest c.p.inside.node c.start.inside.node (sym c.same_root.ensures ∙ c.if-same_root.true))
    ∙ ap (λ (q : Point). root_of c.args.tree.now.forest q.node) c.p.view_is

pub returns-then-not-found_before-clause-refusal : goal.returns-then-not-found_before-clause-refusal
returns-then-not-found_before-clause-refusal g c = search (tests, rules)

pub returns-then-not-found_before-clause-set : goal.returns-then-not-found_before-clause-set
returns-then-not-found_before-clause-set g c = search (tests, rules)

pub returns-then-not-found_before-clause-unchanged : goal.returns-then-not-found_before-clause-unchanged
returns-then-not-found_before-clause-unchanged g c = search (tests, rules)

pub returns-else-same_root-clause-refusal : goal.returns-else-same_root-clause-refusal
returns-else-same_root-clause-refusal g c = search (tests, rules)

pub returns-else-same_root-clause-set : goal.returns-else-same_root-clause-set
returns-else-same_root-clause-set g c = search (tests, rules)

pub returns-else-same_root-clause-unchanged : goal.returns-else-same_root-clause-unchanged
returns-else-same_root-clause-unchanged g c = search (tests, rules)

pub returns-then-not-found_before-clause-markers : goal.returns-then-not-found_before-clause-markers
returns-then-not-found_before-clause-markers g c = start-stands _ _ _ _ _ c.requires.held _ _ c.requires.node (returns-then-not-found_before-clause-refusal g c) (returns-then-not-found_before-clause-set g c)

pub returns-else-same_root-clause-markers : goal.returns-else-same_root-clause-markers
returns-else-same_root-clause-markers g c = start-stands _ _ _ _ _ c.requires.held _ _ c.requires.node (returns-else-same_root-clause-refusal g c) (returns-else-same_root-clause-set g c)
