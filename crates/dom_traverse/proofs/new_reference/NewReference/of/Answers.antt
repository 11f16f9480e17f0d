-- What the root loses, it stands over.
use Rattle.std.proofs.Common.{ap, sym, ◌∙◌}
use Rattle.std.proofs.lemmas.Bool.{false≢true}
use Rattle.dom_model.specs.Definitions.{among, before, Grove, ancestors, inclusive_descendants}
use Rattle.dom_traverse.proofs.IsExitLemmas.{lost-under}
use Rattle.dom_traverse.proofs.new_reference.NewReference.of.Goals as goal

pub past_inside-following-requires-clause-under : goal.past_inside-following-requires-clause-under
past_inside-following-requires-clause-under g c =
    lost-under c.args.tree.now.forest c.state_law.ensures.once c.args.node c.args.root (sym c.loses.ensures ∙ c.if-not-loses.false)

pub previous_inside-preceding-requires : goal.previous_inside-preceding-requires
previous_inside-preceding-requires g c =
    let f = c.args.tree.now.forest in
    ap (λ (t : Grove g.row.X.Denot). among c.args.root (ancestors c.at-here.result.node t.forest)) c.at-here.ensures.tree
    ∙ ap (λ n. among c.args.root (ancestors n f)) c.at-here.ensures.node
    ∙ lost-under f c.state_law.ensures.once c.args.node c.args.root (sym c.loses.ensures ∙ c.if-not-loses.false)

pub returns-then-not-loses-clause-exit : goal.returns-then-not-loses-clause-exit
returns-then-not-loses-clause-exit g c = record {
  loses = sym c.if-not-loses.true ∙ c.loses.ensures;
  following = λ e. absurd (false≢true e);
  preceding = λ e. absurd (false≢true e);
}

pub returns-clause-exit : goal.returns-clause-exit
returns-clause-exit g c = record {
  loses = sym c.if-not-loses.false ∙ c.loses.ensures;
  following = λ e. c.past_inside-following.ensures;
  preceding =
      λ e.
      c.number.ensures
      ∙ c.previous_inside-preceding.ensures.node
      ∙ ap (λ (t : Grove g.row.X.Denot). before c.at-here.result.node (inclusive_descendants t.forest c.args.root)) c.at-here.ensures.tree
      ∙ ap (λ n. before n (inclusive_descendants c.args.tree.now.forest c.args.root)) c.at-here.ensures.node;
}
