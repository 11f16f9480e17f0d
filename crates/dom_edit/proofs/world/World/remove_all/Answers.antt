use Rattle.std.proofs.Common.{◌≡◌, ℕ, ◌+◌, true, List, [], ◌∷◌, ◌++◌, take, ap, sym, ◌∙◌}
use Rattle.std.proofs.lemmas.List.{take_more}
use Rattle.dom_model.specs.Definitions.{remove, remove_all}
use Rattle.dom_model.proofs.Forests.Entries.{HasNode-occurs}
use Rattle.dom_observe.specs.Watchers.{Watchers}
use Rattle.dom_edit.specs.Whole.{Follows}
use Rattle.dom_edit.proofs.{FollowsLemmas.follows-then, InsertLemmas.item-hit, InsertLemmas.remove_all-more, InsertLemmas.there-removed, InsertLemmas.follows-as, KeepsNodesLemmas.nodes-then}
use Rattle.dom_edit.proofs.world.World.remove_all.Goals as goal

pub remove_node-requires-clause-held : goal.remove_node-requires-clause-held
remove_node-requires-clause-held c =
    let hit = item-hit c.args.nodes.now c.loop-node.node-index c.node-item.result c.loop-node-test.true c.node-item.is in
    HasNode-occurs c.loop-node.self.tree.forest c.node-item.result (c.loop-node.invariant.held c.node-item.result hit)

pub loop-node-preserved : goal.loop-node-preserved
loop-node-preserved c =
    let first = c.args.self.now in
    let v = c.loop-node.self in
    let new = c.remove_node.new.self in
    let n = c.node-item.result in
    let xs = c.args.nodes.now in
    let i = c.loop-node.node-index in
    let hit = item-hit xs i n c.loop-node-test.true c.node-item.is in
    let here = c.loop-node.invariant.held n hit in
    let more : take (i + 1) xs ≡ take i xs ++ n ∷ [] = take_more xs i n c.loop-node-test.true ∙ ap (λ m. take i xs ++ m ∷ []) (sym c.node-item.is) in
    let step : Follows v new (remove true n) = c.in_ok-remove_node.ensures.removed in
    record {
      removed = follows-as first new (λ w. remove true n (remove_all (take i xs) w)) (remove_all (take (i + 1) xs))
          (λ w k. ap (λ (ns : List ℕ). remove_all ns w) more ∙ remove_all-more (take i xs) n w)
          (follows-then first v new (remove_all (take i xs)) (remove true n) c.loop-node.invariant.removed step);
      whole = c.in_ok-remove_node.ensures.whole;
      held = λ m h. there-removed v new n true c.loop-node.invariant.whole here step m (c.loop-node.invariant.held m h);
      kept = nodes-then first v new c.loop-node.invariant.kept c.in_ok-remove_node.ensures.kept;
      unobserved = λ none.
          let same = c.loop-node.invariant.unobserved none in
          c.in_ok-remove_node.ensures.unobserved (ap (λ (o : Watchers). o.nodes) same ∙ none) ∙ same;
    }
