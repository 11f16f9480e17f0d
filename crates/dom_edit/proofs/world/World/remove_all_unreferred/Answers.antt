use Rattle.std.proofs.Common.{◌≡◌, ℕ, ◌+◌, true, List, [], ◌∷◌, ◌++◌, take, drop, ap, sym, ◌∙◌, subst}
use Rattle.std.proofs.lemmas.List.{take_more, drop_more}
use Rattle.dom_model.specs.Definitions.{remove, remove_all}
use Rattle.dom_model.proofs.Forests.{Climbing.hits-first, Indices.child-parent, Indices.child-once}
use Rattle.dom_edit.specs.Whole.{Follows}
use Rattle.dom_edit.proofs.{FollowsLemmas.follows-none, FollowsLemmas.follows-then, InsertLemmas.remove_all-more, InsertLemmas.follows-as, LeavesOlderLemmas.newer-two, LeavesOlderLemmas.child-newer, IsUnreferredLemmas.AreLeft, IsUnreferredLemmas.first-left, IsUnreferredLemmas.rest-left, KeepsNodesLemmas.nodes-none, KeepsNodesLemmas.nodes-then}
use Rattle.dom_edit.proofs.world.World.remove_all_unreferred.Goals as goal

pub loop-node-init : goal.loop-node-init
loop-node-init c =
    let v = c.args.self.now in
    let p = c.args.parent in
    record {
      removed = follows-none v;
      left = rw c.requires.nodes (record {
        whole = c.requires.whole;
        unreferred = c.requires.unreferred;
        under = λ m k. child-parent v.tree.forest c.requires.whole.forest.once m p k;
        once = λ m. child-once v.tree.forest c.requires.whole.forest.once m p;
      });
      kept = nodes-none v;
      older = λ a h newer l. l;
    }

pub remove_unreferred-requires-clause-whole : goal.remove_unreferred-requires-clause-whole
remove_unreferred-requires-clause-whole c = c.loop-node.invariant.left.whole

pub remove_unreferred-requires-clause-child : goal.remove_unreferred-requires-clause-child
remove_unreferred-requires-clause-child c =
    let xs = c.args.nodes.now in
    let i = c.loop-node.node-index in
    let n = c.node-item.result in
    let split : drop i xs ≡ n ∷ drop (i + 1) xs = drop_more xs i n c.loop-node-test.true ∙ ap (λ m. m ∷ drop (i + 1) xs) (sym c.node-item.is) in
    first-left c.loop-node.self c.args.parent n (drop (i + 1) xs) (subst (AreLeft c.loop-node.self c.args.parent) split c.loop-node.invariant.left)

pub remove_unreferred-requires-clause-unreferred : goal.remove_unreferred-requires-clause-unreferred
remove_unreferred-requires-clause-unreferred c = c.loop-node.invariant.left.unreferred

pub loop-node-preserved : goal.loop-node-preserved
loop-node-preserved c =
    let first = c.args.self.now in
    let v = c.loop-node.self in
    let new = c.remove_unreferred.new.self in
    let n = c.node-item.result in
    let xs = c.args.nodes.now in
    let i = c.loop-node.node-index in
    let more : take (i + 1) xs ≡ take i xs ++ n ∷ [] = take_more xs i n c.loop-node-test.true ∙ ap (λ m. take i xs ++ m ∷ []) (sym c.node-item.is) in
    let split : drop i xs ≡ n ∷ drop (i + 1) xs = drop_more xs i n c.loop-node-test.true ∙ ap (λ m. m ∷ drop (i + 1) xs) (sym c.node-item.is) in
    let step : Follows v new (remove true n) = c.in_ok-remove_unreferred.ensures.removed in
    record {
      removed = follows-as first new (λ w. remove true n (remove_all (take i xs) w)) (remove_all (take (i + 1) xs))
          (λ w k. ap (λ (ns : List ℕ). remove_all ns w) more ∙ remove_all-more (take i xs) n w)
          (follows-then first v new (remove_all (take i xs)) (remove true n) c.loop-node.invariant.removed step);
      left = rest-left v new c.args.parent n (drop (i + 1) xs) (subst (AreLeft v c.args.parent) split c.loop-node.invariant.left) step c.in_ok-remove_unreferred.ensures.ranges c.in_ok-remove_unreferred.ensures.whole;
      kept = nodes-then first v new c.loop-node.invariant.kept c.in_ok-remove_unreferred.ensures.kept;
      older = λ a h newer l.
          let p = c.args.parent in
          let m = c.loop-node.invariant.older a h newer l in
          let above = newer p (hits-first p []) in
          let e = first-left v p n (drop (i + 1) xs) (subst (AreLeft v p) split c.loop-node.invariant.left) in
          c.in_ok-remove_unreferred.ensures.left a h (newer-two a h p n above (child-newer a h v m n p e above)) m;
    }

pub returns-clause-whole : goal.returns-clause-whole
returns-clause-whole c = c.loop-node.invariant.left.whole

pub returns-in_err-remove_unreferred-clause-left : goal.returns-in_err-remove_unreferred-clause-left
returns-in_err-remove_unreferred-clause-left c a h newer l =
    let v = c.loop-node.self in
    let p = c.args.parent in
    let n = c.node-item.result in
    let xs = c.args.nodes.now in
    let i = c.loop-node.node-index in
    let split : drop i xs ≡ n ∷ drop (i + 1) xs = drop_more xs i n c.loop-node-test.true ∙ ap (λ m. m ∷ drop (i + 1) xs) (sym c.node-item.is) in
    let m = c.loop-node.invariant.older a h newer l in
    let above = newer p (hits-first p []) in
    let e = first-left v p n (drop (i + 1) xs) (subst (AreLeft v p) split c.loop-node.invariant.left) in
    c.remove_unreferred.ensures.left a h (newer-two a h p n above (child-newer a h v m n p e above)) m

pub returns-clause-left : goal.returns-clause-left
returns-clause-left c = c.loop-node.invariant.older
