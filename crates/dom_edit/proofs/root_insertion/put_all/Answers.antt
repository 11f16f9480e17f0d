use Rattle.std.proofs.Common.{◌≡◌, ℕ, ◌+◌, ◌∷◌, List, drop, ap, sym, ◌∙◌, subst}
use Rattle.std.proofs.lemmas.List.{drop_more}
use Rattle.dom_model.specs.Definitions.{Grove, Content, IsOwnedWell}
use Rattle.dom_edit.specs.Insertion.{all_placed, IsOpen}
use Rattle.dom_edit.proofs.PlacedInLemmas.{open-next, owned-next}
use Rattle.dom_edit.proofs.root_insertion.put_all.Goals as goal

pub loop-node-preserved : goal.loop-node-preserved
loop-node-preserved c =
    let g = c.loop-node.tree in
    let n = c.node-item.result in
    let xs = c.args.nodes.now in
    let i = c.loop-node.node-index in
    let parent = c.args.parent in
    let child = c.args.child in
    let split : drop i xs ≡ n ∷ drop (i + 1) xs = drop_more xs i n c.loop-node-test.true ∙ ap (λ m. m ∷ drop (i + 1) xs) (sym c.node-item.is) in
    let ready = subst (IsOpen g.forest parent child) split c.loop-node.invariant.ready in
    let same = ap (λ (ns : List ℕ). all_placed parent child ns g.forest) (sym split) ∙ c.loop-node.invariant.same in
    let e = sym c.put_in.ensures in
    record {
      same = subst (λ (h : Grove Content). all_placed parent child (drop (i + 1) xs) h.forest ≡ all_placed parent child xs c.args.tree.now.forest) e same;
      made = subst (λ (h : Grove Content). h.made ≡ c.args.tree.now.made) e c.loop-node.invariant.made;
      ready = subst (λ (h : Grove Content). IsOpen h.forest parent child (drop (i + 1) xs)) e (open-next g c.state_law.ensures parent n child (drop (i + 1) xs) ready);
      owned = subst (λ (h : Grove Content). IsOwnedWell h.forest) e (owned-next g c.state_law.ensures parent n child (drop (i + 1) xs) ready c.loop-node.invariant.owned);
    }
