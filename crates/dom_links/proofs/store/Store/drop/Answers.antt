use Rattle.std.proofs.Common.{◌∙◌, ◌∷◌, [], ◌++◌, sym, ap, arith}
use Rattle.std.proofs.lemmas.Grind.{common_steps}
use Rattle.dom_links.proofs.DropLemmas.{left_none, left_some}
use Rattle.dom_links.proofs.store.Store.drop.Goals as goal

pub loop-link-preserved-in-Some-ptr : goal.loop-link-preserved-in-Some-ptr
loop-link-preserved-in-Some-ptr g c =
    left_some c.in-Some-ptr.ptr c.take-node.result.0 c.loop-link.invariant (c.in-Some.ensures.items ∙ ap (λ o. c.pop.new.self.items ++ o ∷ []) (sym c.ptr.ensures ∙ c.in-Some-ptr.is)) c.take-node.ensures.node c.take-node.ensures.cells

pub loop-link-preserved : goal.loop-link-preserved
loop-link-preserved g c =
    left_none c.loop-link.invariant (c.in-Some.ensures.items ∙ ap (λ o. c.pop.new.self.items ++ o ∷ []) (sym c.ptr.ensures ∙ c.in_default-ptr.is))

pub close-requires : goal.close-requires
close-requires g c = grind (arith, common_steps)
