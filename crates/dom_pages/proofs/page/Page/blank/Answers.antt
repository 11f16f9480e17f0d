-- Each cell that is pushed is empty.
use Rattle.std.proofs.Common.{◌≡◌, map, ap, ◌∙◌, arith}
use Rattle.std.proofs.lemmas.Grind.{common_steps}
use Rattle.dom_pages.specs.Paged.{taken_in}
use Rattle.dom_pages.proofs.{CellReadLemmas.counted-pushed, PageCountLemmas.none_stands}
use Rattle.dom_pages.proofs.page.Page.blank.Goals as goal

pub loop-preserved : goal.loop-preserved
loop-preserved g c =
    let empty : taken_in (map g.C.Cell.held c.push_reserved.new.self.items) ≡ 0 =
    ap (λ cells. taken_in (map g.C.Cell.held cells)) c.push_reserved.ensures.items ∙ counted-pushed g.C.Cell.held c.loop.cells.items c.vacant.result c.vacant.ensures ∙ c.loop.invariant.empty in
    grind (arith, common_steps)

pub returns-clause-vacant : goal.returns-clause-vacant
returns-clause-vacant g c = none_stands (map g.C.Cell.held c.loop.cells.items) c.loop.invariant.empty
