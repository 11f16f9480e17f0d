-- Where nothing stands in any cell, none is counted.
use Rattle.std.proofs.Common.{◌≡◌, map, ap, sym, ◌∙◌, subst, nat_eq}
use Rattle.dom_pages.specs.Paged.{AllVacant}
use Rattle.dom_pages.proofs.PageCountLemmas.{none_counted}
use Rattle.dom_pages.proofs.page.Page.is_vacant.Goals as goal

pub returns-clause-sure : goal.returns-clause-sure
returns-clause-sure g c vacant =
    let none : c.self.inside.count ≡ 0 = c.self.invariant.0 ∙ none_counted (map g.C.Cell.held c.self.inside.cells.items) (subst AllVacant (sym c.self.view_is) vacant) in
    ap (λ n. nat_eq n 0) none
