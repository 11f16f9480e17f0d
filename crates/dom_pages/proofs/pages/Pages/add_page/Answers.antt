-- A page with nothing in it behind the others changes nothing that stands under a number.
use Rattle.std.proofs.Common.{◌<◌, length, sym, ap, ◌∙◌, subst, arith}
use Rattle.dom_pages.specs.Paged.{cells_of, IsPaged}
use Rattle.dom_pages.proofs.{CellsLemmas.length-cells_of, CellsLemmas.cells_of-same, PagesLemmas.IsPaged-added, PageWriteLemmas.cell_at-added}
use Rattle.dom_pages.proofs.pages.Pages.add_page.Goals as goal

pub invariant_of-self-2 : goal.invariant_of-self-2
invariant_of-self-2 g c =
    let pages = c.self.inside.pages.items in
    let long = length-cells_of pages c.self.inside.len in
    let few : length pages < 4194304 = omega (arith, long, ap (λ v. length v.items) c.self.view_is, ap (λ v. v.room) c.self.view_is, c.requires) in
    subst (λ p. IsPaged p c.self.inside.len) (sym c.in_ok-push.ensures.items)
    (IsPaged-added c.self.invariant c.in_ok-page.page c.in_ok-page.ensures.cells c.in_ok-page.ensures.vacant few)

pub returns-clause-items : goal.returns-clause-items
returns-clause-items g c =
    let pages = c.self.inside.pages.items in
    ap (λ p. cells_of p c.self.inside.len) c.in_ok-push.ensures.items
    ∙ cells_of-same pages _ c.self.inside.len (λ n _. cell_at-added pages c.in_ok-page.page c.in_ok-page.ensures.vacant n)
    ∙ ap (λ v. v.items) c.self.view_is
