-- The next cell is written, behind the others.
use Rattle.std.proofs.Common.{◌<◌, ◌*◌, ◌+◌, ◌∷◌, ◌++◌, [], Some, length, ap, sym, subst, ◌∙◌, arith, tests, rules}
use Rattle.dom_pages.specs.Paged.{cells_of, IsPaged}
use Rattle.dom_pages.proofs.{CellsLemmas.cells_of-pushed, PagesLemmas.has_next, PagesLemmas.IsPaged-put, PageWriteLemmas.cell_at-same, PageWriteLemmas.is_written}
use Rattle.dom_pages.proofs.pages.Pages.push_reserved.Goals as goal

pub returns-clause-items : goal.returns-clause-items
returns-clause-items g c =
    let pages = c.self.inside.pages.items in
    let len = c.self.inside.len in
    let room : len < 1024 * length pages = omega (arith, ap (λ v. v.room) c.self.view_is, c.requires) in
    let next = has_next c.self.invariant room in
    ap (λ p. cells_of p (len + 1)) (is_written pages len (Some c.args.item) c.index_mut-page.result.now c.put.new.self next.0 c.index_mut-page.ensures.value c.put.ensures)
    ∙ cells_of-pushed pages len (Some c.args.item) (cell_at-same pages len (Some c.args.item) next.0 next.1)
    ∙ ap (λ v. v.items ++ Some c.args.item ∷ []) c.self.view_is

pub returns-clause-room : goal.returns-clause-room
returns-clause-room g c = search (tests, rules)

pub invariant_of-self : goal.invariant_of-self
invariant_of-self g c =
    let pages = c.self.inside.pages.items in
    let len = c.self.inside.len in
    let room : len < 1024 * length pages = omega (arith, ap (λ v. v.room) c.self.view_is, c.requires) in
    let next = has_next c.self.invariant room in
    let e = is_written pages len (Some c.args.item) c.index_mut-page.result.now c.put.new.self next.0 c.index_mut-page.ensures.value c.put.ensures in
    subst (λ p. IsPaged p (len + 1)) (sym e)
    (IsPaged-put c.self.invariant len c.args.item (len + 1) next.0 next.1 (omega arith) (omega (arith, room)) (omega arith) (λ j le lt. omega (arith, le, lt)))
