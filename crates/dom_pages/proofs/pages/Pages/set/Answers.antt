-- The cell of the number is written.
use Rattle.std.proofs.Common.{◌/◌, [], Some, None, IsSome, length, slice_index_or, slice_set, sym, ap, ◌∙◌, subst, arith, tests, rules}
use Rattle.std.proofs.lemmas.List.{get_or_default}
use Rattle.dom_pages.specs.Paged.{cells_of, IsPaged}
use Rattle.dom_pages.proofs.{CellsLemmas.cells_of-written, PagesLemmas.has_page, PagesLemmas.given_out, PagesLemmas.has_cell, PagesLemmas.IsPaged-put, PageWriteLemmas.cell_at-same, PageWriteLemmas.is_written}
use Rattle.dom_pages.proofs.pages.Pages.set.Goals as goal

pub index_mut-page-requires : goal.index_mut-page-requires
index_mut-page-requires g c =
    let some = subst (λ v. IsSome (slice_index_or v.items c.args.number None)) (sym c.self.view_is) c.requires in
    omega (arith, has_page c.self.invariant c.args.number (given_out c.self.invariant c.args.number some), c.self.inside.pages.ok)

pub put-requires : goal.put-requires
put-requires g c =
    let pages = c.self.inside.pages.items in
    let some = subst (λ v. IsSome (slice_index_or v.items c.args.number None)) (sym c.self.view_is) c.requires in
    let lt = has_page c.self.invariant c.args.number (given_out c.self.invariant c.args.number some) in
    let page = c.index_mut-page.ensures.value ∙ get_or_default pages (c.args.number / 1024) c.index_mut-page.result.now [] lt in
    omega (arith, has_cell c.self.invariant c.args.number some, ap length page)

pub invariant_of-self : goal.invariant_of-self
invariant_of-self g c =
    let pages = c.self.inside.pages.items in
    let some = subst (λ v. IsSome (slice_index_or v.items c.args.number None)) (sym c.self.view_is) c.requires in
    let below = given_out c.self.invariant c.args.number some in
    let lt = has_page c.self.invariant c.args.number below in
    let e = is_written pages c.args.number (Some c.args.item) c.index_mut-page.result.now c.put.new.self lt c.index_mut-page.ensures.value c.put.ensures in
    subst (λ p. IsPaged p c.self.inside.len) (sym e)
    (IsPaged-put c.self.invariant c.args.number c.args.item c.self.inside.len lt (has_cell c.self.invariant c.args.number some) below c.self.invariant.within (omega arith) (λ j le less. omega (arith, le, less)))

pub returns-clause-items : goal.returns-clause-items
returns-clause-items g c =
    let pages = c.self.inside.pages.items in
    let some = subst (λ v. IsSome (slice_index_or v.items c.args.number None)) (sym c.self.view_is) c.requires in
    let below = given_out c.self.invariant c.args.number some in
    let lt = has_page c.self.invariant c.args.number below in
    let is = cell_at-same pages c.args.number (Some c.args.item) lt (has_cell c.self.invariant c.args.number some) in
    ap (λ p. cells_of p c.self.inside.len) (is_written pages c.args.number (Some c.args.item) c.index_mut-page.result.now c.put.new.self lt c.index_mut-page.ensures.value c.put.ensures)
    ∙ cells_of-written pages c.self.inside.len c.args.number (Some c.args.item) below is
    ∙ ap (λ v. slice_set v.items c.args.number (Some c.args.item)) c.self.view_is

pub returns-clause-room : goal.returns-clause-room
returns-clause-room g c = search (tests, rules)
