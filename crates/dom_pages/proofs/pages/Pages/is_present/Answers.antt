-- What stands under a number stands in a cell of its page; a page whose numbers were all taken back has no cell.
use Rattle.std.proofs.Common.{◌≡◌, ◌/◌, ◌≤◌, [], None, IsSome, length, slice_index_or, sym, ap, ◌∙◌, subst, arith}
use Rattle.std.proofs.lemmas.List.{get_or_past}
use Rattle.dom_pages.specs.Paged.{page_at, cells_of, IsTakenBack}
use Rattle.dom_pages.proofs.PagesLemmas.{has_cell, taken_back}
use Rattle.dom_pages.proofs.pages.Pages.is_present.Goals as goal

pub returns-in-Some-clause-present : goal.returns-in-Some-clause-present
returns-in-Some-clause-present g c h =
    let read = c.in-Some.ensures.lookup in
    let page : c.in-Some.page.now ≡ page_at c.self.inside.pages.items (c.args.number / 1024) =
    read.3.1 [] ∙ ap (λ ps. slice_index_or ps (c.args.number / 1024) []) c.deref.ensures.value in
    let some : IsSome (slice_index_or (cells_of c.self.inside.pages.items c.self.inside.len) c.args.number None) = subst (λ v. IsSome (slice_index_or v.items c.args.number None)) (sym c.self.view_is) h in
    let cell = has_cell c.self.invariant c.args.number some in
    c.is_present.ensures.present (omega (arith, cell, ap length page))

pub returns-in-None-clause-present : goal.returns-in-None-clause-present
returns-in-None-clause-present g c h =
    let read = c.in-None.ensures.lookup in
    let past : length c.self.inside.pages.items ≤ c.args.number / 1024 = omega (arith, read.3, ap length c.deref.ensures.value) in
    let some : IsSome (slice_index_or (cells_of c.self.inside.pages.items c.self.inside.len) c.args.number None) = subst (λ v. IsSome (slice_index_or v.items c.args.number None)) (sym c.self.view_is) h in
    let cell = has_cell c.self.invariant c.args.number some in
    let none : page_at c.self.inside.pages.items (c.args.number / 1024) ≡ [] = get_or_past c.self.inside.pages.items (c.args.number / 1024) [] past in
    let no : ⊥ = omega (arith, cell, ap length none) in
    absurd no

pub returns-in-Some-clause-gone : goal.returns-in-Some-clause-gone
returns-in-Some-clause-gone g c h =
    let read = c.in-Some.ensures.lookup in
    let page : c.in-Some.page.now ≡ page_at c.self.inside.pages.items (c.args.number / 1024) =
    read.3.1 [] ∙ ap (λ ps. slice_index_or ps (c.args.number / 1024) []) c.deref.ensures.value in
    let gone : IsTakenBack (cells_of c.self.inside.pages.items c.self.inside.len) (c.args.number / 1024) = subst (λ v. IsTakenBack v.items (c.args.number / 1024)) (sym c.self.view_is) h in
    c.is_present.ensures.gone (page ∙ taken_back c.self.invariant (c.args.number / 1024) gone)
