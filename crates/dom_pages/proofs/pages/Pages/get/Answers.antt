-- What stands under a number is read through its page, where there is one.
use Rattle.std.proofs.Common.{◌/◌, ◌%◌, ◌≤◌, [], None, length, slice_index_or, sym, ap, ◌∙◌, arith}
use Rattle.dom_pages.proofs.{PagesLemmas.get_or-items, PageWriteLemmas.cell_at-past}
use Rattle.dom_pages.proofs.pages.Pages.get.Goals as goal

pub returns-in-Some : goal.returns-in-Some
returns-in-Some g c =
    let read = c.in-Some.ensures.lookup in
    c.get-in-Some.ensures
    ∙ ap (λ p. slice_index_or p (c.args.number % 1024) None) (read.3.1 [] ∙ ap (λ ps. slice_index_or ps (c.args.number / 1024) []) c.deref.ensures.value)
    ∙ sym (get_or-items c.self.invariant c.args.number)
    ∙ ap (λ v. slice_index_or v.items c.args.number None) c.self.view_is

pub returns-in-None : goal.returns-in-None
returns-in-None g c =
    let read = c.in-None.ensures.lookup in
    let past : length c.self.inside.pages.items ≤ c.args.number / 1024 = omega (arith, read.3, ap length c.deref.ensures.value) in
    sym (cell_at-past c.self.inside.pages.items c.args.number past)
    ∙ sym (get_or-items c.self.invariant c.args.number)
    ∙ ap (λ v. slice_index_or v.items c.args.number None) c.self.view_is
