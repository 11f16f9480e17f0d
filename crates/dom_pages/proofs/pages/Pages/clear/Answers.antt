-- The cell of the number is emptied, and what the page gives back changes nothing that stands under a number.
use Rattle.std.proofs.Common.{◌≡◌, ◌/◌, ◌<◌, false, true, None, length, slice_set, sym, ap, ◌∙◌, subst, arith}
use Rattle.dom_pages.specs.Paged.{cells_of, AllVacant, IsPaged}
use Rattle.dom_pages.proofs.{CellsLemmas.length-cells_of, CellsLemmas.cells_of-written, CellsLemmas.cells_of-emptied, PagesLemmas.has_page, PagesLemmas.IsPaged-cleared, PagesLemmas.IsPaged-emptied, PageWriteLemmas.cell_at-cleared, PageWriteLemmas.is_written, PageWriteLemmas.is_cleared, pages.Pages.clear.Goals.then-number-self+then-is_vacant, pages.Pages.clear.Goals.else-number-self, pages.Pages.clear.Goals.else-number-self-via-then-number-self+else-is_vacant, pages.Pages.clear.Goals.else-number-self-via-else-number-self}
use Rattle.dom_pages.proofs.pages.Pages.clear.Goals as goal

pub index_mut-page-requires : goal.index_mut-page-requires
index_mut-page-requires g c =
    let below : c.args.number < c.self.inside.len = omega (arith, ap (λ v. length v.items) c.self.view_is, length-cells_of c.self.inside.pages.items c.self.inside.len, c.requires) in
    omega (arith, has_page c.self.invariant c.args.number below, c.self.inside.pages.ok)

pub invariant_of-self : goal.invariant_of-self
invariant_of-self g c =
    let pages = c.self.inside.pages.items in
    let len = c.self.inside.len in
    let number = c.args.number in
    let below : number < len = omega (arith, ap (λ v. length v.items) c.self.view_is, length-cells_of pages len, c.requires) in
    let lt = has_page c.self.invariant number below in
    let e = is_written pages number None c.index_mut-page.result.now c.clear.new.self lt c.index_mut-page.ensures.value c.clear.ensures in
    elim c.if-number-self.branch [
      | then-number-self+then-is_vacant w ↦
          subst (λ p. IsPaged p.pages.items p.len) (sym w.self-inside-is)
          (subst (λ q. IsPaged (slice_set pages (number / 1024) q) len) (sym w.give_back.ensures) (IsPaged-emptied c.self.invariant (number / 1024) w.if-number-self.true))
      | else-number-self w ↦
          elim w.else-number-self.branch [
            | else-number-self-via-then-number-self+else-is_vacant u ↦
                let after = is_cleared pages number c.index_mut-page.result.now c.clear.new.self lt c.index_mut-page.ensures.value c.clear.ensures in
                subst (λ p. IsPaged p.pages.items p.len) (sym (w.self-inside-is ∙ u.self-inside-is))
                (subst (λ p. IsPaged p len) (sym e)
                (IsPaged-cleared c.self.invariant number below
                (λ _ all. let no : false ≡ true = sym u.if-is_vacant.false ∙ u.is_vacant.ensures.sure (subst AllVacant (sym after) all) in absurd (cc))))
            | else-number-self-via-else-number-self u ↦
                subst (λ p. IsPaged p.pages.items p.len) (sym (w.self-inside-is ∙ u.self-inside-is))
                (subst (λ p. IsPaged p len) (sym e) (IsPaged-cleared c.self.invariant number below (λ less _. omega (arith, less, u.if-number-self.false))))
          ]
    ]

pub returns-clause-items : goal.returns-clause-items
returns-clause-items g c =
    let pages = c.self.inside.pages.items in
    let len = c.self.inside.len in
    let number = c.args.number in
    let below : number < len = omega (arith, ap (λ v. length v.items) c.self.view_is, length-cells_of pages len, c.requires) in
    let lt = has_page c.self.invariant number below in
    let e = is_written pages number None c.index_mut-page.result.now c.clear.new.self lt c.index_mut-page.ensures.value c.clear.ensures in
    let cleared = cells_of-written pages len number None below (cell_at-cleared pages number lt) ∙ ap (λ v. slice_set v.items number None) c.self.view_is in
    elim c.if-number-self.branch [
      | then-number-self+then-is_vacant w ↦
          let after = is_cleared pages number c.index_mut-page.result.now c.clear.new.self lt c.index_mut-page.ensures.value c.clear.ensures in
          ap (λ p. cells_of p.pages.items p.len) w.self-inside-is
          ∙ ap (λ q. cells_of (slice_set pages (number / 1024) q) len) w.give_back.ensures
          ∙ cells_of-emptied pages len number lt (subst AllVacant after (w.is_vacant.ensures.vacant w.if-is_vacant.true))
          ∙ cleared
      | else-number-self w ↦
          elim w.else-number-self.branch [
            | else-number-self-via-then-number-self+else-is_vacant u ↦ ap (λ p. cells_of p.pages.items p.len) (w.self-inside-is ∙ u.self-inside-is) ∙ ap (λ p. cells_of p len) e ∙ cleared
            | else-number-self-via-else-number-self u ↦ ap (λ p. cells_of p.pages.items p.len) (w.self-inside-is ∙ u.self-inside-is) ∙ ap (λ p. cells_of p len) e ∙ cleared
          ]
    ]
