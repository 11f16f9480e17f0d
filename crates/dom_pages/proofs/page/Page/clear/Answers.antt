-- A cell in which something stands was counted.
use Rattle.std.proofs.Common.{◌≡◌, ◌+◌, ◌<◌, None, length, map, slice_index_or, slice_set, ap, ◌∙◌, sym, arith}
use Rattle.std.proofs.lemmas.{Grind.common_steps, List.length-map, List.length-set}
use Rattle.dom_pages.specs.Paged.{taken, taken_in}
use Rattle.dom_pages.proofs.{CellReadLemmas.held-set, CellReadLemmas.counted-set, PageCountLemmas.taken-some, PageCountLemmas.taken_within}
use Rattle.dom_pages.proofs.page.Page.clear.Goals as goal

pub overflow_sub-self : goal.overflow_sub-self
overflow_sub-self g c = grind (arith, common_steps)

pub index_mut-requires : goal.index_mut-requires
index_mut-requires g c = grind (arith, common_steps)

pub invariant_of-self : goal.invariant_of-self
invariant_of-self g c =
    let held = g.C.Cell.held in
    let cells = c.self.inside.cells.items in
    let was : taken (slice_index_or (map held cells) c.args.cell None) ≡ 1 =
    ap (λ page. taken (slice_index_or page c.args.cell None)) c.self.view_is ∙ ap taken (sym c.get.ensures) ∙ taken-some c.get.result (sym c.is_some.ensures ∙ c.if-is_some.true) in
    let inside : c.args.cell < length cells = omega (arith, taken_within (map held cells) c.args.cell was, length-map cells held) in
    let counted : taken_in (map held (slice_set cells c.args.cell c.vacant.result)) + taken (slice_index_or (map held cells) c.args.cell None) ≡ taken_in (map held cells) + 0 =
    counted-set held cells c.args.cell c.vacant.result None inside c.vacant.ensures in
    (omega (arith, counted, was, c.self.invariant.0), c.self.invariant.1 ∙ sym (length-set cells c.args.cell c.vacant.result))

pub returns-then-is_some : goal.returns-then-is_some
returns-then-is_some g c =
    held-set g.C.Cell.held c.self.inside.cells.items c.args.cell c.vacant.result None c.vacant.ensures ∙ ap (λ page. slice_set page c.args.cell None) c.self.view_is

pub returns-else-is_some : goal.returns-else-is_some
returns-else-is_some g c = grind (arith, common_steps)
