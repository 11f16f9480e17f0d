-- While a cell is empty, fewer are counted than there are cells.
use Rattle.std.proofs.Common.{◌≡◌, ◌+◌, ◌<◌, Some, None, length, map, not, slice_index_or, slice_set, ap, ◌∙◌, sym, subst, arith}
use Rattle.std.proofs.lemmas.List.{length-map, length-set}
use Rattle.dom_pages.specs.Paged.{taken, taken_in}
use Rattle.dom_pages.proofs.{CellReadLemmas.held_at, CellReadLemmas.held-set, CellReadLemmas.counted-set, PageCountLemmas.taken-none, PageCountLemmas.taken-some, PageCountLemmas.taken_in-lt, page.Page.put.Goals.then-is_none, page.Page.put.Goals.else-is_none}
use Rattle.dom_pages.proofs.page.Page.put.Goals as goal

pub overflow_add-self : goal.overflow_add-self
overflow_add-self g c =
    let cells = c.self.inside.cells.items in
    let long = length-map cells g.C.Cell.held in
    let inside : c.args.cell < length cells = omega (arith, long, ap length c.self.view_is, c.requires) in
    let empty : taken (slice_index_or (map g.C.Cell.held cells) c.args.cell None) ≡ 0 =
    ap taken (sym (held_at g.C.Cell.held cells c.args.cell c.index.result.now inside c.index.ensures) ∙ sym c.item.ensures) ∙ taken-none c.item.result (c.is_none.ensures ∙ ap not c.if-is_none.true) in
    omega (arith, long, inside, taken_in-lt (map g.C.Cell.held cells) c.args.cell (omega (arith, long, inside)) c.args.item empty, c.self.invariant.0, c.self.inside.cells.ok, c.self.inside.cells.small)

pub invariant_of-self : goal.invariant_of-self
invariant_of-self g c =
    let held = g.C.Cell.held in
    let cells = c.self.inside.cells.items in
    let inside : c.args.cell < length cells = omega (arith, length-map cells held, ap length c.self.view_is, c.requires) in
    let was : taken (slice_index_or (map held cells) c.args.cell None) ≡ taken c.item.result = ap taken (sym (held_at held cells c.args.cell c.index.result.now inside c.index.ensures) ∙ sym c.item.ensures) in
    let counted : taken_in (map held (slice_set cells c.args.cell c.of.result)) + taken (slice_index_or (map held cells) c.args.cell None) ≡ taken_in (map held cells) + 1 =
    counted-set held cells c.args.cell c.of.result (Some c.args.item) inside c.of.ensures in
    let full = c.self.invariant.1 ∙ sym (length-set cells c.args.cell c.of.result) in
    elim c.if-is_none.branch [
      | then-is_none w ↦
          let none = taken-none c.item.result (c.is_none.ensures ∙ ap not w.if-is_none.true) in
          subst (λ p. (p.count ≡ taken_in (map held (slice_set p.cells.items c.args.cell c.of.result))) × (p.cells.cap ≡ length (slice_set p.cells.items c.args.cell c.of.result))) (sym w.self-inside-is)
          (omega (arith, counted, was, none, c.self.invariant.0), full)
      | else-is_none w ↦
          let some = taken-some c.item.result (c.is_none.ensures ∙ ap not w.if-is_none.false) in
          subst (λ p. (p.count ≡ taken_in (map held (slice_set p.cells.items c.args.cell c.of.result))) × (p.cells.cap ≡ length (slice_set p.cells.items c.args.cell c.of.result))) (sym w.self-inside-is)
          (omega (arith, counted, was, some, c.self.invariant.0), full)
    ]

pub returns : goal.returns
returns g c =
    let same : map g.C.Cell.held c.if-is_none.self-inside.cells.items ≡ map g.C.Cell.held c.self.inside.cells.items =
    elim c.if-is_none.branch [
      | then-is_none w ↦ ap (λ p. map g.C.Cell.held p.cells.items) w.self-inside-is
      | else-is_none w ↦ ap (λ p. map g.C.Cell.held p.cells.items) w.self-inside-is
    ] in
    held-set g.C.Cell.held c.if-is_none.self-inside.cells.items c.args.cell c.of.result (Some c.args.item) c.of.ensures
    ∙ ap (λ page. slice_set page c.args.cell (Some c.args.item)) (same ∙ c.self.view_is)
