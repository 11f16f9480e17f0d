-- There are as many cells as there is room for.
use Rattle.std.proofs.Common.{◌≡◌, ◌<◌, length, ap, arith, tests, rules}
use Rattle.std.proofs.lemmas.List.{length-map}
use Rattle.dom_pages.proofs.page.Page.is_present.Goals as goal

pub returns-clause-present : goal.returns-clause-present
returns-clause-present g c h =
    let room : 0 < c.capacity.result = omega (arith, h, ap length c.self.view_is, length-map c.self.inside.cells.items g.C.Cell.held, c.self.invariant.1, c.capacity.ensures) in
    search (tests, rules)

pub returns-clause-gone : goal.returns-clause-gone
returns-clause-gone g c h =
    let none : c.capacity.result ≡ 0 = omega (arith, ap length h, ap length c.self.view_is, length-map c.self.inside.cells.items g.C.Cell.held, c.self.invariant.1, c.capacity.ensures) in
    search (tests, rules)
