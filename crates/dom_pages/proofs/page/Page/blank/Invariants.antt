-- The cells so far are empty, and the others have their room.
use Rattle.std.proofs.Common.{◌≡◌, map, vec_len, vec_capacity}
use Rattle.dom_pages.specs.Paged.{taken_in}
use Rattle.dom_pages.proofs.page.Page.blank.Given as goal

abbrev pub invariant-loop : goal.invariant-loop
invariant-loop g l = record { many : vec_len l.cells ≡ l.counter; room : vec_capacity l.cells ≡ 1024; empty : taken_in (map g.C.Cell.held l.cells.items) ≡ 0 }
