-- There are as many items as numbers.
use Rattle.std.proofs.Common.{length, sym, ap, ◌∙◌}
use Rattle.dom_pages.proofs.CellsLemmas.{length-cells_of}
use Rattle.dom_pages.proofs.pages.Pages.len.Goals as goal

pub returns : goal.returns
returns g c = sym (length-cells_of c.self.inside.pages.items c.self.inside.len) ∙ ap (λ v. length v.items) c.self.view_is
