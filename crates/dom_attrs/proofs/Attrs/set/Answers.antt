use Rattle.std.proofs.Common.{◌≡◌, ap, sym, ◌∙◌}
use Rattle.std.proofs.lemmas.Result.{err_from_is_err_and}
use Rattle.dom_attrs.specs.Entries.{entry_attributes, entries_in}
use Rattle.dom_attrs.proofs.AttributeLemmas.{IsDistinct-nil}
use Rattle.dom_attrs.proofs.Attrs.set.Goals as goal

pub invariant_of-self : goal.invariant_of-self
invariant_of-self c = rw c.take.ensures.after (IsDistinct-nil _)

pub returns-in_err-map-clause-err : goal.returns-in_err-map-clause-err
returns-in_err-map-clause-err c =
    let p = err_from_is_err_and c.from_residual.result c.from_residual.ensures.1 in
    let none : entries_in c.take.new.self ≡ entries_in c.take.result = ap entries_in c.take.ensures.after ∙ sym c.in_err-map.ensures.err in
    rw (p.1) (ap entry_attributes (none ∙ ap entries_in c.take.ensures.value) ∙ c.self.view_is)
