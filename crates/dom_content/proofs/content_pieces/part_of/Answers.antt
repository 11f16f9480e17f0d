-- As many as there are.
use Rattle.std.proofs.Common.{◌≡◌, ℕ, ◌-◌, List, length, min, ap, ◌∙◌, subst, IfOk}
use Rattle.dom_model.specs.Definitions.{substring}
use Rattle.dom_content.proofs.PieceSteps.{substring-within}
use Rattle.dom_content.proofs.content_pieces.part_of.Goals as goal

pub returns : goal.returns
returns c =
    let text = c.data_in-data.result.now in
    let within : c.min-count.result ≡ min c.args.count (length text - c.args.offset) = c.min-count.ensures in
    subst (λ (ns : List ℕ). IfOk c.from_units.result (λ copy. copy ≡ ns))
    (c.units_within.ensures ∙ substring-within c.args.offset c.args.count c.min-count.result text within ∙ ap (substring c.args.offset c.args.count) c.data_in-data.ensures) c.from_units.ensures
