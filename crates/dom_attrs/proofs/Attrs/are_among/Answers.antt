use Rattle.std.proofs.Common.{sym, ◌∙◌, Bool}
use Rattle.std.specs.List.{list_any}
use Rattle.dom_model.specs.Definitions.{Attribute, is_attribute}
use Rattle.dom_attrs.proofs.AttributeLemmas.{passes_more, one_fails}
use Rattle.dom_attrs.proofs.Attrs.are_among.Goals as goal

pub returns-then-not-has : goal.returns-then-not-has
returns-then-not-has c =
    let p : Attribute → Bool = λ a. list_any (is_attribute a) c.args.other.now in
    sym (one_fails p c.args.self.now c.loop-index.index _ c.pair_at.ensures (sym c.has.ensures ∙ c.if-not-has.true))

pub loop-index-preserved : goal.loop-index-preserved
loop-index-preserved c =
    let p : Attribute → Bool = λ a. list_any (is_attribute a) c.args.other.now in
    passes_more p c.args.self.now c.loop-index.index _ c.pair_at.ensures c.loop-index.invariant (sym c.has.ensures ∙ c.if-not-has.false)
