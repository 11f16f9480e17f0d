use Rattle.std.proofs.Common.{◌≤◌, List, ℕ, drop, length, ap, sym, ◌∙◌, subst, arith}
use Rattle.dom_model.specs.Definitions.{spliced}
use Rattle.std.proofs.lemmas.Result.{on_ok_weaker}
use Rattle.dom_payload.proofs.TailLemmas.{within-whole, drop-spliced}
use Rattle.dom_payload.proofs.tail.Tail.splice.Goals as goal

pub overflow_add-self-inside : goal.overflow_add-self-inside
overflow_add-self-inside c =
    let h = within-whole c.self.inside.passed c.args.at c.self.inside.text c.self.invariant (subst (λ (xs : List ℕ). c.args.at ≤ length xs) (sym c.self.view_is) c.requires.within) in
    omega (arith, h, c.len.ensures)

pub returns-clause-ok : goal.returns-clause-ok
returns-clause-ok c =
    on_ok_weaker c.splice-outcome.result
    (λ e. c.close_up.ensures ∙ ap (drop c.self.inside.passed) e
    ∙ drop-spliced c.self.inside.passed c.args.at c.args.count c.args.added.now c.self.inside.text c.self.invariant
    ∙ ap (spliced c.args.at c.args.count c.args.added.now) c.self.view_is)
    c.splice-outcome.ensures.ok
