use Rattle.std.proofs.Common.{◌≤◌, List, ℕ, length, sym, subst, arith}
use Rattle.dom_payload.proofs.TailLemmas.{within-whole}
use Rattle.dom_payload.proofs.tail.Tail.pass.Goals as goal

pub overflow_add-self : goal.overflow_add-self
overflow_add-self c =
    let h = within-whole c.self.inside.passed c.args.count c.self.inside.text c.self.invariant (subst (λ (xs : List ℕ). c.args.count ≤ length xs) (sym c.self.view_is) c.requires) in
    omega (arith, h, c.len.ensures)
