use Rattle.std.proofs.Common.{MatchOption, rules, ◌≡◌, ℕ, Option, None, sym, ◌∙◌, subst}
use Rattle.dom_model.specs.Definitions.{Grove, parent_of, previous_of, next_of, Content}
use Rattle.dom_traverse.proofs.SpotLemmas.{told_at}
use Rattle.dom_edit.specs.{declared.removal.ChildPosition.ChildPosition, ChildPositions.IsSeat}
use Rattle.dom_edit.proofs.removal.seat_of.Goals as goal

pub returns-in_err-parent : goal.returns-in_err-parent
returns-in_err-parent c =
    let f = c.args.tree.now.forest in
    let n = c.args.node in
    let above = told_at c.at-here.ensures.tree c.at-here.ensures.node (λ (t : Grove Content) (m : ℕ). parent_of t.forest m) c.parent.ensures.node in
    let none : c.from_residual.result ≡ None = search rules in
    subst (λ (o : Option ChildPosition). MatchOption o (parent_of f n ≡ None) (λ s. IsSeat f n s)) (sym none) (above ∙ sym c.number.ensures ∙ c.in_err-parent.was)

pub returns : goal.returns
returns c =
    let d = c.at-here.ensures.tree in
    let e = c.at-here.ensures.node in
    record {
      parent = told_at d e (λ (t : Grove Content) (m : ℕ). parent_of t.forest m) c.parent.ensures.node ∙ sym c.number.ensures ∙ c.in_ok-parent.was;
      previous = c.number-previous.ensures ∙ sym (told_at d e (λ (t : Grove Content) (m : ℕ). previous_of t.forest m) c.prev.ensures.node);
      next = c.number-next.ensures ∙ sym (told_at d e (λ (t : Grove Content) (m : ℕ). next_of t.forest m) c.next.ensures.node);
    }
