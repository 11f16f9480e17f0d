-- A parent, or one number after another.
use Rattle.std.proofs.Common.{◌≡◌, sym, ◌∙◌, arith, tests, rules}
use Rattle.dom_tree.proofs.{PlaceTableLemmas.made-read, RefersLemmas.refers-none, RefersLemmas.refers-one, RefersLemmas.none-from}
use Rattle.dom_tree.proofs.tree.Tree.refers.Goals as goal

pub loop-number-init : goal.loop-number-init
loop-number-init g c = λ m h. absurd (omega arith)

pub returns-then-refers_from : goal.returns-then-refers_from
returns-then-refers_from g c =
    refers-one c.state_law.ensures c.args.top (sym c.parent.ensures ∙ none-from c.parent.result (sym c.is_some.ensures ∙ c.if-is_some.false)) c.new.result (sym c.refers_from.ensures ∙ c.if-refers_from.true)

pub returns : goal.returns
returns g c =
    let made : c.len-number-end.result ≡ c.args.self.now.made = c.len-number-end.ensures ∙ made-read c.self.invariant c.self.view_is in
    let e : c.loop-number.number ≡ c.args.self.now.made = omega arith in
    refers-none c.state_law.ensures c.args.top (sym c.parent.ensures ∙ none-from c.parent.result (sym c.is_some.ensures ∙ c.if-is_some.false)) (λ m lt. c.loop-number.invariant m (omega (arith, lt, e)))

pub returns-then-is_some : goal.returns-then-is_some
returns-then-is_some g c = search (tests, rules)
