use Rattle.std.proofs.Common.{◌≡◌, Some, None, ap, sym, ◌∙◌, tests, rules}
use Rattle.dom_tree.specs.Tallies.{tally_in}
use Rattle.dom_tree.proofs.tree.Tree.new.Goals as goal

pub invariant_of-result : goal.invariant_of-result
invariant_of-result g c =
    record {
      tree = rw (c.new.ensures, c.new-2.ensures) (search (tests, rules));
      placed = search (tests, rules);
      blocked = search (tests, rules);
      tallied = λ p t e. absurd (let z : None ≡ Some t = ap (λ table. tally_in table p) (sym c.new-4.ensures) ∙ e in cc z);
    }

pub returns : goal.returns
returns g c = search (tests, rules)
