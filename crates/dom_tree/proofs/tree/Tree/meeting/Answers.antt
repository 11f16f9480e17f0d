-- The ways meet where one node is above the other, or where they part from one depth on.
use Rattle.std.proofs.Common.{◌≡◌, ℕ, ◌<◌, ◌≤◌, ◌-◌, Option, Some, None, sym, ◌∙◌, subst, arith, ⊎_elim}
use Rattle.std.proofs.lemmas.Bool.{cases_lt, eqb-true, eqb-false}
use Rattle.dom_tree.specs.PathsUp.{IsOnWay, AreApart}
use Rattle.dom_tree.proofs.PathsUpLemmas.{way-start, way-held, way-root, way-on}
use Rattle.dom_tree.proofs.tree.Tree.meeting.Goals as goal

-- one of two ways has taken no step yet
fresh : (m n : ℕ) (first second : Option ℕ) → (m - n ≡ 0 → first ≡ None) → (n - m ≡ 0 → second ≡ None) → AreApart first second
fresh m n first second h k =
    ⊎_elim
    (λ (lt : m < n). rw (h (omega arith)) tt)
    (λ (le : n ≤ m). rw (k (omega arith)) (none first))
    (cases_lt m n)
  where
    none : (o : Option ℕ) → AreApart o None
    none None = tt
    none (Some x) = tt

pub returns-then-eq : goal.returns-then-eq
returns-then-eq g c =
    let e : c.args.a ≡ c.args.b = eqb-true c.args.a c.args.b (sym c.eq.ensures ∙ c.if-eq.true) in
    let w = way-start c.state_law.ensures c.args.b c.requires.b_held in
    record { first = way-start c.state_law.ensures c.args.a c.requires.a_held; second = subst (λ n. IsOnWay c.args.self.now.forest c.args.b n None) (sym e) w; apart = tt }

pub returns-then-eq-2 : goal.returns-then-eq-2
returns-then-eq-2 g c =
    let e : c.climbed-first.result.node ≡ c.climbed-second.result.node = eqb-true c.climbed-first.result.node c.climbed-second.result.node (sym c.eq-2.ensures ∙ c.if-eq-2.true) in
    record {
      first = c.climbed-first.ensures.way;
      second = subst (λ n. IsOnWay c.args.self.now.forest c.args.b n c.climbed-second.result.child) (sym e) c.climbed-second.ensures.way;
      apart = fresh c.depth-a_depth.result c.depth-b_depth.result c.climbed-first.result.child c.climbed-second.result.child (λ z. c.climbed-first.ensures.start (c.saturating_sub.ensures ∙ z)) (λ z. c.climbed-second.ensures.start (c.saturating_sub-2.ensures ∙ z));
    }

pub fork-fork-requires : goal.fork-fork-requires
fork-fork-requires g c = record {
  a_held = way-held c.state_law.ensures c.args.a c.climbed-first.result.node c.climbed-first.result.child c.requires.a_held c.climbed-first.ensures.way;
  b_held = way-held c.state_law.ensures c.args.b c.climbed-second.result.node c.climbed-second.result.child c.requires.b_held c.climbed-second.ensures.way;
  apart = eqb-false c.climbed-first.result.node c.climbed-second.result.node (sym c.eq-2.ensures ∙ c.if-eq-2.false);
  one_root = way-root c.state_law.ensures c.args.a c.climbed-first.result.node c.climbed-first.result.child c.requires.a_held c.climbed-first.ensures.way ∙ c.requires.one_root ∙ sym (way-root c.state_law.ensures c.args.b c.climbed-second.result.node c.climbed-second.result.child c.requires.b_held c.climbed-second.ensures.way);
  one_depth = omega (arith, c.climbed-first.ensures.height, c.climbed-second.ensures.height, c.depth-a_depth.ensures, c.depth-b_depth.ensures, c.saturating_sub.ensures, c.saturating_sub-2.ensures);
}

pub returns : goal.returns
returns g c = record {
  first = way-on c.state_law.ensures c.args.a c.climbed-first.result.node c.fork-fork.result.node c.fork-fork.result.left c.climbed-first.ensures.way.above c.fork-fork.ensures.left;
  second = way-on c.state_law.ensures c.args.b c.climbed-second.result.node c.fork-fork.result.node c.fork-fork.result.right c.climbed-second.ensures.way.above c.fork-fork.ensures.right;
  apart = c.fork-fork.ensures.apart;
}
