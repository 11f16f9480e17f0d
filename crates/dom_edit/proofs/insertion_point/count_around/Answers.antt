-- All children stand around a place before a child or last, and all but one around the place of that one.
use Rattle.std.proofs.Common.{◌≡◌, true, false, ap, sym, ◌∙◌, subst, arith}
use Rattle.dom_model.specs.Definitions.{is_of_kind}
use Rattle.dom_edit.specs.{declared.insertion_point.InsertionPoint.TheVariants.Instead, InsertionPoints.IsUnder, InsertionPoints.count_around}
use Rattle.dom_edit.proofs.{InsertionPointLemmas.listed-once, CountAroundLemmas.count-before, CountAroundLemmas.count-instead}
use Rattle.dom_edit.proofs.insertion_point.count_around.Goals as goal

pub returns-in-Before : goal.returns-in-Before
returns-in-Before c =
    let g = c.args.tree.now in
    c.in_ok-all.ensures
    ∙ count-before c.args.kind g.forest c.args.document (λ m e. listed-once g c.state_law.ensures c.args.document m e) c.in-Before.field-0 (subst (IsUnder g.forest c.args.document) c.in-Before.is c.requires.under)
    ∙ ap (count_around c.args.kind g.forest c.args.document) (sym c.in-Before.is)

pub returns-in-Instead : goal.returns-in-Instead
returns-in-Instead c =
    let g = c.args.tree.now in
    let t : is_of_kind c.args.kind g.forest c.in-Instead.child ≡ true = sym c.is_of_kind.ensures ∙ c.if-is_of_kind.true in
    let w = count-instead c.args.kind g.forest c.args.document (λ m e. listed-once g c.state_law.ensures c.args.document m e) c.in-Instead.child (subst (IsUnder g.forest c.args.document) c.in-Instead.is c.requires.under) in
    let w2 = rw t at w in
    let r : c.saturating_sub.result ≡ count_around c.args.kind g.forest c.args.document (Instead c.in-Instead.child) = omega (arith, c.saturating_sub.ensures, c.in_ok-all.ensures, w2) in
    r ∙ ap (count_around c.args.kind g.forest c.args.document) (sym c.in-Instead.is)

pub returns-in-Instead-2 : goal.returns-in-Instead-2
returns-in-Instead-2 c =
    let g = c.args.tree.now in
    let t : is_of_kind c.args.kind g.forest c.in-Instead.child ≡ false = sym c.is_of_kind.ensures ∙ c.if-is_of_kind.false in
    let w = count-instead c.args.kind g.forest c.args.document (λ m e. listed-once g c.state_law.ensures c.args.document m e) c.in-Instead.child (subst (IsUnder g.forest c.args.document) c.in-Instead.is c.requires.under) in
    let w2 = rw t at w in
    let r : c.in_ok-all.all ≡ count_around c.args.kind g.forest c.args.document (Instead c.in-Instead.child) = omega (arith, c.in_ok-all.ensures, w2) in
    r ∙ ap (count_around c.args.kind g.forest c.args.document) (sym c.in-Instead.is)
