-- Where one node is above the other that decides, else the two children where the ways meet.
use Rattle.std.proofs.Common.{◌≡◌, Some, true, refl, sym, ◌∙◌, subst}
use Rattle.dom_model.specs.Definitions.{among, ancestors}
use Rattle.dom_tree.proofs.TreeOrder.{top-there, met-beside, met-below, met-above}
use Rattle.dom_tree.proofs.tree.Tree.precedes.Goals as goal

pub comes_before-requires : goal.comes_before-requires
comes_before-requires g c =
    let v = rw c.in-Some-Some.is-0 at c.meeting-met.ensures.first in
    let w = rw c.in-Some-Some.is-1 at c.meeting-met.ensures.second in
    record {
      a_held = top-there c.state_law.ensures c.in-Some-Some.first c.args.a v.through.1;
      b_held = top-there c.state_law.ensures c.in-Some-Some.second c.args.b w.through.1;
      one_parent = v.through.0 ∙ sym w.through.0;
      child = rw v.through.0 refl;
    }

pub returns-in-Some-Some : goal.returns-in-Some-Some
returns-in-Some-Some g c =
    let v = rw c.in-Some-Some.is-0 at c.meeting-met.ensures.first in
    let w = rw c.in-Some-Some.is-1 at c.meeting-met.ensures.second in
    let ne = rw (c.in-Some-Some.is-0, c.in-Some-Some.is-1) at c.meeting-met.ensures.apart in
    c.comes_before.ensures ∙ met-beside c.state_law.ensures c.args.a c.args.b c.meeting-met.result.node c.in-Some-Some.first c.in-Some-Some.second c.requires.a_held c.requires.b_held v.through.0 w.through.0 v.through.1 w.through.1 ne

pub returns-in-None-Some : goal.returns-in-None-Some
returns-in-None-Some g c =
    let f = c.args.self.now.forest in
    let v = rw c.in-None-Some.is-0 at c.meeting-met.ensures.first in
    let w = rw c.in-None-Some.is-1 at c.meeting-met.ensures.second in
    met-above c.state_law.ensures c.args.a c.args.b c.in-None-Some.field-0-1 c.requires.b_held (subst (λ n. among n (ancestors c.args.b f) ≡ true) (sym v.through) w.above) (w.through.0 ∙ (λ i. Some (sym v.through i))) w.through.1

pub returns-in_default-None : goal.returns-in_default-None
returns-in_default-None g c =
    let f = c.args.self.now.forest in
    let w = rw c.in_default-None.is-1 at c.meeting-met.ensures.second in
    met-below c.state_law.ensures c.args.a c.args.b c.requires.a_held (subst (λ n. among n (ancestors c.args.a f) ≡ true) (sym w.through) c.meeting-met.ensures.first.above)
