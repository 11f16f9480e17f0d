-- By the child where one node is above the other, by the two children where none is.
use Rattle.std.proofs.Common.{◌≡◌, ℕ, ◌<◌, ◌≤◌, nat_lt, nat_le, true, false, if◌then◌else◌, Option, sym, ap, ◌∙◌, refl, subst, arith, ⊎_elim, Ordering, Less, Greater}
use Rattle.std.proofs.lemmas.{Bool.cases_lt, Bool.lt-ltb, Bool.le-ltb, Bool.Decides.nat_tests}
use Rattle.dom_model.specs.Definitions.{Forest, HasNode, index_of, Point, order_of}
use Rattle.dom_tree.specs.PathsUp.{IsOnWay}
use Rattle.dom_point.proofs.MeetingLemmas.{order-same, order-at_first, order-at_second, order-between}
use Rattle.dom_point.proofs.point_order.order_where_met.Goals as goal

turned : (i a : ℕ) → ◌≡◌ {A = Ordering} (if nat_le a i then Less else Greater) (if nat_lt i a then Greater else Less)
turned i a =
    ⊎_elim
    (λ (lt : i < a). let k : nat_le a i ≡ false = grind (arith, nat_tests) in rw (k, lt-ltb i a lt) refl)
    (λ (le : a ≤ i). let k : nat_le a i ≡ true = grind (arith, nat_tests) in rw (k, le-ltb i a le) refl)
    (cases_lt i a)

held_at : {X : Type 0} (f : Forest X) (p q : Point) → p ≡ q → HasNode f q.node → HasNode f p.node
held_at f p q e h = subst (λ (x : Point). HasNode f x.node) (sym e) h

on_way : {X : Type 0} (f : Forest X) (p q : Point) (top : ℕ) (child : Option ℕ) → p ≡ q → IsOnWay f q.node top child → IsOnWay f p.node top child
on_way f p q top child e w = subst (λ (x : Point). IsOnWay f x.node top child) (sym e) w

both : {X : Type 0} (f : Forest X) (p q p' q' : Point) → p ≡ p' → q ≡ q' → order_of f p q ≡ order_of f p' q'
both f p q p' q' d e = ap (λ x. order_of f x q) d ∙ ap (order_of f p') e

pub returns-in-None-None : goal.returns-in-None-None
returns-in-None-None g c =
    let f = c.args.tree.now.forest in
    let p : Point = record { node = c.a.inside.node; offset = c.a.inside.offset } in
    let q : Point = record { node = c.b.inside.node; offset = c.b.inside.offset } in
    let a : IsOnWay f p.node c.args.met.node c.args.met.first = on_way f p c.args.a c.args.met.node c.args.met.first c.a.view_is c.requires.first in
    let v = rw c.in-None-None.is-0 at a in
    let b : IsOnWay f q.node c.args.met.node c.args.met.second = on_way f q c.args.b c.args.met.node c.args.met.second c.b.view_is c.requires.second in
    let w = rw c.in-None-None.is-1 at b in
    c.cmp.ensures ∙ sym (order-same c.state_law.ensures p q (v.through ∙ sym w.through)) ∙ both f p q c.args.a c.args.b c.a.view_is c.b.view_is

pub returns-in-None-Some : goal.returns-in-None-Some
returns-in-None-Some g c =
    let f = c.args.tree.now.forest in
    let p : Point = record { node = c.a.inside.node; offset = c.a.inside.offset } in
    let q : Point = record { node = c.b.inside.node; offset = c.b.inside.offset } in
    let a : IsOnWay f p.node c.args.met.node c.args.met.first = on_way f p c.args.a c.args.met.node c.args.met.first c.a.view_is c.requires.first in
    let v = rw c.in-None-Some.is-0 at a in
    let b : IsOnWay f q.node c.args.met.node c.args.met.second = on_way f q c.args.b c.args.met.node c.args.met.second c.b.view_is c.requires.second in
    let w = rw c.in-None-Some.is-1 at b in
    let hq = held_at f q c.args.b c.b.view_is c.requires.b_held in
    let z = le-ltb (index_of f c.in-None-Some.field-0-1) p.offset (omega (arith, c.if-a-eq0.true)) in
    sym (order-at_first c.state_law.ensures p q c.args.met.node c.in-None-Some.field-0-1 hq v w ∙ ap (λ t. if t then Greater else Less) z)
    ∙ both f p q c.args.a c.args.b c.a.view_is c.b.view_is

pub returns-in-None-Some-2 : goal.returns-in-None-Some-2
returns-in-None-Some-2 g c =
    let f = c.args.tree.now.forest in
    let p : Point = record { node = c.a.inside.node; offset = c.a.inside.offset } in
    let q : Point = record { node = c.b.inside.node; offset = c.b.inside.offset } in
    let a : IsOnWay f p.node c.args.met.node c.args.met.first = on_way f p c.args.a c.args.met.node c.args.met.first c.a.view_is c.requires.first in
    let v = rw c.in-None-Some.is-0 at a in
    let b : IsOnWay f q.node c.args.met.node c.args.met.second = on_way f q c.args.b c.args.met.node c.args.met.second c.b.view_is c.requires.second in
    let w = rw c.in-None-Some.is-1 at b in
    let hq = held_at f q c.args.b c.b.view_is c.requires.b_held in
    c.side.ensures
    ∙ turned c.index.result p.offset
    ∙ ap (λ i. if nat_lt i p.offset then Greater else Less) c.index.ensures
    ∙ sym (order-at_first c.state_law.ensures p q c.args.met.node c.in-None-Some.field-0-1 hq v w)
    ∙ both f p q c.args.a c.args.b c.a.view_is c.b.view_is

pub returns-in-Some-None : goal.returns-in-Some-None
returns-in-Some-None g c =
    let f = c.args.tree.now.forest in
    let p : Point = record { node = c.a.inside.node; offset = c.a.inside.offset } in
    let q : Point = record { node = c.b.inside.node; offset = c.b.inside.offset } in
    let a : IsOnWay f p.node c.args.met.node c.args.met.first = on_way f p c.args.a c.args.met.node c.args.met.first c.a.view_is c.requires.first in
    let v = rw c.in-Some-None.is-0 at a in
    let b : IsOnWay f q.node c.args.met.node c.args.met.second = on_way f q c.args.b c.args.met.node c.args.met.second c.b.view_is c.requires.second in
    let w = rw c.in-Some-None.is-1 at b in
    let hp = held_at f p c.args.a c.a.view_is c.requires.a_held in
    let z = le-ltb (index_of f c.in-Some-None.field-0-0) q.offset (omega (arith, c.if-b-eq0.true)) in
    sym (order-at_second c.state_law.ensures p q c.args.met.node c.in-Some-None.field-0-0 hp v w ∙ ap (λ t. if t then Less else Greater) z)
    ∙ both f p q c.args.a c.args.b c.a.view_is c.b.view_is

pub returns-in-Some-None-2 : goal.returns-in-Some-None-2
returns-in-Some-None-2 g c =
    let f = c.args.tree.now.forest in
    let p : Point = record { node = c.a.inside.node; offset = c.a.inside.offset } in
    let q : Point = record { node = c.b.inside.node; offset = c.b.inside.offset } in
    let a : IsOnWay f p.node c.args.met.node c.args.met.first = on_way f p c.args.a c.args.met.node c.args.met.first c.a.view_is c.requires.first in
    let v = rw c.in-Some-None.is-0 at a in
    let b : IsOnWay f q.node c.args.met.node c.args.met.second = on_way f q c.args.b c.args.met.node c.args.met.second c.b.view_is c.requires.second in
    let w = rw c.in-Some-None.is-1 at b in
    let hp = held_at f p c.args.a c.a.view_is c.requires.a_held in
    c.side-in-Some-None-2.ensures
    ∙ ap (λ i. if nat_lt i q.offset then Less else Greater) c.index-in-Some-None-2.ensures
    ∙ sym (order-at_second c.state_law.ensures p q c.args.met.node c.in-Some-None.field-0-0 hp v w)
    ∙ both f p q c.args.a c.args.b c.a.view_is c.b.view_is

pub returns-in-Some-Some : goal.returns-in-Some-Some
returns-in-Some-Some g c =
    let f = c.args.tree.now.forest in
    let p : Point = record { node = c.a.inside.node; offset = c.a.inside.offset } in
    let q : Point = record { node = c.b.inside.node; offset = c.b.inside.offset } in
    let a : IsOnWay f p.node c.args.met.node c.args.met.first = on_way f p c.args.a c.args.met.node c.args.met.first c.a.view_is c.requires.first in
    let v = rw c.in-Some-Some.is-0 at a in
    let b : IsOnWay f q.node c.args.met.node c.args.met.second = on_way f q c.args.b c.args.met.node c.args.met.second c.b.view_is c.requires.second in
    let w = rw c.in-Some-Some.is-1 at b in
    let ne = rw (c.in-Some-Some.is-0, c.in-Some-Some.is-1) at c.requires.apart in
    let hp = held_at f p c.args.a c.a.view_is c.requires.a_held in
    let hq = held_at f q c.args.b c.b.view_is c.requires.b_held in
    c.side-in-Some-Some.ensures
    ∙ ap (λ v. if v then Less else Greater) c.comes_before.ensures
    ∙ sym (order-between c.state_law.ensures p q c.args.met.node c.in-Some-Some.first c.in-Some-Some.second hp hq v w ne)
    ∙ both f p q c.args.a c.args.b c.a.view_is c.b.view_is
