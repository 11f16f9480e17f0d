use Rattle.std.proofs.Common.{◌≡◌, ℕ, ◌≤◌, Some, refl, sym, ◌∙◌}
use Rattle.dom_model.specs.Definitions.{hits, children_of}
use Rattle.dom_model.proofs.Forests.Indices.{child-once}
use Rattle.dom_edit.specs.InsertionPoints.{child_of, staying, IsFound}
use Rattle.dom_edit.proofs.{IsAmongLemmas.IsAmong-head, IsAmongLemmas.IsAmong-after, IsAmongLemmas.from_optional-head, IsAmongLemmas.next_of-child, InsertionPointLemmas.child-under, InsertionPointLemmas.listed-once, InsertionPointLemmas.staying-kept, InsertionPointLemmas.staying-gone, InsertionPointLemmas.from_successor, insertion_point.look_around.Goals.then-keeps_child, insertion_point.look_around.Goals.else-keeps_child}
use Rattle.dom_edit.proofs.insertion_point.look_around.Goals as goal

pub found_between-requires-clause-child : goal.found_between-requires-clause-child
found_between-requires-clause-child c =
    rw c.first-first.ensures (IsAmong-head (children_of c.args.tree.now.forest c.args.document) (λ m. child-once c.args.tree.now.forest c.state_law.ensures.once m c.args.document))

pub found_between-requires-2-clause-child : goal.found_between-requires-2-clause-child
found_between-requires-2-clause-child c =
    rw c.first-first.ensures (IsAmong-head (children_of c.args.tree.now.forest c.args.document) (λ m. child-once c.args.tree.now.forest c.state_law.ensures.once m c.args.document))

pub found_between-requires-3-clause-child : goal.found_between-requires-3-clause-child
found_between-requires-3-clause-child c =
    let g = c.args.tree.now in
    let kids = children_of g.forest c.args.document in
    let e : child_of c.args.place ≡ Some c.in-Some.child = sym c.in-Some.ensures in
    let once = listed-once g c.state_law.ensures c.args.document c.in-Some.child (child-under g.forest c.args.document c.in-Some.child c.args.place e c.requires.under) in
    let next = c.next.ensures ∙ next_of-child g c.state_law.ensures c.args.document c.in-Some.child once in
    rw next (IsAmong-after c.in-Some.child kids (λ m. child-once g.forest c.state_law.ensures.once m c.args.document))

pub returns : goal.returns
returns c =
    let g = c.args.tree.now in
    let kids = children_of g.forest c.args.document in
    let e : child_of c.args.place ≡ Some c.in-Some.child = sym c.in-Some.ensures in
    let each : (m : ℕ) → hits m kids ≤ 1 = λ m. child-once g.forest c.state_law.ensures.once m c.args.document in
    let once = listed-once g c.state_law.ensures c.args.document c.in-Some.child (child-under g.forest c.args.document c.in-Some.child c.args.place e c.requires.under) in
    let next = c.next.ensures ∙ next_of-child g c.state_law.ensures c.args.document c.in-Some.child once in
    let ahead = rw (c.first-first.ensures, from_optional-head kids) at c.found_between-2.ensures in
    let past = rw (next, from_successor c.in-Some.child kids each once) at c.found_between-3.ensures in
    let at : IsFound g.forest (staying c.args.place) c.if-keeps_child.at =
    elim c.if-keeps_child.branch [
      | then-keeps_child w ↦ rw (w.at-is, staying-kept c.args.place c.in-Some.child e (sym c.keeps_child.ensures ∙ w.if-keeps_child.true)) w.found_at-at.ensures
      | else-keeps_child w ↦ rw (w.at-is, staying-gone c.args.place (sym c.keeps_child.ensures ∙ w.if-keeps_child.false)) (record { element = refl; doctype = refl })
    ] in
    record { ahead = rw e ahead; at = at; past = rw e past }
