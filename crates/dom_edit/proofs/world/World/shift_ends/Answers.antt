use Rattle.std.proofs.Common.{ℕ, List, Option, ap, sym, ◌∙◌, subst, length, tests, rules}
use Rattle.dom_model.specs.Definitions.{Range}
use Rattle.dom_edit.specs.Insertion.{IsOpen}
use Rattle.dom_model.proofs.Forests.{Entries.HasNode-occurs, Indices.parent-there}
use Rattle.dom_edit.proofs.PlacedInLemmas.{room-fits, room-elsewhere}
use Rattle.dom_edit.proofs.world.World.shift_ends.Goals as goal

pub returns-then-not-stands_in : goal.returns-then-not-stands_in
returns-then-not-stands_in c =
    let v = c.args.self.now in
    ap (λ (rs : List (Option Range)). record v { ranges = record v.ranges { ranges = rs } })
    (sym (room-elsewhere v.tree.forest c.args.parent c.args.child (length c.args.nodes.now) v.ranges.ranges (sym c.stands_in.ensures ∙ c.if-not-stands_in.true)))

pub found_index-index-requires : goal.found_index-index-requires
found_index-index-requires c =
    let f = c.args.self.now.tree.forest in
    let ready = subst (λ (b : Option ℕ). IsOpen f c.args.parent b c.args.nodes.now) c.in-Some.is c.requires.ready in
    HasNode-occurs f c.in-Some.child (parent-there f c.in-Some.child c.args.parent ready.before_child)

pub gap-requires : goal.gap-requires
gap-requires c =
    let v = c.args.self.now in
    let ready = subst (λ (b : Option ℕ). IsOpen v.tree.forest c.args.parent b c.args.nodes.now) c.in-Some.is c.requires.ready in
    let small = rw c.live.ensures at c.live.type_inv in
    room-fits v.tree c.requires.whole.forest c.args.parent c.in-Some.child c.args.nodes.now c.found_index-index.result ready small v.ranges.ranges c.requires.whole.ranges

pub returns-in_default : goal.returns-in_default
returns-in_default c = search (tests, rules)

pub returns : goal.returns
returns c = search (tests, rules)
