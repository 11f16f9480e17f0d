-- As deep as one another, and of one root, two nodes that are not one both have a parent.
use Rattle.std.proofs.Common.{◌≡◌, Some, true, length, refl, sym, ap, ◌∙◌, subst, arith}
use Rattle.std.proofs.lemmas.Bool.{eqb-true, eqb-false}
use Rattle.dom_model.specs.Definitions.{among, entry_at, ancestors, root_of}
use Rattle.dom_model.proofs.Forests.{Above.above, Entries.occurs-HasNode, ToTheRoot.shorter, ToTheRoot.root-above, WaysMeeting.level-parent}
use Rattle.dom_tree.proofs.{PlaceTableLemmas.place-held, TreeOrder.among-self, TreeOrder.among-parent, TreeOrder.among-through, PlaceWalkLemmas.begins, PlaceWalkLemmas.stands, PlaceWalkLemmas.one, PlaceWalkLemmas.up, PlaceWalkLemmas.parented, PlaceWalkLemmas.led}
use Rattle.dom_tree.specs.{Places.called, Slots.nodes_alone, SpelledForest.number_in_slot}
use Rattle.dom_tree.proofs.tree.Tree.fork.Goals as goal

pub place_of-left-requires : goal.place_of-left-requires
place_of-left-requires g c = place-held c.self.invariant c.self.view_is c.args.a c.requires.a_held

pub place_of-right-requires : goal.place_of-right-requires
place_of-right-requires g c = place-held c.self.invariant c.self.view_is c.args.b c.requires.b_held

pub loop-right_parent-init : goal.loop-right_parent-init
loop-right_parent-init g c =
    let f = c.args.self.now.forest in
    let a = begins c.self.invariant.tree c.self.view_is c.args.a c.place_of-left.result c.place_of-left.ensures in
    let b = begins c.self.invariant.tree c.self.view_is c.args.b c.place_of-right.result c.place_of-right.ensures in
    record {
      left_held = a.0;
      right_held = b.0;
      left_above = subst (λ n. among n (ancestors c.args.a f) ≡ true) (sym a.1) (among-self c.state_law.ensures c.args.a c.requires.a_held);
      right_above = subst (λ n. among n (ancestors c.args.b f) ≡ true) (sym b.1) (among-self c.state_law.ensures c.args.b c.requires.b_held);
      apart = λ e. c.requires.apart (sym a.1 ∙ e ∙ b.1);
      root = ap (root_of f) a.1 ∙ c.requires.one_root ∙ ap (root_of f) (sym b.1);
      level = ap (λ n. length (ancestors n f)) a.1 ∙ c.requires.one_depth ∙ ap (λ n. length (ancestors n f)) (sym b.1);
    }

pub unwrap-left_parent-requires : goal.unwrap-left_parent-requires
unwrap-left_parent-requires g c =
    let f = c.args.self.now.forest in
    let i = c.loop-right_parent.invariant in
    let l = called c.self.inside.links c.loop-right_parent.left in
    let r = called c.self.inside.links c.loop-right_parent.right in
    let p = level-parent f c.state_law.ensures.once l r (occurs-HasNode f l (stands c.self.invariant.tree c.self.view_is c.loop-right_parent.left i.left_held)) (occurs-HasNode f r (stands c.self.invariant.tree c.self.view_is c.loop-right_parent.right i.right_held)) i.root i.level i.apart in
    parented c.self.invariant.tree c.self.view_is c.state_law-2.ensures c.loop-right_parent.left i.left_held c.parent.result c.parent.ensures p

pub unwrap-right_parent-requires : goal.unwrap-right_parent-requires
unwrap-right_parent-requires g c =
    let f = c.args.self.now.forest in
    let i = c.loop-right_parent.invariant in
    let l = called c.self.inside.links c.loop-right_parent.left in
    let r = called c.self.inside.links c.loop-right_parent.right in
    let p = level-parent f c.state_law.ensures.once r l (occurs-HasNode f r (stands c.self.invariant.tree c.self.view_is c.loop-right_parent.right i.right_held)) (occurs-HasNode f l (stands c.self.invariant.tree c.self.view_is c.loop-right_parent.left i.left_held)) (sym i.root) (sym i.level) (λ e. i.apart (sym e)) in
    parented c.self.invariant.tree c.self.view_is c.state_law-2.ensures c.loop-right_parent.right i.right_held c.parent-in-loop-right_parent.result c.parent-in-loop-right_parent.ensures p

pub slot-requires : goal.slot-requires
slot-requires g c = (led c.unwrap-left_parent.ensures c.parent.ensures).placed c.unwrap-left_parent.result refl

pub number_of-requires : goal.number_of-requires
number_of-requires g c =
    let i = c.loop-right_parent.invariant in
    (up c.self.invariant.tree c.self.view_is c.state_law-2.ensures c.loop-right_parent.left i.left_held c.unwrap-left_parent.result (led c.unwrap-left_parent.ensures c.parent.ensures)).0

pub number_of-requires-then-eq : goal.number_of-requires-then-eq
number_of-requires-then-eq g c = c.loop-right_parent.invariant.left_held

pub number_of-requires-then-eq-2 : goal.number_of-requires-then-eq-2
number_of-requires-then-eq-2 g c = c.loop-right_parent.invariant.right_held

pub returns-then-eq : goal.returns-then-eq
returns-then-eq g c =
    let f = c.args.self.now.forest in
    let i = c.loop-right_parent.invariant in
    let d = sym c.slot.ensures ∙ eqb-true c.slot.result c.slot-in-loop-right_parent.result (sym c.eq.ensures ∙ c.if-eq.true) ∙ c.slot-in-loop-right_parent.ensures in
    let l = up c.self.invariant.tree c.self.view_is c.state_law-2.ensures c.loop-right_parent.left i.left_held c.unwrap-left_parent.result (led c.unwrap-left_parent.ensures c.parent.ensures) in
    let r = up c.self.invariant.tree c.self.view_is c.state_law-2.ensures c.loop-right_parent.right i.right_held c.unwrap-right_parent.result (led c.unwrap-right_parent.ensures c.parent-in-loop-right_parent.ensures) in
    let r2 = r.1 ∙ ap (λ s. Some (number_in_slot (entry_at (nodes_alone c.self.inside.links.arena)) s)) (sym d) in
    rw (c.number_of.ensures, c.number_of-then-eq.ensures, c.number_of-then-eq-2.ensures) (record { left = (l.1, i.left_above); right = (r2, i.right_above); apart = i.apart })

pub loop-right_parent-smaller : goal.loop-right_parent-smaller
loop-right_parent-smaller g c =
    let i = c.loop-right_parent.invariant in
    let h = stands c.self.invariant.tree c.self.view_is c.loop-right_parent.left i.left_held in
    let l = up c.self.invariant.tree c.self.view_is c.state_law-2.ensures c.loop-right_parent.left i.left_held c.unwrap-left_parent.result (led c.unwrap-left_parent.ensures c.parent.ensures) in
    shorter c.args.self.now.forest (called c.self.inside.links c.loop-right_parent.left) (called c.self.inside.links c.unwrap-left_parent.result) (above c.state_law.ensures _ _ h l.1)

pub loop-right_parent-preserved : goal.loop-right_parent-preserved
loop-right_parent-preserved g c =
    let f = c.args.self.now.forest in
    let i = c.loop-right_parent.invariant in
    let a = c.self.inside.links in
    let hl = stands c.self.invariant.tree c.self.view_is c.loop-right_parent.left i.left_held in
    let hr = stands c.self.invariant.tree c.self.view_is c.loop-right_parent.right i.right_held in
    let l = up c.self.invariant.tree c.self.view_is c.state_law-2.ensures c.loop-right_parent.left i.left_held c.unwrap-left_parent.result (led c.unwrap-left_parent.ensures c.parent.ensures) in
    let r = up c.self.invariant.tree c.self.view_is c.state_law-2.ensures c.loop-right_parent.right i.right_held c.unwrap-right_parent.result (led c.unwrap-right_parent.ensures c.parent-in-loop-right_parent.ensures) in
    let al = above c.state_law.ensures (called a c.loop-right_parent.left) (called a c.unwrap-left_parent.result) hl l.1 in
    let ar = above c.state_law.ensures (called a c.loop-right_parent.right) (called a c.unwrap-right_parent.result) hr r.1 in
    let ne = eqb-false c.slot.result c.slot-in-loop-right_parent.result (sym c.eq.ensures ∙ c.if-eq.false) in
    record {
      left_held = l.0;
      right_held = r.0;
      left_above = among-through c.state_law.ensures (called a c.unwrap-left_parent.result) (called a c.loop-right_parent.left) c.args.a i.left_above (among-parent c.state_law.ensures (called a c.loop-right_parent.left) (called a c.unwrap-left_parent.result) hl l.1);
      right_above = among-through c.state_law.ensures (called a c.unwrap-right_parent.result) (called a c.loop-right_parent.right) c.args.b i.right_above (among-parent c.state_law.ensures (called a c.loop-right_parent.right) (called a c.unwrap-right_parent.result) hr r.1);
      apart = λ e. ne (c.slot.ensures ∙ one c.self.invariant.tree c.self.view_is c.unwrap-left_parent.result c.unwrap-right_parent.result l.0 r.0 e ∙ sym c.slot-in-loop-right_parent.ensures);
      root = root-above f _ _ al ∙ i.root ∙ sym (root-above f _ _ ar);
      level = omega (arith, i.level, ap length al.path, ap length ar.path);
    }
