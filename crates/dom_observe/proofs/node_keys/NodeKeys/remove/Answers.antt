-- The key goes from its place.
use Rattle.std.proofs.Common.{◌≡◌, ℕ, ◌+◌, ◌-◌, ◌<◌, List, drop, length, remove, ap, sym, ◌∙◌, subst, arith, length-drop}
use Rattle.std.proofs.Math.Seq.{paste}
use Rattle.dom_observe.specs.Keys.{Keys}
use Rattle.dom_observe.proofs.{NodeKeysLemmas.drop-moved, NodeKeysLemmas.drop-remove, node_keys.NodeKeys.remove.Goals.then-place-count, node_keys.NodeKeys.remove.Goals.else-place-count}
use Rattle.dom_observe.proofs.node_keys.NodeKeys.remove.Goals as goal

pub returns : goal.returns
returns c =
    let all = c.self.inside.all.items in
    let passed = c.self.inside.passed in
    let place = c.args.place in
    let items : drop passed all ≡ c.args.self.now.items = ap (λ (k : Keys). k.items) c.self.view_is in
    let asked : place < length (drop passed all) = subst (λ (ks : List ℕ). place < length ks) (sym items) c.requires in
    let left = length-drop passed all in
    let inside : passed + place < length all = omega (arith, asked, left, c.self.invariant) in
    let moved : passed + place - passed ≡ place = omega arith in
    c.close_up.ensures
    ∙ elim c.if-place-count.branch [
      | then-place-count w ↦
          ap (λ (k : Keys). k.items) w.self-is
          ∙ ap (drop (passed + 1)) (w.copy_within.ensures.items ∙ ap (paste all (passed + 1) (drop passed all)) moved)
          ∙ drop-moved passed place all inside
      | else-place-count w ↦
          ap (λ (k : Keys). k.items) w.self-is
          ∙ ap (drop passed) w.remove.ensures.items
          ∙ drop-remove passed place all inside
    ]
    ∙ ap (λ ks. remove ks place) items
