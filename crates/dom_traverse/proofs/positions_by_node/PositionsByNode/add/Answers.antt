-- The items are spread over more places where the next needs them.
use Rattle.std.proofs.Common.{◌+◌, ◌≤◌, [], ◌∷◌, ◌++◌, Some, length, subst, sym, ap, ◌∙◌, arith, rules}
use Rattle.dom_traverse.specs.PositionsByNode.{bucket_of, AreSpread}
use Rattle.dom_traverse.proofs.{AreSpreadLemmas.spread-view, AreSpreadLemmas.spread-own, AreSpreadLemmas.as-many, AreSpreadLemmas.spread-changed, AreSpreadLemmas.spread-more, positions_by_node.PositionsByNode.add.Goals.After-reserve, positions_by_node.PositionsByNode.add.Goals.After-push_reserved, positions_by_node.PositionsByNode.add.Goals.then-key_count-count+in_ok-self-inside, positions_by_node.PositionsByNode.add.Goals.else-key_count-count}
use Rattle.dom_traverse.proofs.positions_by_node.PositionsByNode.add.Goals as goal

spread : (c : After-reserve) → AreSpread c.args.self.now c.reserve.new.self × (length c.args.self.now + 2 ≤ length c.reserve.new.self.covered)
spread c =
    let before : AreSpread c.args.self.now c.if-key_count-count.self-inside.chains × (length c.args.self.now + 2 ≤ length c.if-key_count-count.self-inside.chains.covered) =
    elim c.if-key_count-count.branch [
      | then-key_count-count+in_ok-self-inside w ↦
          subst (λ s. AreSpread c.args.self.now s.chains × (length c.args.self.now + 2 ≤ length s.chains.covered)) (sym w.self-inside-is) (w.in_ok-self-inside.ensures.spread, w.in_ok-self-inside.ensures.room)
      | else-key_count-count w ↦
          let are = subst (λ ns. AreSpread ns c.self.inside.chains) c.self.view_is c.self.invariant in
          subst (λ s. AreSpread c.args.self.now s.chains × (length c.args.self.now + 2 ≤ length s.chains.covered)) (sym w.self-inside-is)
          (are, omega (arith, as-many c.args.self.now c.self.inside.chains are, w.if-key_count-count.false, c.count.ensures, c.key_count.ensures))
    ] in (
      spread-changed c.args.self.now c.if-key_count-count.self-inside.chains before.0 c.args.self.now c.reserve.new.self (c.reserve.ensures.items ∙ before.0.placed) c.reserve.ensures.covered before.0.few,
      omega (arith, before.1, ap length c.reserve.ensures.covered),
    )

more : (c : After-push_reserved) → AreSpread (c.args.self.now ++ Some c.args.node ∷ []) c.push_reserved.new.self
more c =
    let are = spread (goal.at.invariant_of-self-2 c).After-reserve in
    spread-more c.args.self.now c.reserve.new.self are.0 (Some c.args.node) c.place_of-place.result c.push_reserved.new.self
    (c.place_of-place.ensures.place ∙ ap (λ k. bucket_of k (Some c.number.result)) c.key_count-2.ensures ∙ ap (λ n. bucket_of (length c.reserve.new.self.covered) (Some n)) c.number.ensures)
    are.1 (c.push_reserved.ensures.items ∙ ap (λ n. c.reserve.new.self.items ++ (c.place_of-place.result, Some n) ∷ []) c.number.ensures) c.push_reserved.ensures.covered

pub invariant_of-self : goal.invariant_of-self
invariant_of-self c = spread-own c.args.self.now c.reserve.new.self (spread (goal.at.invariant_of-self c).After-reserve).0

pub returns-in_err-reserve-clause-unchanged : goal.returns-in_err-reserve-clause-unchanged
returns-in_err-reserve-clause-unchanged c =
    let same = spread-view c.args.self.now c.reserve.new.self (spread (goal.at.invariant_of-self c).After-reserve).0 in
    search rules

pub invariant_of-self-2 : goal.invariant_of-self-2
invariant_of-self-2 c = spread-own _ c.push_reserved.new.self (more c)

pub returns-clause-added : goal.returns-clause-added
returns-clause-added c = spread-view _ c.push_reserved.new.self (more c)
