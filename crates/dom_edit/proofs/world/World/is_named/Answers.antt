use Rattle.std.proofs.Common.{◌||◌, ◌≡◌, ℕ, Bool, refl, ◌∙◌}
use Rattle.std.specs.List.{list_any, flat_map}
use Rattle.dom_model.specs.Definitions.{among, inclusive_descendants, nodes_of_range, nodes_of_iterator, nodes_of_walker, nodes_unless_released, observed_nodes}
use Rattle.dom_observe.specs.ObservedNodes.{referred_nodes}
use Rattle.dom_edit.proofs.{IsUsedLemmas.or-met, IsUsedLemmas.or-next, IsUsedLemmas.named-own, IsUsedLemmas.named-parts, world.World.is_named.Goals.then-refers, world.World.is_named.Goals.else-refers, world.World.is_named.Goals.then-refers-2, world.World.is_named.Goals.else-refers-2, world.World.is_named.Goals.then-refers-3, world.World.is_named.Goals.else-refers-3}
use Rattle.dom_edit.proofs.world.World.is_named.Goals as goal

pub returns-then-refers-4-clause-own : goal.returns-then-refers-4-clause-own
returns-then-refers-4-clause-own c =
    let v = c.args.self.now in
    let p : ℕ → Bool = λ m. among m (inclusive_descendants v.tree.forest c.args.top) in
    let first : c.if-refers.value ≡ (list_any p (flat_map (nodes_unless_released nodes_of_range) v.ranges.ranges) || list_any p (flat_map (nodes_unless_released nodes_of_range) v.statics)) =
    elim c.if-refers.branch [
      | then-refers b ↦ or-met c.if-refers.value c.refers.result _ _ (b.value-is ∙ b.if-refers.true) b.if-refers.true c.refers.ensures
      | else-refers b ↦ or-next c.if-refers.value c.refers.result b.refers-else-refers.result _ _ b.value-is b.if-refers.false c.refers.ensures b.refers-else-refers.ensures
    ] in
    let second : c.if-refers-2.value ≡ ((list_any p (flat_map (nodes_unless_released nodes_of_range) v.ranges.ranges) || list_any p (flat_map (nodes_unless_released nodes_of_range) v.statics)) || list_any p (flat_map (nodes_unless_released nodes_of_iterator) v.iterators)) =
    elim c.if-refers-2.branch [
      | then-refers-2 b ↦ or-met c.if-refers-2.value c.if-refers.value _ _ (b.value-is ∙ b.if-refers-2.true) b.if-refers-2.true first
      | else-refers-2 b ↦ or-next c.if-refers-2.value c.if-refers.value b.refers-else-refers-2.result _ _ b.value-is b.if-refers-2.false first b.refers-else-refers-2.ensures
    ] in
    let third : c.if-refers-3.value ≡ (((list_any p (flat_map (nodes_unless_released nodes_of_range) v.ranges.ranges) || list_any p (flat_map (nodes_unless_released nodes_of_range) v.statics)) || list_any p (flat_map (nodes_unless_released nodes_of_iterator) v.iterators)) || list_any p (flat_map (nodes_unless_released nodes_of_walker) v.walkers)) =
    elim c.if-refers-3.branch [
      | then-refers-3 b ↦ or-met c.if-refers-3.value c.if-refers-2.value _ _ (b.value-is ∙ b.if-refers-3.true) b.if-refers-3.true second
      | else-refers-3 b ↦ or-next c.if-refers-3.value c.if-refers-2.value b.refers-else-refers-3.result _ _ b.value-is b.if-refers-3.false second b.refers-else-refers-3.ensures
    ] in
    or-met c.if-refers-3.value c.if-refers-3.value _ (list_any p (referred_nodes v.observers)) c.if-refers-4.true c.if-refers-4.true third ∙ named-own v p

pub returns-then-refers-4-clause-shown : goal.returns-then-refers-4-clause-shown
returns-then-refers-4-clause-shown c w s =
    let v = c.args.self.now in
    let p : ℕ → Bool = λ m. among m (inclusive_descendants v.tree.forest c.args.top) in
    let first : c.if-refers.value ≡ (list_any p (flat_map (nodes_unless_released nodes_of_range) v.ranges.ranges) || list_any p (flat_map (nodes_unless_released nodes_of_range) v.statics)) =
    elim c.if-refers.branch [
      | then-refers b ↦ or-met c.if-refers.value c.refers.result _ _ (b.value-is ∙ b.if-refers.true) b.if-refers.true c.refers.ensures
      | else-refers b ↦ or-next c.if-refers.value c.refers.result b.refers-else-refers.result _ _ b.value-is b.if-refers.false c.refers.ensures b.refers-else-refers.ensures
    ] in
    let second : c.if-refers-2.value ≡ ((list_any p (flat_map (nodes_unless_released nodes_of_range) v.ranges.ranges) || list_any p (flat_map (nodes_unless_released nodes_of_range) v.statics)) || list_any p (flat_map (nodes_unless_released nodes_of_iterator) v.iterators)) =
    elim c.if-refers-2.branch [
      | then-refers-2 b ↦ or-met c.if-refers-2.value c.if-refers.value _ _ (b.value-is ∙ b.if-refers-2.true) b.if-refers-2.true first
      | else-refers-2 b ↦ or-next c.if-refers-2.value c.if-refers.value b.refers-else-refers-2.result _ _ b.value-is b.if-refers-2.false first b.refers-else-refers-2.ensures
    ] in
    let third : c.if-refers-3.value ≡ (((list_any p (flat_map (nodes_unless_released nodes_of_range) v.ranges.ranges) || list_any p (flat_map (nodes_unless_released nodes_of_range) v.statics)) || list_any p (flat_map (nodes_unless_released nodes_of_iterator) v.iterators)) || list_any p (flat_map (nodes_unless_released nodes_of_walker) v.walkers)) =
    elim c.if-refers-3.branch [
      | then-refers-3 b ↦ or-met c.if-refers-3.value c.if-refers-2.value _ _ (b.value-is ∙ b.if-refers-3.true) b.if-refers-3.true second
      | else-refers-3 b ↦ or-next c.if-refers-3.value c.if-refers-2.value b.refers-else-refers-3.result _ _ b.value-is b.if-refers-3.false second b.refers-else-refers-3.ensures
    ] in
    or-met c.if-refers-3.value c.if-refers-3.value _ (list_any p (observed_nodes w.observing)) c.if-refers-4.true c.if-refers-4.true third ∙ named-parts v w c.args.top s.keeps p refl

pub returns-else-refers-4-clause-own : goal.returns-else-refers-4-clause-own
returns-else-refers-4-clause-own c =
    let v = c.args.self.now in
    let p : ℕ → Bool = λ m. among m (inclusive_descendants v.tree.forest c.args.top) in
    let first : c.if-refers.value ≡ (list_any p (flat_map (nodes_unless_released nodes_of_range) v.ranges.ranges) || list_any p (flat_map (nodes_unless_released nodes_of_range) v.statics)) =
    elim c.if-refers.branch [
      | then-refers b ↦ or-met c.if-refers.value c.refers.result _ _ (b.value-is ∙ b.if-refers.true) b.if-refers.true c.refers.ensures
      | else-refers b ↦ or-next c.if-refers.value c.refers.result b.refers-else-refers.result _ _ b.value-is b.if-refers.false c.refers.ensures b.refers-else-refers.ensures
    ] in
    let second : c.if-refers-2.value ≡ ((list_any p (flat_map (nodes_unless_released nodes_of_range) v.ranges.ranges) || list_any p (flat_map (nodes_unless_released nodes_of_range) v.statics)) || list_any p (flat_map (nodes_unless_released nodes_of_iterator) v.iterators)) =
    elim c.if-refers-2.branch [
      | then-refers-2 b ↦ or-met c.if-refers-2.value c.if-refers.value _ _ (b.value-is ∙ b.if-refers-2.true) b.if-refers-2.true first
      | else-refers-2 b ↦ or-next c.if-refers-2.value c.if-refers.value b.refers-else-refers-2.result _ _ b.value-is b.if-refers-2.false first b.refers-else-refers-2.ensures
    ] in
    let third : c.if-refers-3.value ≡ (((list_any p (flat_map (nodes_unless_released nodes_of_range) v.ranges.ranges) || list_any p (flat_map (nodes_unless_released nodes_of_range) v.statics)) || list_any p (flat_map (nodes_unless_released nodes_of_iterator) v.iterators)) || list_any p (flat_map (nodes_unless_released nodes_of_walker) v.walkers)) =
    elim c.if-refers-3.branch [
      | then-refers-3 b ↦ or-met c.if-refers-3.value c.if-refers-2.value _ _ (b.value-is ∙ b.if-refers-3.true) b.if-refers-3.true second
      | else-refers-3 b ↦ or-next c.if-refers-3.value c.if-refers-2.value b.refers-else-refers-3.result _ _ b.value-is b.if-refers-3.false second b.refers-else-refers-3.ensures
    ] in
    or-next c.refers-else-refers-4.result c.if-refers-3.value c.refers-else-refers-4.result _ _ refl c.if-refers-4.false third c.refers-else-refers-4.ensures.named ∙ named-own v p

pub returns-else-refers-4-clause-shown : goal.returns-else-refers-4-clause-shown
returns-else-refers-4-clause-shown c w s =
    let v = c.args.self.now in
    let p : ℕ → Bool = λ m. among m (inclusive_descendants v.tree.forest c.args.top) in
    let first : c.if-refers.value ≡ (list_any p (flat_map (nodes_unless_released nodes_of_range) v.ranges.ranges) || list_any p (flat_map (nodes_unless_released nodes_of_range) v.statics)) =
    elim c.if-refers.branch [
      | then-refers b ↦ or-met c.if-refers.value c.refers.result _ _ (b.value-is ∙ b.if-refers.true) b.if-refers.true c.refers.ensures
      | else-refers b ↦ or-next c.if-refers.value c.refers.result b.refers-else-refers.result _ _ b.value-is b.if-refers.false c.refers.ensures b.refers-else-refers.ensures
    ] in
    let second : c.if-refers-2.value ≡ ((list_any p (flat_map (nodes_unless_released nodes_of_range) v.ranges.ranges) || list_any p (flat_map (nodes_unless_released nodes_of_range) v.statics)) || list_any p (flat_map (nodes_unless_released nodes_of_iterator) v.iterators)) =
    elim c.if-refers-2.branch [
      | then-refers-2 b ↦ or-met c.if-refers-2.value c.if-refers.value _ _ (b.value-is ∙ b.if-refers-2.true) b.if-refers-2.true first
      | else-refers-2 b ↦ or-next c.if-refers-2.value c.if-refers.value b.refers-else-refers-2.result _ _ b.value-is b.if-refers-2.false first b.refers-else-refers-2.ensures
    ] in
    let third : c.if-refers-3.value ≡ (((list_any p (flat_map (nodes_unless_released nodes_of_range) v.ranges.ranges) || list_any p (flat_map (nodes_unless_released nodes_of_range) v.statics)) || list_any p (flat_map (nodes_unless_released nodes_of_iterator) v.iterators)) || list_any p (flat_map (nodes_unless_released nodes_of_walker) v.walkers)) =
    elim c.if-refers-3.branch [
      | then-refers-3 b ↦ or-met c.if-refers-3.value c.if-refers-2.value _ _ (b.value-is ∙ b.if-refers-3.true) b.if-refers-3.true second
      | else-refers-3 b ↦ or-next c.if-refers-3.value c.if-refers-2.value b.refers-else-refers-3.result _ _ b.value-is b.if-refers-3.false second b.refers-else-refers-3.ensures
    ] in
    or-next c.refers-else-refers-4.result c.if-refers-3.value c.refers-else-refers-4.result _ _ refl c.if-refers-4.false third (c.refers-else-refers-4.ensures.observed w.observing s.watched) ∙ named-parts v w c.args.top s.keeps p refl
