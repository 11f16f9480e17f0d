-- Either a node that is named is inside, or one of the records that came since.
use Rattle.std.proofs.Common.{◌≡◌, ℕ, ◌-◌, ◌||◌, length, take, drop, ap, sym, ◌∙◌, arith, take_all, length-drop, flat_map}
use Rattle.std.specs.List.{list_any}
use Rattle.dom_model.specs.Definitions.{among, inclusive_descendants, Record, nodes_of_record}
use Rattle.dom_observe.specs.Queued.{Queued}
use Rattle.dom_observe.proofs.NamesNodesLemmas.{any-caught_up}
use Rattle.dom_observe.proofs.queue.Queue.names_inside.Goals as goal

pub returns-then-is_named_inside : goal.returns-then-is_named_inside
returns-then-is_named_inside g c =
    let p = λ (m : ℕ). among m (inclusive_descendants c.args.tree.now.forest c.args.top) in
    let q = c.self.inside in
    let rs = q.records.items in
    let told = list_any (λ (r : Record). list_any p (nodes_of_record r)) (drop q.caught_up rs) in
    c.if-is_named_inside.true
    ∙ sym (ap (λ (k : Queued). list_any p (flat_map nodes_of_record k.records)) (sym c.self.view_is)
    ∙ any-caught_up p rs q.named q.caught_up q.owed c.self.invariant
    ∙ ap (λ b. b || told) (sym c.is_named_inside.ensures ∙ c.if-is_named_inside.true))

pub returns-else-is_named_inside : goal.returns-else-is_named_inside
returns-else-is_named_inside g c =
    let p = λ (m : ℕ). among m (inclusive_descendants c.args.tree.now.forest c.args.top) in
    let q = c.self.inside in
    let rs = q.records.items in
    let one = λ (r : Record). list_any p (nodes_of_record r) in
    let rest : take (length c.as_slice.result.now - q.caught_up) (drop q.caught_up c.as_slice.result.now) ≡ drop q.caught_up rs =
    take_all (length c.as_slice.result.now - q.caught_up) (drop q.caught_up c.as_slice.result.now) (omega (arith, length-drop q.caught_up c.as_slice.result.now)) ∙ ap (drop q.caught_up) c.as_slice.ensures.value in
    c.is_recorded_inside.ensures
    ∙ ap (list_any one) rest
    ∙ sym (ap (λ (k : Queued). list_any p (flat_map nodes_of_record k.records)) (sym c.self.view_is)
    ∙ any-caught_up p rs q.named q.caught_up q.owed c.self.invariant
    ∙ ap (λ b. b || list_any one (drop q.caught_up rs)) (sym c.is_named_inside.ensures ∙ c.if-is_named_inside.false))
