use Rattle.std.proofs.Common.{ℕ, is_some, ap, ◌∙◌}
use Rattle.dom_model.specs.Definitions.{Point, Range}
use Rattle.dom_pages.specs.Numbered.{item_at}
use Rattle.dom_slots.specs.Slotted.{slot_at}
use Rattle.dom_slots.proofs.SlotEntryLemmas.{has_slot}
use Rattle.dom_ranges.proofs.AreCountsLemmas.{start-counted, end-counted, kept-released}
use Rattle.dom_ranges.proofs.static_ranges.Statics.release.Goals as goal

pub release-requires : goal.release-requires
release-requires c =
    ap (λ n. is_some (slot_at c.self.inside.ranges.slots n)) c.number.ensures
    ∙ has_slot c.self.inside.ranges.slots c.self.inside.ranges.items c.args.u (ap (λ rs. is_some (item_at rs c.args.u)) c.self.view_is ∙ c.requires)

pub take-requires : goal.take-requires
take-requires c =
    start-counted c.self.invariant c.release.result.0 c.release.result.1 c.release.ensures.item c.start-2.inside.node
    (ap (λ (p : Point). p.node) c.start-2.view_is ∙ ap (λ (r : ℕ × Range). r.1.start.node) c.start.view_is)

pub take-requires-2 : goal.take-requires-2
take-requires-2 c =
    end-counted c.self.invariant c.release.result.0 c.release.result.1 c.release.ensures.item c.start-2.inside.node c.end.inside.node c.take.new.self.counts
    (ap (λ (p : Point). p.node) c.start-2.view_is ∙ ap (λ (r : ℕ × Range). r.1.start.node) c.start.view_is)
    (ap (λ (p : Point). p.node) c.end.view_is ∙ ap (λ (r : ℕ × Range). r.1.end.node) c.start.view_is)
    c.take.ensures.taken

pub invariant_of-self : goal.invariant_of-self
invariant_of-self c =
    kept-released c.self.invariant c.release.result.0 c.release.result.1 c.release.ensures.item c.start-2.inside.node c.end.inside.node _ c.take.new.self.counts c.take-2.new.self.counts
    (ap (λ (p : Point). p.node) c.start-2.view_is ∙ ap (λ (r : ℕ × Range). r.1.start.node) c.start.view_is)
    (ap (λ (p : Point). p.node) c.end.view_is ∙ ap (λ (r : ℕ × Range). r.1.end.node) c.start.view_is)
    c.take.ensures.taken c.take-2.ensures.taken c.release.ensures.items
