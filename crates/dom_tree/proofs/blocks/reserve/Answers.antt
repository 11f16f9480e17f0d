-- The counts stay, and a parent that comes into the map has none.
use Rattle.std.proofs.Common.{Some, None, [], is_some, refl, ap, sym, ◌∙◌}
use Rattle.dom_tree.specs.Blocks.{counts_in}
use Rattle.dom_tree.proofs.MapTable.{blocks, held-at, but-changed, but-same}
use Rattle.dom_tree.proofs.blocks.reserve.Goals as goal

pub returns-in_err-reserve-in-Some-clause-counts : goal.returns-in_err-reserve-in-Some-clause-counts
returns-in_err-reserve-in-Some-clause-counts c =
    let es = c.args.by_slot.now.entries in
    let written = c.get_mut.follows.holds c.reserve.new.self in
    let now = held-at blocks es refl refl (Some c.in-Some.counts.now) c.in-Some.ensures.value in
    λ p.
    but-changed blocks es refl refl _ (Some c.reserve.new.self) (written.3 (sym (ap is_some c.in-Some.ensures.value))).0 (counts_in es c.args.parent)
    (c.in_err-reserve-in-Some.ensures ∙ sym now) p
    ∙ sym (but-same blocks es c.args.parent (counts_in es c.args.parent) refl p)

pub returns-in_ok-reserve-in-Some-clause-counts : goal.returns-in_ok-reserve-in-Some-clause-counts
returns-in_ok-reserve-in-Some-clause-counts c =
    let es = c.args.by_slot.now.entries in
    let written = c.get_mut.follows.holds c.reserve.new.self in
    let now = held-at blocks es refl refl (Some c.in-Some.counts.now) c.in-Some.ensures.value in
    λ p.
    but-changed blocks es refl refl _ (Some c.reserve.new.self) (written.3 (sym (ap is_some c.in-Some.ensures.value))).0 (counts_in es c.args.parent)
    (c.in_ok-reserve-in-Some.ensures ∙ sym now) p
    ∙ sym (but-same blocks es c.args.parent (counts_in es c.args.parent) refl p)

pub returns-in_ok-insert-in-None-clause-counts : goal.returns-in_ok-insert-in-None-clause-counts
returns-in_ok-insert-in-None-clause-counts c =
    let es = c.args.by_slot.now.entries in
    let at = held-at blocks es refl refl None c.in-None.ensures.value in
    let same = c.get_mut.follows.holds-at-none in
    λ p.
    but-changed blocks c.get_mut.follows.lender-at-none.entries (ap (λ m. m.entries) same) refl c.insert.new.self.entries (Some c.in_ok-counts-in-None.counts) c.in_ok-insert-in-None.ensures.updates.0 []
    c.in_ok-counts-in-None.ensures p
    ∙ sym (but-same blocks es c.args.parent [] (sym at) p)
