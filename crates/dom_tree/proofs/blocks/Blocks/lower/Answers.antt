-- Where a parent has counts, one of them is written.
use Rattle.std.proofs.Common.{Some, None, is_some, ap, sym, ◌∙◌}
use Rattle.dom_tree.specs.Blocks.{counts_in, lowered}
use Rattle.dom_tree.proofs.{MapTable.blocks, MapTable.held-at, MapTable.but-changed, MapTable.but-none, blocks.Blocks.lower.Goals.in-Some, blocks.Blocks.lower.Goals.in_default}
use Rattle.dom_tree.proofs.blocks.Blocks.lower.Goals as goal

pub returns : goal.returns
returns c =
    let es = c.self.inside.by_slot.entries in
    elim c.match-get_mut.branch [
      | in-Some w ↦
          let written = c.get_mut.follows.holds w.lower.new.self in
          let now = held-at blocks es c.self.view_is c.number.ensures (Some w.in-Some.counts.now) w.in-Some.ensures.value in
          λ p.
          ap (λ b. counts_in b.by_slot.entries p) w.self-inside-is
          ∙ but-changed blocks es c.self.view_is c.number.ensures _ (Some w.lower.new.self) (written.3 (sym (ap is_some w.in-Some.ensures.value))).0 _
          (w.lower.ensures ∙ ap (λ counts. lowered counts c.args.block) (sym now)) p
      | in_default w ↦
          let now = held-at blocks es c.self.view_is c.number.ensures None w.in_default.ensures.value in
          λ p.
          ap (λ b. counts_in b.by_slot.entries p) w.self-inside-is
          ∙ ap (λ m. counts_in m.entries p) c.get_mut.follows.holds-at-none
          ∙ but-none blocks es c.self.view_is c.number.ensures w.in_default.ensures.value _ (ap (λ counts. lowered counts c.args.block) (sym now)) p
    ]
