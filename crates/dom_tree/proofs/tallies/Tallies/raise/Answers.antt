-- Where a parent is in the map, its counts are written.
use Rattle.std.proofs.Common.{Some, None, option_map, is_some, ap, sym, ◌∙◌}
use Rattle.dom_model.specs.Definitions.{is_kind}
use Rattle.dom_tree.specs.Tallies.{tally_in, raised}
use Rattle.dom_tree.proofs.{MapTable.tallies, MapTable.held-at, MapTable.but-changed, MapTable.but-none, tallies.Tallies.raise.Goals.in-Some, tallies.Tallies.raise.Goals.in_default}
use Rattle.dom_tree.proofs.tallies.Tallies.raise.Goals as goal

pub returns : goal.returns
returns c =
    let es = c.self.inside.by_slot.entries in
    elim c.match-get_mut.branch [
      | in-Some w ↦
          let written = c.get_mut.follows.holds w.raise.new.tally in
          let now = held-at tallies es c.self.view_is c.number.ensures (Some w.in-Some.tally.now) w.in-Some.ensures.value in
          λ p.
          ap (λ b. tally_in b.by_slot.entries p) w.self-inside-is
          ∙ but-changed tallies es c.self.view_is c.number.ensures _ (Some w.raise.new.tally) (written.3 (sym (ap is_some w.in-Some.ensures.value))).0 _
          (ap Some w.raise.ensures ∙ ap (option_map (raised (λ counted. is_kind counted c.args.kind))) (sym now)) p
      | in_default w ↦
          let now = held-at tallies es c.self.view_is c.number.ensures None w.in_default.ensures.value in
          λ p.
          ap (λ b. tally_in b.by_slot.entries p) w.self-inside-is
          ∙ ap (λ m. tally_in m.entries p) c.get_mut.follows.holds-at-none
          ∙ but-none tallies es c.self.view_is c.number.ensures w.in_default.ensures.value _ (ap (option_map (raised (λ counted. is_kind counted c.args.kind))) (sym now)) p
    ]
