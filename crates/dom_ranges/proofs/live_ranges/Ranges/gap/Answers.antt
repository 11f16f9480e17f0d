use Rattle.std.proofs.Common.{sym, ap, subst, ◌∙◌}
use Rattle.std.proofs.Math.Path.{fun_ext}
use Rattle.dom_model.specs.Definitions.{Point, map_ranges}
use Rattle.dom_ranges.specs.Tables.{OffsetsFit}
use Rattle.dom_ranges.proofs.ShiftLemmas.{gap-splice}
use Rattle.dom_ranges.proofs.live_ranges.Ranges.gap.Goals as goal

pub spliced-requires : goal.spliced-requires
spliced-requires c = subst (λ (g : Point → Point). OffsetsFit g c.args.self.now.ranges) (sym (fun_ext (gap-splice c.args.parent c.args.at c.args.count))) c.requires

pub returns : goal.returns
returns c = c.spliced.ensures ∙ ap (λ (g : Point → Point). record c.args.self.now { ranges = map_ranges g c.args.self.now.ranges }) (fun_ext (gap-splice c.args.parent c.args.at c.args.count))
