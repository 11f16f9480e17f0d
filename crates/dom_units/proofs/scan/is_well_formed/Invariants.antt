use Rattle.std.proofs.Common.{◌≡◌, false, drop}
use Rattle.dom_units.proofs.ScanLemmas.{scanned}
use Rattle.dom_units.proofs.scan.is_well_formed.Given as goal

abbrev pub invariant-loop-unit : goal.invariant-loop-unit
invariant-loop-unit l = scanned false l.units ≡ scanned l.wants_low (drop l.unit-index l.units)
