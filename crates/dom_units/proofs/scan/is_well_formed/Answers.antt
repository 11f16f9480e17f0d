use Rattle.std.proofs.Common.{arith}
use Rattle.std.proofs.lemmas.Grind.{common_steps}
use Rattle.dom_units.proofs.ScanLemmas.{scanned-is_well_formed}
use Rattle.dom_units.proofs.scan.is_well_formed.Goals as goal

pub returns-then-wants_low-is_low_surrogate : goal.returns-then-wants_low-is_low_surrogate
returns-then-wants_low-is_low_surrogate c =
    let e = scanned-is_well_formed c.args.units.now in
    grind (arith, common_steps)

pub returns : goal.returns
returns c =
    let e = scanned-is_well_formed c.args.units.now in
    grind (arith, common_steps)
