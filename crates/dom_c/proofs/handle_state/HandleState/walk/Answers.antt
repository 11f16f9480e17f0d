use Rattle.std.proofs.Common.{Ok}
use Rattle.dom_model.specs.Definitions.{Walk}
use Rattle.dom_c.specs.Arguments.{then_make}
use Rattle.dom_c.proofs.FaultLemmas.{fault-made}
use Rattle.dom_c.proofs.handle_state.HandleState.walk.Goals as goal

pub returns-in-Ok : goal.returns-in-Ok
returns-in-Ok c r reads = let same = rw c.in-Ok.is at reads in rw same c.move_walker.ensures

pub returns-in-Err : goal.returns-in-Err
returns-in-Err c r reads =
    let fault = rw c.in-Err.is at reads in
    c.refuse.ensures (then_make r (λ direction. Ok (Walk c.args.walker direction))) (fault-made c.in-Err.fault r (λ direction. Ok (Walk c.args.walker direction)) fault)
