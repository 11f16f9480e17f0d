use Rattle.std.proofs.Common.{Ok}
use Rattle.dom_model.specs.Definitions.{CreateElement}
use Rattle.dom_c.specs.Arguments.{then_make}
use Rattle.dom_c.proofs.FaultLemmas.{fault-made}
use Rattle.dom_c.proofs.handle_state.HandleState.create_element.Goals as goal

pub returns-in-Ok : goal.returns-in-Ok
returns-in-Ok c r reads = let same = rw c.in-Ok.is at reads in rw same c.make_element.ensures

pub returns-in-Err : goal.returns-in-Err
returns-in-Err c r reads =
    let fault = rw c.in-Err.is at reads in
    c.refuse.ensures (then_make r (λ name. Ok (CreateElement c.args.document name))) (fault-made c.in-Err.fault r (λ name. Ok (CreateElement c.args.document name)) fault)
