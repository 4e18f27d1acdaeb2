use Rattle.std.proofs.Common.{◌<◌, length, refl, arith}
use Rattle.pace.proofs.Going.{passed-start, passed-next, passed-end}
use Rattle.pace.proofs.pace.pass_on.Goals as goal

pub loop-port-init : goal.loop-port-init
loop-port-init c = passed-start _ _

pub loop-port-preserved : goal.loop-port-preserved
loop-port-preserved c =
    let from : _ = c.loop-port.invariant.above c.loop-port.port (omega arith) in
    let here : c.loop-port.port < length c.args.ports.now = omega (arith, c.loop-port-test.true, c.requires) in
    passed-next _ _ _ _ _ here (rw (c.call.ensures, c.is_passed_to-is_called.ensures, from) refl) c.loop-port.invariant

pub returns-clause-ports : goal.returns-clause-ports
returns-clause-ports c = rw c.if-not-goes_on.false (passed-end _ _ _ _ _ c.loop-port-test.false c.loop-port.invariant)
