use Rattle.std.proofs.Common.{arith}
use Rattle.pace.proofs.Going.{least-start, least-next, least-end, short}
use Rattle.pace.proofs.pace.TurnPace.rest.Goals as goal

pub loop-port-init : goal.loop-port-init
loop-port-init c = rw c.rest-rest.ensures (least-start _ _)

pub loop-port-preserved : goal.loop-port-preserved
loop-port-preserved c = rw (c.min-rest.ensures, c.rest.ensures) (least-next _ _ _ _ c.loop-port.invariant)

pub returns-clause-longest : goal.returns-clause-longest
returns-clause-longest c = omega (arith, c.loop-port.invariant.most, short c.args.outlook.now c.args.self.now.manner c.args.now c.args.self.now.node)

pub returns-clause-ports : goal.returns-clause-ports
returns-clause-ports c =
    λ p below. rw (← c.holds-holds.ensures) (c.loop-port.invariant.ports p (omega (arith, below, c.loop-port-test.false)))

pub returns-clause-reached : goal.returns-clause-reached
returns-clause-reached c =
    let reached : _ = least-end _ _ _ _ _ c.loop-port.auto.port-end c.loop-port.invariant.reached in
    rw c.holds-holds.ensures at reached

pub returns-clause-hold : goal.returns-clause-hold
returns-clause-hold c = c.loop-port.invariant.most
