use Rattle.std.proofs.Common.{arith, ◌<◌}
use Rattle.pace.proofs.Going.{planned-start, planned-next}
use Rattle.pace.proofs.pace.TurnPace.plan.Goals as goal

pub loop-port-init : goal.loop-port-init
loop-port-init c = planned-start _

pub loop-port-preserved : goal.loop-port-preserved
loop-port-preserved c =
    let here : c.loop-port.port < 64 = omega (arith, c.loop-port-test.true, c.requires) in
    planned-next _ _ _ _ here c.is_due.ensures c.loop-port.invariant

pub returns-clause-offers : goal.returns-clause-offers
returns-clause-offers c =
    λ p below. rw (← c.holds-holds.ensures) (c.loop-port.invariant.below p (omega (arith, below, c.loop-port-test.false)))

pub returns-clause-no_others : goal.returns-clause-no_others
returns-clause-no_others c = λ p from. c.loop-port.invariant.above p (omega (arith, from, c.loop-port.auto.port-end))
