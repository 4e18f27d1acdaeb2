use Rattle.world.proofs.simulation.under_way.refusal.Goals as goal

pub returns-in-Ok-clause-seen : goal.returns-in-Ok-clause-seen
returns-in-Ok-clause-seen g c = rw c.in-Said.is c.step.ensures.judging

pub returns-in-Err-clause-seen : goal.returns-in-Err-clause-seen
returns-in-Err-clause-seen g c = rw c.in-Said.is c.step.ensures.judging
