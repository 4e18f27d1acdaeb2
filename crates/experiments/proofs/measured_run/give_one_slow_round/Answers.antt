use Rattle.experiments.proofs.Harmless.{never-fails}
use Rattle.experiments.proofs.measured_run.give_one_slow_round.Goals as goal

pub returns : goal.returns
returns g c = never-fails c.give_slow_round-given.result c.give_slow_round-given.ensures.cause c.give_slow_round-given.ensures.taken
