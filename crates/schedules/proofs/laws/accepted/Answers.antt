use Rattle.std.proofs.Common.{refl}
use Rattle.schedules.specs.Rounds.{round, rounds}
use Rattle.schedules.proofs.Plain.{plain-accepted, plain-round, plain-rounds, plain-undamaged}
use Rattle.schedules.proofs.laws.accepted.Goals as goal

pub returns-clause-accepted : goal.returns-clause-accepted
returns-clause-accepted c w n = plain-accepted c.runs.ensures.network w.net w (rounds w.net n) refl (plain-rounds w.net n)

pub returns-clause-undamaged : goal.returns-clause-undamaged
returns-clause-undamaged c net w = plain-undamaged net w (round net) (plain-round net)
