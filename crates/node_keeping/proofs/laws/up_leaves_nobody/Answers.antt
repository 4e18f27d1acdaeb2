use Rattle.std.proofs.Common.{add-one, refl}
use Rattle.node_keeping.proofs.Keeping.{nobody_starts, killed_once, over_in_time, kills_in_time}
use Rattle.node_keeping.proofs.laws.up_leaves_nobody.Goals as goal

pub returns-clause-nobody : goal.returns-clause-nobody
returns-clause-nobody c = nobody_starts

pub returns-clause-once : goal.returns-clause-once
returns-clause-once c = killed_once

pub returns-clause-in_time : goal.returns-clause-in_time
returns-clause-in_time c = λ failures n. rw add-one (over_in_time failures n, kills_in_time failures n)

pub returns-clause-named : goal.returns-clause-named
returns-clause-named c = λ failures n end. refl

pub returns-clause-at_once : goal.returns-clause-at_once
returns-clause-at_once c = λ failures n. (refl, refl)
