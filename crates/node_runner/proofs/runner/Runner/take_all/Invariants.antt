use Rattle.std.proofs.Common.{◌≤◌, ◌*◌, List, length, take}
use Rattle.weaving.specs.Account.{Note}
use Rattle.node_runner.specs.Runner.{Does, port_ids}
use Rattle.node_runner.specs.Rounds.{AreTakesFrom}
use Rattle.node_runner.specs.Due.{AreTakesDue}
use Rattle.node_runner.proofs.runner.Runner.take_all.Given as goal

abbrev pub invariant-loop-place : goal.invariant-loop-place
invariant-loop-place g l =
    (deeds : List Note) × Does deeds l.fn.self l.self × AreTakesFrom (take l.place (port_ids l.fn.self)) deeds × (length deeds ≤ 2 * l.place)
    × AreTakesDue (take l.place (port_ids l.fn.self)) l.fn.self deeds
