use Rattle.std.proofs.Common.{◌≡◌, ◌<◌, ◌≤◌, ◌*◌, List, length}
use Rattle.weaving.specs.Account.{Note}
use Rattle.node_runner.specs.Runner.{Does, port_ids, round_room}
use Rattle.node_runner.specs.Rounds.{AreRounds}
use Rattle.node_runner.specs.Due.{BeginsWhole}
use Rattle.node_runner.proofs.runner.Runner.run.Given as goal

abbrev pub invariant-loop-turn : goal.invariant-loop-turn
invariant-loop-turn g l =
    ((deeds : List Note) × Does deeds l.fn.self l.self × AreRounds (port_ids l.fn.self) l.turn deeds × (length deeds ≤ l.turn * round_room l.fn.self)
    × (0 < l.turn → BeginsWhole l.fn.self deeds))
    × (l.turn ≡ 0 → l.self.clock ≡ l.fn.self.clock)
