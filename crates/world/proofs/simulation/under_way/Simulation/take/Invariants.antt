use Rattle.std.proofs.Common.{ℕ, ◌+◌, ◌-◌, ◌≤◌, List, ◌++◌, Option, length, take}
use Rattle.judge.specs.run_model.World.{World}
use Rattle.world.specs.UnderWay.{IsUnderWay}
use Rattle.world.proofs.simulation.under_way.Simulation.take.Given as goal

-- `at` bytes of the piece have been taken
abbrev pub invariant-loop-at : goal.invariant-loop-at
invariant-loop-at g l =
    (l.at ≤ length l.piece)
    × (l.self.lines ≤ l.fn.self.lines + l.at)
    × (g.W.Sink.failures l.fn.sink ≤ g.W.Sink.failures l.sink)
    × ((start : World) (bytes : List ℕ) (before : Option (List ℕ)) → IsUnderWay start bytes before (g.W.Sink.taken l.fn.sink) l.fn.self
    → IsUnderWay start (bytes ++ take l.at l.piece) before (g.W.Sink.taken l.sink) l.self)

abbrev pub decreases-loop-at : goal.decreases-loop-at
decreases-loop-at g l = length l.piece - l.at
