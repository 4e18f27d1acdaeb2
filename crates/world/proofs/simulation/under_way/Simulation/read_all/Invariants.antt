use Rattle.std.proofs.Common.{◌≡◌, ℕ, ◌+◌, ◌-◌, ◌≤◌, List, [], Option, Some, length, take, drop}
use Rattle.judge.specs.run_model.World.{World}
use Rattle.world.specs.Simulating.{longest_text}
use Rattle.world.specs.UnderWay.{IsUnderWay}
use Rattle.world.proofs.simulation.under_way.Simulation.read_all.Given as goal

-- `left` bytes of the text may still come, and the others have been taken
abbrev pub invariant-loop-count : goal.invariant-loop-count
invariant-loop-count g l =
    (l.left ≤ longest_text)
    × (l.self.lines + l.left ≤ longest_text)
    × (length l.piece ≡ 8192)
    × (g.R.Source.failures l.fn.source ≤ g.R.Source.failures l.source)
    × (g.W.Sink.failures l.fn.sink ≤ g.W.Sink.failures l.sink)
    × ((start : World) (bytes : List ℕ) (before : Option (List ℕ)) → g.R.Source.rest l.fn.source ≡ Some bytes → IsUnderWay start [] before (g.W.Sink.taken l.fn.sink) l.fn.self
    → (longest_text - l.left ≤ length bytes) × (g.R.Source.rest l.source ≡ Some (drop (longest_text - l.left) bytes))
    × IsUnderWay start (take (longest_text - l.left) bytes) before (g.W.Sink.taken l.sink) l.self)

abbrev pub decreases-loop-count : goal.decreases-loop-count
decreases-loop-count g l = l.left
