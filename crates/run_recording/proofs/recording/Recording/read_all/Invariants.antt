use Rattle.std.proofs.Common.{◌≡◌, ℕ, ◌+◌, ◌-◌, ◌≤◌, List, [], Some, length, take, drop}
use Rattle.world.specs.run_model.World.{World}
use Rattle.world.specs.Simulating.{longest_text}
use Rattle.run_recording.specs.Filmed.{room_of}
use Rattle.run_recording.specs.Laned.{limit_of}
use Rattle.run_recording.specs.Recordings.{IsReading}
use Rattle.run_recording.proofs.recording.Recording.read_all.Given as goal

-- some bytes of the text may still come, and the others were taken
abbrev pub invariant-loop-count : goal.invariant-loop-count
invariant-loop-count g l =
    (l.left ≤ longest_text)
    × (l.self.events + l.left ≤ longest_text)
    × (length l.piece ≡ 8192)
    × (l.self.window ≡ l.fn.self.window)
    × (l.self.strip.limit ≡ l.fn.self.strip.limit)
    × (room_of l.self.reel ≡ room_of l.fn.self.reel)
    × (limit_of l.self.lanes ≡ limit_of l.fn.self.lanes)
    × ((start : World) (bytes : List ℕ) → g.R.Source.rest l.fn.source ≡ Some bytes → IsReading start [] l.fn.self
    → (longest_text - l.left ≤ length bytes) × (g.R.Source.rest l.source ≡ Some (drop (longest_text - l.left) bytes))
    × IsReading start (take (longest_text - l.left) bytes) l.self)

abbrev pub decreases-loop-count : goal.decreases-loop-count
decreases-loop-count g l = l.left
