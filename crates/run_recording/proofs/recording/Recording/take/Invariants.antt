use Rattle.std.proofs.Common.{◌≡◌, ℕ, ◌+◌, ◌-◌, ◌≤◌, List, ◌++◌, length, take}
use Rattle.world.specs.run_model.World.{World}
use Rattle.run_recording.specs.Filmed.{room_of}
use Rattle.run_recording.specs.Laned.{limit_of}
use Rattle.run_recording.specs.Recordings.{IsReading}
use Rattle.run_recording.proofs.recording.Recording.take.Given as goal

-- the first bytes of the piece were taken
abbrev pub invariant-loop-at : goal.invariant-loop-at
invariant-loop-at g l =
    (l.at ≤ length l.piece)
    × (l.self.events ≤ l.fn.self.events + l.at)
    × (l.self.window ≡ l.fn.self.window)
    × (l.self.strip.limit ≡ l.fn.self.strip.limit)
    × (room_of l.self.reel ≡ room_of l.fn.self.reel)
    × (limit_of l.self.lanes ≡ limit_of l.fn.self.lanes)
    × ((start : World) (bytes : List ℕ) → IsReading start bytes l.fn.self → IsReading start (bytes ++ take l.at l.piece) l.self)

abbrev pub decreases-loop-at : goal.decreases-loop-at
decreases-loop-at g l = length l.piece - l.at
