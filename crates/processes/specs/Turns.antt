-- What a machine keeps to, in instants: each node gets its turns, each port is given a frame, frames
-- arrive, and loans end.
use Rattle.std.specs.Prelude.{◌≡◌, ℕ, ◌+◌, ◌*◌, ◌<◌, ◌≤◌, max, IsTrue, Some, List}
use Rattle.std.specs.List.{Contains}
use Rattle.topology.specs.Network.{are_joined}
use Rattle.topology.specs.declared.frame.Frame.{Frame}
use Rattle.node_core.specs.Site.{site_of}
use Rattle.run_model.specs.World.{World, IsWorldInRange}
use Rattle.processes.specs.Accounts.{Timed}
use Rattle.processes.specs.Links.{Act, Accepts}
use Rattle.processes.specs.Timing.{Passage, passages, at_first, ticks_fully_in, MovesWithin}

-- a turn of a node, from its first instant to its last
pub record Turn : Type 0 where
  pub begins : ℕ
  pub ends : ℕ

-- How fast a network is, all in one unit: a whole turn of each node in each stretch of `turn`; a
-- port that was given nothing for `repeat` is given a frame in the next turn; a frame is taken in the
-- next turn that begins `delay` after the link accepted it; and a full tick of each node in each
-- stretch of `full`, since loans end.
pub record Pace : Type 0 where
  pub turn : ℕ
  pub repeat : ℕ
  pub delay : ℕ
  pub full : ℕ

-- the length of a window
abbrev pub window_of : Pace → ℕ
window_of pace = max pace.full (pace.repeat + 2 * pace.turn + pace.delay)

-- each stretch of `turn` holds a whole turn of v
abbrev pub TurnsOften : Pace → ℕ → ℕ → List Turn → Type 0
TurnsOften pace start until turns =
    (s : ℕ) → start ≤ s → s + pace.turn ≤ until
    → (t : Turn) × Contains turns t × (s ≤ t.begins) × (t.begins ≤ t.ends) × (t.ends < s + pace.turn)

-- From any instant on, the link accepts a frame by the end of each turn of the sender that begins
-- `repeat` or more later.
abbrev pub GivesOften : Pace → ℕ → ℕ → List Turn → List Act → Type 0
GivesOften pace start until turns acts =
    (s : ℕ) (t : Turn) → start ≤ s → t.ends < until → Contains turns t → s + pace.repeat ≤ t.begins
    → (a : ℕ) × (f : Frame) × Contains acts (Accepts a f) × (s ≤ a) × (a ≤ t.ends)

-- A frame that the link accepted is handed over by the end of each turn of the receiver that begins
-- `delay` or more later.
abbrev pub Arrives : Pace → ℕ → ℕ → List Turn → List Act → List Passage → Type 0
Arrives pace start until turns acts passed =
    (a : ℕ) (f : Frame) (t : Turn) → Contains acts (Accepts a f) → start ≤ a → t.ends < until
    → Contains turns t → a + pace.delay ≤ t.begins
    → (p : Passage) × Contains passed p × (p.accepted ≡ Some a) × (a ≤ p.given) × (p.given ≤ t.ends)

-- From the one instant to the other the network keeps that pace.
pub record KeepsPace (pace : Pace) (start until : ℕ) (turns : ℕ → List Turn) (w : World)
    (account : ℕ → List Timed) (history : ℕ → ℕ → List Act) : Type 0 where
  pub turns_often : (v : ℕ) → v < w.net.nodes → TurnsOften pace start until (turns v)
  pub gives : (u v : ℕ) → IsTrue (are_joined w.net.edges u v)
      → GivesOften pace start until (turns u) (history u v)
  pub arrives : (u v : ℕ) → IsTrue (are_joined w.net.edges u v)
      → Arrives pace start until (turns v) (history u v)
      (passages (at_first (w.link u v)) (history u v))
  pub ticks : (v s : ℕ) → v < w.net.nodes → start ≤ s → s + pace.full ≤ until
      → IsTrue (ticks_fully_in (site_of w.net v) s (s + pace.full) (account v) (w.node v))

-- A network that keeps a pace moves within windows of max(full, repeat + 2 turn + delay).
abbrev pub PaceGivesWindows : Type 0
PaceGivesWindows =
    (pace : Pace) (start until : ℕ) (turns : ℕ → List Turn) (w : World) (account : ℕ → List Timed)
    (history : ℕ → ℕ → List Act) → IsWorldInRange w
    → KeepsPace pace start until turns w account history
    → MovesWithin (window_of pace) start until w account history
