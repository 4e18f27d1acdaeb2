-- What has settled, column by column.
use Rattle.std.specs.Prelude.{◌≡◌, ℕ, suc, ◌+◌, ◌%◌, ◌<◌, ◌==◌, if◌then◌else◌, List, [], ◌∷◌, ◌++◌, length, Option, None, Some}
use Rattle.world.specs.run_model.World.{World}
use Rattle.world.specs.run_model.Run.{run}
use Rattle.world.specs.run_model.Count.{IsSweepCount}
use Rattle.world.specs.run_model.declared.event.Event.{Event}
use Rattle.world.specs.judge.Judging.{counted_up_to}
use Rattle.layers.specs.LayersOf.{AreLayersOf}
use Rattle.layers.specs.declared.whole.Layers.{Layers}
use Rattle.run_recording.specs.declared.window.Window.{Window}
use Rattle.run_recording.specs.Filmed.{ended_with}
use Rattle.run_recording.specs.Held.{is_held}

-- the world of a moment, if the window holds it
abbrev pub world_if : Window → ℕ → World → List World
world_if window ended w = if is_held window ended then w ∷ [] else []

-- These are the worlds at the moments of a run that a window holds: the start, and that after each
-- event; and this many sweeps have ended in it.
pub data AreWorlds (window : Window) (start : World) : List Event → ℕ → List World → Type 0 where
  Start : AreWorlds window start [] 0 (world_if window 0 start)
  Next : {es : List Event} {ended : ℕ} {worlds : List World} (e : Event) (before after : ℕ)
      → AreWorlds window start es ended worlds
      → IsSweepCount start es before → IsSweepCount start (es ++ e ∷ []) after
      → AreWorlds window start (es ++ e ∷ []) (ended_with ended (counted_up_to before) (counted_up_to after))
      (worlds ++ world_if window (ended_with ended (counted_up_to before) (counted_up_to after)) (run start (es ++ e ∷ [])))

-- Each state is what has settled in the last of `width` worlds. This many worlds are left, fewer
-- than `width`.
pub data AreEnds (width : ℕ) : ℕ → List World → List Layers → Type 0 where
  Left : {left : ℕ} (worlds : List World) → length worlds ≡ left → left < width → AreEnds width left worlds []
  Full : {left : ℕ} (before : List World) (w : World) (layers : Layers) {worlds : List World} {states : List Layers}
      → suc (length before) ≡ width → AreLayersOf w layers → AreEnds width left worlds states
      → AreEnds width left (before ++ w ∷ worlds) (layers ∷ states)

-- every second item, from the second on
abbrev pub seconds : {X : Type 0} → List X → List X
seconds [] = []
seconds (a ∷ []) = []
seconds (a ∷ b ∷ items) = b ∷ seconds items

-- how many moments are left without a full column when this many columns are joined in pairs
abbrev pub left_after : ℕ → ℕ → ℕ
left_after columns width = if columns % 2 == 0 then 0 else width

-- what contracts see of lanes
pub record LanesView : Type 0 where
  pub states : List Layers
  pub limit : ℕ
  pub width : ℕ
  pub left : ℕ
  pub moments : ℕ

-- lanes, if there are any, show what has settled in these worlds
abbrev pub IsLaned : Option LanesView → List World → Type 0
IsLaned None worlds = Unit {0}
IsLaned (Some lanes) worlds = AreEnds lanes.width lanes.left worlds lanes.states

-- lanes, if there are any, get one more world, if the window holds its moment
abbrev pub KeepsWorld : World → Window → ℕ → Option LanesView → Option LanesView → Type 0
KeepsWorld w window ended old new = (worlds : List World) → IsLaned old worlds → IsLaned new (worlds ++ world_if window ended w)

-- how many moments lanes have seen
abbrev pub lane_moments : Option LanesView → ℕ
lane_moments None = 0
lane_moments (Some lanes) = lanes.moments

-- how many full columns lanes may have, if there are any
abbrev pub limit_of : Option LanesView → Option ℕ
limit_of None = None
limit_of (Some lanes) = Some lanes.limit
