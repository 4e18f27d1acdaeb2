-- What contracts see of a reel.
use Rattle.std.specs.Prelude.{◌≡◌, ℕ, Bool, List, [], ◌∷◌, Option, Some, None}
use Rattle.run_recording.specs.declared.still.Still.{Still}
use Rattle.run_recording.specs.Stills.{StandFor}

-- the first moment; the stills of those after it; how many of these there may be; and whether
-- weighty moments had to be joined too
pub record ReelView : Type 0 where
  pub opening : Option Still
  pub stills : List Still
  pub limit : ℕ
  pub crowded : Bool

-- The reel stands for these moments: the first is shown as it was, and the stills stand for the
-- others.
abbrev pub Shows : ReelView → List Still → Type 0
Shows r [] = (r.opening ≡ None) × (r.stills ≡ [])
Shows r (first ∷ moments) = (r.opening ≡ Some first) × StandFor r.crowded moments r.stills
