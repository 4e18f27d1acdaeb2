-- What a pace remembers of the frames that the ports were given.
use Rattle.std.specs.Prelude.{◌≡◌, ◌⊎◌, ℕ, None}
use Rattle.pace.specs.Plans.{port_of}
use Rattle.pace.specs.declared.pace.TurnPace.{TurnPace}
use Rattle.pace.specs.declared.port.PortPace.{PortPace}

-- The frame that the port was given last, and when, is still remembered; or no frame is, as at a
-- port with a new connection.
abbrev pub StillGiven : PortPace → PortPace → Type 0
StillGiven old new =
    ((new.given ≡ old.given) × (new.given_at ≡ old.given_at)) ⊎ (new.given ≡ None)

-- This holds at each port, and the pace has the same manner.
pub record Remembers (old new : TurnPace) : Type 0 where
  pub manner : new.manner ≡ old.manner
  pub ports : (p : ℕ) → StillGiven (port_of old.ports p) (port_of new.ports p)
