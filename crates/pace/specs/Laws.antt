-- Laws of a node's pace: what holds whatever its fields hold, as after damage to them.
use Rattle.std.specs.Prelude.{◌≡◌, ◌≢◌, ℕ, ◌<◌, ◌≤◌, ◌+◌, Bool, true, false}
use Rattle.pace.specs.Clock.{is_over}
use Rattle.pace.specs.Ports.{is_due, calls_after, hearing_of}
use Rattle.pace.specs.Nodes.{holds, may_tick, lease_runs}
use Rattle.pace.specs.declared.node.Outlook.{Outlook}
use Rattle.pace.specs.declared.node.NodePace.{NodePace}
use Rattle.pace.specs.declared.pace.Manner.{Manner}
use Rattle.pace.specs.declared.port.Calling.{Calling}
use Rattle.pace.specs.declared.port.Calling.TheVariants.{Done}
use Rattle.pace.specs.declared.port.Hearing.TheVariants as hearing
use Rattle.pace.specs.declared.port.PortSight.{PortSight}
use Rattle.pace.specs.declared.port.PortPace.{PortPace}

-- a port that takes frames is due one once the repetition time is over
abbrev pub EachPortIsGiven : Type 0
EachPortIsGiven =
    (sight : PortSight) (is_held : Bool) (repeat now : ℕ) (port : PortPace)
    → sight.takes_frames ≡ true → is_over port.given_at repeat now ≡ true
    → is_due sight is_held repeat now port ≡ true

-- a tick is left out only while a loan with a lease runs, and within 2 milliseconds of the last one
abbrev pub TicksGoOn : Type 0
TicksGoOn =
    (outlook : Outlook) (now : ℕ) (node : NodePace) → may_tick outlook now node ≡ false
    → (lease_runs outlook ≡ true) × (node.ticked_at ≤ now) × (now < node.ticked_at + 2000)

-- no hold ends later than a hold from now would
abbrev pub HoldsEnd : Type 0
HoldsEnd =
    (outlook : Outlook) (manner : Manner) (now : ℕ) (node : NodePace)
    → holds outlook manner now node ≡ true → node.hold_until ≤ now + manner.hold

-- the frame that completes a call is a call for a neighbour that heard it the same number of times
-- in a row, if it came there soon after the one before it
abbrev pub EndsAgreeOnCalls : Type 0
EndsAgreeOnCalls =
    (times : ℕ) (calls : Calling) → calls ≢ Done → calls_after times calls ≡ Done
    → hearing_of times true ≡ hearing.Call
