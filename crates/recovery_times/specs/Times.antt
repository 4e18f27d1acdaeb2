-- How long a network may take, in microseconds, from what is believed of its nodes and links.
use Rattle.std.specs.Prelude.{ℕ, ◌+◌, ◌-◌, ◌*◌, ◌/◌, ◌==◌, max, if◌then◌else◌}
use Rattle.topology.specs.Network.{Network}
use Rattle.topology.specs.Eccentricity.{sharp_of}
use Rattle.recovery_times.specs.declared.premises.Premises.{Premises}

-- turns each 2.2 ms, frames 0.1 ms on the way and again after 8 ms, and loans of at most 8.1 ms, the
-- longest that leave the window as it is
abbrev pub usual : Premises
usual = record { turn = 2200; delay = 100; loan = 8100; repeat = 8000 }

-- A node has a full tick in each stretch of this length. If nobody borrows, each turn has one. Else
-- a loan may stand in the first turn; it ends; and the first tick after it lends to nobody.
abbrev pub full_of : Premises → ℕ
full_of p = if p.loan == 0 then p.turn else p.loan + 2 * p.turn

-- Each stretch of this length is a sweep: each node ticks fully, and each link hands over a frame
-- that was sent inside the stretch. The sender repeats its frame after `repeat` and sends it in its
-- next turn; the frame is on its way; the receiver takes it in its next turn.
abbrev pub window_of : Premises → ℕ
window_of p = max (full_of p) (p.repeat + 2 * p.turn + p.delay)

-- the time after which the network serves, from every state
abbrev pub recovery_of : Network → Premises → ℕ
recovery_of net p = sharp_of net * window_of p

-- the time within which a legitimate network lends to a ticket that waits after i others
abbrev pub lending_of : Network → ℕ → Premises → ℕ
lending_of net i p = 8 * (net.nodes - 1) * (i + 2) * window_of p

-- microseconds in milliseconds, and in tenths of a millisecond, rounded up
abbrev pub millis_up : ℕ → ℕ
millis_up micros = (micros + 999) / 1000

abbrev pub tenths_up : ℕ → ℕ
tenths_up micros = (micros + 99) / 100
