-- Small ports, whose numbers are 0 to 4, and what holds of them
use Rattle.std.proofs.Common.{◌≡◌, ℕ, true, false, None, refl, ap, arith}
use Rattle.link_model.specs.topology.declared.frame.Frame.{Frame}
use Rattle.link_model.specs.topology.declared.frame.Payload.{Payload}
use Rattle.data_link.specs.Port.{PortState, counters_fit, default_payload, default_port, port_acked, port_after, port_fits, port_heard}
use Rattle.data_link.specs.Heard.{heard_of}

abbrev old : Payload
old = record { distance = 2; parent = None; ring = 0 }

abbrev new : Payload
new = record { distance = 1; parent = None; ring = 0 }

abbrev later : Payload
later = record { distance = 0; parent = None; ring = 0 }

abbrev port : ℕ → ℕ → Payload → Payload → PortState
port n m s c = record { seq = n; last = m; staged = s; copy = c }

abbrev frame : ℕ → ℕ → Payload → Frame
frame n m p = record { seq = n; ack = m; payload = p }

-- the number is acknowledged and goes round, the present payload is staged, and the new number is
-- accepted
acknowledged_and_accepted : port_after 5 (port 4 1 old old) (frame 2 4 new) later ≡ port 0 2 later new
acknowledged_and_accepted = refl

-- first the one, and then the other
acknowledged_alone : port_acked 5 (port 4 1 old old) (frame 2 4 new) later ≡ port 0 1 later old
acknowledged_alone = refl

not_acknowledged : port_acked 5 (port 4 1 old old) (frame 2 3 new) later ≡ port 4 1 old old
not_acknowledged = refl

accepted_alone : port_heard (port 4 1 old old) (frame 2 4 new) ≡ port 4 2 old new
accepted_alone = refl

not_accepted_again : port_heard (port 4 1 old old) (frame 1 4 new) ≡ port 4 1 old old
not_accepted_again = refl

-- an old acknowledgement and the last number once more: nothing changes
neither : port_after 5 (port 4 1 old old) (frame 1 3 new) later ≡ port 4 1 old old
neither = refl

neither_heard : heard_of (port 4 1 old old) (frame 1 3 new) ≡ record { moved = false; accepted = false }
neither_heard = refl

-- neither number may be the modulus
numbers_fit : counters_fit (record { nodes = 2; counter = 5; ring = 7 }) 4 4 ≡ true
numbers_fit = refl

numbers_not_fit : (counters_fit (record { nodes = 2; counter = 5; ring = 7 }) 5 0 ≡ false)
    × (counters_fit (record { nodes = 2; counter = 5; ring = 7 }) 0 5 ≡ false)
numbers_not_fit = (refl, refl)

-- at the start a node of two says that it is 2 away
says_at_the_start : default_payload (record { nodes = 2; counter = 5; ring = 7 }) ≡ old
says_at_the_start = refl

says_not_the_root : ¬ (default_payload (record { nodes = 2; counter = 5; ring = 7 }) ≡ later)
says_not_the_root e = let d : 2 ≡ 0 = ap (λ (p : Payload). p.distance) e in omega (arith, d)

-- a port as it starts is in range
starts_in_range : port_fits (record { nodes = 2; counter = 5; ring = 7 }) (default_port (record { nodes = 2; counter = 5; ring = 7 })) ≡ true
starts_in_range = refl

-- one whose number is the modulus is not
not_in_range : port_fits (record { nodes = 2; counter = 5; ring = 7 }) (port 5 1 old old) ≡ false
not_in_range = refl
