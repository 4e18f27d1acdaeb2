-- What a pace remembers of the frames that its ports were given: small examples.
use Rattle.std.proofs.Common.{true, ◌∷◌, None, Some, refl, inl, inr, arith, []}
use Rattle.topology.specs.declared.frame.Frame.{Frame}
use Rattle.pace.specs.Ports.{fresh_port}
use Rattle.pace.specs.declared.pace.TurnPace.{TurnPace}
use Rattle.pace.specs.declared.port.PortPace.{PortPace}
use Rattle.node_loop.specs.Remembering.{Remembers, StillGiven}

frame : Frame
frame = record { seq = 1; ack = 0; payload = record { distance = 0; parent = None; ring = 2 } }

-- it was given that frame at 7,000 microseconds
given : PortPace
given = record fresh_port { given = Some frame; given_times = 1; given_at = 7000 }

-- that an answer is owed changes nothing of it
still-owes : StillGiven given (record given { owes = true })
unfolding given
still-owes = inl (refl, refl)

-- a new connection was given nothing
still-new : StillGiven given fresh_port
still-new = inr refl

-- with another instant it is forgotten
still_not-later : ¬ StillGiven given (record given { given_at = 8000 })
unfolding given
still_not-later (inl e) = grind (arith, e.1)
still_not-later (inr none) = grind (arith, none)

pace : PortPace → TurnPace
pace port = record {
  manner = record { hold = 2000; repeat = 8000 };
  node = record { hold_until = 0; credit = 0; called_at = 0; ticked_at = 1000 };
  ports = port ∷ [];
}

-- what a pace knows of its node may change
remembers-ticked : (p : TurnPace) → Remembers p (record p { node = record p.node { ticked_at = 3000 } })
remembers-ticked p = record { manner = refl; ports = λ w. inl (refl, refl) }

-- its manner may not
remembers_not-manner : ¬ Remembers (pace given) (record (pace given) { manner = record { hold = 0; repeat = 8000 } })
unfolding pace
remembers_not-manner r = grind (arith, r.manner)

-- nor is an instant forgotten
remembers_not-later : ¬ Remembers (pace given) (pace (record given { given_at = 8000 }))
unfolding pace
remembers_not-later r = still_not-later (r.ports 0)
