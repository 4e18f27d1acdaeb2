-- Frames that are noted again, small enough to see through.
use Rattle.std.proofs.Common.{◌≡◌, ℕ, Some, None, refl}
use Rattle.topology.specs.declared.frame.Frame.{Frame}
use Rattle.flight_records.specs.Frames.{FramesView}
use Rattle.flight_records.specs.declared.entry.Noted.TheVariants as noted
use Rattle.flight_records.specs.declared.entry.StatePart.TheVariants.{Start}
use Rattle.flight_records.specs.declared.entry.Deed.TheVariants.{Takes, TakesAgain, Sends, SendsAgain}
use Rattle.flight_records.specs.Again.{no_frames, frames_after, shortened, lengthened}
use Rattle.flight_records.specs.Laws.{IsLong}

abbrev frame : ℕ → Frame
frame seq = record { seq = seq; ack = 4; payload = record { distance = 1; parent = Some 0; ring = 2 } }

-- frame 5 was taken from node 2
abbrev heard : FramesView
heard = frames_after no_frames (noted.Deed (Takes 2 (frame 5)))

first-is_long : shortened no_frames (noted.Deed (Takes 2 (frame 5))) ≡ noted.Deed (Takes 2 (frame 5))
first-is_long = refl

again-is_short : shortened heard (noted.Deed (Takes 2 (frame 5))) ≡ noted.Deed (TakesAgain 2)
again-is_short = refl

other-is_long : shortened heard (noted.Deed (Takes 2 (frame 6))) ≡ noted.Deed (Takes 2 (frame 6))
other-is_long = refl

-- what was taken was not sent, and what came from one node did not come from another
sent-is_long : shortened heard (noted.Deed (Sends 2 (frame 5))) ≡ noted.Deed (Sends 2 (frame 5))
sent-is_long = refl

elsewhere-is_long : shortened heard (noted.Deed (Takes 1 (frame 5))) ≡ noted.Deed (Takes 1 (frame 5))
elsewhere-is_long = refl

read : lengthened heard (noted.Deed (TakesAgain 2)) ≡ Some (noted.Deed (Takes 2 (frame 5)))
read = refl

-- there was no frame
nothing-read : lengthened heard (noted.Deed (SendsAgain 2)) ≡ None
nothing-read = refl

-- at the start of a state all is forgotten
forgotten : frames_after heard (noted.State (Start 0 1)) ≡ no_frames
forgotten = refl

not-long : IsLong (noted.Deed (TakesAgain 2)) → ⊥
not-long h = h
