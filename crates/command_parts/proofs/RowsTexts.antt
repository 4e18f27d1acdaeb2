-- Small examples of what is reported and written, with some that fail.
use Rattle.std.proofs.Common.{◌≡◌, ◌≢◌, ℕ, true, false, List, [], ◌∷◌, ◌++◌, Option, Some, None, Ok, Err, codes, refl, inl, inr, arith}
use Rattle.std.specs.Fmt.{digits}
use Rattle.memchr.specs.Find.{first_of, places_from}
use Rattle.topology.specs.Network.{Network}
use Rattle.world.specs.run_model.Start.{default_world}
use Rattle.world.specs.run_model.World.{World}
use Rattle.world.specs.run_model.declared.event.Event.TheVariants.{Damage, Leave, Lose, Tick}
use Rattle.world.specs.run_model.declared.event.Harm.TheVariants as harm
use Rattle.world.specs.declared.simulation.SimFault.TheVariants as simulation
use Rattle.world.specs.declared.simulation.Summary.{Summary}
use Rattle.command_faults.specs.declared.fault.Fault.TheVariants as fault
use Rattle.command_parts.specs.EventText.{GrowsByText, text_of}
use Rattle.command_parts.specs.Returns.{gave_return, has_return, return_hint}
use Rattle.command_parts.specs.Simulated.{IsCaused, IsDone, IsFailed, IsReportedAs}
use Rattle.command_parts.specs.SimulationFault.{fault_of}

-- ---- the text of events

-- a line for each, in their order
writes : text_of (Tick 1 ∷ Leave 0 7 ∷ Damage (harm.Own 1 1 None) ∷ Damage (harm.Empty 0 1) ∷ []) ≡ codes "tick 1\nleave 0 7\nharm own 1 1 none\nharm empty 0 1\n"
unfolding digits
writes = refl

writes-lose : text_of (Lose 0 1 7 ∷ []) ≡ codes "lose 0 1 7\n"
unfolding digits
writes-lose = refl

writes_not-turned : text_of (Tick 1 ∷ Tick 0 ∷ []) ≢ codes "tick 0\ntick 1\n"
unfolding digits
writes_not-turned e = grind (arith, e)

writes-nothing : text_of [] ≡ []
writes-nothing = refl

grows : GrowsByText (Some (codes "tick 0\n")) (Tick 1 ∷ []) (Some (codes "tick 0\ntick 1\n"))
unfolding digits
grows = refl

grows_not-silent : ¬ GrowsByText (Some []) (Tick 1 ∷ []) (Some [])
unfolding digits
grows_not-silent e = grind (arith, e)

-- ---- faults

-- each fault of a simulation is reported as its own
said-read : fault_of simulation.Read ≡ fault.EventsUnreadable
said-read = refl

said-long : fault_of simulation.Long ≡ fault.EventsLong
said-long = refl

said_not-write : fault_of simulation.Write ≢ fault.Memory
said_not-write = grind arith

-- ---- simulations

abbrev start : World
start = default_world (record { nodes = 2; root = 0; capacity = 1; lease = 0; edges = (0, 1) ∷ [] })

-- a failure of the output after the simulation is reported as one of the output
says-output : (summary : Summary) → IsReportedAs (Ok summary) fault.Output
says-output summary = refl

says_not-long : (summary : Summary) → ¬ IsReportedAs (Ok summary) fault.EventsLong
says_not-long summary said = grind (arith, said)

-- if memory is refused, nothing is read or written, and memory is reported
fails-memory : IsFailed start (codes "tick 0") (Some (codes "tick 0")) (Some []) (Some []) fault.Memory
fails-memory = record { answer = Err simulation.Memory; simulated = (refl, refl); cause = refl }

done-memory : IsDone start (codes "tick 0") (Some (codes "tick 0")) (Some []) (Some []) (Err fault.Memory)
done-memory = fails-memory

-- no summary is shown if nothing was read
done_not-unread : (summary : Summary) → ¬ IsDone start (codes "tick 0") (Some (codes "tick 0")) (Some []) (Some []) (Ok summary)
done_not-unread summary done = grind (arith, done.0)

-- events are unreadable only if the source's count of failures rose, and output fails only if the
-- sink's did
caused-read : IsCaused {T = ℕ} (Err fault.EventsUnreadable) 3 4 0 0
caused-read = inl (omega arith)

caused_not-read : ¬ IsCaused {T = ℕ} (Err fault.EventsUnreadable) 3 3 0 1
caused_not-read rose = grind (arith, rose)

caused_not-write : ¬ IsCaused {T = ℕ} (Err fault.Output) 3 4 0 0
caused_not-write rose = grind (arith, rose)

-- ---- carriage returns: one among the bytes of a line, none in a line that ends in just a newline
return-there : has_return (codes "tick 0" ++ (13 ∷ 10 ∷ [])) ≡ true
unfolding first_of places_from
return-there = refl

return_not-there : has_return (codes "tick 0" ++ (10 ∷ [])) ≡ false
unfolding first_of places_from
return_not-there = refl

-- a read gave three bytes, or two, and the third is a carriage return
gave-three : gave_return {E = ℕ} (Ok 3) (48 ∷ 49 ∷ 13 ∷ []) ≡ true
unfolding first_of places_from
gave-three = refl

gave_not-two : gave_return {E = ℕ} (Ok 2) (48 ∷ 49 ∷ 13 ∷ []) ≡ false
unfolding first_of places_from
gave_not-two = refl

gave_not-failed : gave_return {E = ℕ} (Err 0) (13 ∷ []) ≡ false
gave_not-failed = refl

hint-refused : return_hint 2 true ≡ Some (codes "the events have carriage returns (CRLF): a line ends in a newline alone")
hint-refused = refl

-- there is no hint if no line was refused, or for another reason
hint_not-taken : return_hint 0 true ≡ None
hint_not-taken = refl

hint_not-plain : return_hint 2 false ≡ None
hint_not-plain = refl
