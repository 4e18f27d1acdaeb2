-- What is read, and what is watched, by rows that are small enough to check by hand.
use Rattle.std.proofs.Common.{◌≡◌, ◌∙◌, ap, sym, ℕ, List, [], ◌∷◌, Option, Some, None, false, true, refl, arith, codes}
use Rattle.std.specs.Prelude.{fold, Ok, Err}
use Rattle.record_gathering.specs.configuration.run_model.World.{World}
use Rattle.record_gathering.specs.configuration.run_model.declared.event.Event.TheVariants.{Send, Take, Lose, Damage}
use Rattle.record_gathering.specs.configuration.run_model.declared.event.Harm.TheVariants.{Part}
use Rattle.record_pages.specs.flight_records.declared.entry.Entry.{Entry}
use Rattle.record_pages.specs.flight_records.declared.entry.Noted.{Noted}
use Rattle.record_pages.specs.flight_records.declared.entry.Noted.TheVariants as noted
use Rattle.record_pages.specs.flight_records.declared.entry.Deed.TheVariants.{Ticks}
use Rattle.record_pages.specs.flight_records.declared.entry.StatePart.TheVariants.{Own, Whole}
use Rattle.record_gathering.specs.declared.fields.Field.{Field}
use Rattle.record_gathering.specs.declared.fields.Field.TheVariants.{Distance, Parent}
use Rattle.record_pages.specs.flight_records.Reading.{entry_at, count_of, checked, entry_of, candidate}
use Rattle.record_pages.specs.flight_records.leb128.Reading.{number_at}
use Rattle.record_pages.specs.flight_records.Again.{no_frames}
use Rattle.gather_command.specs.declared.damage.Difference.{Difference}
use Rattle.gather_command.specs.declared.fault.FlawKind.TheVariants as kind
use Rattle.gather_command.specs.Reading.{IsReadOn, Ends, Tears, Nameless, Stops, Further, start_of}
use Rattle.gather_command.specs.Records.{starts_earlier}
use Rattle.command_parts.specs.command_faults.declared.fault.Fault.TheVariants as said
use Rattle.topology.specs.Network.{Network}
use Rattle.gather_command.specs.Ends.{IsPrintFault, PrintingEndsWith}
use Rattle.gather_command.specs.declared.command.PrintFault.TheVariants as print
use Rattle.gather_command.specs.declared.fault.GatherFault.TheVariants as fault
use Rattle.gather_command.specs.Network.{network_by, network_path, none_kept_line}
use Rattle.gather_command.specs.Delays.{DelaysView, no_delays, delays_after}
use Rattle.gather_command.specs.Weave.{Moment, IsWoven, NoneLeft}
use Rattle.gather_command.specs.Watch.{Seen, seen_after, nothing_seen}

-- the start of node 1's state, in the network with the number 5, at the instant 9; a tick at 10
abbrev start : Entry
start = record { instant = 9; noted = start_of 5 1 }

abbrev tick : ℕ → Entry
tick instant = record { instant = instant; noted = noted.Deed Ticks }

read : IsReadOn ⊥ 0 no_frames (Some (1 ∷ 9 ∷ 5 ∷ 1 ∷ 239 ∷ 7 ∷ 1 ∷ 247 ∷ [])) (start ∷ tick 10 ∷ []) None
unfolding entry_at number_at count_of checked entry_of candidate
read = Further refl refl (Further refl refl Ends)

torn : IsReadOn ⊥ 0 no_frames (Some (1 ∷ 9 ∷ 5 ∷ 1 ∷ 239 ∷ 7 ∷ [])) (start ∷ []) (Some kind.Torn)
unfolding entry_at number_at count_of checked entry_of candidate
torn = Further refl refl (Tears (λ e. cc e) refl)

-- a frame is taken again that was never taken
nameless : IsReadOn ⊥ 0 no_frames (Some (1 ∷ 9 ∷ 5 ∷ 1 ∷ 239 ∷ 9 ∷ 1 ∷ 0 ∷ 245 ∷ [])) (start ∷ []) (Some kind.Spoiled)
unfolding entry_at number_at count_of checked entry_of candidate
nameless = Further refl refl (Nameless refl refl)

-- the end of a file is no flaw
no-flaw : IsReadOn ⊥ 0 no_frames (Some []) [] (Some kind.Torn) → ⊥
no-flaw (Tears some e) = some refl

-- a source that cannot fail does not
no-failure : IsReadOn ⊥ 0 no_frames (Some []) [] (Some kind.Unreadable) → ⊥
no-failure (Stops fails) = fails

-- the second file is the earlier one; both begin at the same instant
second-first : starts_earlier (tick 9 ∷ []) (tick 10 ∷ []) ≡ true
second-first = refl

at-once : starts_earlier (tick 9 ∷ []) (tick 9 ∷ []) ≡ true → ⊥
at-once e = cc e

-- node 1 ticks twice, 50 microseconds apart; node 0 lends for 30
abbrev moment : ℕ → Entry → Option ℕ → Moment
moment v e lent = record { node = v; entry = e; events = []; lent = lent; fields = [] }

abbrev seen : Seen
seen = fold seen_after (nothing_seen 2)
    (moment 1 (tick 910) None ∷ moment 0 (tick 940) (Some 7) ∷ moment 1 (tick 960) None ∷ moment 0 (tick 970) None ∷ [])

turn : seen.watch.longest_turn ≡ 50
turn = refl

loans : seen.watch.loans ≡ 1
loans = refl

loan : seen.watch.longest_loan ≡ Some (record { node = 0; ticket = 7; time = 30 })
loan = refl

not-of-two-nodes : seen.watch.longest_turn ≡ 30 → ⊥
not-of-two-nodes e = cc e

-- two frames of node 0 are accepted at 10 and 20; the first is lost, and the second is taken at 50
abbrev under_way : DelaysView
under_way = delays_after (delays_after no_delays 10 (Send 0 1 ∷ [])) 20 (Send 0 1 ∷ [])

delay : (delays_after under_way 50 (Lose 0 1 0 ∷ Take 0 1 ∷ [])).longest ≡ 30
delay = refl

delay-not : (delays_after under_way 50 (Lose 0 1 0 ∷ Take 0 1 ∷ [])).longest ≡ 40 → ⊥
delay-not e = cc e

-- once their edge is gone, nothing is under way
parted : (delays_after under_way 50 (Damage (Part 1 0) ∷ Take 0 1 ∷ [])).longest ≡ 0
parted = refl

-- weaving does not end while an entry is left
none-left-out : (w : World) → w.net.nodes ≡ 1 → IsWoven w [] ((tick 9 ∷ []) ∷ []) [] → ⊥
none-left-out w n (NoneLeft none) = cc (none 0 (grind (arith, n)))

-- node 1's whole state is noted at 910; a field that differs before that is no damage, one after it is
abbrev differs : ℕ → Noted → List (Option Field) → Moment
differs instant n fields =
    record { node = 1; entry = record { instant = instant; noted = n }; events = []; lent = None; fields = fields }

abbrev harmed : Seen
harmed = fold seen_after (nothing_seen 2)
    (differs 910 (noted.State (Own 1 None)) (Some Distance ∷ None ∷ []) ∷ differs 910 (noted.State Whole) []
    ∷ differs 990 (noted.State (Own 2 (Some 0))) (None ∷ Some Parent ∷ []) ∷ [])

one-difference : harmed.damage.shown ≡ record { node = 1; instant = 990; field = Parent } ∷ []
one-difference = refl

counted : harmed.damage.count ≡ 1
counted = refl

not-both : harmed.damage.count ≡ 2 → ⊥
not-both e = cc e

other-field : Parent ≡ Distance → ⊥
other-field e = cc e

first-same : {d e : Difference} → d ∷ [] ≡ e ∷ [] → d ≡ e
first-same e = cc e

not-the-distance : harmed.damage.shown ≡ record { node = 1; instant = 990; field = Distance } ∷ [] → ⊥
not-the-distance e = other-field (ap (λ (d : Difference). d.field) (first-same (sym one-difference ∙ e)))

-- the network of the file that is given, or else of the one that is kept
given-file : network_path (codes "run") (Some (codes "ring.toml")) ≡ codes "ring.toml"
given-file = refl

kept-file : network_path (codes "run") None ≡ codes "run/record.toml"
kept-file = refl

not-the-kept-file : network_path (codes "run") (Some (codes "ring.toml")) ≡ codes "run/record.toml" → ⊥
not-the-kept-file e = absurd cc

none-kept : none_kept_line (codes "run/record.toml") said.Memory
    ≡ codes "no network is kept in run/record.toml (out of memory); give --network FILE"
none-kept = refl

-- a file that is given is at fault if it gives no network; if none is given, none was kept
by-fault : network_by {E = ℕ} (λ why. said.Memory) true (Err 3) ≡ Err said.Memory
by-fault = refl

by-none_kept : network_by {E = ℕ} (λ why. said.Memory) false (Err 3) ≡ Ok None
by-none_kept = refl

by_not-none : (net : Network) → network_by {E = ℕ} (λ why. said.Memory) true (Ok net) ≡ Ok None → ⊥
by_not-none net e = absurd cc

-- a fault of the output is no fault of the gathering, and so the command passes it on
prints-torn : IsPrintFault (print.Gathering fault.Memory)
prints-torn = tt

prints_not-output : ¬ IsPrintFault (print.Gathering fault.Output)
prints_not-output is = is

passes-on : PrintingEndsWith (Err (print.Output said.Closed)) (Err said.Closed)
passes-on = refl

passes_not-else : ¬ PrintingEndsWith (Err (print.Output said.Closed)) (Err said.Memory)
passes_not-else e = absurd cc
