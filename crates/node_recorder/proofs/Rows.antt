-- Networks, names and records that are small enough to see through.
use Rattle.std.proofs.Common.{◌≡◌, ℕ, [], ◌∷◌, true, false, refl, arith, codes}
use Rattle.std.proofs.Math.ListN.{replicate}
use Rattle.topology.specs.Network.{Network}
use Rattle.flight_recorder.specs.flight_records.declared.entry.Deed.TheVariants.{Connects, Ticks, TakesAgain, SendsAgain}
use Rattle.flight_recorder.specs.Recorder.{after_failure, at_start}
use Rattle.flight_recorder.specs.declared.recorder.Side.TheVariants.{First}
use Rattle.flight_recorder.specs.View.{RecorderView}
use Rattle.node_recorder.specs.Backlog.{after_all, first_instant, has_room, is_long, nothing, with_turn}
use Rattle.node_recorder.specs.BacklogView.{BacklogView}
use Rattle.node_recorder.specs.Names.{network_name}
use Rattle.node_recorder.specs.Quiet.{is_quiet}
use Rattle.node_recorder.specs.Turns.{after_deeds, network_mark}

abbrev pair : ℕ → Network
pair lease = record { nodes = 2; root = 0; capacity = 64; lease = lease; edges = (0, 1) ∷ [] }

-- 2 * 65599 is 131198; 131198 * 65599 + 64 is 2 * 2^32 + 16523074; that times 65599 is 252 * 2^32 + 1565372734
mark : network_mark (pair 0) ≡ 1565372734
mark = refl

-- another lease, another number
mark-not : network_mark (pair 1) ≡ network_mark (pair 0) → ⊥
mark-not e = omega (arith, e)

-- nothing is noted of deeds once a record has stopped
stopped : after_deeds 5 (Ticks ∷ Ticks ∷ []) (after_failure (at_start 65536 First)) ≡ after_failure (at_start 65536 First)
stopped = refl

-- the network's file has no node's number
kept : network_name (codes "run") ≡ codes "run/record.toml"
kept = refl

kept-not : network_name (codes "run") ≡ codes "run/record-0.toml" → ⊥
kept-not e = absurd cc

-- a node that only ticks has a quiet turn, and one that has a new connection; one that takes a frame or sends
-- one, even the last one again, has none
quiet : is_quiet (Ticks ∷ Connects 1 ∷ []) ≡ true
quiet = refl

quiet-not-taking : is_quiet (Ticks ∷ TakesAgain 1 ∷ []) ≡ false
quiet-not-taking = refl

quiet-not-sending : is_quiet (Ticks ∷ SendsAgain 1 ∷ []) ≡ false
quiet-not-sending = refl

-- two deeds wait since instant 5, and one since 9: they are noted with these instants
abbrev three : BacklogView
three = with_turn 9 (Ticks ∷ []) (with_turn 5 (Ticks ∷ SendsAgain 1 ∷ []) nothing)

waiting : three ≡ record { deeds = Ticks ∷ SendsAgain 1 ∷ Ticks ∷ []; instants = 5 ∷ 5 ∷ 9 ∷ [] }
waiting = refl

first : first_instant 7 three ≡ 5
first = refl

first-of-none : first_instant 7 nothing ≡ 7
first-of-none = refl

noted-in-order : (r : RecorderView) → after_all three r ≡ after_deeds 9 (Ticks ∷ []) (after_deeds 5 (Ticks ∷ SendsAgain 1 ∷ []) r)
noted-in-order r = refl

-- three are few, and leave room for 1533 more, but not for 1534; 512 are many, 511 not yet
few : is_long three ≡ false
few = refl

ticks : ℕ → BacklogView
ticks n = record { deeds = replicate n Ticks; instants = replicate n 5 }

many : is_long (ticks 512) ≡ true
unfolding ticks
many = refl

many-not : is_long (ticks 511) ≡ false
unfolding ticks
many-not = refl

room : has_room 1533 three ≡ true
room = refl

room-not : has_room 1534 three ≡ false
room-not = refl
