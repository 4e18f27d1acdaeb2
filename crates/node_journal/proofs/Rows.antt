-- Small examples of nodes in their place, and of some that are not.
use Rattle.std.proofs.Common.{◌≡◌, ◌≢◌, ℕ, zero, suc, Bool, Option, true, false, Some, None, is_some, [], ◌∷◌, ap, refl, arith}
use Rattle.std.specs.List.{slice_index_or}
use Rattle.node_core.specs.lock_desk.declared.act.DeskAct.TheVariants as act
use Rattle.node_core.specs.State.{LocalState}
use Rattle.node_core.specs.registers.data_link.Port.{PortState}
use Rattle.process_parts.specs.node_log.Rate.{new_rate}
use Rattle.process_parts.specs.node_log.declared.event.NodeEvent.TheVariants as event
use Rattle.process_parts.specs.node_log.declared.event.Level.TheVariants.{Notice, Info}
use Rattle.process_parts.specs.node_log.declared.log.NodeLog.{NodeLog}
use Rattle.process_parts.specs.node_log.declared.place.PlaceSeen.TheVariants.{Right}
use Rattle.unix_doors.specs.node_connections.declared.port.NodePort.{NodePort}
use Rattle.node_journal.specs.Places.{same_id, is_in_place}
use Rattle.node_journal.specs.Said.{rates_then, stands_at, turn_events, HasSeen, SawTheSame}
use Rattle.node_core.specs.data_link.topology.Network.{Network}

-- a line of three nodes
line : Network
line = record { nodes = 3; root = 0; capacity = 1; lease = 0; edges = (0, 1) ∷ (1, 2) ∷ [] }

place-end : is_in_place line 2 2 (Some 1) ≡ true
unfolding line
place-end = refl

place-root : is_in_place line 0 0 None ≡ true
unfolding line
place-root = refl

place_not-distance : is_in_place line 2 1 (Some 1) ≡ false
unfolding line
place_not-distance = refl

place_not-parent : is_in_place line 1 1 (Some 2) ≡ false
unfolding line
place_not-parent = refl

place_not-node : is_in_place line 3 3 None ≡ false
unfolding line
place_not-node = refl

same_not-none : same_id (Some 1) None ≡ false
same_not-none = refl

-- of these three, two are urgent enough, and count
rates-two : rates_then (Some Notice) 5 (Some event.Begins ∷ None ∷ Some (event.Granted 7) ∷ Some event.Ends ∷ []) new_rate
    ≡ record { second = 0; said = 2; left_out = 0 }
rates-two = refl

rates_not-nothing : rates_then (Some Notice) 5 (Some event.Begins ∷ []) new_rate ≢ new_rate
rates_not-nothing = grind arith

-- a log that has seen nothing, and a node that lends to client 7
log : NodeLog
log = record { least = Some Info; rate = new_rate; up = []; next = 1; lent = None; is_full = false; is_crowded = false; place = Right }

-- of two links only the second is up
other-down : (other : ℕ) → other ≢ 1 → slice_index_or (false ∷ true ∷ []) other false ≡ slice_index_or [] other false
other-down zero differs = refl
other-down (suc zero) differs = absurd (differs refl)
other-down (suc (suc other)) differs = refl

module _ (port : ℕ → PortState) (value : ℕ → ℕ) where
  lender : LocalState
  lender = record { distance = 1; parent = Some 0; port = port; value = value; desk = record { waiting = 7 ∷ []; lent = Some 7; left = 0; served = true } }

  turn-granted : turn_events log lender (act.Granted 7) true true 1 0 9
      ≡ None ∷ Some (event.Granted 7) ∷ Some (event.Up 1) ∷ None ∷ None ∷ None ∷ []
  unfolding log lender
  turn-granted = refl

  turn_not-up : turn_events log lender (act.Granted 7) false true 1 0 9
      ≢ None ∷ Some (event.Granted 7) ∷ Some (event.Up 1) ∷ None ∷ None ∷ None ∷ []
  unfolding log lender
  turn_not-up = grind arith

  seen-loan : HasSeen log (record log { lent = Some 7 }) lender false true 1 0 9
  unfolding log lender
  seen-loan = record { lent = refl; is_full = refl; is_crowded = refl; place = refl; link = λ few. refl; others = λ other differs. refl }

  seen_not-loan : HasSeen log log lender false true 1 0 9 → ⊥
  unfolding log lender
  seen_not-loan seen = let e : ◌≡◌ {A = Option ℕ} None (Some 7) = seen.lent in grind arith

  -- the link to node 1 is up, and that to node 0 is as it was
  seen-link : HasSeen log (record log { lent = Some 7; up = false ∷ true ∷ [] }) lender true true 1 0 9
  unfolding log lender
  seen-link = record { lent = refl; is_full = refl; is_crowded = refl; place = refl; link = λ few. refl; others = λ other differs. other-down other differs }

  seen_not-link : HasSeen log (record log { lent = Some 7 }) lender true true 1 0 9 → ⊥
  unfolding log lender
  seen_not-link seen = let e : ◌≡◌ {A = Bool} false true = seen.link (omega arith) in absurd cc

  seen_not-other : HasSeen log (record log { lent = Some 7; up = true ∷ true ∷ [] }) lender true true 1 0 9 → ⊥
  unfolding log lender
  seen_not-other seen = let e : ◌≡◌ {A = Bool} true false = seen.others 0 (λ e. omega (arith, e)) in absurd cc

same-log : SawTheSame log log
same-log = record { least = refl; up = refl; next = refl; lent = refl; is_full = refl; is_crowded = refl; place = refl }

same_not-lent : SawTheSame log (record log { lent = Some 7 }) → ⊥
unfolding log
same_not-lent same = let e : ◌≡◌ {A = Option ℕ} (Some 7) None = same.lent in grind arith

stands_not-none : (P : Type 0) → stands_at {P = P} None ≡ false
stands_not-none P = refl

stands-pipe : {P : Type 0} (port : NodePort P) (pipe : P) → port.link.pipe ≡ Some pipe → stands_at (Some port) ≡ true
stands-pipe port pipe there = ap is_some there

stands_not-loose : {P : Type 0} (port : NodePort P) → port.link.pipe ≡ None → stands_at (Some port) ≡ false
stands_not-loose port loose = ap is_some loose
