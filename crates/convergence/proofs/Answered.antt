-- The laws of the token ring, each by the lemma that proves it on the network's tour.
use Rattle.std.proofs.Common.{refl}
use Rattle.convergence.specs.RingLaws.{OnePrivileged, OneLending, PrivilegeStays, SettledStays, EventIsRingRun, MovesTurnRingGood, HeadMoves, TokenRingStaysGood, TokenRingTurnsGood, TokenRingTurnsGoodSoon}
use Rattle.convergence.specs.RingService.{PrivilegeGoesRound, PrivilegeVisits, MachinesMove}
use Rattle.convergence.specs.RingBelow.{Below}
use Rattle.convergence.proofs.Settled.{settled-run}
use Rattle.convergence.proofs.Privileges.{one-privileged, one-lending}
use Rattle.convergence.proofs.PrivilegeStays.{privilege-stays}
use Rattle.convergence.proofs.RingEvents.{ring-event, good-run, good-after_moves}
use Rattle.convergence.proofs.Visits.{goes-round, visits}
use Rattle.convergence.proofs.Rounds.{moves-in_turn}
use Rattle.convergence.proofs.HeadMoves.{moves-in_round, good-in_sweeps, good-in_twice}

module _ (b : Below) where
  pub one-privileged-node : OnePrivileged
  one-privileged-node = one-privileged b.back b.nodes b.near b.view b.one_item b.tours

  pub one-lending-node : OneLending
  one-lending-node = one-lending b.back b.nodes b.near b.view b.one_item b.tours

  pub privileged-stays : PrivilegeStays
  privileged-stays w e v s d g h same p = privilege-stays b w.net (b.tours w.net s.range.network) w e v (s, refl) d g h same p

  pub settled-stays : SettledStays
  settled-stays w es s u = (settled-run b w.net w es (s, refl) u).0

  pub ring-runs : EventIsRingRun
  ring-runs w e s d = ring-event b w.net (b.tours w.net s.range.network) w e (s, refl) d

  pub moves-turn_good : MovesTurnRingGood
  moves-turn_good w es s u many = good-after_moves b w.net (b.tours w.net s.range.network) w es (s, refl) u many

  pub head-moves : HeadMoves
  head-moves w es s u sweeps = moves-in_round b w.net (b.tours w.net s.range.network) w es (s, refl) u sweeps

  pub ring-stays_good : TokenRingStaysGood
  ring-stays_good w es s u g = good-run b w.net (b.tours w.net s.range.network) w es (s, refl) u g

  pub ring-turns_good : TokenRingTurnsGood
  ring-turns_good w es s u sweeps = good-in_sweeps b w.net (b.tours w.net s.range.network) w es (s, refl) u sweeps

  pub ring-turns_good_soon : TokenRingTurnsGoodSoon
  ring-turns_good_soon w es s u sweeps = good-in_twice b w.net (b.tours w.net s.range.network) w es (s, refl) u sweeps

  pub privilege-goes_round : PrivilegeGoesRound
  privilege-goes_round w es v s u g h two = goes-round b w.net (b.tours w.net s.range.network) w es v (s, refl) u g h two

  pub privilege-visits : PrivilegeVisits
  privilege-visits w es v s u g h sweeps = visits b w.net (b.tours w.net s.range.network) w es v (s, refl) u g h sweeps

  pub machines-move : MachinesMove
  machines-move w es v s u g h sweeps = moves-in_turn b w.net (b.tours w.net s.range.network) w es v (s, refl) u g h sweeps
