use Rattle.std.proofs.Common.{◌≡◌, ◌↔◌, drop}
use Rattle.std.specs.List.{flat_map}
use Rattle.topology.specs.Network.{ring_of}
use Rattle.euler_ring.specs.Tour.{tour}
use Rattle.configuration.specs.ConfigurationView.{world_of}
use Rattle.convergence.specs.Ring.{leg_values, legs_to, first_here, IsTokenRingGood}
use Rattle.layers.specs.RingReading.{MayFollow}
use Rattle.layers.specs.Stops.{stop_of, IsOnTree, GoesRound, first_stop}
use Rattle.layers.proofs.token_ring.is_token_ring_good.Given as goal

-- the legs of the stops that are passed are read, and the tour goes on along those that are left
abbrev pub invariant-loop : goal.invariant-loop
invariant-loop g l =
    let w = world_of l.configuration in
    let left = drop l.counter (tour w.net) in
    IsOnTree w.net (stop_of l.stop)
    × (l.reading.modulus ≡ ring_of w.net)
    × GoesRound w.net (stop_of l.stop) (first_stop w.net) left
    × (MayFollow l.reading (flat_map (leg_values w) (legs_to (first_here (tour w.net)) left)) ↔ IsTokenRingGood w)
