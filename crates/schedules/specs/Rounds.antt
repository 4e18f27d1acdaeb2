-- The schedule by rounds (Dolev, Self-Stabilization, 2000): in a round each node takes its step,
-- and each link carries more items than it can hold, so at least one that was sent within the
-- round.
use Rattle.std.specs.Prelude.{ℕ, ◌+◌, zero, suc, List, [], ◌∷◌, ◌++◌, map}
use Rattle.std.specs.List.{flat_map, range_with_len}
use Rattle.topology.specs.Network.{Network, neighbours_of}
use Rattle.configuration.specs.run_model.declared.event.Event.{Event}
use Rattle.configuration.specs.run_model.declared.event.Event.TheVariants.{Send, Take, Tick}

-- n times a send from u to v, and then a take
abbrev pub exchanges : (u v n : ℕ) → List Event
exchanges u v zero = []
exchanges u v (suc n) = Send u v ∷ Take u v ∷ exchanges u v n

-- on the links that lead from u, by ascending destination, one item more than a link holds
abbrev pub exchanges_from : Network → ℕ → List Event
exchanges_from net u = flat_map (λ v. exchanges u v (net.capacity + 1)) (neighbours_of net u)

-- a round: each node ticks, by ascending id, and then each link carries its items, by ascending
-- source
abbrev pub round : Network → List Event
round net =
    map Tick (range_with_len 0 net.nodes)
    ++ flat_map (exchanges_from net) (range_with_len 0 net.nodes)

-- n rounds
abbrev pub rounds : Network → ℕ → List Event
rounds net zero = []
rounds net (suc n) = round net ++ rounds net n
