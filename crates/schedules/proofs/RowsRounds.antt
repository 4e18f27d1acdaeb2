-- What a round of two nodes is, and when it is no sweep.
use Rattle.std.proofs.Common.{◌≡◌, true, false, [], ◌∷◌, ◌++◌, refl}
use Rattle.topology.specs.Network.{Network}
use Rattle.damage_tool.specs.link_model.declared.item.Item.TheVariants.{Noise}
use Rattle.configuration.specs.run_model.World.{World}
use Rattle.configuration.specs.run_model.Start.{default_world}
use Rattle.configuration.specs.run_model.Run.{run}
use Rattle.configuration.specs.run_model.Sweep.{has_full_tick, is_renewed}
use Rattle.configuration.specs.run_model.declared.event.Event.TheVariants.{Send, Take, Tick, Ask, Damage}
use Rattle.configuration.specs.run_model.declared.event.Harm.TheVariants as harm
use Rattle.schedules.specs.Rounds.{round, rounds}

-- two nodes, links that hold one item, and no lease
abbrev pub two_nodes : Network
two_nodes = record { nodes = 2; root = 0; capacity = 1; lease = 0; edges = (0, 1) ∷ [] }

-- both tick, and then two frames go from 0 to 1, and two from 1 to 0
round-of_two : round two_nodes ≡ Tick 0 ∷ Tick 1 ∷ Send 0 1 ∷ Take 0 1 ∷ Send 0 1 ∷ Take 0 1 ∷ Send 1 0 ∷ Take 1 0 ∷ Send 1 0 ∷ Take 1 0 ∷ []
round-of_two = refl

-- noise stands on both links, each of which holds no more
abbrev pub noisy : World
noisy = run (default_world two_nodes) (Damage (harm.Item 0 1 Noise) ∷ Damage (harm.Item 1 0 Noise) ∷ [])

-- a round renews them,
round-is_enough : is_renewed noisy (round two_nodes) 0 1 ≡ true
round-is_enough = refl

-- and one exchange each, which takes the noise alone, does not
one-exchange_is_too_few : is_renewed noisy (Send 0 1 ∷ Take 0 1 ∷ Send 1 0 ∷ Take 1 0 ∷ []) 0 1 ≡ false
one-exchange_is_too_few = refl

-- a client asks at node 0 if this is privileged
abbrev pub asked : World
asked = run (default_world two_nodes) (rounds two_nodes 4 ++ Ask 0 5 ∷ [])

-- then its tick lends the lock, and no tick of the round is full
lending-makes_no_sweep : has_full_tick asked (round two_nodes) 0 ≡ false
lending-makes_no_sweep = refl
