-- Which events of a list count as refused.
use Rattle.std.proofs.Common.{◌≡◌, ◌+◌, ◌-◌, ◌^◌, [], ◌∷◌, None, refl}
use Rattle.configuration.specs.run_model.World.{World}
use Rattle.configuration.specs.run_model.Start.{default_world}
use Rattle.configuration.specs.run_model.declared.event.Event.TheVariants.{Send, Take, Lose, Tick, Ask, Leave, Damage}
use Rattle.configuration.specs.run_model.declared.event.Harm.TheVariants.{Empty, Own}
use Rattle.judge.specs.Judging.{counted_up_to, refused_in}

abbrev start : World
start = default_world (record { nodes = 2; root = 0; capacity = 1; lease = 0; edges = (0, 1) ∷ [] })

none-refused : refused_in start (Tick 0 ∷ Ask 0 5 ∷ Tick 0 ∷ Leave 0 5 ∷ []) ≡ 0
none-refused = refl

-- a missing node, a missing item, and a missing ticket
three-refused : refused_in start (Tick 2 ∷ Tick 0 ∷ Lose 0 1 0 ∷ Send 0 1 ∷ Leave 0 5 ∷ []) ≡ 3
three-refused = refl

-- an item can be lost only once
refused-then : refused_in start (Send 0 1 ∷ Lose 0 1 0 ∷ Lose 0 1 0 ∷ []) ≡ 1
refused-then = refl

-- a send on a full link and a take from an empty one are not refused
neither-refused : refused_in start (Send 0 1 ∷ Send 0 1 ∷ Take 1 0 ∷ []) ≡ 0
neither-refused = refl

-- a harm out of range is refused; accepted damage does not restart this count
across-damage : refused_in start (Tick 2 ∷ Damage (Own 0 3 None) ∷ Damage (Empty 0 1) ∷ Tick 2 ∷ []) ≡ 3
across-damage = refl

not_since_damage : ¬ (refused_in start (Tick 2 ∷ Damage (Empty 0 1) ∷ Tick 2 ∷ []) ≡ 1)
not_since_damage one = absurd cc

-- the count stops at its greatest value
greatest : counted_up_to (2 ^ 64 + 7) ≡ 2 ^ 64 - 1
greatest = refl
