-- What events do, on two nodes.
use Rattle.std.proofs.Common.{◌≡◌, [], ◌∷◌, Some, refl}
use Rattle.run_model.specs.World.{World}
use Rattle.run_model.specs.Start.{default_world}
use Rattle.run_model.specs.Run.{run}
use Rattle.run_model.specs.Happened.{happened}
use Rattle.run_model.specs.declared.event.Event.TheVariants.{Send, Take, Lose, Tick, Ask, Leave, Damage}
use Rattle.run_model.specs.declared.event.Harm.TheVariants.{Copy, Empty}
use Rattle.run_model.specs.declared.happened.Happened.{Happened}
use Rattle.run_model.specs.declared.happened.Happened.TheVariants.{FullTick, LendingTick, Taken, NothingTaken, Lost, Damaged, Other}
use Rattle.run_model.proofs.RowsTwo.{two_nodes}

abbrev start : World
start = default_world two_nodes

full-tick : happened start (Tick 0) ≡ FullTick 0
full-tick = refl

-- node 0 has copied that node 1 is its child, so it is privileged and lends to the client that
-- asked; at the next tick it still lends
abbrev lending : World
lending = run start (Damage (Copy 0 1 (record { distance = 1; parent = Some 0; ring = 0 })) ∷ Ask 0 5 ∷ [])

lending-tick : happened lending (Tick 0) ≡ LendingTick 0
lending-tick = refl

lending-still : happened (run lending (Tick 0 ∷ [])) (Tick 0) ≡ LendingTick 0
lending-still = refl

full-again : happened (run lending (Tick 0 ∷ Leave 0 5 ∷ [])) (Tick 0) ≡ FullTick 0
full-again = refl

taken : happened (run start (Send 0 1 ∷ [])) (Take 0 1) ≡ Taken 0 1
taken = refl

-- nothing is under way in the other direction
nothing-taken : happened (run start (Send 0 1 ∷ [])) (Take 1 0) ≡ NothingTaken 1 0
nothing-taken = refl

lost : happened (run start (Send 0 1 ∷ [])) (Lose 0 1 0) ≡ Lost 0 1 0
lost = refl

damaged : happened start (Damage (Empty 0 1)) ≡ Damaged
damaged = refl

other : happened start (Send 0 1) ≡ Other
other = refl

-- a tick that lends is not full
not_full : ¬ (happened lending (Tick 0) ≡ FullTick 0)
not_full full = absurd cc
