-- What a run says about the numbers of its senders.
use Rattle.std.specs.Prelude.{◌≡◌, ℕ, ◌<◌, IsTrue, List, ◌++◌}
use Rattle.topology.specs.Network.{are_joined}
use Rattle.judge.specs.run_model.World.{World}
use Rattle.judge.specs.run_model.Run.{run}
use Rattle.judge.specs.run_model.Sweep.{Sweeps}
use Rattle.judge.specs.run_model.Count.{after_damage}
use Rattle.judge.specs.run_model.declared.event.Event.{Event}
use Rattle.convergence.specs.tree_convergence.Present.{number_moves}

-- if the events since the last damage are a first part and then a part that holds two sweeps, and
-- an edge joins u and v, the number that u sends to v moves in the second part
abbrev pub DoNumbersMove : World → List Event → World → Type 0
DoNumbersMove start es now =
    (first last : List Event) (u v : ℕ) → (after_damage start es).rest ≡ first ++ last → IsTrue (are_joined now.net.edges u v)
    → Sweeps (run (after_damage start es).world first) 2 last → 0 < number_moves (run (after_damage start es).world first) last u v
