-- What a run says about the payloads that its nodes have staged and copied.
use Rattle.std.specs.Prelude.{◌≡◌, ℕ, ◌+◌, ◌*◌, IsTrue, List, ◌++◌, Contains}
use Rattle.topology.specs.Network.{are_joined}
use Rattle.run_model.specs.World.{World}
use Rattle.run_model.specs.Run.{run}
use Rattle.run_model.specs.Sweep.{Sweeps}
use Rattle.run_model.specs.Count.{after_damage}
use Rattle.run_model.specs.declared.event.Event.{Event}
use Rattle.convergence.specs.Said.{said_in}

-- If the events since the last damage are a part that contains 4(C + 1) sweeps, followed by three
-- sweeps, what u has staged for v now, and what v has copied from u now, is what u would have said
-- to v at some moment of these three.
abbrev pub ArePayloadsFresh : World → List Event → World → Type 0
ArePayloadsFresh start es now =
    (first last : List Event) (u v : ℕ) → (after_damage start es).rest ≡ first ++ last
    → IsTrue (are_joined now.net.edges u v)
    → Sweeps (after_damage start es).world (4 * (now.net.capacity + 1)) first
    → Sweeps (run (after_damage start es).world first) 3 last
    → Contains (said_in (run (after_damage start es).world first) last u v)
    ((now.node u).port v).staged
    × Contains (said_in (run (after_damage start es).world first) last u v)
    ((now.node v).port u).copy
