-- Strict sweeps count what a link hands over: more items than it can hold, so at least one was
-- sent inside the sweep.
use Rattle.std.specs.Prelude.{◌≡◌, ℕ, ◌+◌, ◌<◌, IsTrue, zero, suc, List, [], ◌∷◌, ◌++◌}
use Rattle.link_model.specs.topology.Network.{are_joined}
use Rattle.link_model.specs.HandOver.{takes_item}
use Rattle.run_model.specs.World.{World}
use Rattle.run_model.specs.Step.{step}
use Rattle.run_model.specs.Run.{run, IsUndamaged}
use Rattle.run_model.specs.Sweep.{has_full_tick, link_act}
use Rattle.run_model.specs.declared.event.Event.{Event}

-- how many items a stretch hands over from u to v, old or new
abbrev pub handed_in : World → List Event → ℕ → ℕ → ℕ
handed_in w [] u v = 0
handed_in w (e ∷ es) u v = takes_item (link_act u v e) (w.link u v) + handed_in (step w e) es u v

-- a strict sweep is without damage, has a full tick of each node, and hands over more items on each
-- link than it can hold
pub record IsStrictSweep (w : World) (es : List Event) : Type 0 where
  pub undamaged : IsUndamaged w es
  pub ticked : (v : ℕ) → v < w.net.nodes → IsTrue (has_full_tick w es v)
  pub handed : (u v : ℕ) → IsTrue (are_joined w.net.edges u v) → w.net.capacity < handed_in w es u v

-- a list holds r strict sweeps if it splits into r of them, one after the other, and a rest
abbrev pub StrictSweeps : World → ℕ → List Event → Type 0
StrictSweeps w zero es = Unit {0}
StrictSweeps w (suc r) es = (first rest : List Event) × (es ≡ first ++ rest) × IsStrictSweep w first × StrictSweeps (run w first) r rest
