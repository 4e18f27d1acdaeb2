-- What holds for the payload for v while P holds is always present along a run on which P is kept.
use Rattle.std.proofs.Common.{◌≡◌, ℕ, Bool, true, List, [], ◌∷◌}
use Rattle.topology.specs.declared.frame.Payload.{Payload}
use Rattle.run_model.specs.World.{World, IsWorldInRange}
use Rattle.run_model.specs.Step.{step}
use Rattle.run_model.specs.Run.{IsUndamaged}
use Rattle.run_model.specs.Project.{present}
use Rattle.run_model.specs.Laws.{RangesStay}
use Rattle.run_model.specs.declared.event.Event.{Event}
use Rattle.run_model.proofs.Along.{IsKept, in_range}
use Rattle.tree_convergence.specs.Present.{AlwaysPresent}

pub always : (ranges : RangesStay) (P : World → Type 0) → IsKept (in_range ranges) P → (test : Payload → Bool) (u v : ℕ)
    → ((w : World) → IsWorldInRange w → P w → test (present w u v) ≡ true)
    → (w : World) (es : List Event) → IsWorldInRange w × IsUndamaged w es → P w → AlwaysPresent test w es u v
always ranges P k test u v holds w [] h p = holds w h.0 p
always ranges P k test u v holds w (e ∷ es) h p =
    let c = in_range ranges in
    (holds w h.0 p, always ranges P k test u v holds (step w e) es (c.later w e es h) (k w e (c.now w e es h) p))
