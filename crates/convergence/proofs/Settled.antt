-- A settled world stays settled, with its network.
use Rattle.std.proofs.Common.{◌≡◌, false, List, [], ◌∷◌, ◌∙◌}
use Rattle.topology.specs.Network.{Network}
use Rattle.run_model.specs.World.{World}
use Rattle.run_model.specs.Step.{step}
use Rattle.run_model.specs.Run.{run, is_damage, IsUndamaged}
use Rattle.run_model.specs.declared.event.Event.{Event}
use Rattle.run_model.proofs.Along.{undamaged-one, kept, in_range}
use Rattle.convergence.specs.Settled.{IsSettled}
use Rattle.convergence.specs.RingBelow.{Below}

-- the world is settled, and has this network
abbrev pub IsSettledOn : Network → World → Type 0
IsSettledOn net w = IsSettled w × (w.net ≡ net)

module _ (b : Below) where
  pub settled-event : (net : Network) (w : World) (e : Event) → IsSettledOn net w → is_damage w e ≡ false → IsSettledOn net (step w e)
  settled-event net w e (s, same) d = (
    record { range = b.ranges w (e ∷ []) s.range; links = b.stable w e s.range d s.links; tree = b.tree w e s.range d s.links s.tree },
    b.network w (e ∷ []) (undamaged-one w e d) ∙ same,
  )

  pub settled-run : (net : Network) (w : World) (es : List Event) → IsSettledOn net w → IsUndamaged w es → IsSettledOn net (run w es)
  settled-run net w es s u = kept (in_range b.ranges) (IsSettledOn net) (λ x e now t. settled-event net x e t now.1) w es (s.0.range, u) s
