use Rattle.std.proofs.Common.{◌≡◌}
use Rattle.std.specs.Vec.{vec_capacity}
use Rattle.configuration.proofs.Placing.{IsLaying}
use Rattle.configuration.proofs.links.lay_all.Given as goal

-- the links of the edges so far are laid
abbrev pub invariant-loop-edge : goal.invariant-loop-edge
invariant-loop-edge g l = IsLaying l.net l.edge-index l.places l.fn.spares.items l.spares.items × (vec_capacity l.spares ≡ vec_capacity l.fn.spares)
