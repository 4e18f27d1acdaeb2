-- From any state to a legitimate world, in a number of sweeps that is linear in the nodes and does
-- not depend on the capacity. e is the greatest distance of a node from the root.
use Rattle.std.specs.Prelude.{◌+◌, ◌-◌, ◌*◌, List}
use Rattle.topology.specs.Eccentricity.{eccentricity_of, sharp_of}
use Rattle.run_model.specs.World.{World, IsWorldInRange}
use Rattle.run_model.specs.Run.{run, IsUndamaged}
use Rattle.run_model.specs.Sweep.{Sweeps}
use Rattle.tree_convergence.specs.Laws.{LinksTurnStableInSix}
use Rattle.run_model.specs.Tree.{IsTreeReached}
use Rattle.run_model.specs.Headline.{IsServing}
use Rattle.run_model.specs.declared.event.Event.{Event}
use Rattle.convergence.specs.Ring.{IsTokenRingGood}
use Rattle.convergence.specs.Legitimate.{IsLegitimate}

-- after 6 sweeps every link is stable, whatever its capacity
abbrev pub LinksConvergeSooner : Type 0
LinksConvergeSooner = LinksTurnStableInSix

-- after 4(e + 2) more the tree is reached
abbrev pub TreeConvergesSooner : Type 0
TreeConvergesSooner =
    (w : World) (es : List Event) → IsWorldInRange w → IsUndamaged w es
    → Sweeps w (6 + 4 * (eccentricity_of w.net + 2)) es → IsTreeReached (run w es)

-- after 16(n - 1) more, which is one less than 16(n - 1) + 4e + 15 in all, the token ring is good
abbrev pub TokenRingConvergesSooner : Type 0
TokenRingConvergesSooner =
    (w : World) (es : List Event) → IsWorldInRange w → IsUndamaged w es
    → Sweeps w (sharp_of w.net - 1) es
    → IsTokenRingGood (run w es)

-- after one more the world is legitimate,
abbrev pub WorldConvergesSooner : Type 0
WorldConvergesSooner =
    (w : World) (es : List Event) → IsWorldInRange w → IsUndamaged w es
    → Sweeps w (sharp_of w.net) es
    → IsLegitimate (run w es)

-- and so it serves
abbrev pub SharpHeadline : Type 0
SharpHeadline =
    (w : World) (es : List Event) → IsWorldInRange w → IsUndamaged w es
    → Sweeps w (sharp_of w.net) es
    → IsServing (run w es)
