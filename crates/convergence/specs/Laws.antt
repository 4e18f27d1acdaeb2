-- The world becomes legitimate, stays so, and serves: each law for the number of sweeps that it
-- needs.
use Rattle.std.specs.Prelude.{◌≡◌, ℕ, ◌+◌, ◌-◌, ◌*◌, ◌<◌, false, IsTrue, List, ◌++◌, Contains}
use Rattle.topology.specs.Network.{are_joined, bound_of}
use Rattle.run_model.specs.World.{World, IsWorldInRange}
use Rattle.run_model.specs.Step.{step}
use Rattle.run_model.specs.Run.{run, is_damage, IsUndamaged}
use Rattle.run_model.specs.Sweep.{Sweeps}
use Rattle.run_model.specs.Tree.{IsTreeReached}
use Rattle.convergence.specs.Ring.{IsTokenRingGood}
use Rattle.tree_convergence.specs.Laws.{LinksTurnStable}
use Rattle.run_model.specs.Privilege.{is_privileged, is_lending}
use Rattle.convergence.specs.Legitimate.{IsLegitimate}
use Rattle.convergence.specs.Settled.{IsSettled}
use Rattle.run_model.specs.Headline.{IsServing}
use Rattle.run_model.specs.declared.event.Event.{Event}
use Rattle.convergence.specs.Said.{said_in}

-- ---- desks

-- on a good token ring, a node that lends only with privilege still does so after an event
abbrev pub LoansStayPrivileged : Type 0
LoansStayPrivileged =
    (w : World) (e : Event) (v : ℕ) → IsSettled w → is_damage w e ≡ false → IsTokenRingGood w
    → v < w.net.nodes
    → (IsTrue (is_lending w v) → IsTrue (is_privileged w v)) → IsTrue (is_lending (step w e) v)
    → IsTrue (is_privileged (step w e) v)

-- one more sweep ends each loan without privilege
abbrev pub DesksTurnPrivileged : Type 0
DesksTurnPrivileged =
    (w : World) (es : List Event) → IsSettled w → IsUndamaged w es → IsTokenRingGood w
    → Sweeps w 1 es → IsLegitimate (run w es)

-- ---- legitimate worlds

-- closure: from a legitimate world every list without damage leads to a legitimate world, and so
-- only through such worlds
abbrev pub LegitimateStays : Type 0
LegitimateStays =
    (w : World) (es : List Event) → IsWorldInRange w → IsUndamaged w es → IsLegitimate w
    → IsLegitimate (run w es)

-- a legitimate world serves: distances and parents are those of walks, at most one node is
-- privileged, and at most one lends
abbrev pub LegitimateServes : Type 0
LegitimateServes = (w : World) → IsWorldInRange w → IsLegitimate w → IsServing w

-- ---- from any state

-- after 4(C + 1) sweeps every link is stable
abbrev pub LinksConverge : Type 0
LinksConverge = LinksTurnStable

-- from then on, after any three more sweeps, what u has staged for v, and what v has copied from
-- u, is what u would have said to v at some moment of these three
abbrev pub PayloadsConverge : Type 0
PayloadsConverge =
    (w : World) (first es : List Event) (u v : ℕ) → IsWorldInRange w → IsUndamaged w (first ++ es)
    → IsTrue (are_joined w.net.edges u v)
    → Sweeps w (4 * (w.net.capacity + 1)) first → Sweeps (run w first) 3 es
    → Contains (said_in (run w first) es u v) (((run (run w first) es).node u).port v).staged
    × Contains (said_in (run w first) es u v) (((run (run w first) es).node v).port u).copy

-- 4(n + 1) sweeps after the links are stable, the tree is reached
abbrev pub TreeConverges : Type 0
TreeConverges =
    (w : World) (es : List Event) → IsWorldInRange w → IsUndamaged w es
    → Sweeps w (4 * (w.net.capacity + 1) + 4 * (w.net.nodes + 1)) es
    → IsTreeReached (run w es)

-- after R - 1 sweeps the token ring is good
abbrev pub TokenRingConverges : Type 0
TokenRingConverges =
    (w : World) (es : List Event) → IsWorldInRange w → IsUndamaged w es
    → Sweeps w (bound_of w.net - 1) es → IsTokenRingGood (run w es)

-- after R sweeps the world is legitimate
abbrev pub WorldConverges : Type 0
WorldConverges =
    (w : World) (es : List Event) → IsWorldInRange w → IsUndamaged w es
    → Sweeps w (bound_of w.net) es → IsLegitimate (run w es)
