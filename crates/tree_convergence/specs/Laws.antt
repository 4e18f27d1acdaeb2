-- Links become stable, payloads become fresh, and the tree is reached: each law for the number of
-- sweeps that it uses.
use Rattle.std.specs.Prelude.{◌≡◌, ℕ, ◌+◌, ◌*◌, ◌<◌, ◌⊎◌, Bool, true, false, IsTrue, List}
use Rattle.topology.specs.Network.{are_joined}
use Rattle.topology.specs.Eccentricity.{eccentricity_of}
use Rattle.topology.specs.declared.frame.Payload.{Payload}
use Rattle.run_model.specs.data_link.Edge.{IsStable}
use Rattle.run_model.specs.World.{World, IsWorldInRange}
use Rattle.run_model.specs.Step.{step}
use Rattle.run_model.specs.Run.{run, is_damage, IsUndamaged}
use Rattle.run_model.specs.Sweep.{IsSweep, Sweeps}
use Rattle.run_model.specs.Tree.{IsTreeAtStage, IsTreeReached}
use Rattle.run_model.specs.Links.{AreLinksStable}
use Rattle.run_model.specs.Project.{edge_of, present}
use Rattle.run_model.specs.declared.event.Event.{Event}
use Rattle.tree_convergence.specs.Present.{AlwaysPresent, AlwaysStaged, number_moves}

-- ---- links

-- an event that is no damage keeps every link stable
abbrev pub LinksStayStable : Type 0
LinksStayStable =
    (w : World) (e : Event) → IsWorldInRange w → is_damage w e ≡ false → AreLinksStable w
    → AreLinksStable (step w e)

-- and a list without damage does too
abbrev pub LinksOutlastRuns : Type 0
LinksOutlastRuns =
    (w : World) (es : List Event) → IsWorldInRange w → IsUndamaged w es → AreLinksStable w
    → AreLinksStable (run w es)

-- after 4(C + 1) sweeps every link is stable
abbrev pub LinksTurnStable : Type 0
LinksTurnStable =
    (w : World) (es : List Event) → IsWorldInRange w → IsUndamaged w es
    → Sweeps w (4 * (w.net.capacity + 1)) es → AreLinksStable (run w es)

-- after six sweeps every link is stable, whatever its capacity
abbrev pub LinksTurnStableInSix : Type 0
LinksTurnStableInSix =
    (w : World) (es : List Event) → IsWorldInRange w → IsUndamaged w es → Sweeps w 6 es
    → AreLinksStable (run w es)

-- two sweeps move the number that u sends to v
abbrev pub NumbersMove : Type 0
NumbersMove =
    (w : World) (es : List Event) (u v : ℕ) → IsWorldInRange w → IsTrue (are_joined w.net.edges u v)
    → Sweeps w 2 es
    → 0 < number_moves w es u v

-- ---- payloads on a stable link

-- an event leaves what u has staged for v, or stages what u then says about itself to v
abbrev pub StagedIsPresent : Type 0
StagedIsPresent =
    (w : World) (e : Event) (u v : ℕ) → IsWorldInRange w → is_damage w e ≡ false
    → IsTrue (are_joined w.net.edges u v)
    → (((step w e).node u).port v).staged ≡ ((w.node u).port v).staged
    ⊎ (((step w e).node u).port v).staged ≡ present w u v

-- on a stable link an event leaves what v has copied from u, or copies what u then has staged for v
abbrev pub CopyIsStaged : Type 0
CopyIsStaged =
    (w : World) (e : Event) (u v : ℕ) → IsWorldInRange w → is_damage w e ≡ false
    → IsTrue (are_joined w.net.edges u v) → IsStable w.net.capacity (edge_of w u v)
    → (((step w e).node v).port u).copy ≡ ((w.node v).port u).copy
    ⊎ (((step w e).node v).port u).copy ≡ ((w.node u).port v).staged

-- on a stable link, what holds for all that u says about itself to v throughout three sweeps holds
-- for what is staged and copied at their end
abbrev pub PayloadsTurnFresh : Type 0
PayloadsTurnFresh =
    (test : Payload → Bool) (w : World) (es : List Event) (u v : ℕ) → IsWorldInRange w
    → IsUndamaged w es → IsTrue (are_joined w.net.edges u v)
    → IsStable w.net.capacity (edge_of w u v) → Sweeps w 3 es → AlwaysPresent test w es u v
    → (test (((run w es).node u).port v).staged ≡ true)
    × (test (((run w es).node v).port u).copy ≡ true)

-- what holds for all that u says about itself to v throughout two sweeps holds for what is staged
-- at their end
abbrev pub StagedTurnsFresh : Type 0
StagedTurnsFresh =
    (test : Payload → Bool) (w : World) (es : List Event) (u v : ℕ) → IsWorldInRange w
    → IsUndamaged w es
    → IsTrue (are_joined w.net.edges u v) → Sweeps w 2 es → AlwaysPresent test w es u v
    → test (((run w es).node u).port v).staged ≡ true

-- on a stable link, what holds for all that u has staged for v throughout a sweep holds for what v
-- has copied at its end
abbrev pub CopyTurnsStaged : Type 0
CopyTurnsStaged =
    (test : Payload → Bool) (w : World) (es : List Event) (u v : ℕ) → IsWorldInRange w
    → IsTrue (are_joined w.net.edges u v)
    → IsStable w.net.capacity (edge_of w u v) → IsSweep w es → AlwaysStaged test w es u v
    → test (((run w es).node v).port u).copy ≡ true

-- ---- the tree, on stable links

-- every world in range is at stage 0
abbrev pub StageZero : Type 0
StageZero = (w : World) → IsWorldInRange w → IsTreeAtStage 0 w

-- an event that is no damage keeps the stage
abbrev pub StageStays : Type 0
StageStays =
    (k : ℕ) (w : World) (e : Event) → IsWorldInRange w → is_damage w e ≡ false → AreLinksStable w
    → IsTreeAtStage k w → IsTreeAtStage k (step w e)

-- four sweeps reach the next stage
abbrev pub StageRises : Type 0
StageRises =
    (k : ℕ) (w : World) (es : List Event) → IsWorldInRange w → IsUndamaged w es → AreLinksStable w
    → IsTreeAtStage k w → Sweeps w 4 es
    → IsTreeAtStage (k + 1) (run w es)

-- at stage n, four sweeps reach the tree
abbrev pub ParentsTurnTrue : Type 0
ParentsTurnTrue =
    (w : World) (es : List Event) → IsWorldInRange w → IsUndamaged w es → AreLinksStable w
    → IsTreeAtStage w.net.nodes w → Sweeps w 4 es
    → IsTreeReached (run w es)

-- so 4(n + 1) sweeps reach the tree on stable links,
abbrev pub TreeIsReached : Type 0
TreeIsReached =
    (w : World) (es : List Event) → IsWorldInRange w → IsUndamaged w es → AreLinksStable w
    → Sweeps w (4 * (w.net.nodes + 1)) es
    → IsTreeReached (run w es)

-- and 4(e + 2) of them do, where e is the greatest distance of a node from the root,
abbrev pub TreeIsReachedByDepth : Type 0
TreeIsReachedByDepth =
    (w : World) (es : List Event) → IsWorldInRange w → IsUndamaged w es → AreLinksStable w
    → Sweeps w (4 * (eccentricity_of w.net + 2)) es → IsTreeReached (run w es)

-- and an event that is no damage keeps it reached
abbrev pub TreeStays : Type 0
TreeStays =
    (w : World) (e : Event) → IsWorldInRange w → is_damage w e ≡ false → AreLinksStable w
    → IsTreeReached w → IsTreeReached (step w e)
