-- The headline: what the lock guarantees, from any state.
use Rattle.std.specs.Prelude.{◌≡◌, ℕ, ◌<◌, IsTrue, List, IfSome, IsNone, IsSome, ◌≢◌}
use Rattle.link_model.specs.topology.Network.{IsDistance, IsTrueParent, bound_of}
use Rattle.run_model.specs.World.{World, IsWorldInRange}
use Rattle.run_model.specs.Run.{run, IsUndamaged}
use Rattle.run_model.specs.Sweep.{Sweeps}
use Rattle.run_model.specs.Privilege.{is_privileged, is_lending}
use Rattle.run_model.specs.declared.event.Event.{Event}

-- Each node's distance is the least length of a walk from the root, the root has no parent, and any
-- other node's parent is its neighbour of smallest id among those one nearer to the root. At most
-- one node is privileged, and at most one lends.
pub record IsServing (w : World) : Type 0 where
  pub distances : (v : ℕ) → v < w.net.nodes → IsDistance w.net v (w.node v).distance
  pub no_parent : IsNone (w.node w.net.root).parent
  pub some_parent : (v : ℕ) → v < w.net.nodes → v ≢ w.net.root → IsSome (w.node v).parent
  pub parents : (v : ℕ) → v < w.net.nodes → IfSome (w.node v).parent (IsTrueParent w.net v)
  pub one_privileged : (u v : ℕ) → u < w.net.nodes → v < w.net.nodes → IsTrue (is_privileged w u) → IsTrue (is_privileged w v) → u ≡ v
  pub one_lending : (u v : ℕ) → u < w.net.nodes → v < w.net.nodes → IsTrue (is_lending w u) → IsTrue (is_lending w v) → u ≡ v

-- From every world in range, every list of events without damage that holds R sweeps leads to a
-- world that serves. A longer list holds them too, so every later moment is covered.
abbrev pub Headline : Type 0
Headline = (w : World) (es : List Event) → IsWorldInRange w → IsUndamaged w es → Sweeps w (bound_of w.net) es → IsServing (run w es)
