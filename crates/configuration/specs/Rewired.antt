-- What becomes of the nodes if one of them takes over its neighbours in a different network.
use Rattle.std.specs.Prelude.{◌≡◌, ◌≢◌, ℕ, List, length}
use Rattle.topology.specs.Network.{Network, neighbours_of}
use Rattle.run_model.specs.node_core.Site.{site_of}
use Rattle.run_model.specs.node_core.Rewire.{rewired}
use Rattle.run_model.specs.node_core.View.{NodeView, site_in, state_of}
use Rattle.configuration.specs.ConfigurationView.{node_at}

-- v is rewired and knows its new site; every other node is unchanged
pub record IsRewired (net : Network) (old : List NodeView) (v : ℕ) (new : List NodeView) : Type 0 where
  pub all_nodes : length new ≡ length old
  pub others : (w : ℕ) → w ≢ v → node_at new w ≡ node_at old w
  pub site : site_in (node_at new v) ≡ site_of net v
  pub state : state_of (node_at new v)
      ≡ rewired (site_in (node_at old v)).ranges (site_in (node_at old v)).neighbours (neighbours_of net v) (state_of (node_at old v))
