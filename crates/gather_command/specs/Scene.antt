-- A world that begins as the network starts, and is set up to match another world.
use Rattle.std.specs.Prelude.{◌≡◌, ℕ, ◌≤◌, List, [], replicate}
use Rattle.topology.specs.Network.{Network}
use Rattle.node_recorder.specs.Turns.{network_mark}
use Rattle.record_gathering.specs.View.{GatheringView, gathered}
use Rattle.record_gathering.specs.Counts.{with_events, nothing}
use Rattle.record_gathering.specs.Facts.{set_events, set_queues, set_up}
use Rattle.record_gathering.specs.declared.facts.Fact.{Fact}
use Rattle.record_gathering.specs.declared.found.EventCounts.{EventCounts}
use Rattle.record_gathering.specs.configuration.run_model.World.{World}
use Rattle.record_gathering.specs.configuration.run_model.Start.{world_with_spares}
use Rattle.record_gathering.specs.configuration.run_model.Run.{run}
use Rattle.record_gathering.specs.configuration.run_model.declared.event.Event.{Event}

-- the world so far, and how many events led there
pub record SceneView : Type 0 where
  pub gathering : GatheringView
  pub found : EventCounts

-- nothing is set yet
pub record IsFresh (net : Network) (s : SceneView) : Type 0 where
  pub world : gathered s.gathering ≡ world_with_spares net 8
  pub queues : s.gathering.queues ≡ replicate net.nodes []
  pub found : s.found ≡ nothing

-- the events that facts become in a scene
abbrev pub events_in : SceneView → List Fact → List Event
events_in s fs = set_events (gathered s.gathering) s.gathering.queues fs

-- Facts were set: their events led the world on, they were counted, and a sink took them.
pub record HasSet {K : Type 0} (takes : K → List Event → K → Type 0) (failures : K → ℕ) (old : SceneView) (before : K)
    (fs : List Fact) (new : SceneView) (after : K) : Type 0 where
  pub world : gathered new.gathering ≡ run (gathered old.gathering) (events_in old fs)
  pub queues : new.gathering.queues ≡ set_queues old.gathering.queues fs
  pub found : new.found ≡ with_events old.found (events_in old fs)
  pub taken : takes before (events_in old fs) after
  pub counted : failures before ≤ failures after

-- the events that set up a network, as it starts, to match a world
abbrev pub events_to : Network → World → List Event
events_to net w = set_up (network_mark net) net 8 w

-- the network was set up to match a world
pub record IsSetUp {K : Type 0} (takes : K → List Event → K → Type 0) (failures : K → ℕ) (net : Network) (w : World)
    (before : K) (s : SceneView) (after : K) : Type 0 where
  pub world : gathered s.gathering ≡ run (world_with_spares net 8) (events_to net w)
  pub nodes : (gathered s.gathering).net.nodes ≡ net.nodes
  pub found : s.found ≡ with_events nothing (events_to net w)
  pub taken : takes before (events_to net w) after
  pub counted : failures before ≤ failures after
