-- What holds of the entries that are woven, and of their events.
use Rattle.std.specs.Prelude.{◌≡◌, ℕ, ◌<◌, ◌==◌, if◌then◌else◌, List, [], ◌∷◌, ◌++◌, replicate, slice_index_or}
use Rattle.topology.specs.Network.{Network, IsAcceptedNetwork}
use Rattle.record_gathering.specs.configuration.run_model.World.{World}
use Rattle.record_gathering.specs.configuration.run_model.Run.{run}
use Rattle.record_gathering.specs.configuration.run_model.Start.{world_with_spares}
use Rattle.record_gathering.specs.flight_records.declared.entry.Entry.{Entry}
use Rattle.record_gathering.specs.Accepted.{accepted}
use Rattle.record_gathering.specs.SetUps.{IsSameAs, HasEdgesOf, with_edges_of}
use Rattle.gather_command.specs.Weave.{Moment, events_of, IsLed, IsWoven}
use Rattle.gather_command.specs.Scene.{events_to}

-- the entries of v's record that were woven, in their order
abbrev pub entries_of : ℕ → List Moment → List Entry
entries_of v [] = []
entries_of v (m ∷ ms) = if m.node == v then m.entry ∷ entries_of v ms else entries_of v ms

-- None of the events is refused in the world in which weaving began. After the events up to an entry, its
-- node lends the lock as the entry's moment says. And each entry of each node is woven once, in the order
-- of its record.
pub record WeavingIsFaithful : Type 0 where
  pub none_refused : (w : World) (queues : List (List ℕ)) (records : List (List Entry)) (ms : List Moment)
      → IsWoven w queues records ms → accepted w (events_of ms) ≡ events_of ms
  pub lent : (w : World) (queues : List (List ℕ)) (records : List (List Entry)) (front back : List Moment) (m : Moment)
      → IsWoven w queues records (front ++ m ∷ back)
      → m.lent ≡ ((run w (events_of (front ++ m ∷ []))).node m.node).desk.lent
  pub complete : (w : World) (queues : List (List ℕ)) (records : List (List Entry)) (ms : List Moment) (v : ℕ)
      → IsWoven w queues records ms → v < w.net.nodes → entries_of v ms ≡ slice_index_or records v []

-- Of a list that begins in the middle: none of its events is refused in the network as it starts. If the
-- nodes that were joined at the list's beginning are joined once the edges are set, the network is set up
-- as the world stood: each node in its state, each link with its items. And each entry of each node is
-- woven once, in the order of its record, before the list's beginning or from there on.
pub record StretchesAreFaithful : Type 0 where
  pub none_refused : (net : Network) (w : World) (queues : List (List ℕ)) (left : List (List Entry)) (back : List Moment)
      → IsWoven (run (world_with_spares net 8) (events_to net w)) queues left back
      → accepted (world_with_spares net 8) (events_to net w ++ events_of back) ≡ events_to net w ++ events_of back
  pub stands : (net : Network) (entries : List (List Entry)) (front : List Moment) (w : World) (queues : List (List ℕ))
      (left : List (List Entry)) → IsAcceptedNetwork net
      → IsLed (world_with_spares net 8) (replicate net.nodes []) entries front w queues left
      → HasEdgesOf w (with_edges_of net 8 w) → IsSameAs w (run (world_with_spares net 8) (events_to net w))
  pub complete : (net : Network) (entries : List (List Entry)) (front back : List Moment) (w : World) (queues : List (List ℕ))
      (left : List (List Entry)) (v : ℕ) → IsLed (world_with_spares net 8) (replicate net.nodes []) entries front w queues left
      → IsWoven (run (world_with_spares net 8) (events_to net w)) queues left back → v < net.nodes
      → entries_of v (front ++ back) ≡ slice_index_or entries v []
