-- Runners that are done.
use Rattle.std.specs.Prelude.{◌≡◌, ℕ, ◌<◌, ◌≤◌, List, [], length, slice_index_or, vec_capacity}
use Rattle.std.specs.declared.vec.Vec.{Vec}
use Rattle.topology.specs.Network.{neighbours_of}
use Rattle.topology.specs.Ranges.{ranges_of}
use Rattle.judge.specs.node_core.State.{default_node}
use Rattle.judge.specs.run_model.World.{World, IsWorldInRange}
use Rattle.judge.specs.run_model.declared.event.Event.{Event}
use Rattle.judge.specs.configuration.LinksView.{LinksView, spare_pairs}
use Rattle.judge.specs.Stretch.{StretchView, HasRoomFor}
use Rattle.node_runner.specs.weaving.Account.{Note}
use Rattle.node_runner.specs.weaving.Journals.{entry_count}
use Rattle.node_runner.specs.declared.runner.Runner.{Runner}
use Rattle.thread_net.specs.declared.seats.RunnerSeats.{RunnerSeats}
use Rattle.node_runner.specs.Runner.{IsNoted}
use Rattle.node_runner.specs.Rounds.{AreRounds}
use Rattle.node_runner.specs.FirstTurn.{IsFirstTurn}
use Rattle.node_runner.specs.Due.{events_of}
use Rattle.thread_net.specs.Cables.{AreCabled, IsOver, rows_of}
use Rattle.thread_net.specs.Seats.{entries_of_all}
use Rattle.thread_net.specs.Tables.{AreEmptySeats}
use Rattle.thread_net.specs.ThreadRun.{IsThreadRun}

-- v did this many rounds since it was as in the world, and the first of them is a whole turn
pub record HasDone {A : Type 0} (w : World) (v turns : ℕ) (r : Runner A) : Type 0 where
  pub notes : List Note
  pub said : IsNoted w v notes r
  pub rounds : AreRounds (neighbours_of w.net v) turns notes
  pub first : 0 < turns → IsFirstTurn w v (events_of v notes)

-- each node did its rounds, and the rings belong together
pub record HaveDone {A : Type 0} (w : World) (turns : ℕ → ℕ) (runners : List (Runner A)) : Type 0 where
  pub count : length runners ≡ w.net.nodes
  pub each : (v : ℕ) (d : Runner A) → v < w.net.nodes → HasDone w v (turns v) (slice_index_or runners v d)
  pub cabled : AreCabled w.net (rows_of runners)

-- a world in range, with as many nodes as its network says
pub record IsStart (w : World) : Type 0 where
  pub range : IsWorldInRange w
  pub beyond : (v : ℕ) → w.net.nodes ≤ v → w.node v ≡ default_node (ranges_of w.net)

-- everything that a world and a list of events are made of, when each node has done its rounds
pub record IsGatherable {A : Type 0} (w : World) (turns : ℕ → ℕ) (runners : List (Runner A)) (links : LinksView) (room : StretchView) (seats : RunnerSeats A) (events : Vec Event A) : Type 0 where
  pub start : IsStart w
  pub done : HaveDone w turns runners
  pub over : IsOver w links
  pub spares : w.spares ≡ spare_pairs links
  pub judged : HasRoomFor w.net room
  pub empty : AreEmptySeats (length runners) seats
  pub nothing : events.items ≡ []
  pub fits : entry_count (entries_of_all runners) ≤ vec_capacity events

-- there is such a world
abbrev pub CanGather : {A : Type 0} → List (Runner A) → LinksView → StretchView → RunnerSeats A → Vec Event A → Type 0
CanGather runners links room seats events = (w : World) × (turns : ℕ → ℕ) × IsGatherable w turns runners links room seats events

-- from each such world what the nodes did is a run to the last one
abbrev pub Gathers : {A : Type 0} → List (Runner A) → LinksView → StretchView → RunnerSeats A → Vec Event A → List Event → World → Type 0
Gathers runners links room seats events woven last =
    (w : World) (turns : ℕ → ℕ) → IsGatherable w turns runners links room seats events → IsThreadRun turns w woven last
