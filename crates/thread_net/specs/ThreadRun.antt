-- What nodes did on threads is a run.
use Rattle.std.specs.Prelude.{◌≡◌, ℕ, ◌<◌, List}
use Rattle.topology.specs.Network.{neighbours_of}
use Rattle.judge.specs.run_model.World.{World}
use Rattle.judge.specs.run_model.Run.{run}
use Rattle.judge.specs.run_model.declared.event.Event.{Event}
use Rattle.node_runner.specs.weaving.declared.journal.JournalEntry.{JournalEntry}
use Rattle.node_runner.specs.weaving.Account.{Note}
use Rattle.node_runner.specs.weaving.Laws.{GoesThrough}
use Rattle.node_runner.specs.weaving.Matched.{AreMatched, AreOf}
use Rattle.node_runner.specs.weaving.Woven.{AreRising, IsWoven}
use Rattle.node_runner.specs.Rounds.{AreRounds}
use Rattle.node_runner.specs.FirstTurn.{IsFirstTurn, count_of, deeds_of, is_tick_of}

-- The events lead from the one world to the other: each is a tick, a send to a link that has room,
-- or a take of an item that is there, and none is refused. They are woven of one journal a node;
-- the stamps of each journal rise, and the journals match. v did `turns v` rounds: each is one
-- tick, then to each neighbour at most one send, then from each at most two takes. So it ticks
-- `turns v` times. In its first turn it sends over each link that had room in the first world, and
-- takes from each link at least what was there in that world, or two items if there were more.
pub record IsThreadRun (turns : ℕ → ℕ) (start : World) (events : List Event) (last : World) : Type 0 where
  pub leads : run start events ≡ last
  pub through : GoesThrough start events
  pub account : ℕ → List Note
  pub journal : ℕ → List JournalEntry
  pub woven : IsWoven journal events
  pub rising : (v : ℕ) → AreRising (journal v)
  pub said : AreOf account journal
  pub matched : AreMatched start account last
  pub rounds : (v : ℕ) → v < start.net.nodes → AreRounds (neighbours_of start.net v) (turns v) (account v)
  pub ticks : (v : ℕ) → v < start.net.nodes → count_of (is_tick_of v) events ≡ turns v
  pub first : (v : ℕ) → v < start.net.nodes → 0 < turns v → IsFirstTurn start v (deeds_of v events)
