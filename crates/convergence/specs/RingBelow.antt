-- What this crate knows about the layers below: each field is a law of one of them, and nothing
-- else is used.
use Rattle.topology.specs.Laws.{JoinedBack, JoinedAreNodes, NeighboursAreJoined, EachTree}
use Rattle.k_state.specs.Laws as ring
use Rattle.tree_convergence.specs.euler_ring.Laws.{OwnViewIsTrue, TrueNeighboursAre}
use Rattle.run_model.specs.Laws as run
use Rattle.run_model.specs.Ticks.{NodesMoveInTicks, TicksAreAccepted}
use Rattle.tree_convergence.specs.Laws as tree
use Rattle.convergence.specs.Legs.{EachTour}

-- laws of networks: who is joined to whom; of copying rings; of the tour; of runs, sweeps and
-- ticks; of links, payloads and the tree
pub record Below : Type 0 where
  pub back : JoinedBack
  pub nodes : JoinedAreNodes
  pub near : NeighboursAreJoined
  pub known : EachTree
  pub good_front : ring.GoodHasFront
  pub parallel : ring.ParallelIsRun
  pub step_run : ring.StepIsRun
  pub ring_join : ring.RunsJoin
  pub ring_turns : ring.RunTurnsGood
  pub ring_stays : ring.GoodOutlastsRuns
  pub one_item : ring.OneItemIsPrivileged
  pub age_of_start : ring.AgeOfStart
  pub ages_differ : ring.AgesDiffer
  pub age_goes_on : ring.AgeGoesOn
  pub ages_turn_good : ring.AgesTurnGood
  pub view : OwnViewIsTrue
  pub tree_edges : TrueNeighboursAre
  pub tours : EachTour
  pub network : run.NetworkStays
  pub ranges : run.RangesStay
  pub join : run.RunsJoin
  pub parts : run.UndamagedSplits
  pub split : run.SweepsSplit
  pub fewer : run.FewerSweeps
  pub moves : NodesMoveInTicks
  pub accepted : TicksAreAccepted
  pub stable : tree.LinksStayStable
  pub staged : tree.StagedIsPresent
  pub copied : tree.CopyIsStaged
  pub staged_turns : tree.StagedTurnsFresh
  pub copy_turns : tree.CopyTurnsStaged
  pub tree : tree.TreeStays
