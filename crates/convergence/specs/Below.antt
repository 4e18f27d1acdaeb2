-- What this crate knows about the layers below: each field is a law of one of them, and nothing
-- else is used.
use Rattle.topology.specs.Laws.{DistanceIs, ParentIs, EachTree}
use Rattle.tree_convergence.specs.lock_desk.Laws.{LoansNeedPrivilege, PassesOnlyServed, FullTicksClear, FirstComeFirstServed}
use Rattle.run_model.specs.Laws as run
use Rattle.run_model.specs.Ticks.{NodesMoveInTicks}
use Rattle.tree_convergence.specs.Laws as tree
use Rattle.convergence.specs.RingLaws as ring
use Rattle.convergence.specs.RingService.{PrivilegeVisits, MachinesMove}

-- laws of networks: distances and parents; of a desk; of runs, sweeps and ticks; of links,
-- payloads and the tree; of the token ring and its one token
pub record Below : Type 0 where
  pub distances : DistanceIs
  pub parents : ParentIs
  pub known : EachTree
  pub loans : LoansNeedPrivilege
  pub passes : PassesOnlyServed
  pub clears : FullTicksClear
  pub in_turn : FirstComeFirstServed
  pub network : run.NetworkStays
  pub ranges : run.RangesStay
  pub join : run.RunsJoin
  pub parts : run.UndamagedSplits
  pub split : run.SweepsSplit
  pub moves : NodesMoveInTicks
  pub links : tree.LinksTurnStable
  pub links_in_six : tree.LinksTurnStableInSix
  pub stable : tree.LinksOutlastRuns
  pub fresh : tree.PayloadsTurnFresh
  pub reached : tree.TreeIsReached
  pub reached_sooner : tree.TreeIsReachedByDepth
  pub one_privileged : ring.OnePrivileged
  pub one_lending : ring.OneLending
  pub privilege_stays : ring.PrivilegeStays
  pub settled : ring.SettledStays
  pub good : ring.TokenRingStaysGood
  pub turns_good : ring.TokenRingTurnsGood
  pub turns_good_soon : ring.TokenRingTurnsGoodSoon
  pub visits : PrivilegeVisits
  pub machines : MachinesMove
