-- What this crate knows about runs and networks: laws of the crates below.
use Rattle.topology.specs.Laws.{JoinedAreNodes, Limits}
use Rattle.configuration.specs.run_model.Laws.{RefusedChangesNothing, NetworkStays, FrameStays, RunsJoin, UndamagedSplits, RangesStay, TicksGoOn, RenewedGoesOn, OldItemsStart, OldItemsGoOn, OldItemsAreThere, CountedIsGreatest, CountStarts, CountStays, CountRises, MomentLeads, MomentStays, MomentMoves, VisitsGoOn}

pub record Below : Type 0 where
  pub joined_nodes : JoinedAreNodes
  pub limits : Limits
  pub refused : RefusedChangesNothing
  pub network : NetworkStays
  pub frame : FrameStays
  pub joins : RunsJoin
  pub splits : UndamagedSplits
  pub ranges : RangesStay
  pub ticks : TicksGoOn
  pub renewed : RenewedGoesOn
  pub old_start : OldItemsStart
  pub old_go_on : OldItemsGoOn
  pub old_there : OldItemsAreThere
  pub greatest : CountedIsGreatest
  pub starts : CountStarts
  pub stays : CountStays
  pub rises : CountRises
  pub leads : MomentLeads
  pub moment_stays : MomentStays
  pub moment_moves : MomentMoves
  pub visits : VisitsGoOn
