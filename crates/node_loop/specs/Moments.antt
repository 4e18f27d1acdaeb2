-- The state of a node that runs, at a moment.
use Rattle.std.specs.Prelude.{Bool, List}
use Rattle.node_core.specs.View.{NodeView}
use Rattle.pace.specs.declared.pace.TurnPace.{TurnPace}
use Rattle.node_connections.specs.declared.port.NodePort.{NodePort}

-- its node, its ports by the neighbour's id, its pace, and whether a client has just let the lock go
pub record Moment (P : Type 0) : Type 0 where
  pub node : NodeView
  pub ports : List (NodePort P)
  pub pace : TurnPace
  pub let_go : Bool

-- the moment of a node that runs
abbrev pub moment_of : {P : Type 0} → NodeView → List (NodePort P) → TurnPace → Bool → Moment P
moment_of node ports pace let_go =
    record { node = node; ports = ports; pace = pace; let_go = let_go }
