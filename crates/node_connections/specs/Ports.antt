-- What holds of the ports at one place of two lists.
use Rattle.std.specs.Prelude.{Option, None, Some, ⊤}
use Rattle.node_connections.specs.declared.port.NodePort.{NodePort}

-- two lists both have a port at a place, and R relates these; or neither list has one
abbrev pub AtBoth : {P : Type 0} → (NodePort P → NodePort P → Type 0) → Option (NodePort P)
    → Option (NodePort P) → Type 0
AtBoth R None None = ⊤
AtBoth R None (Some new) = ⊥
AtBoth R (Some old) None = ⊥
AtBoth R (Some old) (Some new) = R old new
