-- Whose tickets a node knows.
use Rattle.std.specs.Prelude.{◌≡◌, ℕ, true, false}
use Rattle.lock_desk.specs.Desk.{is_stranger}
use Rattle.node_core.specs.View.{NodeView, state_of}
use Rattle.node_connections.specs.declared.clients.Clients.{Clients}
use Rattle.node_connections.specs.Clients.{is_connected}

module _ {P A : Type 0} where
  -- each ticket that waits or borrows is a connected client's
  abbrev pub AreConnected : Clients P A → NodeView → Type 0
  AreConnected clients node =
      (t : ℕ) → is_stranger t (state_of node).desk ≡ false → is_connected clients t ≡ true
