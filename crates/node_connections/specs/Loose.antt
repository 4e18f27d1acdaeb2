-- Ports without a connection.
use Rattle.std.specs.Prelude.{◌≡◌, ℕ, ◌||◌, Bool, false, is_some, List, slice_get, Option, None, Some, Contains}
use Rattle.node_connections.specs.declared.port.NodePort.{NodePort}

module _ {P : Type 0} where
  -- the port has a connection, or one is being made
  abbrev pub is_linked : Option (NodePort P) → Bool
  is_linked None = false
  is_linked (Some port) = is_some port.link.pipe || is_some port.greeting

  -- a node that is no neighbour has no connection
  abbrev pub AreLoose : List ℕ → List (NodePort P) → Type 0
  AreLoose neighbours ports =
      (w : ℕ) → ¬ Contains neighbours w → is_linked (slice_get ports w) ≡ false

  -- the ports of these stay as they are
  abbrev pub AreKept : List ℕ → List (NodePort P) → List (NodePort P) → Type 0
  AreKept neighbours old new =
      (w : ℕ) → Contains neighbours w → slice_get new w ≡ slice_get old w
