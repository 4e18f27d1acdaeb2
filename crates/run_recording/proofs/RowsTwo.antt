-- The smallest network, two nodes and links of capacity 1, and a calm world on it.
use Rattle.std.proofs.Common.{ℕ, zero, suc, [], ◌∷◌, Some, None}
use Rattle.topology.specs.Network.{Network}
use Rattle.topology.specs.declared.frame.Payload.{Payload}
use Rattle.world.specs.judge.node_core.lock_desk.Desk.{no_desk}
use Rattle.world.specs.run_model.World.{World}

abbrev pub two_nodes : Network
two_nodes = record { nodes = 2; root = 0; capacity = 1; lease = 0; edges = (0, 1) ∷ [] }

-- node 0 is the root, and node 1 its child; both know it, and every ring value is 0
abbrev shown : ℕ → Payload
shown zero = record { distance = 0; parent = None; ring = 0 }
shown (suc v) = record { distance = 1; parent = Some 0; ring = 0 }

abbrev pub calm : World
calm = record {
  net = two_nodes;
  spares = 0;
  node = λ v. record {
    distance = (shown v).distance;
    parent = (shown v).parent;
    port = λ u. record { seq = 0; last = 0; staged = shown v; copy = shown u };
    value = λ u. 0;
    desk = no_desk;
  };
  link = λ u v. [];
}
