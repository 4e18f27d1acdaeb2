-- Node states are the same if their fields are.
use Rattle.std.proofs.Common.{◌≡◌}
use Rattle.node_core.specs.State.{LocalState}

pub same_state : (s t : LocalState) → s.distance ≡ t.distance → s.parent ≡ t.parent → s.port ≡ t.port → s.value ≡ t.value → s.desk ≡ t.desk → s ≡ t
same_state s t distance parent port value desk = λ i. record { distance = distance i; parent = parent i; port = port i; value = value i; desk = desk i }
