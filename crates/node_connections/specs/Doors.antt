-- What the answer of a door says of its failures.
use Rattle.std.specs.Prelude.{ℕ, ◌≤◌}
use Rattle.byte_streams.specs.Streams.{Rose}
use Rattle.node_connections.specs.declared.doors.Door.{Door}
use Rattle.node_connections.specs.declared.doors.Door.TheVariants.{Came, Nobody, Failed}

-- a door answers Failed only if its count of failures rose in the call; the count never falls
abbrev pub Opens : {P : Type 0} → Door P → ℕ → ℕ → Type 0
Opens (Came p) before after = before ≤ after
Opens Nobody before after = before ≤ after
Opens Failed before after = (before ≤ after) × Rose before after
