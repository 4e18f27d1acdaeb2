use Rattle.std.proofs.Common.{◌≡◌, map}
use Rattle.serde_json.specs.View.{view}
use Rattle.network_commands.specs.BoundData.{column_data}
use Rattle.network_commands.proofs.bound_json.push_column.Given as goal

-- the data of the nodes so far
abbrev pub invariant-loop-v : goal.invariant-loop-v
invariant-loop-v l = map view l.list.items ≡ column_data l.column l.net l.v
