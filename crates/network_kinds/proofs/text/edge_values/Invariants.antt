use Rattle.std.proofs.Common.{◌≡◌, take}
use Rattle.toml.specs.View.{items_view}
use Rattle.network_kinds.specs.Text.{edges_data}
use Rattle.network_kinds.proofs.text.edge_values.Given as goal

abbrev pub invariant-loop-edge : goal.invariant-loop-edge
invariant-loop-edge l = items_view l.values.items ≡ edges_data (take l.edge-index l.edges)
