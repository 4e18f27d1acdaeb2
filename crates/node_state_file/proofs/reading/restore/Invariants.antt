use Rattle.std.proofs.Common.{◌≡◌, take}
use Rattle.topology.specs.Ranges.{ranges_of}
use Rattle.state_writing.specs.node_core.View.{site_in, state_of}
use Rattle.node_state_file.proofs.Restored.{matched_to}
use Rattle.node_state_file.proofs.reading.restore.Given as goal

-- the state is matched to the neighbours that were looked at
abbrev pub invariant-loop-neighbour : goal.invariant-loop-neighbour
invariant-loop-neighbour g l =
    (state_of l.node ≡ matched_to (ranges_of l.fn.net) l.fn.saved.header l.fn.saved.ports.items (take l.neighbour-index l.neighbours))
    × (site_in l.node ≡ site_in l.fn.node)
