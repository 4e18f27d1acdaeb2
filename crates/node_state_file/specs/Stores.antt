-- What the answers of a store say, from a crate below; and how a node starts from what is stored.
use Rattle.std.specs.Prelude.{◌≡◌, ℕ, List, Option, None, Some, Ok, Err}
use Rattle.byte_streams.specs.Streams.{Rose}
use Rattle.topology.specs.Network.{Network}
use Rattle.topology.specs.Ranges.{ranges_of}
use Rattle.state_writing.specs.node_core.State.{LocalState, default_node}
pub use Rattle.state_writing.specs.Stores.{MayBeAbsent, AreStored, Loads, Saves}
use Rattle.node_state_file.specs.Reading.{decoded}
use Rattle.node_state_file.specs.declared.starting.StartFault.{StartFault}
use Rattle.node_state_file.specs.declared.starting.StartFault.TheVariants.{File, Device, Absent}

-- A node starts with the state that is stored; or with the default state, and then there is a fault
-- of the file or of the store, which is why.
abbrev pub Starts : Network → ℕ → Option (Option (List ℕ)) → ℕ → ℕ → Option StartFault → LocalState → Type 0
Starts net id stored failures more None s = (bytes : List ℕ) × AreStored bytes stored × (decoded net id bytes ≡ Ok s)
Starts net id stored failures more (Some (File fault)) s =
    (bytes : List ℕ) × AreStored bytes stored × (decoded net id bytes ≡ Err fault) × (s ≡ default_node (ranges_of net))
Starts net id stored failures more (Some Absent) s = MayBeAbsent stored × (s ≡ default_node (ranges_of net))
Starts net id stored failures more (Some Device) s = Rose failures more × (s ≡ default_node (ranges_of net))
