-- When the bytes of a file are a network, and which fault they have if not.
use Rattle.std.specs.Prelude.{◌≡◌, ℕ, ◌<◌, ◌≤◌, List, length, ◌⊎◌}
use Rattle.std.specs.Str.{IsUtf8}
use Rattle.topology.specs.Network.{Network}
use Rattle.topology.specs.ReadNet.{IsReadFrom, IsUnread}
use Rattle.topology.specs.declared.fault.NetFault.TheVariants.{NotToml}
use Rattle.network_file.specs.declared.fault.NetworkFault.{NetworkFault}
use Rattle.network_file.specs.declared.fault.NetworkFault.TheVariants.{Unreadable, Refused}

-- the most bytes that a network file may have
abbrev pub most_bytes : ℕ
most_bytes = 1048576

-- the bytes are few enough and, read as a text, give the network
abbrev pub IsNetworkOf : List ℕ → Network → Type 0
IsNetworkOf bytes net = (length bytes ≤ most_bytes) × IsReadFrom bytes net

-- the bytes are too many; or few enough, but not UTF-8 and so not TOML; or a text that is invalid
-- with this fault
abbrev pub IsRefusedFor : List ℕ → NetworkFault → Type 0
IsRefusedFor bytes Unreadable = most_bytes < length bytes
IsRefusedFor bytes (Refused fault) =
    (length bytes ≤ most_bytes)
    × ((¬ IsUtf8 bytes × (fault ≡ NotToml)) ⊎ (IsUtf8 bytes × IsUnread bytes fault))
