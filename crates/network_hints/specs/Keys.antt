-- The keys of a network file.
use Rattle.std.specs.Prelude.{ℕ, List, Bool, ◌||◌, codes}
use Rattle.std.specs.Str.{bytes_eq}
use Rattle.network_hints.specs.declared.key.Key.{Key}
use Rattle.network_hints.specs.declared.key.Key.TheVariants.{Nodes, Root, Capacity, Lease, Edges}

-- the name of a key
abbrev pub key_name : Key → List ℕ
key_name Nodes = codes "nodes"
key_name Root = codes "root"
key_name Capacity = codes "capacity"
key_name Lease = codes "lease"
key_name Edges = codes "edges"

-- one of the five has this name
abbrev pub is_key_name : List ℕ → Bool
is_key_name name =
    bytes_eq name (codes "nodes") || (bytes_eq name (codes "root") || (bytes_eq name (codes "capacity")
    || (bytes_eq name (codes "lease") || bytes_eq name (codes "edges"))))
