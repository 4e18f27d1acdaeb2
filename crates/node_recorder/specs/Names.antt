-- The name of the network's file beside the records.
use Rattle.std.specs.Prelude.{ℕ, List, ◌++◌, codes}

-- one for all nodes of a folder
abbrev pub network_name : List ℕ → List ℕ
network_name dir = dir ++ codes "/record.toml"
