-- The network's text beside the records.
use Rattle.std.specs.Prelude.{ℕ, List, ◌++◌, codes, decimal}
use Rattle.node_recorder.specs.Names.{network_name}

-- the name under which node `id` writes it first, which is no other node's
abbrev pub draft_name : List ℕ → ℕ → List ℕ
draft_name dir id = network_name dir ++ (codes "." ++ decimal id)

-- the line which says that the text is not kept
abbrev pub not_kept_line : List ℕ → List ℕ
not_kept_line dir =
    codes "tokentree: " ++ (dir
    ++ codes "/record.toml: the network is not kept, so give it to gather by --network; the node runs on")
