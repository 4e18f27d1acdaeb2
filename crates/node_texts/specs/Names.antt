-- The names of a node's files.
use Rattle.std.specs.Prelude.{◌≡◌, ℕ, List, ◌++◌, ◌-◌, codes, decimal, string_bytes}
use Rattle.node_texts.specs.declared.paths.NodePaths.{NodePaths}
use Rattle.node_texts.specs.declared.paths.SocketNames.{SocketNames}
use Rattle.node_texts.specs.declared.paths.FileNames.{FileNames}

-- the folder, a slash, and the node's id with what comes before and after it
abbrev pub file_name : List ℕ → List ℕ → ℕ → List ℕ → List ℕ
file_name dir before id after = dir ++ (codes "/" ++ (before ++ (decimal id ++ after)))

-- the names of node `id`'s sockets
abbrev pub AreSockets : List ℕ → ℕ → SocketNames → Type 0
AreSockets dir id names =
    (string_bytes names.links ≡ file_name dir (codes "node-") id (codes ".sock"))
    × (string_bytes names.clients ≡ file_name dir (codes "desk-") id (codes ".sock"))
    × (string_bytes names.looks ≡ file_name dir (codes "look-") id (codes ".sock"))

-- the names of node `id`'s files that are not sockets
abbrev pub AreFiles : List ℕ → ℕ → FileNames → Type 0
AreFiles dir id names =
    (string_bytes names.state ≡ file_name dir (codes "state-") id (codes ".tkt"))
    × (string_bytes names.stop ≡ file_name dir (codes "stop-") id (codes ""))
    × (string_bytes names.lock ≡ file_name dir (codes "lock-") id (codes ""))

-- the names of node `id`'s files
abbrev pub AreNamed : List ℕ → ℕ → NodePaths → Type 0
AreNamed dir id paths =
    (string_bytes paths.state ≡ file_name dir (codes "state-") id (codes ".tkt"))
    × (string_bytes paths.links ≡ file_name dir (codes "node-") id (codes ".sock"))
    × (string_bytes paths.clients ≡ file_name dir (codes "desk-") id (codes ".sock"))
    × (string_bytes paths.looks ≡ file_name dir (codes "look-") id (codes ".sock"))
    × (string_bytes paths.stop ≡ file_name dir (codes "stop-") id (codes ""))
    × (string_bytes paths.lock ≡ file_name dir (codes "lock-") id (codes ""))

-- a socket's name that is as long as any of the network: that of the node with the greatest id
abbrev pub longest_socket_name : List ℕ → ℕ → List ℕ
longest_socket_name dir nodes = file_name dir (codes "node-") (nodes - 1) (codes ".sock")
