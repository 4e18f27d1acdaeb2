-- What a running node says of its sockets.
use Rattle.std.specs.Prelude.{ℕ, List, ◌++◌, codes}

-- the name of a running node's socket leads elsewhere, and cannot be taken back
abbrev pub blocked_line : List ℕ → List ℕ
blocked_line path =
    codes "tokentree: " ++ (path
    ++ codes ": cannot be made again; remove what stands there: the node runs on, and tries again")
