-- The line for a node that was asked to end.
use Rattle.std.specs.Prelude.{ℕ, List, ◌++◌, codes, decimal}
use Rattle.node_stopping.specs.declared.lines.Ending.{Ending}
use Rattle.node_stopping.specs.declared.lines.Ending.TheVariants.{Ended, NotRunning, Late, Hidden, Unasked}

-- that it has ended; or why it has not, which file that is about, and what to do
abbrev pub ending_line : List ℕ → ℕ → Ending → List ℕ
ending_line dir id Ended = codes "node " ++ (decimal id ++ codes " has ended")
ending_line dir id NotRunning =
    codes "tokentree: node " ++ (decimal id ++ (codes " does not run in " ++ dir))
ending_line dir id Late =
    codes "tokentree: node " ++ (decimal id ++ (codes " has not ended in time; it ends once it sees "
    ++ (dir ++ (codes "/stop-" ++ decimal id))))
ending_line dir id Hidden =
    codes "tokentree: " ++ (dir ++ (codes "/lock-" ++ (decimal id
    ++ codes ": cannot be opened; stop nodes as the user that runs them")))
ending_line dir id Unasked =
    codes "tokentree: " ++ (dir ++ (codes "/stop-" ++ (decimal id
    ++ codes ": cannot be made; stop nodes as the user that runs them")))

-- the state file of a node of a folder
abbrev pub state_path : List ℕ → ℕ → List ℕ
state_path dir id = dir ++ (codes "/state-" ++ (decimal id ++ codes ".tkt"))

-- a node that runs writes its state file again
abbrev pub runner_line : List ℕ → ℕ → List ℕ
runner_line path id =
    codes "tokentree: " ++ (path ++ (codes ": node " ++ (decimal id
    ++ codes " runs, and writes this file again within half a second; kill it before, or stop it first")))
