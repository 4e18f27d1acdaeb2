-- What is said of a node's process that ended, and of a network's capacity.
use Rattle.std.specs.Prelude.{ℕ, List, ◌++◌, codes, decimal}
use Rattle.node_texts.specs.declared.lines.End.{End}
use Rattle.node_texts.specs.declared.lines.End.TheVariants.{Status, Signal, Unknown, Unstarted}

-- how a node's process ended, and what becomes of it
abbrev pub end_text : End → List ℕ
end_text (Status status) = codes " ended with status " ++ (decimal status ++ codes ", and is started again")
end_text (Signal signal) = codes " was ended by signal " ++ (decimal signal ++ codes ", and is started again")
end_text Unknown = codes " ended, and is started again"
end_text Unstarted = codes " cannot be started; it is tried again"

-- the same after the node's id
abbrev pub end_line : ℕ → End → List ℕ
end_line id end = codes "node " ++ (decimal id ++ end_text end)

-- the line that says that a network's capacity is less than 64, and how much may be under way on a
-- link
abbrev pub capacity_line : ℕ → List ℕ
capacity_line capacity =
    codes "tokentree: capacity " ++ (decimal capacity ++ (codes " is less than " ++ (decimal 64
    ++ (codes ": 36 frames may be under way on a link; give the network capacity " ++ (decimal 64
    ++ codes " or more")))))
