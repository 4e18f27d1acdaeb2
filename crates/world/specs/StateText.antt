-- The text that shows a world: a line for each node, one for each link, the counts, and the sweeps.
use Rattle.std.specs.Prelude.{ℕ, List, ◌++◌, length, codes, decimal}
use Rattle.std.specs.List.{flat_map, range_with_len}
use Rattle.topology.specs.Network.{neighbours_of, bound_of}
use Rattle.judge.specs.node_core.Status.{status_line}
use Rattle.judge.specs.run_model.World.{World, site}
use Rattle.judge.specs.run_model.NodeCounts.{privileged_count, lending_count}

-- the status line of a node
abbrev pub node_line : World → ℕ → List ℕ
node_line w v = status_line (site w v) (w.node v)

-- `link U V items I` and a newline: I items are under way from u to v
abbrev pub link_line : World → ℕ → ℕ → List ℕ
link_line w u v = codes "link " ++ decimal u ++ codes " " ++ decimal v ++ codes " items " ++ decimal (length (w.link u v)) ++ codes "\n"

-- the lines of the links that lead from a node, by ascending destination
abbrev pub links_from : World → ℕ → List ℕ
links_from w u = flat_map (link_line w u) (neighbours_of w.net u)

-- the lines of all nodes, by ascending id
abbrev pub node_lines : World → List ℕ
node_lines w = flat_map (node_line w) (range_with_len 0 w.net.nodes)

-- the lines of all links, by ascending source and then destination
abbrev pub link_lines : World → List ℕ
link_lines w = flat_map (links_from w) (range_with_len 0 w.net.nodes)

-- `privileged P lending L` and a newline: how many nodes are privileged, P, and how many lend, L
abbrev pub counts_line : World → List ℕ
counts_line w = codes "privileged " ++ decimal (privileged_count w) ++ codes " lending " ++ decimal (lending_count w) ++ codes "\n"

-- `sweeps A of R` and a newline: R is the network's bound, after which it serves from any state
abbrev pub sweeps_line : World → ℕ → List ℕ
sweeps_line w sweeps = codes "sweeps " ++ decimal sweeps ++ codes " of " ++ decimal (bound_of w.net) ++ codes "\n"

-- the whole text
abbrev pub state_text : World → ℕ → List ℕ
state_text w sweeps = node_lines w ++ (link_lines w ++ (counts_line w ++ sweeps_line w sweeps))
