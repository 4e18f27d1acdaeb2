-- The line that says what a node finds in its network file.
use Rattle.std.specs.Prelude.{ℕ, Bool, not, ◌==◌, if◌then◌else◌, List, [], ◌∷◌, ◌++◌, length, codes, decimal, Result, Ok, Err}
use Rattle.topology.specs.Network.{Network, Edge, are_joined}
use Rattle.topology.specs.Change.{is_same_frame}
use Rattle.network_file.specs.declared.fault.NetworkFault.{NetworkFault}
use Rattle.network_file.specs.FaultText.{network_fault_text}

-- an edge in the brackets of a network file, a space before it
abbrev pub edge_text : Edge → List ℕ
edge_text edge = codes " [" ++ (decimal edge.0 ++ (codes ", " ++ (decimal edge.1 ++ codes "]")))

-- the same, but nothing for an edge that is one of these already
abbrev pub edge_if_new : List Edge → Edge → List ℕ
edge_if_new edges edge = if are_joined edges edge.0 edge.1 then [] else edge_text edge

-- those of the second edges that are not among the first
abbrev pub new_edges_text : List Edge → List Edge → List ℕ
new_edges_text edges [] = []
new_edges_text edges (edge ∷ rest) = edge_if_new edges edge ++ new_edges_text edges rest

abbrev pub or_none : List ℕ → List ℕ
or_none list = if length list == 0 then codes " none" else list

-- which edges came, and which went
abbrev pub taken_line : ℕ → List ℕ → Network → Network → List ℕ
taken_line id file own net =
    codes "tokentree: node " ++ (decimal id ++ (codes " takes up " ++ (file
    ++ (codes ": edges that came:" ++ (or_none (new_edges_text own.edges net.edges)
    ++ (codes "; that went:" ++ or_none (new_edges_text net.edges own.edges)))))))

-- why a file is not taken up
abbrev pub not_taken_line : ℕ → List ℕ → List ℕ → List ℕ
not_taken_line id file why =
    codes "tokentree: node " ++ (decimal id ++ (codes " does not take up " ++ (file
    ++ (codes ": " ++ why))))

-- what a node that has this network says
abbrev pub news_line : ℕ → List ℕ → Network → Result Network NetworkFault → List ℕ
news_line id file own (Err fault) = not_taken_line id file (network_fault_text fault)
news_line id file own (Ok net) =
    if is_same_frame own net then taken_line id file own net
    else not_taken_line id file (codes "while nodes run, only edges may change")
