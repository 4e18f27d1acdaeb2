-- The text that `bound` prints for a network: eight lines or nine, and perhaps three of times,
-- with one space between words.
use Rattle.std.specs.Prelude.{ℕ, Bool, if◌then◌else◌, List, [], ◌∷◌, ◌++◌, length, map, Option, Some, None, codes, decimal}
use Rattle.std.specs.List.{range_with_len}
use Rattle.topology.specs.Network.{Network, counter_of, ring_of, bound_of}
use Rattle.topology.specs.Tree.{distance_of, parent_of}
use Rattle.topology.specs.Eccentricity.{sharp_of}
use Rattle.recovery_times.specs.declared.premises.Premises.{Premises}
use Rattle.recovery_times.specs.Text.{times_text}
use Rattle.network_commands.specs.declared.bound.NodeColumn.{NodeColumn}
use Rattle.network_commands.specs.declared.bound.NodeColumn.TheVariants.{Distances, Parents}

-- a line of a word and a number
abbrev pub number_line : List ℕ → ℕ → List ℕ
number_line word number = word ++ (codes " " ++ (decimal number ++ codes "\n"))

-- the words, each with a space before it
abbrev pub spaced : List (List ℕ) → List ℕ
spaced [] = []
spaced (word ∷ words) = codes " " ++ (word ++ spaced words)

-- a line of a word, and then a word for each of n nodes, by ascending id
abbrev pub nodes_line : List ℕ → ℕ → (ℕ → List ℕ) → List ℕ
nodes_line word n word_of = word ++ (spaced (map word_of (range_with_len 0 n)) ++ codes "\n")

-- a parent's id, or `none`
abbrev pub parent_word : Option ℕ → List ℕ
parent_word None = codes "none"
parent_word (Some parent) = decimal parent

-- what a column says of a node
abbrev pub column_word : NodeColumn → Network → ℕ → List ℕ
column_word Distances net v = decimal (distance_of net v)
column_word Parents net v = parent_word (parent_of net v)

-- the eight lines
abbrev pub bound_text : Network → List ℕ
bound_text net =
    number_line (codes "nodes") net.nodes
    ++ (number_line (codes "edges") (length net.edges)
    ++ (number_line (codes "capacity") net.capacity
    ++ (number_line (codes "counter") (counter_of net) ++ (number_line (codes "ring") (ring_of net)
    ++ (nodes_line (codes "distances") net.nodes (column_word Distances net)
    ++ (nodes_line (codes "parents") net.nodes (column_word Parents net)
    ++ number_line (codes "sweeps") (bound_of net)))))))

-- the eight lines and, if it is asked for, the line of the sharp bound
abbrev pub shown_text : Network → Bool → List ℕ
shown_text net sharp =
    if sharp then bound_text net ++ number_line (codes "sharp") (sharp_of net) else bound_text net

-- the lines of times, if premises are given
abbrev pub times_if : Network → Option Premises → List ℕ
times_if net None = []
times_if net (Some premises) = times_text net premises

-- all lines
abbrev pub timed_text : Network → Bool → Option Premises → List ℕ
timed_text net sharp premises = shown_text net sharp ++ times_if net premises
