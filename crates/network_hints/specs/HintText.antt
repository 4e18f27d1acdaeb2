-- What is said of an invalid network file.
use Rattle.std.specs.Prelude.{ℕ, ℤ, List, ◌++◌, Option, Some, None, codes, decimal}
use Rattle.std.specs.Fmt.{signed_decimal}
use Rattle.std.specs.Borrow.{Bor}
use Rattle.network_hints.specs.Keys.{key_name}
use Rattle.network_hints.specs.declared.flaw.ValueFlaw.{ValueFlaw}
use Rattle.network_hints.specs.declared.flaw.ValueFlaw.TheVariants.{NoKey, NoInteger, NoArray, NoEdge, OutOfRange}
use Rattle.network_hints.specs.declared.flaw.ValueFlaw.TheVariants.{TooMany, NoRoot, NoNode, Loop, Twice}

-- the words which say that it is none of this many nodes
abbrev pub none_of_text : ℤ → List ℕ
none_of_text nodes = codes " is none of " ++ (signed_decimal nodes ++ codes " nodes")

-- an edge, as a file writes it
abbrev pub edge_text : ℤ → ℤ → List ℕ
edge_text one other = codes "edge [" ++ (signed_decimal one ++ (codes ", " ++ (signed_decimal other ++ codes "]")))

-- which key or edge it is, and what it must be
abbrev pub flaw_text : ValueFlaw → List ℕ
flaw_text (NoKey key) = codes "no key '" ++ (key_name key ++ codes "'")
flaw_text (NoInteger key) = codes "key '" ++ (key_name key ++ codes "': must be an integer")
flaw_text NoArray = codes "key 'edges': must be an array of edges, as [[0, 1], [1, 2]]"
flaw_text (NoEdge place) =
    codes "key 'edges': edge " ++ (decimal place ++ codes " must be two integers, as [0, 1]")
flaw_text (OutOfRange key value least most) =
    codes "key '" ++ (key_name key ++ (codes "': " ++ (signed_decimal value
    ++ (codes " must be an integer from " ++ (signed_decimal least ++ (codes " to " ++ signed_decimal most))))))
flaw_text (TooMany count) = codes "key 'edges': " ++ (decimal count ++ codes " edges are more than 256")
flaw_text (NoRoot root nodes) = codes "key 'root': " ++ (signed_decimal root ++ none_of_text nodes)
flaw_text (NoNode one other nodes) =
    codes "key 'edges': in " ++ (edge_text one other ++ (codes " one" ++ none_of_text nodes))
flaw_text (Loop node) = codes "key 'edges': " ++ (edge_text node node ++ codes " joins a node with itself")
flaw_text (Twice one other) = codes "key 'edges': " ++ (edge_text one other ++ codes " is there twice")

-- the file, what is wrong, and the unknown key that is like the missing one
abbrev pub hint_text : List ℕ → ValueFlaw → Option (Bor (List ℕ)) → List ℕ
hint_text file flaw None = file ++ (codes ": " ++ flaw_text flaw)
hint_text file flaw (Some like) =
    file ++ (codes ": " ++ (flaw_text flaw ++ (codes "; it has an unknown key '" ++ (like.now ++ codes "'"))))
