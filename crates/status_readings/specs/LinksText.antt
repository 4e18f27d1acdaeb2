-- What `status --links` prints.
use Rattle.std.specs.Prelude.{ℕ, Bool, true, false, List, [], ◌∷◌, ◌++◌, Option, None, Some, codes, decimal}
use Rattle.std.specs.Option.{option_map}
use Rattle.status_readings.specs.SecondsText.{seconds_text}
use Rattle.status_readings.specs.declared.looks.LinkSaid.{LinkSaid}
use Rattle.status_readings.specs.declared.looks.LinksSaid.{LinksSaid}

abbrev pub up_text : Bool → List ℕ
up_text true = codes "up"
up_text false = codes "down"

-- the line of a node's link
abbrev pub link_line : ℕ → LinkSaid → List ℕ
link_line node link =
    codes "node " ++ (decimal node ++ (codes " link " ++ (decimal link.node
    ++ (codes " " ++ (up_text link.is_up ++ (codes " for " ++ (seconds_text link.since
    ++ (codes " s breaks " ++ (decimal link.breaks ++ codes "\n")))))))))

-- the lines of all its links
abbrev pub link_lines : ℕ → List LinkSaid → List ℕ
link_lines node [] = []
link_lines node (link ∷ links) = link_line node link ++ link_lines node links

-- the same lines, or that the node gave no answer
abbrev pub links_or_none : ℕ → Option (List LinkSaid) → List ℕ
links_or_none node None = codes "node " ++ (decimal node ++ codes " no answer\n")
links_or_none node (Some links) = link_lines node links

abbrev pub links_lines : LinksSaid → List ℕ
links_lines said = links_or_none said.node (option_map (λ links. links.items) said.links)

-- the lines of all nodes
abbrev pub links_text : List LinksSaid → List ℕ
links_text [] = []
links_text (said ∷ all) = links_lines said ++ links_text all
