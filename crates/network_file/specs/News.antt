-- What a node finds in its network file, and whether it says so.
use Rattle.std.specs.Prelude.{ℕ, Bool, true, false, not, ◌||◌, ◌==◌, if◌then◌else◌, Result, Ok, Err}
use Rattle.std.specs.List.{list_any}
use Rattle.topology.specs.Network.{Network, are_joined}
use Rattle.topology.specs.Change.{is_same_frame}
use Rattle.network_file.specs.declared.fault.NetworkFault.{NetworkFault}
use Rattle.network_file.specs.declared.news.Found.{Found}
use Rattle.network_file.specs.declared.news.Found.TheVariants.{Same, OtherEdges, Other, Refused}
use Rattle.network_file.specs.declared.news.FileNews.{FileNews}
use Rattle.network_file.specs.Reasons.{reason}

-- the second network has an edge that the first does not have
abbrev pub has_new : Network → Network → Bool
has_new first second = list_any (λ edge. not (are_joined first.edges edge.0 edge.1)) second.edges

-- what a node that has this network finds in a file
abbrev pub found_in : Network → Result Network NetworkFault → Found
found_in own (Err fault) = Refused fault
found_in own (Ok net) =
    if is_same_frame own net
    then (if has_new own net || has_new net own then OtherEdges else Same)
    else Other

-- there was no reason against the file when it was last read
abbrev pub new_news : FileNews
new_news = record { refused = 0 }

-- a node remembers why the file was not taken up
abbrev pub news_then : Found → FileNews
news_then found = record { refused = reason found }

-- a change of edges is reported; so is why a file is not taken up, unless the reason was the same
-- before
abbrev pub is_said : Found → ℕ → Bool
is_said Same before = false
is_said OtherEdges before = true
is_said found before = not (reason found == before)
