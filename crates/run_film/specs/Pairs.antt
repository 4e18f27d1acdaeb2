-- What a film has for each pair of nodes.
use Rattle.std.specs.Prelude.{ℕ, ◌<◌, Bool, true, ◌&&◌, nat_lt, IsTrue, List, codes}
use Rattle.topology.specs.Network.{Network}
use Rattle.svg_drawing.specs.Grouped.{Grouped}
use Rattle.run_film.specs.declared.pairs.Paired.{Paired}
use Rattle.run_film.specs.declared.pairs.Paired.TheVariants as paired
use Rattle.run_film.specs.declared.track.Track.TheVariants as track
use Rattle.run_film.specs.Beats.{Film, joins_in}
use Rattle.run_film.specs.Films.{IsPlayed}
use Rattle.run_film.specs.Symbols.{parents_in, HasEdge, HasFrame, IsDefined}
use Rattle.run_film.specs.Tracks.{pair_code, track_shown, waits_in}

-- two nodes have this in some still; an edge is looked for from its end with the greater id
abbrev pub is_seen : Paired → Film → ℕ → ℕ → Bool
is_seen paired.Edge film v w = nat_lt w v && joins_in film w v
is_seen paired.Lines film v w = nat_lt w v && joins_in film w v
is_seen paired.Arrow film v w = parents_in film v w
is_seen paired.Frames film v w = true
is_seen paired.Waiting film v w = waits_in film v w

-- groups show this for two nodes
abbrev pub ShowsPaired : Paired → List Grouped → Film → ℕ → ℕ → Type 0
ShowsPaired paired.Edge groups film v w = IsPlayed groups (track_shown (track.Edge w v) film)
ShowsPaired paired.Lines groups film v w = HasEdge groups w v
ShowsPaired paired.Arrow groups film v w = IsDefined groups (pair_code (codes "a") v w)
ShowsPaired paired.Frames groups film v w = HasFrame groups film v w
ShowsPaired paired.Waiting groups film v w = IsPlayed groups (track_shown (track.Waiting v w) film)

-- groups show this for each pair of nodes of a network that has it in some still
abbrev pub ShowsPairs : Paired → List Grouped → Film → Network → Type 0
ShowsPairs kind groups film net =
    (v : ℕ) → v < net.nodes → (w : ℕ) → w < net.nodes → IsTrue (is_seen kind film v w) → ShowsPaired kind groups film v w
