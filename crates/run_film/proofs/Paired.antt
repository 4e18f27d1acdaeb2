-- What groups show for two nodes stays shown, and what they show for all is what a film needs.
use Rattle.std.proofs.Common.{ℕ, ◌<◌, nat_lt, ◌&&◌, IsTrue, List, arith}
use Rattle.std.proofs.lemmas.Grind.{common_steps}
use Rattle.topology.specs.Network.{Network}
use Rattle.svg_drawing.specs.Grouped.{Grouped}
use Rattle.run_film.specs.declared.pairs.Paired.{Paired}
use Rattle.run_film.specs.declared.pairs.Paired.TheVariants.{Edge, Lines, Arrow, Frames, Waiting}
use Rattle.run_film.specs.Beats.{Film, joins_in}
use Rattle.run_film.specs.Films.{Keeps, ShowsEdges}
use Rattle.run_film.specs.Pairs.{ShowsPaired, ShowsPairs}
use Rattle.run_film.specs.Symbols.{HasEdges}
use Rattle.run_film.proofs.Films.{defined_kept, edge_kept, frame_kept, played_kept}

pub paired_kept : (kind : Paired) (old new : List Grouped) (film : Film) (v w : ℕ) → Keeps old new → ShowsPaired kind old film v w → ShowsPaired kind new film v w
paired_kept Edge old new film v w keeps shows = played_kept old new _ keeps shows
paired_kept Lines old new film v w keeps shows = edge_kept old new w v keeps shows
paired_kept Arrow old new film v w keeps shows = defined_kept old new _ keeps shows
paired_kept Frames old new film v w keeps shows = frame_kept old new film v w keeps shows
paired_kept Waiting old new film v w keeps shows = played_kept old new _ keeps shows

-- ---- an edge is seen from its end with the greater id

seen_edge : (film : Film) (v w : ℕ) → v < w → IsTrue (joins_in film v w) → IsTrue (nat_lt v w && joins_in film v w)
seen_edge film v w less there = grind (arith, common_steps)

pub edges_shown : (groups : List Grouped) (film : Film) (net : Network) → ShowsPairs Edge groups film net → ShowsEdges groups film net
edges_shown groups film net pairs w within v less there = pairs w within v (omega (arith, within, less)) (seen_edge film v w less there)

pub edges_defined : (groups : List Grouped) (film : Film) (net : Network) → ShowsPairs Lines groups film net → HasEdges groups film net
edges_defined groups film net pairs w within v less there = pairs w within v (omega (arith, within, less)) (seen_edge film v w less there)
