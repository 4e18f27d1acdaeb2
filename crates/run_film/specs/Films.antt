-- What a film shows of a run.
use Rattle.std.specs.Prelude.{◌≡◌, ◌<◌, ℕ, Bool, IsTrue, List, [], ◌∷◌, ◌++◌, map}
use Rattle.topology.specs.Network.{Network}
use Rattle.svg_drawing.specs.declared.element.Group.{Group}
use Rattle.svg_drawing.specs.Grouped.{Grouped, grouped_of}
use Rattle.run_film.specs.declared.track.Track.TheVariants.{Mark, Distance, Parent, Ticket, Strike, Damage, Sweeps, Edge, Frame, Waiting}
use Rattle.run_film.specs.Beats.{Film, joins_in}
use Rattle.run_film.specs.Symbols.{is_framed, HasSymbols}
use Rattle.run_film.specs.Tracks.{track_shown, waits_in}

-- a part of a film is in a list of groups; nothing is said of its place on the page
abbrev pub IsPlayed : List Grouped → (ℕ → ℕ → Grouped) → Type 0
IsPlayed groups part = (x y : ℕ) × (before after : List Grouped) × (groups ≡ before ++ (part x y ∷ after))

-- The film shows a node: how it stands, the distance and the parent that it has, the ticket that it lends to,
-- and what strikes it, each beat by beat.
pub record ShowsNode (groups : List Grouped) (film : Film) (v : ℕ) : Type 0 where
  pub mark : IsPlayed groups (track_shown (Mark v) film)
  pub distance : IsPlayed groups (track_shown (Distance v) film)
  pub parent : IsPlayed groups (track_shown (Parent v) film)
  pub ticket : IsPlayed groups (track_shown (Ticket v) film)
  pub strike : IsPlayed groups (track_shown (Strike v) film)

-- it shows all nodes of a network
abbrev pub ShowsNodes : List Grouped → Film → Network → Type 0
ShowsNodes groups film net = (v : ℕ) → v < net.nodes → ShowsNode groups film v

-- it shows each edge between two nodes that some still has, as long as it is there
abbrev pub ShowsEdges : List Grouped → Film → Network → Type 0
ShowsEdges groups film net =
    (w : ℕ) → w < net.nodes → (v : ℕ) → v < w → IsTrue (joins_in film v w) → IsPlayed groups (track_shown (Edge v w) film)

-- it shows what the last event of each still does with a frame, and the frames that wait between two nodes in
-- some still
pub record ShowsFrames (groups : List Grouped) (film : Film) (net : Network) : Type 0 where
  pub last : IsPlayed groups (track_shown Frame film)
  pub waiting : (u : ℕ) → u < net.nodes → (v : ℕ) → v < net.nodes → IsTrue (waits_in film u v) → IsPlayed groups (track_shown (Waiting u v) film)

-- The film shows a network: all its nodes, its edges, its frames if it is small, the sweeps, and
-- whether there was damage.
pub record ShowsParts (groups : List Grouped) (film : Film) (net : Network) : Type 0 where
  pub nodes : ShowsNodes groups film net
  pub edges : ShowsEdges groups film net
  pub frames : IsTrue (is_framed net) → ShowsFrames groups film net
  pub sweeps : IsPlayed groups (track_shown Sweeps film)
  pub damage : IsPlayed groups (track_shown Damage film)

-- it shows all these parts, and the symbols of its nodes, its edges, its arrows and its frames are there
pub record ShowsFilm (groups : List Grouped) (film : Film) (net : Network) : Type 0 where
  pub parts : ShowsParts groups film net
  pub symbols : HasSymbols groups film net

-- ---- what the steps add

-- what groups of the code show
abbrev pub drawn : List Group → List Grouped
drawn groups = map grouped_of groups

-- all groups that were there stay, and any others come after them
abbrev pub Keeps : List Grouped → List Grouped → Type 0
Keeps old new = (added : List Grouped) × (new ≡ old ++ added)

-- groups are added after others: those of a node, except the arrow to its parent
pub record AddsNode (old new : List Grouped) (film : Film) (v : ℕ) : Type 0 where
  pub x : ℕ
  pub y : ℕ
  pub across : ℕ
  pub down : ℕ
  pub name : Grouped
  pub are : new ≡ old ++ (track_shown (Mark v) film x y ∷ track_shown (Distance v) film x y
      ∷ track_shown (Ticket v) film across down ∷ track_shown (Strike v) film x y ∷ name ∷ [])
