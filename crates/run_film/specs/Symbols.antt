-- Which symbols a film defines: those of the marks, distances, arrows, edges and frames that its
-- parts show. Nothing is said of the symbols of tickets and of sweeps.
use Rattle.std.specs.Prelude.{◌≡◌, ℕ, ◌<◌, ◌≤◌, Bool, ◌||◌, ◌&&◌, ◌==◌, nat_le, false, IsTrue, List, [], ◌∷◌, ◌++◌, Option, None, Some, codes, decimal}
use Rattle.std.specs.List.{list_any}
use Rattle.topology.specs.Network.{Network}
use Rattle.svg_drawing.specs.Drawn.{Shown as Drawn}
use Rattle.svg_drawing.specs.Grouped.{Grouped}
use Rattle.run_recording.specs.declared.still.Still.{Still}
use Rattle.run_recording.specs.run_model.declared.event.Event.{Event}
use Rattle.run_recording.specs.run_model.declared.event.Event.TheVariants.{Send, Take, Lose}
use Rattle.run_film.specs.declared.frames.FrameDeed.{FrameDeed}
use Rattle.run_film.specs.declared.frames.FrameDeed.TheVariants.{Sent, Taken, Lost}
use Rattle.run_film.specs.Beats.{Film, joins_in}
use Rattle.run_film.specs.Shapes.{symbol_shown}
use Rattle.run_film.specs.Tracks.{is_named, look_in, pair_code, waits_in}

-- a symbol of this name is among groups
abbrev pub IsDefined : List Grouped → List ℕ → Type 0
IsDefined groups name =
    (inside : List Drawn) × (before after : List Grouped)
    × (groups ≡ before ++ (record { element = symbol_shown name; inside = inside } ∷ after))

-- a node has another as its parent in a still
abbrev pub has_parent : Still → ℕ → ℕ → Bool
has_parent still v parent = is_named (look_in still v).own.parent parent

-- a node has another as its parent in some still of a film
abbrev pub parents_in : Film → ℕ → ℕ → Bool
parents_in film v parent = has_parent film.opening v parent || list_any (λ still. has_parent still v parent) film.later

-- the symbols of the four ways in which a node stands, of what strikes it, of damage, and of nothing
pub record HasMarks (groups : List Grouped) : Type 0 where
  pub settled : IsDefined groups (codes "p")
  pub wrong : IsDefined groups (codes "w")
  pub privileged : IsDefined groups (codes "g")
  pub lending : IsDefined groups (codes "l")
  pub nothing : IsDefined groups (codes "n")
  pub strike : IsDefined groups (codes "z")
  pub damage : IsDefined groups (codes "y")

-- the symbols of the distances, up to the number of nodes
abbrev pub HasDistances : List Grouped → Network → Type 0
HasDistances groups net = (d : ℕ) → d ≤ net.nodes → IsDefined groups (codes "d" ++ decimal d)

-- the symbols of the arrows to each parent that a node has in some still
abbrev pub HasArrows : List Grouped → Film → Network → Type 0
HasArrows groups film net =
    (v : ℕ) → v < net.nodes → (w : ℕ) → w < net.nodes → IsTrue (parents_in film v w) → IsDefined groups (pair_code (codes "a") v w)

-- the symbols of an edge, thin and strong
pub record HasEdge (groups : List Grouped) (v w : ℕ) : Type 0 where
  pub thin : IsDefined groups (pair_code (codes "e") v w)
  pub strong : IsDefined groups (pair_code (codes "b") v w)

-- the symbols of the edges that some still has
abbrev pub HasEdges : List Grouped → Film → Network → Type 0
HasEdges groups film net =
    (w : ℕ) → w < net.nodes → (v : ℕ) → v < w → IsTrue (joins_in film v w) → HasEdge groups v w

-- a network is small enough that its frames are shown
abbrev pub is_framed : Network → Bool
is_framed net = nat_le net.nodes 12

-- an event does this with a frame from a node to another
abbrev pub is_done : FrameDeed → Option Event → ℕ → ℕ → Bool
is_done Sent (Some (Send a b)) u v = (a == u) && (b == v)
is_done Taken (Some (Take a b)) u v = (a == u) && (b == v)
is_done Lost (Some (Lose a b item)) u v = (a == u) && (b == v)
is_done _ _ u v = false

-- the last event of some still does this
abbrev pub done_in : Film → FrameDeed → ℕ → ℕ → Bool
done_in film deed u v = is_done deed film.opening.event u v || list_any (λ still. is_done deed still.event u v) film.later

-- how the name of the symbol of such a deed begins
abbrev pub deed_code : FrameDeed → List ℕ
deed_code Sent = codes "o"
deed_code Taken = codes "i"
deed_code Lost = codes "x"

-- the symbols of frames from a node to another: of what the last events of stills do with them, and of one that
-- waits in some still
pub record HasFrame (groups : List Grouped) (film : Film) (u v : ℕ) : Type 0 where
  pub deeds : (deed : FrameDeed) → IsTrue (done_in film deed u v) → IsDefined groups (pair_code (deed_code deed) u v)
  pub waiting : IsTrue (waits_in film u v) → IsDefined groups (pair_code (codes "m") u v)

abbrev pub HasFrames : List Grouped → Film → Network → Type 0
HasFrames groups film net = (u : ℕ) → u < net.nodes → (v : ℕ) → v < net.nodes → HasFrame groups film u v

pub record HasSymbols (groups : List Grouped) (film : Film) (net : Network) : Type 0 where
  pub marks : HasMarks groups
  pub distances : HasDistances groups net
  pub arrows : HasArrows groups film net
  pub edges : HasEdges groups film net
  pub frames : IsTrue (is_framed net) → HasFrames groups film net
