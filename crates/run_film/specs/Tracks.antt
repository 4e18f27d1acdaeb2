-- What the parts of a film show of a still, and beat by beat.
use Rattle.std.specs.Prelude.{ℕ, Bool, false, true, ◌+◌, ◌*◌, ◌==◌, ◌&&◌, ◌||◌, nat_lt, if◌then◌else◌, List, [], ◌∷◌, ◌++◌, Option, None, Some, codes, decimal, slice_index_or}
use Rattle.std.specs.List.{flat_map, list_any}
use Rattle.svg_drawing.specs.Drawn.{Given, Shown as Drawn, numbered, with_given}
use Rattle.topology.specs.Network.{are_joined}
use Rattle.svg_drawing.specs.Grouped.{Grouped}
use Rattle.run_recording.specs.run_model.declared.event.Event.{Event}
use Rattle.run_recording.specs.run_model.declared.event.Event.TheVariants.{Damage, Send, Take, Lose}
use Rattle.run_recording.specs.run_model.declared.event.Harm.{Harm}
use Rattle.run_recording.specs.run_model.declared.event.Harm.TheVariants as harm
use Rattle.run_recording.specs.declared.look.Look.{Look}
use Rattle.run_recording.specs.declared.look.Place.{Place}
use Rattle.run_recording.specs.declared.still.Still.{Still}
use Rattle.run_film.specs.declared.pace.FilmPace.{FilmPace}
use Rattle.run_film.specs.declared.track.Track.{Track}
use Rattle.run_film.specs.declared.track.Track.TheVariants.{Mark, Distance, Parent, Ticket, Strike, Damage as Damaged, Sweeps, Edge, Frame, Waiting}
use Rattle.run_film.specs.Beats.{Film, beats_of, last_of}

-- what a still shows of a node; nothing for an id that is no node's
abbrev pub nothing : Look
nothing = record { own = record { distance = 0; parent = None }; settled = true; privileged = false; lent = None }

abbrev pub look_in : Still → ℕ → Look
look_in still v = slice_index_or still.looks v nothing

abbrev pub lent_or : Option ℕ → List ℕ → List ℕ
lent_or (Some ticket) other = codes "#l"
lent_or None other = other

-- the symbol of a node that lends, that is privileged, that has its true place, or that does not have it
abbrev pub mark_code : Look → List ℕ
mark_code look = lent_or look.lent (if look.privileged then codes "#g" else if look.settled then codes "#p" else codes "#w")

-- at which node a harm is shown: at the one that it writes, or where what is on a link comes in
abbrev pub place_of : Harm → ℕ
place_of (harm.Own v d p) = v
place_of (harm.Counters v u seq last) = v
place_of (harm.Staged v u payload) = v
place_of (harm.Copy v u payload) = v
place_of (harm.Value v u x) = v
place_of (harm.Desk v lent left served) = v
place_of (harm.Item u v item) = v
place_of (harm.Empty u v) = v
place_of (harm.Join u v) = u
place_of (harm.Part u v) = u

-- damage at a node is the last event of a still
abbrev pub strikes_by : Option Event → Bool → ℕ → Bool
strikes_by (Some (Damage h)) damaged v = damaged && (place_of h == v)
strikes_by _ damaged v = false

abbrev pub strikes : Still → ℕ → Bool
strikes still v = strikes_by still.event still.damaged v

-- the symbol of a parent's arrow, or of none
abbrev pub parent_code : ℕ → Option ℕ → List ℕ
parent_code v (Some parent) = codes "#a" ++ (decimal v ++ (codes "-" ++ decimal parent))
parent_code v None = codes "#n"

-- the symbol of a ticket, or of none
abbrev pub ticket_code : Option ℕ → List ℕ
ticket_code (Some ticket) = codes "#t" ++ decimal ticket
ticket_code None = codes "#n"

-- the symbol of a pair of nodes
abbrev pub pair_code : List ℕ → ℕ → ℕ → List ℕ
pair_code name u v = name ++ (decimal u ++ (codes "-" ++ decimal v))

-- this parent is a given node
abbrev pub is_named : Option ℕ → ℕ → Bool
is_named None v = false
is_named (Some w) v = w == v

-- the true parent of a node in a still; none for an id that is no node's
abbrev pub nowhere : Place
nowhere = record { distance = 0; parent = None }

abbrev pub true_parent : Still → ℕ → Option ℕ
true_parent still v = (slice_index_or still.places v nowhere).parent

-- in a still one of two nodes is the other's true parent, so that the edge between them is one of the
-- true tree
abbrev pub is_strong : Still → ℕ → ℕ → Bool
is_strong still v w = is_named (true_parent still v) w || is_named (true_parent still w) v

-- the symbol of an edge, if it is there: a strong line if it is one of the true tree, else a thin one
abbrev pub edge_code : Bool → Bool → ℕ → ℕ → List ℕ
edge_code there strong v w = if there then pair_code (if strong then codes "#b" else codes "#e") v w else codes "#n"

-- the symbol of a frame that the event sends, takes or loses, or of none
abbrev pub frame_code : Option Event → List ℕ
frame_code (Some (Send u v)) = pair_code (codes "#o") u v
frame_code (Some (Take u v)) = pair_code (codes "#i") u v
frame_code (Some (Lose u v item)) = pair_code (codes "#x") u v
frame_code _ = codes "#n"

-- how many frames are under way from a node to another in a still of a small network
abbrev pub frames_between : Still → ℕ → ℕ → ℕ
frames_between still u v = slice_index_or still.under_way (12 * u + v) 0

-- an event sends a frame from a node to another
abbrev pub sends : Option Event → ℕ → ℕ → Bool
sends (Some (Send a b)) u v = (a == u) && (b == v)
sends _ u v = false

-- a frame waits on its way from a node to another: one is under way besides the one that the last event sends
abbrev pub is_waiting : Still → ℕ → ℕ → Bool
is_waiting still u v = nat_lt (if sends still.event u v then 1 else 0) (frames_between still u v)

-- a frame waits in some still of a film
abbrev pub waits_in : Film → ℕ → ℕ → Bool
waits_in film u v = is_waiting film.opening u v || list_any (λ still. is_waiting still u v) film.later

-- the symbol of a frame that waits, or of none
abbrev pub waiting_code : Bool → ℕ → ℕ → List ℕ
waiting_code waits u v = if waits then pair_code (codes "#m") u v else codes "#n"

-- the symbol that a part of the film shows of a still
abbrev pub value_of : Track → Still → List ℕ
value_of (Mark v) still = mark_code (look_in still v)
value_of (Distance v) still = codes "#d" ++ decimal (look_in still v).own.distance
value_of (Parent v) still = parent_code v (look_in still v).own.parent
value_of (Ticket v) still = ticket_code (look_in still v).lent
value_of (Strike v) still = if strikes still v then codes "#z" else codes "#n"
value_of Damaged still = if still.damaged then codes "#y" else codes "#n"
value_of Sweeps still = codes "#s" ++ decimal still.sweeps
value_of (Edge v w) still = edge_code (are_joined still.edges v w) (is_strong still v w) v w
value_of Frame still = frame_code still.event
value_of (Waiting u v) still = waiting_code (is_waiting still u v) u v

-- the symbols for stills, each after a semicolon
abbrev pub more_values : Track → List Still → List ℕ
more_values track stills = flat_map (λ still. codes ";" ++ value_of track still) stills

-- the symbols for stills, with semicolons between them
abbrev pub values_of : Track → List Still → List ℕ
values_of track [] = []
values_of track (still ∷ stills) = value_of track still ++ more_values track stills

-- for how many thousandths of a second a film plays: its seconds, and three in which it holds the end
abbrev pub milliseconds : FilmPace → ℕ
milliseconds pace = pace.seconds * 1000 + 3000

abbrev pub given : List ℕ → List ℕ → Given
given name value = record { name = name; value = value }

-- an animation that lasts as long as the film, again and again
abbrev pub repeated_shown : Drawn → FilmPace → Drawn
repeated_shown play pace =
    with_given (with_given play (given (codes "dur") (decimal (milliseconds pace) ++ codes "ms"))) (given (codes "repeatCount") (codes "indefinite"))

-- A part of a film: the symbol for the last still, at a place; and an animation that shows, beat by beat, the
-- symbol for the beat's still.
abbrev pub track_shown : Track → Film → ℕ → ℕ → Grouped
track_shown track film x y = record {
  element = record {
    name = codes "use";
    attributes = given (codes "href") (value_of track (last_of film)) ∷ numbered (codes "x") x ∷ numbered (codes "y") y ∷ [];
    text = [];
  };
  inside = repeated_shown (record {
    name = codes "animate";
    attributes = given (codes "attributeName") (codes "href") ∷ given (codes "calcMode") (codes "discrete")
        ∷ given (codes "values") (values_of track (beats_of film)) ∷ [];
    text = [];
  }) film.pace ∷ [];
}
