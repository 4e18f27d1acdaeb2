-- Small examples of films, by computation, and some that look like them and are none.
use Rattle.std.proofs.Common.{◌≡◌, ℕ, true, false, List, [], ◌∷◌, length, Option, None, Some, codes, decimal, ◌++◌, refl, arith}
use Rattle.run_recording.specs.run_model.declared.event.Event.{Event}
use Rattle.run_recording.specs.run_model.declared.event.Event.TheVariants.{Damage, Lose, Send, Take, Tick}
use Rattle.run_recording.specs.run_model.declared.event.Harm.TheVariants as harm
use Rattle.run_recording.specs.declared.look.Look.{Look}
use Rattle.run_recording.specs.declared.still.Still.{Still}
use Rattle.run_film.specs.declared.track.Track.TheVariants.{Mark, Distance, Parent, Ticket, Strike, Edge, Frame, Waiting}
use Rattle.run_film.specs.Beats.{Film, beats_at, beats_of, joins_in, last_of}
use Rattle.run_film.specs.Tracks.{mark_code, value_of, values_of, waits_in}
use Rattle.svg_drawing.specs.Grouped.{Grouped}
use Rattle.run_film.specs.Films.{IsPlayed}
use Rattle.run_film.specs.Places.{IsWayFrom}
use Rattle.run_film.specs.Symbols.{IsDefined}

-- a node that is wrong, one that is privileged, and one that lends to ticket 7
abbrev pub wrong : Look
wrong = record { own = record { distance = 3; parent = Some 1 }; settled = false; privileged = false; lent = None }

abbrev pub privileged : Look
privileged = record { own = record { distance = 0; parent = None }; settled = true; privileged = true; lent = None }

abbrev lending : Look
lending = record { own = record { distance = 0; parent = None }; settled = false; privileged = true; lent = Some 7 }

abbrev pub still_of : Look → Still
still_of look = record { looks = look ∷ []; places = []; edges = (0, 1) ∷ (0, 0) ∷ []; under_way = []; events = 0; event = None; sweeps = 0; damaged = false; privileged = 0; lending = 0 }

-- three stills in ten beats: four for the first one and three for each other, besides those that hold
-- the first and the last
abbrev pub three : Film
three = record { opening = still_of wrong; later = still_of privileged ∷ still_of lending ∷ []; pace = record { beats = 10; closing = 30; seconds = 2 } }

beats-first : beats_at three 0 ≡ 14
beats-first = refl

beats-second : beats_at three 1 ≡ 3
beats-second = refl

beats-last : beats_at three 2 ≡ 33
beats-last = refl

beats-all : length (beats_of three) ≡ 50
beats-all = refl

last-lends : last_of three ≡ still_of lending
last-lends = refl

-- ---- what is shown of a still

mark-wrong : mark_code wrong ≡ codes "#w"
mark-wrong = refl

-- lending shows over privileged, and that over wrong
mark-lending : mark_code lending ≡ codes "#l"
mark-lending = refl

value-distance : value_of (Distance 0) (still_of wrong) ≡ codes "#d" ++ decimal 3
value-distance = refl

value-parent : value_of (Parent 0) (still_of wrong) ≡ codes "#a" ++ (decimal 0 ++ (codes "-" ++ decimal 1))
value-parent = refl

value-no_parent : value_of (Parent 0) (still_of privileged) ≡ codes "#n"
value-no_parent = refl

value-ticket : value_of (Ticket 0) (still_of lending) ≡ codes "#t" ++ decimal 7
value-ticket = refl

-- damage strikes the node that it writes, and no other
abbrev struck : Still
struck = record (still_of wrong) { event = Some (Damage (harm.Own 2 0 None)); damaged = true }

strike-there : value_of (Strike 2) struck ≡ codes "#z"
strike-there = refl

strike-elsewhere : value_of (Strike 0) struck ≡ codes "#n"
strike-elsewhere = refl

values-two : values_of (Mark 0) (still_of wrong ∷ still_of wrong ∷ still_of privileged ∷ []) ≡ codes "#w;#w;#g"
values-two = refl

-- the edge 0-1 is there, and the places without an edge are none
value-edge : value_of (Edge 0 1) (still_of wrong) ≡ codes "#e" ++ (decimal 0 ++ (codes "-" ++ decimal 1))
value-edge = refl

-- it is strong if one of its ends is the other's true parent, and else thin
value-strong : value_of (Edge 0 1) (record (still_of wrong) { places = record { distance = 0; parent = None } ∷ record { distance = 1; parent = Some 0 } ∷ [] }) ≡ codes "#b" ++ (decimal 0 ++ (codes "-" ++ decimal 1))
value-strong = refl

value-thin : value_of (Edge 0 1) (record (still_of wrong) { places = record { distance = 0; parent = None } ∷ record { distance = 1; parent = Some 2 } ∷ [] }) ≡ codes "#e" ++ (decimal 0 ++ (codes "-" ++ decimal 1))
value-thin = refl

value-no_edge : value_of (Edge 0 2) (still_of wrong) ≡ codes "#n"
value-no_edge = refl

joins-some : joins_in three 1 0 ≡ true
joins-some = refl

joins-none : joins_in three 1 2 ≡ false
joins-none = refl

-- a frame is sent, taken, and lost; a tick does nothing with a frame
value-sent : value_of Frame (record (still_of wrong) { event = Some (Send 0 1) }) ≡ codes "#o" ++ (decimal 0 ++ (codes "-" ++ decimal 1))
value-sent = refl

value-taken : value_of Frame (record (still_of wrong) { event = Some (Take 1 0) }) ≡ codes "#i" ++ (decimal 1 ++ (codes "-" ++ decimal 0))
value-taken = refl

value-lost : value_of Frame (record (still_of wrong) { event = Some (Lose 1 0 2) }) ≡ codes "#x" ++ (decimal 1 ++ (codes "-" ++ decimal 0))
value-lost = refl

value-no_frame : value_of Frame (record (still_of wrong) { event = Some (Tick 1) }) ≡ codes "#n"
value-no_frame = refl

-- a frame is under way from 0 to 1
abbrev on_way : Option Event → Still
on_way event = record (still_of wrong) { under_way = 0 ∷ 1 ∷ []; event = event }

value-waiting : value_of (Waiting 0 1) (on_way (Some (Tick 1))) ≡ codes "#m" ++ (decimal 0 ++ (codes "-" ++ decimal 1))
value-waiting = refl

-- one that was sent just now travels, and does not wait
value_not-sent : value_of (Waiting 0 1) (on_way (Some (Send 0 1))) ≡ codes "#n"
value_not-sent = refl

-- of two, the other waits
value-second : value_of (Waiting 0 1) (record (on_way (Some (Send 0 1))) { under_way = 0 ∷ 2 ∷ [] }) ≡ codes "#m" ++ (decimal 0 ++ (codes "-" ++ decimal 1))
value-second = refl

value_not-back : value_of (Waiting 1 0) (on_way None) ≡ codes "#n"
value_not-back = refl

waits-some : waits_in (record three { later = on_way None ∷ [] }) 0 1 ≡ true
waits-some = refl

waits_not-sent : waits_in (record three { later = on_way (Some (Send 0 1)) ∷ [] }) 0 1 ≡ false
waits_not-sent = refl

-- ---- lines and symbols

way_not-elsewhere : ¬ IsWayFrom (record { x = record { 0 = 1 }; y = record { 0 = 2 } }) (codes "L1 2")
way_not-elsewhere (rest, is) = grind (arith, is)

pub defined_not-empty : ¬ IsDefined [] (codes "p")
defined_not-empty (inside, [], after, are) = grind (arith, are)
defined_not-empty (inside, g ∷ before, after, are) = grind (arith, are)

-- nothing is played in an empty film
pub played_not-empty : (part : ℕ → ℕ → Grouped) → ¬ IsPlayed [] part
played_not-empty part (x, y, [], after, are) = grind (arith, are)
played_not-empty part (x, y, g ∷ before, after, are) = grind (arith, are)
