-- Small examples of what films and pages show, and some that look like them and are none.
use Rattle.std.proofs.Common.{◌≡◌, sym, refl, ℕ, zero, suc, ◌+◌, ◌*◌, ◌≤◌, ◌<◌, IsTrue, true, false, List, [], ◌∷◌, ◌++◌, length, take, drop, Option, None, Some, codes, decimal, inl, inr, arith}
use Rattle.std.proofs.lemmas.Grind.{common_steps}
use Rattle.topology.specs.Network.{Network}
use Rattle.topology.specs.Tree.{distance_of}
use Rattle.svg_drawing.specs.Drawn.{note_shown}
use Rattle.svg_drawing.specs.Grouped.{Grouped}
use Rattle.svg_drawing.specs.declared.canvas.Point.{Point}
use Rattle.run_recording.specs.run_model.declared.event.Event.{Event}
use Rattle.run_recording.specs.run_model.declared.event.Event.TheVariants.{Send}
use Rattle.run_recording.specs.declared.window.Window.{Window}
use Rattle.run_recording.specs.declared.still.Still.{Still}
use Rattle.run_recording.specs.Reels.{ReelView, Shows}
use Rattle.run_recording.specs.Filmed.{AreFilmed}
use Rattle.run_recording.specs.Filmed.AreFilmed.{Start, Next}
use Rattle.run_recording.specs.SimulatedText.{simulated_start}
use Rattle.run_film.specs.declared.frames.FrameDeed.{FrameDeed}
use Rattle.run_film.specs.declared.frames.FrameDeed.TheVariants.{Sent, Taken, Lost}
use Rattle.run_film.specs.declared.head.FilmHead.{FilmHead}
use Rattle.run_film.specs.declared.pace.FilmPace.{FilmPace}
use Rattle.run_film.specs.declared.stage.Stage.{Stage}
use Rattle.run_film.specs.declared.track.Track.TheVariants.{Mark}
use Rattle.run_film.specs.Beats.{Film}
use Rattle.run_film.specs.Curves.{IsCounted}
use Rattle.run_film.specs.Films.{IsPlayed, ShowsParts}
use Rattle.run_film.specs.FilmTexts.{IsEachShown, IsFilm, IsPage, IsReelOf}
use Rattle.run_film.specs.Heads.{stills_text, title_text, said_text, IsHeaded}
use Rattle.run_film.specs.Pages.{counts_said, event_said, steps_shown, HoldsSteps, IsPageHead}
use Rattle.run_film.specs.Places.{is_clear_of, past_middle, place_in, IsBelow, IsBetween, IsStage, IsWay, IsWayFrom, IsWayFromMiddle}
use Rattle.run_film.specs.Shapes.{symbol_shown}
use Rattle.run_film.specs.Symbols.{done_in, is_done, parents_in, HasSymbols, IsDefined}
use Rattle.run_film.specs.Tracks.{track_shown, waits_in}
use Rattle.run_film.specs.Words.{alone}
use Rattle.run_film.proofs.RowsFilms.{wrong, privileged, still_of, three, defined_not-empty, played_not-empty}

-- ---- lists that are not empty

some_not-none : {X : Type 0} (x : X) (xs : List X) → ¬ (x ∷ xs ≡ [])
some_not-none x xs are = grind (arith, are)

ended_not-none : {X : Type 0} (xs : List X) (x : X) → ¬ (xs ++ x ∷ [] ≡ [])
ended_not-none [] x are = some_not-none _ _ are
ended_not-none (y ∷ xs) x are = some_not-none _ _ are

-- ---- where nodes stand

abbrev two_nodes : Network
two_nodes = record { nodes = 2; root = 0; capacity = 1; lease = 0; edges = (0, 1) ∷ [] }

abbrev at : ℕ → ℕ → Point
at x y = record { x = record { 0 = x }; y = record { 0 = y } }

abbrev stage_of : List Point → Stage
stage_of places = record { places = places; width = record { 0 = 720 }; floor = record { 0 = 272 }; stride = record { 0 = 132 } }

heights_two : (v : ℕ) → v < 2 → (place_in (stage_of (at 360 136 ∷ at 360 232 ∷ [])) v).y.0 ≡ 136 + 96 * distance_of two_nodes v
heights_two zero below = refl
heights_two (suc zero) below = refl
heights_two (suc (suc v)) below = absurd (omega (arith, below))

low_two : (v : ℕ) → v < 2 → (place_in (stage_of (at 360 136 ∷ at 360 232 ∷ [])) v).y.0 < 10000000
low_two zero below = omega arith
low_two (suc zero) below = omega arith
low_two (suc (suc v)) below = absurd (omega (arith, below))

-- a node at the distance 1 stands one row below the root
stage-below : IsStage two_nodes (stage_of (at 360 136 ∷ at 360 232 ∷ []))
stage-below = record { rise = 96; some = omega arith; heights = heights_two; few = low_two }

-- and not beside it
stage_not-beside : ¬ IsStage two_nodes (stage_of (at 300 136 ∷ at 420 136 ∷ []))
stage_not-beside stands =
    let level : 136 ≡ 136 + stands.rise * 1 = stands.heights 1 (omega arith) in
    let least = stands.some in
    omega (arith, level, least)

way-straight : IsWay (at 1 2) (at 3 4) (codes "M" ++ (decimal 1 ++ (codes " " ++ (decimal 2 ++ (codes "L" ++ (decimal 3 ++ (codes " " ++ decimal 4)))))))
way-straight = (codes "L", refl)

way-begins : IsWayFrom (at 1 2) (codes "M" ++ (decimal 1 ++ (codes " " ++ (decimal 2 ++ codes "L3 4"))))
way-begins = (codes "L3 4", refl)

way-middle : IsWayFromMiddle (at 1 2) (at 3 4) (codes "M" ++ (decimal 2 ++ (codes " " ++ (decimal 5 ++ codes "L3 4"))))
way-middle = (at 2 5, refl, (codes "L3 4", refl))

-- a straight line is a quarter of its way across, a bent one at its corner, and none is farther
between-straight : IsBetween 100 200 125
between-straight = inl refl

between-bent : IsBetween 200 100 176
between-bent = inr refl

between_not-middle : ¬ IsBetween 100 200 150
between_not-middle (inl is) = grind (arith, is)
between_not-middle (inr is) = grind (arith, is)

-- from 100 to 260, and back
past-there : past_middle 100 260 ≡ 200
past-there = refl

past-back : past_middle 260 100 ≡ 160
past-back = refl

-- ---- words beside nodes

-- words 70 wide beside a node, and under it
clear-beside : is_clear_of (at 100 136) (at 160 143) 35 ≡ true
clear-beside = refl

clear-under : is_clear_of (at 100 136) (at 100 172) 35 ≡ true
clear-under = refl

-- not over its sign
clear_not-over : is_clear_of (at 100 136) (at 150 143) 35 ≡ false
clear_not-over = refl

below-one : IsBelow 136 172
below-one = inl refl

below_not-beside : ¬ IsBelow 136 143
below_not-beside (inl is) = grind (arith, is)
below_not-beside (inr is) = grind (arith, is)

-- ---- symbols

abbrev one_node : Network
one_node = record { nodes = 1; root = 0; capacity = 1; lease = 0; edges = [] }

-- a film of the root alone, which has no parent
abbrev root_film : Film
root_film = record { opening = still_of privileged; later = []; pace = record { beats = 10; closing = 30; seconds = 2 } }

abbrev symbol : List ℕ → Grouped
symbol name = record { element = symbol_shown name; inside = [] }

abbrev symbols : List Grouped
symbols = symbol (codes "p") ∷ symbol (codes "w") ∷ symbol (codes "g") ∷ symbol (codes "l") ∷ symbol (codes "n") ∷ symbol (codes "z") ∷ symbol (codes "y")
    ∷ symbol (codes "d" ++ decimal 0) ∷ symbol (codes "d" ++ decimal 1) ∷ []

distances_two : (d : ℕ) → d ≤ 1 → IsDefined symbols (codes "d" ++ decimal d)
distances_two zero most = ([], take 7 symbols, drop 8 symbols, refl)
distances_two (suc zero) most = ([], take 8 symbols, [], refl)
distances_two (suc (suc d)) most = absurd (omega (arith, most))

no_arrows : (v : ℕ) → v < 1 → (w : ℕ) → w < 1 → ¬ IsTrue (parents_in root_film v w)
no_arrows zero within w below there = grind (arith, there)
no_arrows (suc v) within w below there = omega (arith, within)

no_frames : (deed : FrameDeed) (u v : ℕ) → ¬ IsTrue (done_in root_film deed u v)
no_frames Sent u v there = grind (arith, there)
no_frames Taken u v there = grind (arith, there)
no_frames Lost u v there = grind (arith, there)

none_waits : (u v : ℕ) → ¬ IsTrue (waits_in root_film u v)
none_waits u v there = grind (arith, there)

done-sent : is_done Sent (Some (Send 0 1)) 0 1 ≡ true
done-sent = refl

done_not-taken : is_done Taken (Some (Send 0 1)) 0 1 ≡ false
done_not-taken = refl

done_not-back : is_done Sent (Some (Send 0 1)) 1 0 ≡ false
done_not-back = refl

-- a film of the root needs no arrow, no edge and no frame
symbols-root : HasSymbols symbols root_film one_node
symbols-root = record {
  marks = record {
    settled = ([], take 0 symbols, drop 1 symbols, refl);
    wrong = ([], take 1 symbols, drop 2 symbols, refl);
    privileged = ([], take 2 symbols, drop 3 symbols, refl);
    lending = ([], take 3 symbols, drop 4 symbols, refl);
    nothing = ([], take 4 symbols, drop 5 symbols, refl);
    strike = ([], take 5 symbols, drop 6 symbols, refl);
    damage = ([], take 6 symbols, drop 7 symbols, refl);
  };
  distances = distances_two;
  arrows = λ v within w below there. absurd (no_arrows v within w below there);
  edges = λ w within v below there. absurd (omega (arith, within, below));
  frames = λ few u within v below. record { deeds = λ deed there. absurd (no_frames deed u v there); waiting = λ there. absurd (none_waits u v there) };
}

-- without symbols nothing is drawn
symbols_not-none : (film : Film) (net : Network) → ¬ HasSymbols [] film net
symbols_not-none film net has = defined_not-empty has.marks.settled

-- ---- parts

played-there : IsPlayed (track_shown (Mark 0) three 3 4 ∷ []) (track_shown (Mark 0) three)
played-there = (3, 4, [], [], refl)

parts_not-none : (film : Film) (net : Network) → ¬ ShowsParts [] film net
parts_not-none film net shows = played_not-empty _ shows.sweeps

-- ---- what stands round the graph

abbrev said_of : ℕ → FilmHead
said_of refused = record { nodes = 4; events = 12; refused = refused; stills = 3; crowded = false }

title-four : title_text (said_of 0) ≡ codes "A run of a lock on " ++ (decimal 4 ++ codes " nodes, as a film")
title-four = refl

said-refused : said_text (said_of 2) ≡ decimal 12 ++ (codes " events, " ++ (decimal 2 ++ codes " lines refused"))
said-refused = refl

stills-calm : stills_text (said_of 0) ≡ decimal 3 ++ codes " stills; calm stretches are shown by their last moment"
stills-calm = refl

stills-crowded : stills_text (record (said_of 0) { crowded = true }) ≡ decimal 3 ++ codes " stills, fewer than moments that count: each is the last of a stretch"
stills-crowded = refl

headed_not-none : (said : FilmHead) → ¬ IsHeaded [] said
headed_not-none said (front, are) = ended_not-none _ _ (sym are)

counted_not-none : (stage : Stage) (pace : FilmPace) → ¬ IsCounted [] stage pace
counted_not-none stage pace (front, are) = ended_not-none _ _ (sym are)

-- ---- each still has a beat

abbrev reel_of : Option Still → List Still → ReelView
reel_of opening stills = record { opening = opening; stills = stills; limit = 9; crowded = false }

abbrev two_stills : ReelView
two_stills = reel_of (Some (still_of wrong)) (still_of wrong ∷ still_of privileged ∷ [])

each-ten : IsEachShown two_stills (record { beats = 10; closing = 30; seconds = 2 })
each-ten = λ opening place there. omega arith

-- one beat is too few for three stills
each_not-one : ¬ IsEachShown two_stills (record { beats = 1; closing = 30; seconds = 2 })
each_not-one each =
    let second : 1 ≤ 0 = each (still_of wrong) 1 (omega arith) in
    omega (arith, second)

-- ---- the film of a run

abbrev first_sweeps : Window
first_sweeps = record { from = 0; to = 5 }

-- a window that begins with the start holds it
start_there : (es : List Event) (ended : ℕ) (moments : List Still) → AreFilmed first_sweeps (simulated_start two_nodes) es ended moments
    → es ≡ [] → ¬ (moments ≡ [])
start_there es ended moments Start none nothing = some_not-none _ _ nothing
start_there es ended moments (Next e before after are was is) none nothing = ended_not-none _ _ none

shows_nothing : (reel : ReelView) (moments : List Still) → reel.opening ≡ None → Shows reel moments → moments ≡ []
shows_nothing reel [] closed shows = refl
shows_nothing reel (m ∷ moments) closed shows = let opened = shows.0 in grind (arith, closed, opened)

-- so a reel that was not opened is none of that run
reel_not-unopened : (reel : ReelView) → reel.opening ≡ None → ¬ IsReelOf two_nodes first_sweeps [] reel
reel_not-unopened reel closed of = start_there [] of.ended of.moments of.are refl (shows_nothing reel of.moments closed of.shown)

-- and its film shows the start
film_opens : (text : List ℕ) (film : IsFilm two_nodes first_sweeps [] text) → ¬ (film.reel.opening ≡ None)
film_opens text film closed = reel_not-unopened film.reel closed film.of_run

-- a film and a page have a text
film_not-empty : (net : Network) (window : Window) (es : List Event) → ¬ IsFilm net window es []
film_not-empty net window es film = some_not-none _ _ (sym film.spelled)

page_not-empty : (net : Network) (window : Window) (es : List Event) → ¬ IsPage net window es []
page_not-empty net window es page = some_not-none _ _ (sym page.spelled)

-- ---- the sentences of a page

event-start : event_said (still_of wrong) ≡ codes "The start: "
event-start = refl

counts-damage : counts_said (record (still_of wrong) { damaged = true; privileged = 2 }) ≡ codes "damage, "
    ++ (decimal 1 ++ (codes " wrong, " ++ (decimal 2 ++ (codes " privileged, " ++ (decimal 0 ++ (codes " lending; " ++ (decimal 0 ++ codes " sweeps since the last damage.")))))))
counts-damage = refl

steps-three : length (steps_shown three).inside ≡ 3
steps-three = refl

steps-held : HoldsSteps (steps_shown three ∷ []) three
steps-held = ([], refl)

steps_not-none : (film : Film) → ¬ HoldsSteps [] film
steps_not-none film (front, are) = ended_not-none _ _ (sym are)

head-alone : IsPageHead (alone (note_shown (codes "head") []) ∷ [])
head-alone = refl

head_not-none : ¬ IsPageHead []
head_not-none are = grind (arith, are)
