-- What a film shows stays shown as more is added.
use Rattle.std.proofs.Common.{◌≡◌, ◌∙◌, ap, sym, subst, refl, ◌⊎◌, inl, inr, ℕ, ◌+◌, ◌<◌, ◌≤◌, List, [], ◌∷◌, ◌++◌, append_assoc, codes, map, arith}
use Rattle.std.proofs.lemmas.Grind.{common_steps}
use Rattle.std.proofs.lemmas.List.{append-nil, map-append}
use Rattle.topology.specs.Network.{Network}
use Rattle.svg_drawing.specs.declared.element.Group.{Group}
use Rattle.svg_drawing.specs.Grouped.{Grouped, grouped_of}
use Rattle.run_film.specs.declared.track.Track.TheVariants.{Mark, Distance, Parent, Ticket, Strike}
use Rattle.run_film.specs.Beats.{Film}
use Rattle.run_film.specs.Tracks.{track_shown}
use Rattle.run_film.specs.Films.{IsPlayed, Keeps, ShowsFrames, ShowsNode, AddsNode}
use Rattle.run_film.specs.Shapes.{symbol_shown}
use Rattle.run_film.specs.declared.frames.FrameDeed.{FrameDeed}
use Rattle.run_film.specs.declared.frames.FrameDeed.TheVariants.{Sent, Taken, Lost}
use Rattle.run_film.specs.Symbols.{HasEdge, HasFrame, HasMarks, HasSymbols, IsDefined}

-- a part that stands in a list stands in a longer one
pub played_more : (groups added new : List Grouped) (part : ℕ → ℕ → Grouped) → new ≡ groups ++ added → IsPlayed groups part → IsPlayed new part
played_more groups added new part is (x, y, before, after, there) =
    (x, y, before, after ++ added, is ∙ ap (λ gs. gs ++ added) there ∙ append_assoc before (part x y ∷ after) added)

-- one that is added stands there
pub played_at : (groups pre post new : List Grouped) (part : ℕ → ℕ → Grouped) (x y : ℕ) → new ≡ groups ++ (pre ++ (part x y ∷ post)) → IsPlayed new part
played_at groups pre post new part x y is = (x, y, groups ++ pre, post, is ∙ sym (append_assoc groups pre (part x y ∷ post)))

pub shows_more : (groups added new : List Grouped) (film : Film) (v : ℕ) → new ≡ groups ++ added → ShowsNode groups film v → ShowsNode new film v
shows_more groups added new film v is shows = record {
  mark = played_more groups added new _ is shows.mark;
  distance = played_more groups added new _ is shows.distance;
  parent = played_more groups added new _ is shows.parent;
  ticket = played_more groups added new _ is shows.ticket;
  strike = played_more groups added new _ is shows.strike;
}

-- a node is shown once its parts are added, if its parent's arrow was
pub node_added : (old new : List Grouped) (film : Film) (v : ℕ) → AddsNode old new film v → IsPlayed old (track_shown (Parent v) film) → ShowsNode new film v
node_added old new film v adds parent = record {
  mark = played_at old [] _ new _ adds.x adds.y adds.are;
  distance = played_at old (track_shown (Mark v) film adds.x adds.y ∷ []) _ new _ adds.x adds.y adds.are;
  parent = played_more old _ new _ adds.are parent;
  ticket = played_at old (track_shown (Mark v) film adds.x adds.y ∷ track_shown (Distance v) film adds.x adds.y ∷ []) _ new _ adds.across adds.down adds.are;
  strike = played_at old (track_shown (Mark v) film adds.x adds.y ∷ track_shown (Distance v) film adds.x adds.y ∷ track_shown (Ticket v) film adds.across adds.down ∷ []) _ new _ adds.x adds.y adds.are;
}

last_or_before : (u v : ℕ) → u < v + 1 → (u < v) ⊎ (u ≡ v)
last_or_before u v there = grind (arith, common_steps)

by_cases : (P : ℕ → Type 0) (v u : ℕ) → ((u : ℕ) → u < v → P u) → P v → (u < v) ⊎ (u ≡ v) → P u
by_cases P v u before now (inl below) = before u below
by_cases P v u before now (inr same) = subst P (sym same) now

-- whatever holds below a number and of it holds below the next
pub below_next : (P : ℕ → Type 0) (v : ℕ) → ((u : ℕ) → u < v → P u) → P v → (u : ℕ) → u < v + 1 → P u
below_next P v before now u there = by_cases P v u before now (last_or_before u v there)

-- ---- what stays

pub keeps_itself : (groups : List Grouped) → Keeps groups groups
keeps_itself groups = ([], sym (append-nil groups))

pub keeps_pushed : (old new : List Grouped) (g : Grouped) → new ≡ old ++ g ∷ [] → Keeps old new
keeps_pushed old new g is = (g ∷ [], is)

pub keeps_on : (one two three : List Grouped) → Keeps one two → Keeps two three → Keeps one three
keeps_on one two three (a, first) (b, second) = (a ++ b, second ∙ ap (λ gs. gs ++ b) first ∙ append_assoc one a b)

pub played_kept : (old new : List Grouped) (part : ℕ → ℕ → Grouped) → Keeps old new → IsPlayed old part → IsPlayed new part
played_kept old new part (added, is) played = played_more old added new part is played

pub node_kept : (old new : List Grouped) (film : Film) (v : ℕ) → Keeps old new → ShowsNode old film v → ShowsNode new film v
node_kept old new film v (added, is) shows = shows_more old added new film v is shows

pub frames_shown_kept : (old new : List Grouped) (film : Film) (net : Network) → Keeps old new → ShowsFrames old film net → ShowsFrames new film net
frames_shown_kept old new film net keeps shows = record {
  last = played_kept old new _ keeps shows.last;
  waiting = λ u within v below there. played_kept old new _ keeps (shows.waiting u within v below there);
}

-- what is played at a place is played
pub played_here : (old new : List Grouped) (part : ℕ → ℕ → Grouped) (x y : ℕ) → new ≡ old ++ part x y ∷ [] → IsPlayed new part
played_here old new part x y is = (x, y, old, [], is)

-- whatever stays, and holds below a number, holds below the next if it holds of it
pub next_below : (Q : List Grouped → ℕ → Type 0) → ((old new : List Grouped) (u : ℕ) → Keeps old new → Q old u → Q new u)
    → (old new : List Grouped) (v : ℕ) → Keeps old new → ((u : ℕ) → u < v → Q old u) → Q new v → (u : ℕ) → u < v + 1 → Q new u
next_below Q kept old new v keeps before now = below_next (Q new) v (λ u below. kept old new u keeps (before u below)) now

-- each number below one has what is asked of it, and the groups that were there at first stay
pub record Grows (Q : List Grouped → ℕ → Type 0) (first now : List Grouped) (v : ℕ) : Type 0 where
  pub each : (u : ℕ) → u < v → Q now u
  pub keeps : Keeps first now

pub grows_none : (Q : List Grouped → ℕ → Type 0) (groups : List Grouped) → Grows Q groups groups 0
grows_none Q groups = record { each = λ u below. absurd (omega (arith, below)); keeps = keeps_itself groups }

pub grows_more : (Q : List Grouped → ℕ → Type 0) → ((old new : List Grouped) (u : ℕ) → Keeps old new → Q old u → Q new u)
    → (first old new : List Grouped) (v : ℕ) → Grows Q first old v → Keeps old new → Q new v → Grows Q first new (v + 1)
grows_more Q kept first old new v before keeps now = record {
  each = next_below Q kept old new v keeps before.each now;
  keeps = keeps_on first old new before.keeps keeps;
}

-- ---- symbols

pub defined_kept : (old new : List Grouped) (name : List ℕ) → Keeps old new → IsDefined old name → IsDefined new name
defined_kept old new name (added, is) (inside, before, after, there) =
    (inside, before, after ++ added, is ∙ ap (λ gs. gs ++ added) there ∙ append_assoc before (record { element = symbol_shown name; inside = inside } ∷ after) added)

pub defined_here : (old new : List Grouped) (g : Grouped) (name : List ℕ) → new ≡ old ++ g ∷ [] → g.element ≡ symbol_shown name → IsDefined new name
defined_here old new g name is named = (g.inside, old, [], is ∙ ap (λ e. old ++ (record { element = e; inside = g.inside } ∷ [])) named)

pub edge_kept : (old new : List Grouped) (v w : ℕ) → Keeps old new → HasEdge old v w → HasEdge new v w
edge_kept old new v w keeps has = record { thin = defined_kept old new _ keeps has.thin; strong = defined_kept old new _ keeps has.strong }

pub frame_kept : (old new : List Grouped) (film : Film) (u v : ℕ) → Keeps old new → HasFrame old film u v → HasFrame new film u v
frame_kept old new film u v keeps has = record {
  deeds = λ deed there. defined_kept old new _ keeps (has.deeds deed there);
  waiting = λ there. defined_kept old new _ keeps (has.waiting there);
}

-- what holds of each deed holds of all
pub each_deed : (P : FrameDeed → Type 0) → P Sent → P Taken → P Lost → (deed : FrameDeed) → P deed
each_deed P sent taken lost Sent = sent
each_deed P sent taken lost Taken = taken
each_deed P sent taken lost Lost = lost

pub marks_kept : (old new : List Grouped) → Keeps old new → HasMarks old → HasMarks new
marks_kept old new keeps has = record {
  settled = defined_kept old new _ keeps has.settled;
  wrong = defined_kept old new _ keeps has.wrong;
  privileged = defined_kept old new _ keeps has.privileged;
  lending = defined_kept old new _ keeps has.lending;
  nothing = defined_kept old new _ keeps has.nothing;
  strike = defined_kept old new _ keeps has.strike;
  damage = defined_kept old new _ keeps has.damage;
}

pub symbols_kept : (old new : List Grouped) (film : Film) (net : Network) → Keeps old new → HasSymbols old film net → HasSymbols new film net
symbols_kept old new film net keeps has = record {
  marks = marks_kept old new keeps has.marks;
  distances = λ d most. defined_kept old new _ keeps (has.distances d most);
  arrows = λ v within w below there. defined_kept old new _ keeps (has.arrows v within w below there);
  edges = λ w within v below there. edge_kept old new v w keeps (has.edges w within v below there);
  frames = λ few u within v below. frame_kept old new film u v keeps (has.frames few u within v below);
}

-- ---- lists of groups

-- a group after others
pub then_last : (x : Group) (front all : List Group) (g : Grouped) → all ≡ front ++ x ∷ [] → grouped_of x ≡ g → map grouped_of all ≡ map grouped_of front ++ g ∷ []
then_last x front all g pushed is = ap (map grouped_of) pushed ∙ map-append grouped_of front (x ∷ []) ∙ ap (λ h. map grouped_of front ++ h ∷ []) is

-- five groups, one after the other
pub five : (a b c d e : Grouped) (g0 g1 g2 g3 g4 g5 : List Grouped) → g1 ≡ g0 ++ a ∷ [] → g2 ≡ g1 ++ b ∷ [] → g3 ≡ g2 ++ c ∷ [] → g4 ≡ g3 ++ d ∷ [] → g5 ≡ g4 ++ e ∷ []
    → g5 ≡ g0 ++ (a ∷ b ∷ c ∷ d ∷ e ∷ [])
five a b c d e g0 g1 g2 g3 g4 g5 e1 e2 e3 e4 e5 =
    let s2 : g2 ≡ g0 ++ (a ∷ b ∷ []) = e2 ∙ ap (λ g. g ++ b ∷ []) e1 ∙ append_assoc g0 (a ∷ []) (b ∷ []) in
    let s3 : g3 ≡ g0 ++ (a ∷ b ∷ c ∷ []) = e3 ∙ ap (λ g. g ++ c ∷ []) s2 ∙ append_assoc g0 (a ∷ b ∷ []) (c ∷ []) in
    let s4 : g4 ≡ g0 ++ (a ∷ b ∷ c ∷ d ∷ []) = e4 ∙ ap (λ g. g ++ d ∷ []) s3 ∙ append_assoc g0 (a ∷ b ∷ c ∷ []) (d ∷ []) in
    e5 ∙ ap (λ g. g ++ e ∷ []) s4 ∙ append_assoc g0 (a ∷ b ∷ c ∷ d ∷ []) (e ∷ [])
