-- A recording, event by event, line by line and piece by piece.
use Rattle.std.proofs.Common.{◌≡◌, ◌∙◌, ap, sym, refl, subst, ℕ, ◌+◌, ◌-◌, ◌≤◌, ◌==◌, if◌then◌else◌, false, Bool, List, [], ◌∷◌, ◌++◌, length, take, drop, append_assoc, Option, None, Some, Result, Ok, Err, OnOk, IfErr, is_ok, is_none, arith}
use Rattle.std.proofs.lemmas.Grind.{common_steps, flat_map-append}
use Rattle.std.proofs.lemmas.List.{append-nil, take_rest}
use Rattle.std.proofs.Math.Seq.{take-add}
use Rattle.byte_lines.specs.Kept.{Kept, StandsAfter}
use Rattle.world.specs.run_model.World.{World}
use Rattle.world.specs.run_model.Run.{run, is_damage}
use Rattle.world.specs.run_model.Count.{IsSweepCount}
use Rattle.world.specs.run_model.declared.event.Event.{Event}
use Rattle.world.specs.run_model.declared.event.EventFault.{EventFault}
use Rattle.world.specs.events_text.declared.text_line.TextLine.{TextLine}
use Rattle.world.specs.events_text.EventsText.{ended_lines}
use Rattle.world.specs.judge.JudgeView.{HasSeen}
use Rattle.world.specs.judge.Judging.{counted_up_to}
use Rattle.world.specs.SimulatedText.{said_event, said_events}
use Rattle.run_recording.specs.declared.column.Column.{Column}
use Rattle.run_recording.specs.declared.recording.Before.{Before}
use Rattle.run_recording.specs.declared.window.Window.{Window}
use Rattle.run_recording.specs.Strips.{Shows}
use Rattle.run_recording.specs.declared.still.Still.{Still}
use Rattle.run_recording.specs.Filmed.{still_of, take_of, filmed_if, ended_with, AreFilmed, IsReeled}
use Rattle.run_recording.specs.Laned.{AreWorlds, IsLaned, world_if}
use Rattle.run_recording.proofs.Strips.{as_empty}
use Rattle.run_recording.specs.Recordings.{moment_of, shown_if, ended_at, AreMoments, IsBeforeAny, RecordingView, IsRecorded, IsReading}
use Rattle.run_recording.specs.Recordings.AreMoments.{Start, Next}
use Rattle.run_recording.specs.Recordings.IsFirstHeld.{AtStart, Following}

-- an event is accepted if its step says so
pub accepted_is : (result : Result (Unit {0}) EventFault) (refusal : Option EventFault) → OnOk result (refusal ≡ None) → IfErr result (λ fault. refusal ≡ Some fault)
    → is_none refusal ≡ is_ok result
accepted_is (Ok value) refusal ok err = grind (arith, common_steps)
accepted_is (Err fault) refusal ok err = grind (arith, common_steps)

-- ---- what was before the first moment shown

-- at most one moment is shown
at_most_one : (window : Window) (ended : ℕ) (moment : Column) → length (shown_if window ended moment) ≤ 1
at_most_one window ended moment = grind (arith, common_steps)

-- nothing was before the start
before_start : (window : Window) (start : World) (moments : List Column) (before : Before) → before.events ≡ 0 → before.sweeps ≡ 0
    → AreMoments window start [] 0 moments → length moments ≤ 1 → IsBeforeAny window start [] moments before
before_start window start [] before events sweeps are few = tt
before_start window start (moment ∷ []) before events sweeps are few = record {
  front = [];
  back = [];
  are = refl;
  first = rw sweeps (AtStart moment are);
  events_are = events;
}
before_start window start (moment ∷ next ∷ moments) before events sweeps are few = let no : ⊥ = grind (arith, few) in elim no [ ]

-- what was before the first moment shown changes with an event only if nothing was shown until then
before_more : (window : Window) (start : World) (es : List Event) (e : Event) (sweeps ended : ℕ) (moments shown : List Column) (was now : Before)
    → AreMoments window start es sweeps moments → AreMoments window start (es ++ e ∷ []) ended (moments ++ shown) → length shown ≤ 1
    → IsBeforeAny window start es moments was
    → now ≡ (if length moments == 0 then record { events = length es + 1; sweeps = sweeps } else was)
    → IsBeforeAny window start (es ++ e ∷ []) (moments ++ shown) now
before_more window start es e sweeps ended [] [] was now are next few before is = tt
before_more window start es e sweeps ended [] (moment ∷ []) was now are next few before is = record {
  front = es ++ e ∷ [];
  back = [];
  are = sym (append-nil (es ++ e ∷ []));
  first = rw (ap (λ b. b.sweeps) is) (Following e moment are next);
  events_are = grind (arith, common_steps, is);
}
before_more window start es e sweeps ended [] (moment ∷ more ∷ shown) was now are next few before is = let no : ⊥ = grind (arith, few) in elim no [ ]
before_more window start es e sweeps ended (moment ∷ moments) shown was now are next few before is =
    let some : (length (moment ∷ moments) == 0) ≡ false = grind (arith, common_steps) in
    let same : now ≡ was = is ∙ ap (λ empty. if empty then record { events = length es + 1; sweeps = sweeps } else was) some in
    rw same (record {
      front = before.front;
      back = before.back ++ e ∷ [];
      are = ap (λ xs. xs ++ e ∷ []) before.are ∙ append_assoc before.front before.back (e ∷ []);
      first = before.first;
      events_are = before.events_are;
    })

-- ---- what is recorded

-- what a film shows after an event
abbrev pub still_after : World → List Event → Event → ℕ → ℕ → Still
still_after start es e events sweeps = still_of (run start (es ++ e ∷ [])) (take_of (Some e) events (is_damage (run start es) e) sweeps)

-- nothing has happened
pub begun : (start : World) (r : RecordingView) (moment : Column) → HasSeen r.judge start [] → r.ended ≡ 0 → r.events ≡ 0
    → r.before.events ≡ 0 → r.before.sweeps ≡ 0 → moment ≡ moment_of start false 0 0 → Shows r.strip (shown_if r.window 0 moment)
    → IsReeled r.reel (filmed_if r.window 0 (still_of start (take_of None 0 false 0)))
    → IsLaned r.lanes (world_if r.window 0 start) → IsRecorded start [] r
begun start r moment seen ended events led swept is shown reeled laned = record {
  seen = seen;
  moments = shown_if r.window 0 (moment_of start false 0 0);
  are = rw ended Start;
  shown = rw is at shown;
  stills = filmed_if r.window 0 (still_of start (take_of None 0 false 0));
  filmed = rw ended AreFilmed.Start;
  reeled = reeled;
  worlds = world_if r.window 0 start;
  are_worlds = rw ended AreWorlds.Start;
  laned = laned;
  events_are = events;
  before_is = before_start r.window start _ r.before led swept Start (at_most_one r.window 0 (moment_of start false 0 0));
}

-- how many sweeps there were, as a judge counts them
abbrev pub IsCount : World → List Event → ℕ → Type 0
IsCount start es sweeps = (count : ℕ) × IsSweepCount start es count × (sweeps ≡ counted_up_to count)

-- one more event has happened
pub recorded_more : (start : World) (es : List Event) (e : Event) (old new : RecordingView) (before after : ℕ) (moment : Column) (empty : Bool)
    → (h : IsRecorded start es old) → HasSeen new.judge start (es ++ e ∷ []) → IsCount start es before → IsCount start (es ++ e ∷ []) after
    → moment ≡ moment_of (run start (es ++ e ∷ [])) (is_damage (run start es) e) before after
    → new.window ≡ old.window → new.ended ≡ ended_at old.ended moment
    → Shows new.strip (h.moments ++ shown_if old.window new.ended moment)
    → new.events ≡ old.events + 1
    → empty ≡ (length old.strip.columns == 0) → new.before ≡ (if empty then record { events = new.events; sweeps = old.ended } else old.before)
    → IsReeled new.reel (h.stills ++ filmed_if old.window new.ended (still_after start es e new.events after))
    → IsLaned new.lanes (h.worlds ++ world_if old.window new.ended (run start (es ++ e ∷ [])))
    → IsRecorded start (es ++ e ∷ []) new
recorded_more start es e old new before after moment empty h seen (count, counted, before_is) (next, counted_next, after_is) is window ended shown events empty_is first reeled laned =
    let exact = is ∙ ap (λ b. moment_of (run start (es ++ e ∷ [])) (is_damage (run start es) e) b after) before_is
    ∙ ap (moment_of (run start (es ++ e ∷ [])) (is_damage (run start es) e) (counted_up_to count)) after_is in
    let are = Next e count next h.are counted counted_next moment exact in
    let led : new.events ≡ length es + 1 = events ∙ ap (λ n. n + 1) h.events_are in
    let ended_is : new.ended ≡ ended_with old.ended (counted_up_to count) (counted_up_to next) = ended ∙ ap (λ m. counted_up_to (old.ended + m.sweeps)) exact in
    let still_is : still_after start es e new.events after ≡ still_after start es e (length es + 1) (counted_up_to next) =
    ap (λ n. still_after start es e n after) led ∙ ap (still_after start es e (length es + 1)) after_is in
    let filmed = AreFilmed.Next e count next h.filmed counted counted_next in
    let worlds = AreWorlds.Next e count next h.are_worlds counted counted_next in
    let first_is : new.before ≡ (if length h.moments == 0 then record { events = length es + 1; sweeps = old.ended } else old.before) =
    first
    ∙ ap (λ b. if b then record { events = new.events; sweeps = old.ended } else old.before) (empty_is ∙ as_empty old.strip.width old.strip.last h.moments old.strip.columns h.shown.0)
    ∙ ap (λ n. if length h.moments == 0 then record { events = n; sweeps = old.ended } else old.before) led in
    record {
      seen = seen;
      moments = h.moments ++ shown_if old.window (ended_at old.ended moment) moment;
      are = rw (window, ended) are;
      shown = rw ended at shown;
      stills = h.stills ++ filmed_if old.window (ended_with old.ended (counted_up_to count) (counted_up_to next)) (still_after start es e (length es + 1) (counted_up_to next));
      filmed = rw (window, ended_is) filmed;
      reeled = rw (ended_is, still_is) at reeled;
      worlds = h.worlds ++ world_if old.window (ended_with old.ended (counted_up_to count) (counted_up_to next)) (run start (es ++ e ∷ []));
      are_worlds = rw (window, ended_is) worlds;
      laned = rw ended_is at laned;
      events_are = grind (arith, common_steps);
      before_is = rw window (before_more old.window start es e old.ended (ended_at old.ended moment) h.moments
          (shown_if old.window (ended_at old.ended moment) moment) old.before new.before h.are are
          (at_most_one old.window (ended_at old.ended moment) moment) h.before_is first_is);
    }

-- no further event has happened, and the same is kept of those before
pub recorded_same : (start : World) (es : List Event) (r : RecordingView) → IsRecorded start es r → IsRecorded start (es ++ []) r
recorded_same start es r h = subst (λ xs. IsRecorded start xs r) (sym (append-nil es)) h

-- another line is under way
pub reader_moves : (start : World) (es : List Event) (r : RecordingView) (reader : Kept) → IsRecorded start es r → IsRecorded start es (record r { reader = reader })
reader_moves start es r reader h = record {
  seen = h.seen;
  moments = h.moments;
  are = h.are;
  shown = h.shown;
  stills = h.stills;
  filmed = h.filmed;
  reeled = h.reeled;
  worlds = h.worlds;
  are_worlds = h.are_worlds;
  laned = h.laned;
  events_are = h.events_are;
  before_is = h.before_is;
}

-- the first bytes of a piece, and those after them
pub piece_more : (piece : List ℕ) (at used : ℕ) → take (at + used) piece ≡ take at piece ++ take used (take (length piece - at) (drop at piece))
piece_more piece at used = take-add at used piece ∙ ap (λ xs. take at piece ++ take used xs) (sym (take_rest piece at))

-- more bytes of a piece, after what was there before it and its first bytes
pub piece_further : (bytes piece : List ℕ) (at used : ℕ)
    → bytes ++ take (at + used) piece ≡ (bytes ++ take at piece) ++ take used (take (length piece - at) (drop at piece))
piece_further bytes piece at used = ap (λ xs. bytes ++ xs) (piece_more piece at used) ∙ sym (append_assoc bytes (take at piece) _)

-- one more line has ended, and its event is recorded
pub line_ends : (start : World) (bytes more : List ℕ) (line : TextLine) (old new : RecordingView) (reader : Kept)
    → IsReading start bytes old → StandsAfter 64 (bytes ++ more) reader → ended_lines (bytes ++ more) ≡ ended_lines bytes ++ line ∷ []
    → (IsRecorded start (said_events (ended_lines bytes)) (record old { reader = reader }) → IsRecorded start (said_events (ended_lines bytes) ++ said_events (line ∷ [])) new)
    → new.reader ≡ reader → IsReading start (bytes ++ more) new
line_ends start bytes more line old new reader h stands ends records same = record {
  stands = rw same stands;
  recorded = rw (ends, flat_map-append said_event (ended_lines bytes) (line ∷ [])) (records (reader_moves start (said_events (ended_lines bytes)) old reader h.recorded));
}

-- no line has ended, and more is kept of the one under way
pub half_line_grows : (start : World) (bytes more : List ℕ) (old : RecordingView) (reader : Kept)
    → IsReading start bytes old → StandsAfter 64 (bytes ++ more) reader → ended_lines (bytes ++ more) ≡ ended_lines bytes
    → IsReading start (bytes ++ more) (record old { reader = reader })
half_line_grows start bytes more old reader h stands ends = record {
  stands = stands;
  recorded = rw ends (reader_moves start (said_events (ended_lines bytes)) old reader h.recorded);
}
