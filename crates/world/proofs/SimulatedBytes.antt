-- A simulation, piece by piece of its text.
use Rattle.std.proofs.Common.{◌≡◌, ◌∙◌, ap, sym, ℕ, ◌+◌, ◌-◌, List, [], ◌∷◌, ◌++◌, Option, Result, Ok, Err, IsErr, length, map, take, drop, append_assoc, arith}
use Rattle.std.proofs.lemmas.Grind.{common_steps}
use Rattle.std.proofs.lemmas.List.{map-append, take_rest, take-append-drop}
use Rattle.std.proofs.Math.Seq.{take-add}
use Rattle.byte_lines.specs.Lines.{lines_after, half_line, whole_lines}
use Rattle.byte_lines.specs.Kept.{Kept, StandsAfter}
use Rattle.byte_lines.specs.Laws.{LinesAreCut}
use Rattle.judge.specs.run_model.World.{World}
use Rattle.judge.specs.run_model.Run.{run}
use Rattle.events_text.specs.declared.text_line.TextLine.{TextLine}
use Rattle.events_text.specs.EventsText.{text_line, ended_lines}
use Rattle.world.specs.SimulatedText.{said_events, refusals_of, refusal_lines}
use Rattle.byte_streams.specs.Streams.{TakesABeginning}
use Rattle.world.specs.UnderWay.{SimulationView, HasRun, IsUnderWay, GoesOn}
use Rattle.world.proofs.SimulatedLines.{refusals_both}
use Rattle.world.proofs.Writing.{beginning_of_more}

-- the first bytes of a piece, and more of them
pub piece_more : (piece : List ℕ) (at used : ℕ) → take (at + used) piece ≡ take at piece ++ take used (take (length piece - at) (drop at piece))
piece_more piece at used = take-add at used piece ∙ ap (λ xs. take at piece ++ take used xs) (sym (take_rest piece at))

-- more bytes of a piece, after what was there before it and its first bytes
pub piece_further : (bytes piece : List ℕ) (at used : ℕ)
    → bytes ++ take (at + used) piece ≡ (bytes ++ take at piece) ++ take used (take (length piece - at) (drop at piece))
piece_further bytes piece at used = ap (λ xs. bytes ++ xs) (piece_more piece at used) ∙ sym (append_assoc bytes (take at piece) _)

-- and then the others
pub piece_through : (bytes piece : List ℕ) (at used : ℕ)
    → bytes ++ piece ≡ ((bytes ++ take at piece) ++ take used (take (length piece - at) (drop at piece))) ++ drop (at + used) piece
piece_through bytes piece at used =
    let later = drop (at + used) piece in
    ap (λ xs. bytes ++ xs) (sym (take-append-drop (at + used) piece)) ∙ sym (append_assoc bytes (take (at + used) piece) later)
    ∙ ap (λ xs. xs ++ later) (piece_further bytes piece at used)

-- the refusal lines of the whole lines of some bytes come first for more bytes
pub beginning_of_bytes : LinesAreCut → (start : World) (bytes more : List ℕ) (before after : Option (List ℕ))
    → TakesABeginning (refusals_of start (ended_lines bytes)) before after → TakesABeginning (refusals_of start (ended_lines (bytes ++ more))) before after
beginning_of_bytes cut start bytes more before after b =
    let rest = lines_after (half_line bytes) more in
    let later = refusal_lines (run start (said_events (ended_lines bytes))) (1 + length (ended_lines bytes)) (map text_line rest) in
    let both : ended_lines (bytes ++ more) ≡ ended_lines bytes ++ map text_line rest = ap (map text_line) (cut.lines [] bytes more) ∙ map-append text_line (whole_lines bytes) rest in
    let parts : refusals_of start (ended_lines (bytes ++ more)) ≡ refusals_of start (ended_lines bytes) ++ later =
    ap (refusals_of start) both ∙ refusals_both start 1 (ended_lines bytes) (map text_line rest) in
    rw parts (beginning_of_more (refusals_of start (ended_lines bytes)) later before after b)

-- one more line has ended, and was run
pub line_ends : (start : World) (bytes more : List ℕ) (line : TextLine) (before between after : Option (List ℕ)) (s t : SimulationView) (reader : Kept)
    → IsUnderWay start bytes before between s → StandsAfter 64 (bytes ++ more) reader → ended_lines (bytes ++ more) ≡ ended_lines bytes ++ line ∷ []
    → (HasRun start (ended_lines bytes) before between (record s { reader = reader }) → HasRun start (ended_lines bytes ++ line ∷ []) before after t)
    → t.reader ≡ reader → IsUnderWay start (bytes ++ more) before after t
line_ends start bytes more line before between after s t reader u stands ends runs same = record {
  stands = rw same stands;
  has_run = rw ends (runs (record { seen = u.has_run.seen; lines_are = u.has_run.lines_are; refused_are = u.has_run.refused_are; written = u.has_run.written }));
}

-- no line has ended, and more is kept of the one under way
pub half_line_grows : (start : World) (bytes more : List ℕ) (before now : Option (List ℕ)) (s : SimulationView) (reader : Kept)
    → IsUnderWay start bytes before now s → StandsAfter 64 (bytes ++ more) reader → ended_lines (bytes ++ more) ≡ ended_lines bytes
    → IsUnderWay start (bytes ++ more) before now (record s { reader = reader })
half_line_grows start bytes more before now s reader u stands ends = record {
  stands = stands;
  has_run = rw ends (record { seen = u.has_run.seen; lines_are = u.has_run.lines_are; refused_are = u.has_run.refused_are; written = u.has_run.written });
}

-- one more line has ended, and the sink failed
pub line_fails : LinesAreCut → (start : World) (bytes more later : List ℕ) (line : TextLine) (before between after : Option (List ℕ)) (s : SimulationView) (reader : Kept)
    → IsUnderWay start bytes before between s → ended_lines (bytes ++ more) ≡ ended_lines bytes ++ line ∷ []
    → (HasRun start (ended_lines bytes) before between (record s { reader = reader }) → TakesABeginning (refusals_of start (ended_lines bytes ++ line ∷ [])) before after)
    → TakesABeginning (refusals_of start (ended_lines (bytes ++ more ++ later))) before after
line_fails cut start bytes more later line before between after s reader u ends fails =
    beginning_of_bytes cut start (bytes ++ more) later before after
    (rw ends (fails (record { seen = u.has_run.seen; lines_are = u.has_run.lines_are; refused_are = u.has_run.refused_are; written = u.has_run.written })))

-- the sink failed
pub fails_on : {E : Type 0} (result : Result (Unit {0}) E) (start : World) (bytes : List ℕ) (before after : Option (List ℕ)) (t : SimulationView)
    → IsErr result → TakesABeginning (refusals_of start (ended_lines bytes)) before after → GoesOn result start bytes before after t
fails_on (Ok value) start bytes before after t failed b = grind (arith, common_steps)
fails_on (Err e) start bytes before after t failed b = b
