-- The refusal lines of a text's lines, line by line.
use Rattle.std.proofs.Common.{◌≡◌, ◌∙◌, ap, sym, ℕ, ◌+◌, ◌-◌, ◌^◌, min, is_some, if◌then◌else◌, List, [], ◌∷◌, ◌++◌, Option, Some, None, Result, Ok, Err, length, append_assoc, arith}
use Rattle.std.proofs.lemmas.Grind.{common_steps, flat_map-append}
use Rattle.std.proofs.lemmas.List.{append-nil}
use Rattle.judge.specs.run_model.World.{World}
use Rattle.judge.specs.run_model.Step.{step}
use Rattle.judge.specs.run_model.Run.{run}
use Rattle.events_text.specs.declared.text_line.TextLine.{TextLine}
use Rattle.events_text.specs.declared.text_line.TextLine.TheVariants.{Passed, Unread, Said}
use Rattle.judge.specs.JudgeView.{HasSeen}
use Rattle.judge.specs.Judging.{counted_up_to}
use Rattle.world.specs.SimulatedText.{line_refusal, refusal_line, refusal_lines, refused_lines, said_event, said_events, refusals_of}
use Rattle.byte_streams.specs.Streams.{Takes, TakesABeginning, WritesAll}
use Rattle.world.specs.UnderWay.{SimulationView, HasRun, HasSeenLine, Runs}
use Rattle.judge.specs.configuration.ConfigurationView.{world_of}
use Rattle.world.proofs.Writing.{takes_nothing, takes_both, then_beginning}

-- the refusal lines of lines and then more lines
pub refusals_both : (w : World) (n : ℕ) (lines more : List TextLine)
    → refusal_lines w n (lines ++ more) ≡ refusal_lines w n lines ++ refusal_lines (run w (said_events lines)) (n + length lines) more
refusals_both w n [] more = grind (arith, common_steps)
refusals_both w n (Passed ∷ lines) more =
    let further : n + 1 + length lines ≡ n + length (Passed ∷ lines) = omega arith in
    refusals_both w (n + 1) lines more ∙ ap (λ k. refusal_lines w (n + 1) lines ++ refusal_lines (run w (said_events lines)) k more) further
refusals_both w n (Unread ∷ lines) more =
    let further : n + 1 + length lines ≡ n + length (Unread ∷ lines) = omega arith in
    let first = refusal_line n (line_refusal w Unread) in
    ap (λ xs. first ++ xs) (refusals_both w (n + 1) lines more ∙ ap (λ k. refusal_lines w (n + 1) lines ++ refusal_lines (run w (said_events lines)) k more) further)
    ∙ sym (append_assoc first (refusal_lines w (n + 1) lines) (refusal_lines (run w (said_events lines)) (n + length (Unread ∷ lines)) more))
refusals_both w n (Said e ∷ lines) more =
    let further : n + 1 + length lines ≡ n + length (Said e ∷ lines) = omega arith in
    let first = refusal_line n (line_refusal w (Said e)) in
    let next = step w e in
    ap (λ xs. first ++ xs)
    (refusals_both next (n + 1) lines more ∙ ap (λ k. refusal_lines next (n + 1) lines ++ refusal_lines (run next (said_events lines)) k more) further)
    ∙ sym (append_assoc first (refusal_lines next (n + 1) lines) (refusal_lines (run next (said_events lines)) (n + length (Said e ∷ lines)) more))

-- how many of some lines and then more lines are refused
pub refused_both : (w : World) (lines more : List TextLine)
    → refused_lines w (lines ++ more) ≡ refused_lines w lines + refused_lines (run w (said_events lines)) more
refused_both w [] more = grind (arith, common_steps)
refused_both w (Passed ∷ lines) more = let r = refused_both w lines more in grind (arith, common_steps)
refused_both w (Unread ∷ lines) more = let r = refused_both w lines more in grind (arith, common_steps)
refused_both w (Said e ∷ lines) more = let r = refused_both (step w e) lines more in grind (arith, common_steps)

-- a count with one more
abbrev pub one_more : ℕ → Option (List ℕ) → ℕ
one_more refused None = refused
one_more refused (Some name) = min (refused + 1) (2 ^ 64 - 1)

counts_on : (r : Option (List ℕ)) (n : ℕ) → one_more (counted_up_to n) r ≡ counted_up_to (n + (if is_some r then 1 else 0))
counts_on None n = grind (arith, common_steps)
counts_on (Some name) n = grind (arith, common_steps)

-- the refusal lines of lines and one more
pub refusals_more : (w : World) (lines : List TextLine) (line : TextLine) (number : ℕ) → number ≡ length lines + 1
    → refusals_of w (lines ++ line ∷ []) ≡ refusals_of w lines ++ refusal_line number (line_refusal (run w (said_events lines)) line)
refusals_more w lines line number is =
    let same : 1 + length lines ≡ number = omega (arith, is) in
    refusals_both w 1 lines (line ∷ [])
    ∙ ap (λ k. refusals_of w lines ++ refusal_lines (run w (said_events lines)) k (line ∷ [])) same
    ∙ ap (λ xs. refusals_of w lines ++ xs) (append-nil (refusal_line number (line_refusal (run w (said_events lines)) line)))

-- how many of some lines and one more are refused
refused_more : (w : World) (lines : List TextLine) (line : TextLine)
    → refused_lines w (lines ++ line ∷ []) ≡ refused_lines w lines + (if is_some (line_refusal (run w (said_events lines)) line) then 1 else 0)
refused_more w lines line =
    let one : (if is_some (line_refusal (run w (said_events lines)) line) then 1 else 0) + 0 ≡ (if is_some (line_refusal (run w (said_events lines)) line) then 1 else 0) = omega arith in
    refused_both w lines (line ∷ []) ∙ ap (λ n. refused_lines w lines + n) one

-- one more line was run, and reported if it is refused
pub has_run_more : (start : World) (lines : List TextLine) (line : TextLine) (before between after : Option (List ℕ)) (s t : SimulationView)
    → HasRun start lines before between s → HasSeen t.judge start (said_events lines ++ said_events (line ∷ [])) → t.lines ≡ s.lines + 1
    → t.refused ≡ one_more s.refused (line_refusal (run start (said_events lines)) line)
    → Takes (refusal_line (s.lines + 1) (line_refusal (run start (said_events lines)) line)) between after
    → HasRun start (lines ++ line ∷ []) before after t
has_run_more start lines line before between after s t h seen number refused written = record {
  seen = rw (flat_map-append said_event lines (line ∷ [])) seen;
  lines_are = grind (arith, common_steps);
  refused_are =
      refused ∙ ap (λ n. one_more n (line_refusal (run start (said_events lines)) line)) h.refused_are
      ∙ counts_on (line_refusal (run start (said_events lines)) line) (refused_lines start lines)
      ∙ ap counted_up_to (sym (refused_more start lines line));
  written =
      rw (refusals_more start lines line (s.lines + 1) (ap (λ n. n + 1) h.lines_are))
      (takes_both (refusals_of start lines) (refusal_line (s.lines + 1) (line_refusal (run start (said_events lines)) line)) before between after h.written written);
}

-- the sink failed at the refusal line of one more line
pub fails_at_line : (start : World) (lines : List TextLine) (line : TextLine) (before between after : Option (List ℕ)) (s : SimulationView)
    → HasRun start lines before between s
    → TakesABeginning (refusal_line (s.lines + 1) (line_refusal (run start (said_events lines)) line)) between after
    → TakesABeginning (refusals_of start (lines ++ line ∷ [])) before after
fails_at_line start lines line before between after s h b =
    rw (refusals_more start lines line (s.lines + 1) (ap (λ n. n + 1) h.lines_are))
    (then_beginning (refusals_of start lines) (refusal_line (s.lines + 1) (line_refusal (run start (said_events lines)) line)) before between after h.written b)

-- an accepted line was run
pub line_passes : (start : World) (lines : List TextLine) (line : TextLine) (before now : Option (List ℕ)) (s t : SimulationView)
    → HasRun start lines before now s → None ≡ line_refusal (world_of s.judge.configuration) line → HasSeenLine s.judge line t.judge
    → t.lines ≡ s.lines + 1 → t.refused ≡ s.refused → HasRun start (lines ++ line ∷ []) before now t
line_passes start lines line before now s t h not_refused seen number same =
    let world : world_of s.judge.configuration ≡ run start (said_events lines) = h.seen.judging.now_is in
    let none : line_refusal (run start (said_events lines)) line ≡ None = ap (λ w. line_refusal w line) (sym world) ∙ sym not_refused in
    has_run_more start lines line before now now s t h (seen start (said_events lines) h.seen) number
    (same ∙ ap (one_more s.refused) (sym none)) (rw none (takes_nothing now))

-- a refused line was run and reported, or the sink failed
pub line_said : {E : Type 0} (result : Result (Unit {0}) E) (start : World) (lines : List TextLine) (line : TextLine) (before between after : Option (List ℕ)) (s t : SimulationView)
    (name : List ℕ) (failures more : ℕ) → HasRun start lines before between s → Some name ≡ line_refusal (world_of s.judge.configuration) line → HasSeenLine s.judge line t.judge
    → t.lines ≡ s.lines + 1 → t.refused ≡ min (s.refused + 1) (2 ^ 64 - 1)
    → WritesAll result (refusal_line (s.lines + 1) (Some name)) between after failures more → Runs result start (lines ++ line ∷ []) before after t
line_said (Ok value) start lines line before between after s t name failures more h is_refused seen number count written =
    let world : world_of s.judge.configuration ≡ run start (said_events lines) = h.seen.judging.now_is in
    let some : line_refusal (run start (said_events lines)) line ≡ Some name = ap (λ w. line_refusal w line) (sym world) ∙ sym is_refused in
    has_run_more start lines line before between after s t h (seen start (said_events lines) h.seen) number
    (count ∙ ap (one_more s.refused) (sym some)) (rw some written.0)
line_said (Err e) start lines line before between after s t name failures more h is_refused seen number count written =
    let world : world_of s.judge.configuration ≡ run start (said_events lines) = h.seen.judging.now_is in
    let some : line_refusal (run start (said_events lines)) line ≡ Some name = ap (λ w. line_refusal w line) (sym world) ∙ sym is_refused in
    fails_at_line start lines line before between after s h (rw some written.0)
