use Rattle.std.proofs.Common.{◌≡◌, ◌∙◌, ap, sym, ◌++◌, length, take, drop, ◌-◌, append_assoc, arith}
use Rattle.std.proofs.lemmas.Grind.{common_steps}
use Rattle.std.proofs.lemmas.List.{append-nil}
use Rattle.std.specs.Option.{option_to_list}
use Rattle.world.specs.events_text.EventsText.{ended_lines}
use Rattle.world.specs.SimulatedText.{said_events}
use Rattle.world.specs.events_text.declared.text_line.TextLine.TheVariants.{Said}
use Rattle.run_recording.proofs.Recordings.{line_ends, half_line_grows, piece_further}
use Rattle.run_recording.proofs.recording.Recording.take.Goals as goal

-- a usual line
pub loop-at-preserved-in-Some : goal.loop-at-preserved-in-Some
loop-at-preserved-in-Some g c =
    let within = c.loop-at.invariant.0 in
    let some = c.in-Some.ensures.used in (
      grind (arith, common_steps),
      grind (arith, common_steps),
      grind (arith, common_steps),
      grind (arith, common_steps),
      grind (arith, common_steps),
      grind (arith, common_steps),
      λ start bytes h.
          let so_far = bytes ++ take c.loop-at.at c.args.piece.now in
          let now = rw (← c.self.view_is) at c.loop-at.invariant.6 start bytes h in
          let records = rw (← c.self.view_is) at c.line.ensures.records start (said_events (ended_lines so_far)) in
          let reader = rw (← c.self.view_is) at c.line.ensures.reader in
          rw (piece_further bytes c.args.piece.now c.loop-at.at c.in-Some.used) (line_ends start so_far _ (Said c.in-Some.event) _ c.line.new.self c.self.inside.reader now
          (c.in-Some.ensures.stands so_far now.stands) (c.in-Some.ensures.line so_far now.stands) records reader),
    )

-- any other line
pub loop-at-preserved : goal.loop-at-preserved
loop-at-preserved g c =
    let within = c.loop-at.invariant.0 in (
      grind (arith, common_steps),
      grind (arith, common_steps),
      grind (arith, common_steps),
      grind (arith, common_steps),
      grind (arith, common_steps),
      grind (arith, common_steps),
      λ start bytes h.
          let so_far = bytes ++ take c.loop-at.at c.args.piece.now in
          let now = rw (← c.self.view_is) at c.loop-at.invariant.6 start bytes h in
          let ends = c.take-taken.ensures.line so_far now.stands ∙ ap (λ line. ended_lines so_far ++ option_to_list line) c.in-Some-line.is in
          rw (piece_further bytes c.args.piece.now c.loop-at.at c.take-taken.result.used) (line_ends start so_far _ c.in-Some-line.line _ c.rare_line.new.self c.take-taken.new.self now
          (c.take-taken.ensures.stands so_far now.stands) ends (c.rare_line.ensures.records start (said_events (ended_lines so_far))) c.rare_line.ensures.reader),
    )

pub returns-in_default-line-clause-text : goal.returns-in_default-line-clause-text
returns-in_default-line-clause-text g c =
    λ start bytes h.
    let piece = c.args.piece.now in
    let at = c.loop-at.at in
    let used = c.take-taken.result.used in
    let more = take used (take (length piece - at) (drop at piece)) in
    let so_far = bytes ++ take at piece in
    let now = rw (← c.self.view_is) at c.loop-at.invariant.6 start bytes h in
    let ends : ended_lines (so_far ++ more) ≡ ended_lines so_far =
    c.take-taken.ensures.line so_far now.stands ∙ ap (λ line. ended_lines so_far ++ option_to_list line) c.in_default-line.is ∙ append-nil (ended_lines so_far) in
    let rest : piece ≡ take at piece ++ more = grind (arith, common_steps) in
    let all : bytes ++ piece ≡ so_far ++ more = ap (λ xs. bytes ++ xs) rest ∙ sym (append_assoc bytes (take at piece) more) in
    rw all (half_line_grows start so_far more _ c.take-taken.new.self now (c.take-taken.ensures.stands so_far now.stands) ends)

pub returns-clause-text : goal.returns-clause-text
returns-clause-text g c =
    λ start bytes h.
    let piece = c.args.piece.now in
    let end : c.loop-at.at ≡ length piece = grind (arith, common_steps) in
    let all : take c.loop-at.at piece ≡ piece = grind (arith, common_steps) in
    rw all at c.loop-at.invariant.6 start bytes h
