use Rattle.std.proofs.Common.{◌≡◌, ◌∙◌, ap, sym, ◌-◌, ◌++◌, length, take, drop, append_assoc, arith}
use Rattle.std.proofs.lemmas.Grind.{common_steps}
use Rattle.std.proofs.lemmas.List.{append-nil}
use Rattle.std.specs.Option.{option_to_list}
use Rattle.events_text.specs.EventsText.{ended_lines}
use Rattle.events_text.specs.declared.text_line.TextLine.TheVariants.{Said}
use Rattle.world.proofs.SimulatedBytes.{piece_further, piece_through, half_line_grows, line_ends, line_fails, fails_on}
use Rattle.world.proofs.simulation.under_way.Simulation.take.Goals as goal

-- a usual line
pub loop-at-preserved-in-Some : goal.loop-at-preserved-in-Some
loop-at-preserved-in-Some g c =
    let within = c.loop-at.invariant.0 in
    let some = c.in-Some.ensures.used in (
      grind (arith, common_steps),
      grind (arith, common_steps),
      grind (arith, common_steps),
      λ start bytes before h.
          let so_far = bytes ++ take c.loop-at.at c.args.piece.now in
          let now = rw (← c.self.view_is) at c.loop-at.invariant.3 start bytes before h in
          let runs = rw (← c.self.view_is) at c.in_ok-line.ensures.runs start (ended_lines so_far) before in
          let reader = rw (← c.self.view_is) at c.in_ok-line.ensures.reader in
          rw (piece_further bytes c.args.piece.now c.loop-at.at c.in-Some.used) (line_ends start so_far _ (Said c.in-Some.event) before _ _ _ c.line.new.self c.self.inside.reader now
          (c.in-Some.ensures.stands so_far now.stands) (c.in-Some.ensures.line so_far now.stands) runs reader),
    )

pub returns-in_err-line-clause-text : goal.returns-in_err-line-clause-text
returns-in_err-line-clause-text g c =
    λ start bytes before h.
    let so_far = bytes ++ take c.loop-at.at c.args.piece.now in
    let now = rw (← c.self.view_is) at c.loop-at.invariant.3 start bytes before h in
    let runs = rw (← c.self.view_is) at c.in_err-line.ensures.runs start (ended_lines so_far) before in
    fails_on c.from_residual.result start (bytes ++ c.args.piece.now) before _ _ c.from_residual.ensures.0
    (rw (piece_through bytes c.args.piece.now c.loop-at.at c.in-Some.used) (line_fails c.any_cutting.ensures start so_far _ _ (Said c.in-Some.event) before _ _ _ c.self.inside.reader now
    (c.in-Some.ensures.line so_far now.stands) runs))

-- any other line
pub loop-at-preserved : goal.loop-at-preserved
loop-at-preserved g c =
    let within = c.loop-at.invariant.0 in (
      grind (arith, common_steps),
      grind (arith, common_steps),
      grind (arith, common_steps),
      λ start bytes before h.
          let so_far = bytes ++ take c.loop-at.at c.args.piece.now in
          let now = rw (← c.self.view_is) at c.loop-at.invariant.3 start bytes before h in
          let ends = c.take-taken.ensures.line so_far now.stands ∙ ap (λ line. ended_lines so_far ++ option_to_list line) c.in-Some-line.is in
          rw (piece_further bytes c.args.piece.now c.loop-at.at c.take-taken.result.used) (line_ends start so_far _ c.in-Some-line.line before _ _ _ c.rare_line.new.self c.take-taken.new.self now
          (c.take-taken.ensures.stands so_far now.stands) ends (c.in_ok-rare_line.ensures.runs start (ended_lines so_far) before) c.in_ok-rare_line.ensures.reader),
    )

pub returns-in_err-rare_line-clause-text : goal.returns-in_err-rare_line-clause-text
returns-in_err-rare_line-clause-text g c =
    λ start bytes before h.
    let so_far = bytes ++ take c.loop-at.at c.args.piece.now in
    let now = rw (← c.self.view_is) at c.loop-at.invariant.3 start bytes before h in
    let ends = c.take-taken.ensures.line so_far now.stands ∙ ap (λ line. ended_lines so_far ++ option_to_list line) c.in-Some-line.is in
    fails_on c.from_residual-in_err-rare_line.result start (bytes ++ c.args.piece.now) before _ _ c.from_residual-in_err-rare_line.ensures.0
    (rw (piece_through bytes c.args.piece.now c.loop-at.at c.take-taken.result.used) (line_fails c.any_cutting.ensures start so_far _ _ c.in-Some-line.line before _ _ _ c.take-taken.new.self now
    ends (c.in_err-rare_line.ensures.runs start (ended_lines so_far) before)))

pub returns-in_default-line-clause-text : goal.returns-in_default-line-clause-text
returns-in_default-line-clause-text g c =
    λ start bytes before h.
    let piece = c.args.piece.now in
    let at = c.loop-at.at in
    let used = c.take-taken.result.used in
    let more = take used (take (length piece - at) (drop at piece)) in
    let so_far = bytes ++ take at piece in
    let now = rw (← c.self.view_is) at c.loop-at.invariant.3 start bytes before h in
    let ends : ended_lines (so_far ++ more) ≡ ended_lines so_far =
    c.take-taken.ensures.line so_far now.stands ∙ ap (λ line. ended_lines so_far ++ option_to_list line) c.in_default-line.is ∙ append-nil (ended_lines so_far) in
    let rest : piece ≡ take at piece ++ more = grind (arith, common_steps) in
    let all : bytes ++ piece ≡ so_far ++ more = ap (λ xs. bytes ++ xs) rest ∙ sym (append_assoc bytes (take at piece) more) in
    rw all (half_line_grows start so_far more before _ _ c.take-taken.new.self now (c.take-taken.ensures.stands so_far now.stands) ends)
