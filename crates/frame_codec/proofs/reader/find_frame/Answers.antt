use Rattle.std.proofs.Common.{rules, ◌≡◌, None, Some, ◌∙◌, sym}
use Rattle.std.specs.Option.{option_flatten}
use Rattle.frame_codec.proofs.SaidFrames.{piece_on}
use Rattle.frame_codec.proofs.reader.find_frame.Goals as goal

pub returns-in-Some-clause-frames : goal.returns-in-Some-clause-frames
returns-in-Some-clause-frames c =
    let said = piece_on c.args.lines.now.0 c.any_cutting.ensures c.args.half.now c.loop-at.half c.take-used.new.self c.args.piece.now c.loop-at.at
    c.take-used.result.used c.take-used.result.line c.loop-at.invariant.0 c.loop-at.invariant.1 c.take-used.ensures.reads in
    let e : option_flatten c.take-used.result.line ≡ Some c.in-Some.frame = sym c.flatten.ensures ∙ c.in-Some.is in
    rw e at said

pub loop-at-preserved : goal.loop-at-preserved
loop-at-preserved c =
    let said = piece_on c.args.lines.now.0 c.any_cutting.ensures c.args.half.now c.loop-at.half c.take-used.new.self c.args.piece.now c.loop-at.at
    c.take-used.result.used c.take-used.result.line c.loop-at.invariant.0 c.loop-at.invariant.1 c.take-used.ensures.reads in
    let e : option_flatten c.take-used.result.line ≡ None = sym c.flatten.ensures ∙ c.in_default.is in
    let none = rw e at said in
    (search rules, none)
