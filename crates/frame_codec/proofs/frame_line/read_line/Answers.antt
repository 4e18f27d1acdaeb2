use Rattle.std.proofs.Common.{sym, ◌∙◌, refl}
use Rattle.frame_codec.proofs.Readings.{unread, read_as}
use Rattle.frame_codec.proofs.frame_line.read_line.Goals as goal

pub returns-in_err-frame : goal.returns-in_err-frame
returns-in_err-frame c = c.from_residual.ensures ∙ sym (unread c.args.ranges.now c.args.line.now c.in_err-frame.ensures.none)

pub returns-then-fits : goal.returns-then-fits
returns-then-fits c =
    let (e, same) = c.in_ok-frame.ensures.some in
    rw (read_as c.args.ranges.now c.args.line.now c.in_ok-frame.frame e same, ← c.if-fits.ensures) refl

pub returns-else-fits : goal.returns-else-fits
returns-else-fits c =
    let (e, same) = c.in_ok-frame.ensures.some in
    rw (read_as c.args.ranges.now c.args.line.now c.in_ok-frame.frame e same, ← c.if-fits.ensures) refl
