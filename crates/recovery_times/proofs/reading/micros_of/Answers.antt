use Rattle.std.proofs.Common.{◌≡◌, ◌∙◌, Some, None, take, ap}
use Rattle.recovery_times.specs.Reading.{point_at, after_point, whole_of, part_of}
use Rattle.recovery_times.proofs.Points.{after-first, no-part, cut-parts}
use Rattle.recovery_times.proofs.reading.micros_of.Goals as goal

pub returns-in_err-part-clause-time : goal.returns-in_err-part-clause-time
returns-in_err-part-clause-time c =
    let word = c.args.word.now in
    let at = c.point_at-point.ensures.at in
    let after = after-first word c.point_at-point.result c.get.result at c.point_at-point.ensures.within c.get.ensures.lookup in
    let whole : Some c.in_ok-whole.whole ≡ whole_of (take (point_at word) word) = rw (← at) c.in_ok-whole.ensures.whole in
    let part : None ≡ part_of (after_point word) = c.in_err-part.ensures.part ∙ ap part_of after in
    c.from_residual-in_err-part.ensures ∙ no-part word c.in_ok-whole.whole whole part

pub returns-clause-time : goal.returns-clause-time
returns-clause-time c =
    c.within_an_hour.ensures.time ∙ cut-parts c.args.word.now _ _ _ _ c.point_at-point.ensures.at c.point_at-point.ensures.within c.get.ensures.lookup
    c.in_ok-whole.ensures.whole c.in_ok-part.ensures.part
