use Rattle.std.proofs.Common.{rules, arith}
use Rattle.run_recording.proofs.Stills.{opens}
use Rattle.run_recording.proofs.reel.Reel.push.Goals as goal

pub returns-then-is_none-clause-shows : goal.returns-then-is_none-clause-shows
returns-then-is_none-clause-shows g c =
    λ moments h.
    let now = rw (← c.self.view_is) at h in
    opens c.self.inside.crowded c.self.inside.limit c.self.inside.opening c.self.inside.stills.items moments c.args.moment.now (search (rules, arith)) now
