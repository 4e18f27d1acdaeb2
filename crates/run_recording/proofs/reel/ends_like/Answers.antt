use Rattle.std.proofs.Common.{inl}
use Rattle.run_recording.proofs.Stills.{last_may}
use Rattle.run_recording.proofs.reel.ends_like.Goals as goal

pub returns-then-last-moment : goal.returns-then-last-moment
returns-then-last-moment c = λ yes. last_may c.args.stills.now c.args.moment.now _ c.in-len1-up.len_at_least (inl (c.is_like.ensures yes))
