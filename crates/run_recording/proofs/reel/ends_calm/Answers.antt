use Rattle.std.proofs.Common.{◌∙◌, sym, inr}
use Rattle.run_recording.proofs.Stills.{last_may}
use Rattle.run_recording.proofs.reel.ends_calm.Goals as goal

pub returns-in-len1-up : goal.returns-in-len1-up
returns-in-len1-up c = λ yes. last_may c.args.stills.now c.args.moment.now _ c.in-len1-up.len_at_least (inr (sym c.are_calm.ensures ∙ yes))
