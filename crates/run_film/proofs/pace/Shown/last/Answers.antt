use Rattle.run_film.proofs.Tracks.{last_is}
use Rattle.run_film.proofs.pace.Shown.last.Goals as goal

pub returns-in-len1-up : goal.returns-in-len1-up
returns-in-len1-up c = last_is _ _ _ c.in-len1-up.len_at_least
