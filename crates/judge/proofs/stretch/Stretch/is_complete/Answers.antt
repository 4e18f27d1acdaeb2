use Rattle.judge.proofs.Masks.{no-bits}
use Rattle.judge.proofs.TallyCounts.{is-zero, zero-is}
use Rattle.judge.proofs.stretch.Stretch.is_complete.Goals as goal

pub returns-else-self-eq0 : goal.returns-else-self-eq0
returns-else-self-eq0 g c = rw (← c.self.view_is) ((λ zero. absurd (c.if-self-eq0.false (is-zero c.self.inside.lacking zero))), (λ all. zero-is c.self.inside.lacking (no-bits c.self.inside.lacking all.0)))
