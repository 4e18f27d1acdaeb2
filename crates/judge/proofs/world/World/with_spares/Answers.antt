use Rattle.std.proofs.Common.{◌∙◌, ap, sym}
use Rattle.judge.proofs.world.World.with_spares.Goals as goal

pub invariant_of-result : goal.invariant_of-result
invariant_of-result g c = c.in_ok-new.ensures.nodes ∙ sym (ap (λ w. w.net.nodes) c.in_ok-with_spares.ensures)
