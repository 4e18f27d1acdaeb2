use Rattle.std.proofs.Common.{ap, refl}
use Rattle.node_core.proofs.Same.{same_state}
use Rattle.node_core.proofs.node.Node.recompute.Goals as goal

pub invariant_of-self : goal.invariant_of-self
invariant_of-self g c = record {
  id = c.self.invariant.id;
  distance = rw c.new_own-own.ensures.own (c.step_in_range.ensures.distance _ _ _ _);
  parent = rw c.new_own-own.ensures.own (c.step_in_range.ensures.parent _ _ _ _ c.new_own-own.ensures.registers.neighbours_in);
}

pub returns-clause-state : goal.returns-clause-state
returns-clause-state g c =
    let own = c.new_own-own.ensures.own in
    rw (← c.self.view_is) (same_state _ _ (ap (λ p. p.0) own) (ap (λ p. p.1) own) refl refl refl)
