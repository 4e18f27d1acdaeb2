use Rattle.std.proofs.Common.{refl, ap}
use Rattle.std.proofs.lemmas.Result.{IfOk-from_err}
use Rattle.node_core.proofs.Same.{same_state}
use Rattle.node_core.proofs.node.Node.new.Goals as goal

pub returns-in_err-registers : goal.returns-in_err-registers
returns-in_err-registers g c = record { site = IfOk-from_err _ _ c.from_residual.ensures.0; state = IfOk-from_err _ _ c.from_residual.ensures.0 }

pub returns-in_err-desk : goal.returns-in_err-desk
returns-in_err-desk g c = record { site = IfOk-from_err _ _ c.from_residual-in_err-desk.ensures.0; state = IfOk-from_err _ _ c.from_residual-in_err-desk.ensures.0 }

pub returns-clause-state : goal.returns-clause-state
returns-clause-state g c = same_state _ _ c.nodes-distance.ensures.nodes refl c.in_ok-registers.ensures.ports c.in_ok-registers.ensures.values (ap (λ d. d.state) c.in_ok-desk.ensures)
