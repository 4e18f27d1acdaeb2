use Rattle.node_connections.specs.Clients.{is_connected}
use Rattle.node_service.specs.Deeds.{IsLeaveOfGone}
use Rattle.node_service.proofs.Noting.{did-joins}
use Rattle.node_service.proofs.service.leave_absent.Goals as goal

pub returns-clause-node : goal.returns-clause-node
returns-clause-node g c = did-joins (IsLeaveOfGone (is_connected c.args.clients.now)) c.args.node.now c.leave_lent.new.node c.leave_waiting.new.node c.args.notes.now c.leave_lent.new.notes c.leave_waiting.new.notes c.leave_lent.ensures.node c.leave_waiting.ensures.node
