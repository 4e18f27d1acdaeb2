use Rattle.std.proofs.Common.{◌∙◌, sym}
use Rattle.node_connections.specs.Clients.{is_connected}
use Rattle.node_service.specs.Deeds.{IsLeaveOfGone, Leaves}
use Rattle.node_service.proofs.Noting.{did-none, did-one}
use Rattle.node_service.proofs.service.leave_lent.Goals as goal

pub returns-then-not-contains-clause-node : goal.returns-then-not-contains-clause-node
returns-then-not-contains-clause-node g c = did-one (IsLeaveOfGone (is_connected c.args.clients.now)) (Leaves c.in-Some.ticket) c.args.node.now c.leave.new.node c.args.notes.now c.leave.new.notes (sym c.contains.ensures ∙ c.if-not-contains.true) c.leave.ensures.site c.leave.ensures.state c.leave.ensures.noted

pub returns-in_default-clause-node : goal.returns-in_default-clause-node
returns-in_default-clause-node g c = did-none (IsLeaveOfGone (is_connected c.args.clients.now)) c.args.node.now c.args.notes.now

pub returns-else-not-contains-clause-node : goal.returns-else-not-contains-clause-node
returns-else-not-contains-clause-node g c = did-none (IsLeaveOfGone (is_connected c.args.clients.now)) c.args.node.now c.args.notes.now
