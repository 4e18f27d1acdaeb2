use Rattle.std.proofs.Common.{◌≡◌, false, ap, subst}
use Rattle.lock_desk.specs.Desk.{is_stranger}
use Rattle.node_connections.specs.Clients.{is_connected}
use Rattle.node_service.specs.Deeds.{IsLeaveOfGone, Leaves}
use Rattle.node_connections.proofs.Lives.{closed-gone}
use Rattle.node_service.proofs.Noting.{did-one}
use Rattle.node_service.proofs.Leaving.{dismissed}
use Rattle.node_service.proofs.service.dismiss.Goals as goal

pub returns-clause-node : goal.returns-clause-node
returns-clause-node g c =
    did-one (IsLeaveOfGone (is_connected c.close.new.self)) (Leaves c.args.ticket) c.args.node.now c.leave.new.node c.args.notes.now c.leave.new.notes
    (closed-gone c.args.ticket c.args.clients.now c.close.new.self c.close.ensures.closed) c.leave.ensures.site c.leave.ensures.state c.leave.ensures.noted

pub returns-clause-connected : goal.returns-clause-connected
returns-clause-connected g c were t known =
    dismissed (is_connected c.args.clients.now) (is_connected c.close.new.self) c.args.node.now.desk.lease c.args.ticket c.args.node.now.desk.state
    c.ranges-known_ranges.ensures.in_range.desk c.close.ensures.closed were t
    (subst (λ d. is_stranger t d ≡ false) (ap (λ s. s.desk) c.leave.ensures.state) known)
