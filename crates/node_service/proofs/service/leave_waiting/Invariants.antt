use Rattle.std.proofs.Common.{◌≡◌, ◌-◌, ℕ, true, length, take}
use Rattle.lock_desk.specs.Desk.{is_in, is_ticket}
use Rattle.node_connections.specs.Clients.{is_connected}
use Rattle.node_service.specs.Deeds.{IsLeaveOfGone}
use Rattle.node_service.specs.Noting.{Did}
use Rattle.node_service.proofs.service.leave_waiting.Given as goal

-- some tickets left; the borrower is connected, and so are those that were looked at
abbrev pub invariant-loop-place : goal.invariant-loop-place
invariant-loop-place g l =
    Did (IsLeaveOfGone (is_connected l.clients)) l.fn.node l.node l.fn.notes l.notes
    × ((t : ℕ) → is_ticket l.node.desk.state.lent t ≡ true → is_connected l.clients t ≡ true)
    × ((t : ℕ) → is_in (take l.place l.node.desk.state.waiting) t ≡ true → is_connected l.clients t ≡ true)

abbrev pub decreases-loop-place : goal.decreases-loop-place
decreases-loop-place g l = length l.node.desk.state.waiting - l.place
