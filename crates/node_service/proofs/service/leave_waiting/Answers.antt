use Rattle.std.proofs.Common.{◌≡◌, ◌<◌, ◌-◌, ◌∙◌, true, false, length, take, slice_index, ap, sym, subst, arith}
use Rattle.lock_desk.specs.Desk.{after_leave, is_in, is_ticket}
use Rattle.node_connections.specs.Clients.{is_connected}
use Rattle.node_service.specs.Deeds.{IsLeaveOfGone, Leaves}
use Rattle.node_service.proofs.Noting.{did-none, did-one, did-joins}
use Rattle.node_service.proofs.Leaving.{at-place, fewer-from, looked-stay, lent-stays}
use Rattle.node_service.proofs.service.leave_waiting.Goals as goal

pub loop-place-init : goal.loop-place-init
loop-place-init g c = (did-none (IsLeaveOfGone (is_connected c.args.clients.now)) c.args.node.now c.args.notes.now, c.requires, λ u looked. cc)

pub loop-place-smaller : goal.loop-place-smaller
loop-place-smaller g c =
    let d = c.loop-place.node.desk.state in
    let k = c.loop-place.place in
    let within : k < length d.waiting = let w = c.waiting.ensures.waiting in let l = c.loop-place-test.true in omega arith in
    let t = slice_index d.waiting k in
    let state : c.leave.new.node.desk.state ≡ after_leave t d = subst (λ ts. c.leave.new.node.desk.state ≡ after_leave (slice_index ts k) d) c.tickets.ensures (ap (λ s. s.desk) c.leave.ensures.state) in
    subst (λ e. length e.waiting - k < length d.waiting - k) (sym state) (fewer-from t k d (at-place d.waiting k within) within)

pub loop-place-preserved : goal.loop-place-preserved
loop-place-preserved g c =
    let x = c.loop-place.node in
    let y = c.leave.new.node in
    let d = x.desk.state in
    let k = c.loop-place.place in
    let connected = is_connected c.args.clients.now in
    let within : k < length d.waiting = let w = c.waiting.ensures.waiting in let l = c.loop-place-test.true in omega arith in
    let t = slice_index d.waiting k in
    let there = at-place d.waiting k within in
    let absent : connected t ≡ false = sym (subst (λ ts. false ≡ connected (slice_index ts k)) c.tickets.ensures c.if-contains.ensures) in
    let state : y.desk.state ≡ after_leave t d = subst (λ ts. y.desk.state ≡ after_leave (slice_index ts k) d) c.tickets.ensures (ap (λ s. s.desk) c.leave.ensures.state) in
    let n = c.loop-place.notes in
    let m = c.leave.new.notes in
    let left = did-one (IsLeaveOfGone connected) (Leaves (slice_index c.tickets.result.now k)) x y n m (sym c.if-contains.ensures) c.leave.ensures.site c.leave.ensures.state c.leave.ensures.noted in (
      did-joins (IsLeaveOfGone connected) c.args.node.now x y c.args.notes.now n m c.loop-place.invariant.0 left,
      λ u lent. c.loop-place.invariant.1 u (subst (λ l. is_ticket l u ≡ true) (ap (λ e. e.lent) state ∙ lent-stays t d there) lent),
      λ u looked. looked-stay connected t k d absent c.loop-place.invariant.2 there u (subst (λ e. is_in (take k e.waiting) u ≡ true) state looked),
    )
