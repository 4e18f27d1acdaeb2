use Rattle.std.proofs.Common.{◌≡◌, sym, subst, length, arith}
use Rattle.record_order.specs.Order.{node_of, IsEarliest}
use Rattle.record_order.proofs.Earliest.{so_far-is}
use Rattle.record_order.proofs.ready.next_ready.Goals as goal

pub returns : goal.returns
returns c =
    let read = c.args.read.now in
    let heads = c.args.heads.now in
    let n = c.loop-node.node in
    let first = c.loop-node.first in
    let all : n ≡ length heads = omega (arith, c.loop-node-test.false, c.loop-node.auto.node-end) in
    let on = so_far-is read heads n first c.loop-node.invariant in
    subst (IsEarliest read heads (length heads)) (sym c.node_of.ensures) (subst (λ k. IsEarliest read heads k (node_of first)) all on)
