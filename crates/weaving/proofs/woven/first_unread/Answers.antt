use Rattle.std.proofs.Common.{◌≡◌, ◌<◌, ◌+◌, sym, ap, ◌∙◌, subst, length, drop, slice_index, arith}
use Rattle.weaving.specs.Journals.{entries_in, journal_of, unread, IsFirst}
use Rattle.weaving.proofs.FirstSoFar.{first-on, own-journal}
use Rattle.weaving.proofs.Unread.{unread-at}
use Rattle.weaving.proofs.woven.first_unread.Goals as goal

pub loop-node-preserved : goal.loop-node-preserved
loop-node-preserved g c =
    let js = entries_in c.args.journals.now in
    let read = c.args.read.now in
    let n = c.loop-node.node in
    let j = c.index-journals-node.result in
    let there = c.loop-node-test.true in
    let few = c.requires in
    let long = c.told-read in
    let inside : n < length read = omega (arith, there, few, long) in
    let next : journal_of (unread js read) n ≡ drop (slice_index read n) j.entries.items
    = unread-at js read n inside ∙ ap (drop (slice_index read n)) (own-journal c.args.journals.now n j there c.index-journals-node.is) in
    let on = first-on (unread js read) n c.loop-node.first (drop (slice_index read n) j.entries.items) next c.loop-node.invariant in
    subst (IsFirst (unread js read) (n + 1)) (sym c.with_next-first.ensures) on

pub returns : goal.returns
returns g c =
    let n = c.loop-node.node in
    let past = c.loop-node-test.false in
    let within = c.loop-node.auto.node-end in
    let all : n ≡ length c.args.journals.now = omega (arith, past, within) in
    subst (λ k. IsFirst (unread (entries_in c.args.journals.now) c.args.read.now) k c.loop-node.first) all c.loop-node.invariant
