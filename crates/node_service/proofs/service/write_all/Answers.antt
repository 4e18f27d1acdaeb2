use Rattle.std.proofs.Common.{◌∙◌, arith, refl, sym, []}
use Rattle.std.proofs.lemmas.Bool.{eqb-true}
use Rattle.slab.specs.Slab.{get}
use Rattle.node_connections.specs.Clients.{answers_of, is_connected}
use Rattle.node_service.specs.Deeds.{IsLeaveOfGone}
use Rattle.node_service.proofs.Noting.{did-joins, did-none}
use Rattle.node_connections.proofs.Lives.{stay, live-one, live-join, live-gone, others-join, closed-gone, nobody}
use Rattle.node_connections.proofs.GoingOut.{below-all, below-next, below-start, out-gone, out-of_none}
use Rattle.node_connections.proofs.Heard.{unheard-gone, unheard-join, unheard-same}
use Rattle.node_connections.proofs.Saying.{answers-same, nothing-gone, nothing-join, nothing-same}
use Rattle.node_connections.proofs.Served.{ends-failed, ends-join, ends-same}
use Rattle.node_service.proofs.Serving.{did-later}
use Rattle.node_connections.proofs.Serving.{stays-gone}
use Rattle.node_service.proofs.service.write_all.Goals.{then-not-write, else-not-write}
use Rattle.node_service.proofs.service.write_all.Goals as goal

pub loop-ticket-init : goal.loop-ticket-init
loop-ticket-init g c = (
  did-none (IsLeaveOfGone (is_connected c.args.clients.now)) c.args.node.now c.args.notes.now,
  λ were. were,
  stay g.P.Pipe.gave g.P.Pipe.took g.P.Pipe.counts c.args.clients.now c.args.clients.now refl,
  nothing-same g.P.Pipe.took c.args.clients.now c.args.clients.now refl refl,
  below-start g.P.Pipe.counts c.args.clients.now,
  unheard-same g.P.Pipe.gave c.args.clients.now c.args.clients.now refl,
  ends-same g.P.Pipe.gave g.P.Pipe.took g.P.Pipe.counts c.args.clients.now c.args.clients.now (λ t. refl),
)

pub loop-ticket-preserved : goal.loop-ticket-preserved
loop-ticket-preserved g c =
    let old = c.args.clients.now in
    let mid = c.loop-ticket.clients in
    let written = c.write.new.self in
    let t = c.loop-ticket.ticket in
    let before = c.loop-ticket.invariant in
    elim c.if-not-write.branch [
      | then-not-write w ↦ rw (w.node-is, w.notes-is, w.clients-is) (
        did-joins (IsLeaveOfGone (is_connected w.dismiss.new.clients)) c.args.node.now c.loop-ticket.node w.dismiss.new.node c.args.notes.now c.loop-ticket.notes w.dismiss.new.notes
            (did-later (is_connected mid) (is_connected w.dismiss.new.clients)
            (λ u. stays-gone g.P.Pipe.took [] u mid w.dismiss.new.clients
            (nothing-gone g.P.Pipe.took t mid w.dismiss.new.clients (others-join t mid written w.dismiss.new.clients c.write.ensures.others_stay w.dismiss.ensures.others)
            (λ v o. answers-same g.P.Pipe.took written w.dismiss.new.clients w.dismiss.ensures.answers v ∙ c.write.ensures.others v o)
            (closed-gone t written w.dismiss.new.clients w.dismiss.ensures.closed) u))
            c.args.node.now c.loop-ticket.node c.args.notes.now c.loop-ticket.notes before.0)
            w.dismiss.ensures.node,
        λ were. w.dismiss.ensures.connected (λ u known. c.write.ensures.same u ∙ before.1 were u known),
        live-join g.P.Pipe.gave g.P.Pipe.took g.P.Pipe.counts old mid w.dismiss.new.clients before.2
            (live-gone g.P.Pipe.gave g.P.Pipe.took g.P.Pipe.counts t mid w.dismiss.new.clients (others-join t mid written w.dismiss.new.clients c.write.ensures.others_stay w.dismiss.ensures.others)
            (closed-gone t written w.dismiss.new.clients w.dismiss.ensures.closed)),
        nothing-join g.P.Pipe.took old mid w.dismiss.new.clients before.3
            (nothing-gone g.P.Pipe.took t mid w.dismiss.new.clients (others-join t mid written w.dismiss.new.clients c.write.ensures.others_stay w.dismiss.ensures.others)
            (λ u o. answers-same g.P.Pipe.took written w.dismiss.new.clients w.dismiss.ensures.answers u ∙ c.write.ensures.others u o)
            (closed-gone t written w.dismiss.new.clients w.dismiss.ensures.closed)),
        below-next g.P.Pipe.counts t old mid w.dismiss.new.clients before.4
            (others-join t mid written w.dismiss.new.clients c.write.ensures.others_stay w.dismiss.ensures.others)
            (λ u o. answers-same g.P.Pipe.took written w.dismiss.new.clients w.dismiss.ensures.answers u ∙ c.write.ensures.others u o)
            (out-gone g.P.Pipe.counts (get mid.table t) (get w.dismiss.new.clients.table t) (answers_of mid t) (answers_of w.dismiss.new.clients t)
            (nobody (get w.dismiss.new.clients.table t) (closed-gone t written w.dismiss.new.clients w.dismiss.ensures.closed))),
        unheard-join g.P.Pipe.gave old mid w.dismiss.new.clients before.5
            (unheard-gone g.P.Pipe.gave t mid w.dismiss.new.clients (others-join t mid written w.dismiss.new.clients c.write.ensures.others_stay w.dismiss.ensures.others)
            (closed-gone t written w.dismiss.new.clients w.dismiss.ensures.closed)),
        ends-join g.P.Pipe.gave g.P.Pipe.took g.P.Pipe.counts old mid w.dismiss.new.clients before.2 before.6
            (ends-failed g.P.Pipe.gave g.P.Pipe.took g.P.Pipe.counts t mid written w.dismiss.new.clients (w.if-not-write.ensures.failed refl)
            (others-join t mid written w.dismiss.new.clients c.write.ensures.others_stay w.dismiss.ensures.others)
            (closed-gone t written w.dismiss.new.clients w.dismiss.ensures.closed)),
      )
      | else-not-write w ↦ rw (w.node-is, w.notes-is, w.clients-is) (
        did-later (is_connected mid) (is_connected written) (λ u. stays-gone g.P.Pipe.took [] u mid written (w.if-not-write.ensures.nothing refl u))
            c.args.node.now c.loop-ticket.node c.args.notes.now c.loop-ticket.notes before.0,
        λ were u known. c.write.ensures.same u ∙ before.1 were u known,
        live-join g.P.Pipe.gave g.P.Pipe.took g.P.Pipe.counts old mid written before.2 (live-one g.P.Pipe.gave g.P.Pipe.took g.P.Pipe.counts t mid written c.write.ensures.others_stay (w.if-not-write.ensures.lives refl)),
        nothing-join g.P.Pipe.took old mid written before.3 (w.if-not-write.ensures.nothing refl),
        below-next g.P.Pipe.counts t old mid written before.4 c.write.ensures.others_stay c.write.ensures.others (w.if-not-write.ensures.out refl),
        unheard-join g.P.Pipe.gave old mid written before.5 c.write.ensures.heard,
        ends-join g.P.Pipe.gave g.P.Pipe.took g.P.Pipe.counts old mid written before.2 before.6 (ends-same g.P.Pipe.gave g.P.Pipe.took g.P.Pipe.counts mid written c.write.ensures.same),
      )
    ]

pub returns-then-is_empty-clause-node : goal.returns-then-is_empty-clause-node
returns-then-is_empty-clause-node g c = did-none (IsLeaveOfGone (is_connected c.args.clients.now)) c.args.node.now c.args.notes.now

pub returns-then-is_empty-clause-out : goal.returns-then-is_empty-clause-out
returns-then-is_empty-clause-out g c = out-of_none g.P.Pipe.counts c.args.clients.now c.args.clients.now (eqb-true _ 0 (sym c.is_empty.ensures ∙ c.if-is_empty.true))

pub returns-clause-out : goal.returns-clause-out
returns-clause-out g c = below-all g.P.Pipe.counts c.loop-ticket.ticket c.args.clients.now c.loop-ticket.clients (let end = c.loop-ticket-test.false in omega arith) c.args.clients.now.answers_are c.loop-ticket.invariant.4

pub returns-then-is_empty-clause-heard : goal.returns-then-is_empty-clause-heard
returns-then-is_empty-clause-heard g c = unheard-same g.P.Pipe.gave c.args.clients.now c.args.clients.now refl

pub returns-then-is_empty-clause-ends : goal.returns-then-is_empty-clause-ends
returns-then-is_empty-clause-ends g c = ends-same g.P.Pipe.gave g.P.Pipe.took g.P.Pipe.counts c.args.clients.now c.args.clients.now (λ t. refl)
