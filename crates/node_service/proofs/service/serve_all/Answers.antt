use Rattle.std.proofs.Common.{◌∙◌, arith, refl, sym}
use Rattle.std.proofs.lemmas.Bool.{eqb-true}
use Rattle.slab.specs.Slab.{get}
use Rattle.node_connections.specs.Said.{IsServed}
use Rattle.node_connections.proofs.BeingRead.{all-of_none, read-gone, read-next, read-start}
use Rattle.node_connections.proofs.Heard.{unheard-same}
use Rattle.node_connections.proofs.Lives.{stay, live-join, nobody}
use Rattle.node_connections.proofs.Saying.{nothing-same}
use Rattle.node_connections.proofs.Served.{served-both, served-none}
use Rattle.node_service.proofs.Pieces.{gave-all, gave-next, gave-nobody, gave-skip, gave-start}
use Rattle.node_service.proofs.Serving.{serves-join, serves-none}
use Rattle.node_service.proofs.service.serve_all.Goals.{then-contains, else-contains}
use Rattle.node_service.proofs.service.serve_all.Goals as goal

pub loop-ticket-init : goal.loop-ticket-init
loop-ticket-init g c =
    let clients = c.args.clients.now in (
      serves-none g.P.Pipe.took (IsServed g.P.Pipe.gave g.P.Pipe.took g.P.Pipe.counts clients clients) c.args.node.now c.args.notes.now clients clients
          (served-none g.P.Pipe.gave g.P.Pipe.took g.P.Pipe.counts clients clients (unheard-same g.P.Pipe.gave clients clients refl) (λ t. refl) refl) (nothing-same g.P.Pipe.took clients clients refl refl),
      stay g.P.Pipe.gave g.P.Pipe.took g.P.Pipe.counts clients clients refl,
      read-start g.P.Pipe.gave g.P.Pipe.took g.P.Pipe.counts clients,
      gave-start g.P.Pipe.gave g.P.Pipe.took g.P.Pipe.counts clients,
    )

pub loop-ticket-preserved : goal.loop-ticket-preserved
loop-ticket-preserved g c =
    let old = c.args.clients.now in
    let mid = c.loop-ticket.clients in
    let t = c.loop-ticket.ticket in
    elim c.if-contains.branch [
      | then-contains w ↦
          let new = w.serve-has_more.new.clients in
          rw (w.node-is, w.notes-is, w.clients-is, w.has_more-is) (
            serves-join g.P.Pipe.took (IsServed g.P.Pipe.gave g.P.Pipe.took g.P.Pipe.counts old mid) (IsServed g.P.Pipe.gave g.P.Pipe.took g.P.Pipe.counts mid new) (IsServed g.P.Pipe.gave g.P.Pipe.took g.P.Pipe.counts old new)
                (served-both g.P.Pipe.gave g.P.Pipe.took g.P.Pipe.counts old mid new c.loop-ticket.invariant.1)
                c.args.node.now c.loop-ticket.node w.serve-has_more.new.node c.args.notes.now c.loop-ticket.notes w.serve-has_more.new.notes old mid new
                c.loop-ticket.invariant.0 w.serve-has_more.ensures.serves,
            live-join g.P.Pipe.gave g.P.Pipe.took g.P.Pipe.counts old mid new c.loop-ticket.invariant.1 w.serve-has_more.ensures.lives,
            read-next g.P.Pipe.gave g.P.Pipe.took g.P.Pipe.counts t old mid new c.loop-ticket.invariant.2 c.loop-ticket.invariant.1 w.serve-has_more.ensures.lives w.serve-has_more.ensures.reads,
            gave-next g.P.Pipe.gave g.P.Pipe.took g.P.Pipe.counts t c.loop-ticket.has_more w.serve-has_more.result old mid new c.loop-ticket.invariant.3 w.serve-has_more.ensures.piece w.serve-has_more.ensures.others,
          )
      | else-contains w ↦ rw (w.node-is, w.notes-is, w.clients-is, w.has_more-is) (
        c.loop-ticket.invariant.0,
        c.loop-ticket.invariant.1,
        read-next g.P.Pipe.gave g.P.Pipe.took g.P.Pipe.counts t old mid mid c.loop-ticket.invariant.2 c.loop-ticket.invariant.1
            (stay g.P.Pipe.gave g.P.Pipe.took g.P.Pipe.counts mid mid refl)
            (read-gone g.P.Pipe.gave g.P.Pipe.took g.P.Pipe.counts (get mid.table t) (get mid.table t) (nobody (get mid.table t) (sym c.contains.ensures ∙ w.if-contains.false))),
        gave-skip g.P.Pipe.gave g.P.Pipe.took g.P.Pipe.counts t c.loop-ticket.has_more old mid c.loop-ticket.invariant.3 (nobody (get mid.table t) (sym c.contains.ensures ∙ w.if-contains.false)),
      )
    ]

pub returns-then-is_empty-clause-serves : goal.returns-then-is_empty-clause-serves
returns-then-is_empty-clause-serves g c =
    let clients = c.args.clients.now in
    serves-none g.P.Pipe.took (IsServed g.P.Pipe.gave g.P.Pipe.took g.P.Pipe.counts clients clients) c.args.node.now c.args.notes.now clients clients
    (served-none g.P.Pipe.gave g.P.Pipe.took g.P.Pipe.counts clients clients (unheard-same g.P.Pipe.gave clients clients refl) (λ t. refl) refl) (nothing-same g.P.Pipe.took clients clients refl refl)

pub returns-then-is_empty-clause-reads : goal.returns-then-is_empty-clause-reads
returns-then-is_empty-clause-reads g c = all-of_none g.P.Pipe.gave g.P.Pipe.took g.P.Pipe.counts c.args.clients.now (eqb-true _ 0 (sym c.is_empty.ensures ∙ c.if-is_empty.true))

pub returns-clause-reads : goal.returns-clause-reads
returns-clause-reads g c t few = c.loop-ticket.invariant.2 t (let end = c.loop-ticket-test.false in omega (arith, few, end))

pub returns-then-is_empty-clause-pieces : goal.returns-then-is_empty-clause-pieces
returns-then-is_empty-clause-pieces g c = gave-nobody g.P.Pipe.gave g.P.Pipe.took g.P.Pipe.counts c.args.clients.now (eqb-true _ 0 (sym c.is_empty.ensures ∙ c.if-is_empty.true))

pub returns-clause-pieces : goal.returns-clause-pieces
returns-clause-pieces g c =
    let end = c.loop-ticket-test.false in
    gave-all g.P.Pipe.gave g.P.Pipe.took g.P.Pipe.counts c.loop-ticket.ticket c.loop-ticket.has_more c.args.clients.now c.loop-ticket.clients (omega (arith, end)) c.loop-ticket.invariant.3
