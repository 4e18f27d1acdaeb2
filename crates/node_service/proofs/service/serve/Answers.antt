use Rattle.std.proofs.Common.{◌≡◌, ◌∙◌, ◌++◌, ℕ, List, take, false, refl, sym, subst, []}
use Rattle.slab.specs.Slab.{get}
use Rattle.lock_desk.specs.declared.client_line.ClientLine.{ClientLine}
use Rattle.node_connections.specs.Clients.{is_connected}
use Rattle.node_connections.specs.Lives.{LiveOn, OthersStay}
use Rattle.node_connections.specs.Said.{IsServed, IsServedAlone}
use Rattle.node_connections.proofs.BeingRead.{read-gone, read-here, read-then}
use Rattle.node_connections.proofs.Heard.{heard-got, heard-later, unheard-one}
use Rattle.node_connections.proofs.Lives.{got-at, later-at, live-one, live-join, live-gone, others-join, closed-gone, nobody}
use Rattle.node_connections.proofs.Saying.{answers-same, nothing-read}
use Rattle.node_connections.proofs.Served.{served-all, served-none}
use Rattle.node_service.proofs.Pieces.{piece-gone, piece-got, piece-later}
use Rattle.node_service.proofs.Serving.{serves-gone, serves-join, serves-none}
use Rattle.node_service.proofs.service.serve.Given as given
use Rattle.node_service.proofs.service.serve.Goals as goal

-- what a read gave, or that it gave nothing yet, is all that changed of the clients
module _ (g : given.Over) (c : goal.After-serve_bytes g) where
  got-lives : LiveOn g.P.Pipe.gave g.P.Pipe.took g.P.Pipe.counts c.args.clients.now c.read.new.self
  got-lives =
      live-one g.P.Pipe.gave g.P.Pipe.took g.P.Pipe.counts c.args.ticket c.args.clients.now c.read.new.self c.read.ensures.others
      (got-at g.P.Pipe.gave g.P.Pipe.took g.P.Pipe.counts c.in-Got.count c.read.new.bytes (get c.args.clients.now.table c.args.ticket) (get c.read.new.self.table c.args.ticket) (rw c.in-Got.is at c.read.ensures.reads))

-- a client that closed is gone after one more write, and all others are as before
module _ (g : given.Over) (c : goal.After-dismiss g) where
  closed-others : OthersStay c.args.ticket c.args.clients.now c.dismiss.new.clients
  closed-others =
      let written = c.write-written.new.self in
      others-join c.args.ticket c.args.clients.now written c.dismiss.new.clients
      (others-join c.args.ticket c.args.clients.now c.read.new.self written c.read.ensures.others c.write-written.ensures.others_stay) c.dismiss.ensures.others

  is-closed : is_connected c.dismiss.new.clients c.args.ticket ≡ false
  is-closed = closed-gone c.args.ticket c.write-written.new.self c.dismiss.new.clients c.dismiss.ensures.closed

-- and so is one whose read failed
module _ (g : given.Over) (c : goal.After-dismiss-in-Failed g) where
  failed-others : OthersStay c.args.ticket c.args.clients.now c.dismiss-in-Failed.new.clients
  failed-others = others-join c.args.ticket c.args.clients.now c.read.new.self c.dismiss-in-Failed.new.clients c.read.ensures.others c.dismiss-in-Failed.ensures.others

  has-failed : is_connected c.dismiss-in-Failed.new.clients c.args.ticket ≡ false
  has-failed = closed-gone c.args.ticket c.read.new.self c.dismiss-in-Failed.new.clients c.dismiss-in-Failed.ensures.closed

pub returns-in-Got-clause-lives : goal.returns-in-Got-clause-lives
returns-in-Got-clause-lives g c = live-join g.P.Pipe.gave g.P.Pipe.took g.P.Pipe.counts c.args.clients.now c.read.new.self c.serve_bytes.new.clients (got-lives g c) c.serve_bytes.ensures.lives

pub returns-in-Later-clause-lives : goal.returns-in-Later-clause-lives
returns-in-Later-clause-lives g c =
    let old = c.args.clients.now in
    let mid = c.read.new.self in
    let t = c.args.ticket in
    live-one g.P.Pipe.gave g.P.Pipe.took g.P.Pipe.counts t old mid c.read.ensures.others
    (later-at g.P.Pipe.gave g.P.Pipe.took g.P.Pipe.counts c.read.new.bytes (get old.table t) (get mid.table t) (rw c.in-Later.is at c.read.ensures.reads))

pub returns-in-Closed-clause-lives : goal.returns-in-Closed-clause-lives
returns-in-Closed-clause-lives g c = live-gone g.P.Pipe.gave g.P.Pipe.took g.P.Pipe.counts c.args.ticket c.args.clients.now c.dismiss.new.clients (closed-others g c) (is-closed g c)

pub returns-in-Failed-clause-lives : goal.returns-in-Failed-clause-lives
returns-in-Failed-clause-lives g c = live-gone g.P.Pipe.gave g.P.Pipe.took g.P.Pipe.counts c.args.ticket c.args.clients.now c.dismiss-in-Failed.new.clients (failed-others g c) (has-failed g c)

pub returns-in-Got-clause-serves : goal.returns-in-Got-clause-serves
returns-in-Got-clause-serves g c =
    let old = c.args.clients.now in
    let mid = c.read.new.self in
    let new = c.serve_bytes.new.clients in
    let t = c.args.ticket in
    let n = c.in-Got.count in
    let bytes = take n c.read.new.bytes in
    let served = served-all g.P.Pipe.gave g.P.Pipe.took g.P.Pipe.counts t bytes old mid new
    (got-lives g c)
    (heard-got g.P.Pipe.gave g.P.Pipe.took g.P.Pipe.counts n c.read.new.bytes (get old.table t) (get mid.table t) (rw c.in-Got.is at c.read.ensures.reads) c.read.ensures.reader)
    c.read.ensures.others c.read.ensures.same c.read.ensures.answers in
    let none : ℕ → List ClientLine → List ℕ → Type 0 = λ u lines answers. (lines ≡ []) × (answers ≡ []) in
    serves-join g.P.Pipe.took none (IsServedAlone g.P.Pipe.gave g.P.Pipe.took g.P.Pipe.counts mid new t bytes) (IsServed g.P.Pipe.gave g.P.Pipe.took g.P.Pipe.counts old new)
    (λ u xs ys ps qs e f.
    subst (λ lines. IsServed g.P.Pipe.gave g.P.Pipe.took g.P.Pipe.counts old new u (lines ++ ys) (ps ++ qs)) (sym e.0)
    (subst (λ answers. IsServed g.P.Pipe.gave g.P.Pipe.took g.P.Pipe.counts old new u ys (answers ++ qs)) (sym e.1) (served u ys qs f)))
    c.args.node.now c.args.node.now c.serve_bytes.new.node c.args.notes.now c.args.notes.now c.serve_bytes.new.notes old mid new
    (serves-none g.P.Pipe.took none c.args.node.now c.args.notes.now old mid (λ u. (refl, refl))
    (nothing-read g.P.Pipe.took g.P.Pipe.gave g.P.Pipe.counts c.read.result c.read.new.bytes t old mid c.read.ensures.reads c.read.ensures.others c.read.ensures.answers))
    c.serve_bytes.ensures.serves

pub returns-in-Later-clause-serves : goal.returns-in-Later-clause-serves
returns-in-Later-clause-serves g c =
    let old = c.args.clients.now in
    let mid = c.read.new.self in
    let t = c.args.ticket in
    serves-none g.P.Pipe.took (IsServed g.P.Pipe.gave g.P.Pipe.took g.P.Pipe.counts old mid) c.args.node.now c.args.notes.now old mid
    (served-none g.P.Pipe.gave g.P.Pipe.took g.P.Pipe.counts old mid
    (unheard-one g.P.Pipe.gave t old mid c.read.ensures.others
    (heard-later g.P.Pipe.gave g.P.Pipe.took g.P.Pipe.counts c.read.new.bytes (get old.table t) (get mid.table t) (rw c.in-Later.is at c.read.ensures.reads) c.read.ensures.reader))
    c.read.ensures.same c.read.ensures.answers)
    (nothing-read g.P.Pipe.took g.P.Pipe.gave g.P.Pipe.counts c.read.result c.read.new.bytes t old mid c.read.ensures.reads c.read.ensures.others c.read.ensures.answers)

pub returns-in-Closed-clause-serves : goal.returns-in-Closed-clause-serves
returns-in-Closed-clause-serves g c =
    let old = c.args.clients.now in
    let read = c.read.new.self in
    let written = c.write-written.new.self in
    let new = c.dismiss.new.clients in
    serves-gone g.P.Pipe.gave g.P.Pipe.took g.P.Pipe.counts c.args.ticket c.read.result c.read.new.bytes old read new c.args.node.now c.dismiss.new.node c.args.notes.now c.dismiss.new.notes (rw c.in-Closed.is tt) c.read.ensures.reads (closed-others g c)
    (λ u o. answers-same g.P.Pipe.took written new c.dismiss.ensures.answers u ∙ (c.write-written.ensures.others u o ∙ answers-same g.P.Pipe.took old read c.read.ensures.answers u))
    (is-closed g c) c.dismiss.ensures.node

pub returns-in-Failed-clause-serves : goal.returns-in-Failed-clause-serves
returns-in-Failed-clause-serves g c =
    let old = c.args.clients.now in
    let read = c.read.new.self in
    let new = c.dismiss-in-Failed.new.clients in
    serves-gone g.P.Pipe.gave g.P.Pipe.took g.P.Pipe.counts c.args.ticket c.read.result c.read.new.bytes old read new c.args.node.now c.dismiss-in-Failed.new.node c.args.notes.now c.dismiss-in-Failed.new.notes (rw c.in-Failed.is tt) c.read.ensures.reads (failed-others g c)
    (λ u o. answers-same g.P.Pipe.took read new c.dismiss-in-Failed.ensures.answers u ∙ answers-same g.P.Pipe.took old read c.read.ensures.answers u)
    (has-failed g c) c.dismiss-in-Failed.ensures.node

pub returns-in-Got-clause-reads : goal.returns-in-Got-clause-reads
returns-in-Got-clause-reads g c =
    let old = get c.args.clients.now.table c.args.ticket in
    let mid = get c.read.new.self.table c.args.ticket in
    read-then g.P.Pipe.gave g.P.Pipe.took g.P.Pipe.counts old mid (get c.serve_bytes.new.clients.table c.args.ticket)
    (read-here g.P.Pipe.gave g.P.Pipe.took g.P.Pipe.counts c.read.result c.read.new.bytes old mid (rw c.in-Got.is tt) c.read.ensures.reads)
    (c.serve_bytes.ensures.lives c.args.ticket)

pub returns-in-Later-clause-reads : goal.returns-in-Later-clause-reads
returns-in-Later-clause-reads g c =
    let old = c.args.clients.now in
    let mid = c.read.new.self in
    let t = c.args.ticket in
    read-here g.P.Pipe.gave g.P.Pipe.took g.P.Pipe.counts c.read.result c.read.new.bytes (get old.table t) (get mid.table t) (rw c.in-Later.is tt) c.read.ensures.reads

pub returns-in-Closed-clause-reads : goal.returns-in-Closed-clause-reads
returns-in-Closed-clause-reads g c =
    let now = get c.dismiss.new.clients.table c.args.ticket in
    read-gone g.P.Pipe.gave g.P.Pipe.took g.P.Pipe.counts (get c.args.clients.now.table c.args.ticket) now (nobody now (is-closed g c))

pub returns-in-Failed-clause-reads : goal.returns-in-Failed-clause-reads
returns-in-Failed-clause-reads g c =
    let now = get c.dismiss-in-Failed.new.clients.table c.args.ticket in
    read-gone g.P.Pipe.gave g.P.Pipe.took g.P.Pipe.counts (get c.args.clients.now.table c.args.ticket) now (nobody now (has-failed g c))

pub returns-in-Got-clause-piece : goal.returns-in-Got-clause-piece
returns-in-Got-clause-piece g c =
    let t = c.args.ticket in
    let n = c.in-Got.count in
    let new = c.serve_bytes.new.clients in
    let served = c.serve_bytes.ensures.serves in
    let heard = (served.lines_are t).0.0 refl in
    piece-got g.P.Pipe.gave g.P.Pipe.took g.P.Pipe.counts n c.read.new.bytes (take n c.read.new.bytes) _ (get c.args.clients.now.table t) (get c.read.new.self.table t) (get new.table t)
    (rw c.in-Got.is at c.read.ensures.within) (rw c.in-Got.is at c.read.ensures.reads) heard

pub returns-in-Later-clause-piece : goal.returns-in-Later-clause-piece
returns-in-Later-clause-piece g c =
    let t = c.args.ticket in
    piece-later g.P.Pipe.gave g.P.Pipe.took g.P.Pipe.counts c.read.new.bytes (get c.args.clients.now.table t) (get c.read.new.self.table t) (rw c.in-Later.is at c.read.ensures.reads)

pub returns-in-Closed-clause-piece : goal.returns-in-Closed-clause-piece
returns-in-Closed-clause-piece g c =
    let t = c.args.ticket in
    let now = get c.dismiss.new.clients.table t in
    piece-gone g.P.Pipe.gave g.P.Pipe.took g.P.Pipe.counts c.read.result c.read.new.bytes (get c.args.clients.now.table t) (get c.read.new.self.table t) now (rw c.in-Closed.is tt) c.read.ensures.reads (nobody now (is-closed g c))

pub returns-in-Failed-clause-piece : goal.returns-in-Failed-clause-piece
returns-in-Failed-clause-piece g c =
    let t = c.args.ticket in
    let now = get c.dismiss-in-Failed.new.clients.table t in
    piece-gone g.P.Pipe.gave g.P.Pipe.took g.P.Pipe.counts c.read.result c.read.new.bytes (get c.args.clients.now.table t) (get c.read.new.self.table t) now (rw c.in-Failed.is tt) c.read.ensures.reads (nobody now (has-failed g c))

pub returns-in-Got-clause-others : goal.returns-in-Got-clause-others
returns-in-Got-clause-others g c = others-join c.args.ticket c.args.clients.now c.read.new.self c.serve_bytes.new.clients c.read.ensures.others c.serve_bytes.ensures.others

pub returns-in-Later-clause-others : goal.returns-in-Later-clause-others
returns-in-Later-clause-others g c = c.read.ensures.others

pub returns-in-Closed-clause-others : goal.returns-in-Closed-clause-others
returns-in-Closed-clause-others g c = closed-others g c

pub returns-in-Failed-clause-others : goal.returns-in-Failed-clause-others
returns-in-Failed-clause-others g c = failed-others g c
