use Rattle.std.proofs.Common.{◌≡◌, ◌<◌, length, refl, arith}
use Rattle.socket_links.specs.Pipes.{Reads}
use Rattle.socket_links.specs.declared.pipe.ReadAnswer.TheVariants as read
use Rattle.node_connections.proofs.Arrivals.{goes-full, heard-next, line-ends}
use Rattle.node_connections.proofs.lobby.Visitor.listen.Goals as goal

pub returns-in-Got : goal.returns-in-Got
returns-in-Got g c =
    let buffer = c.try_read.new.buffer in
    let one : length buffer ≡ 1 = c.try_read.ensures.len in
    let reads : Reads (read.Got c.in-Got.field-0) buffer (g.P.Pipe.gave c.loop.self.pipe) (g.P.Pipe.gave c.try_read.new.self) (g.P.Pipe.counts c.loop.self.pipe) (g.P.Pipe.counts c.try_read.new.self) =
    rw c.in-Got.is at c.try_read.ensures.reads in
    line-ends g.P.Pipe.gave g.P.Pipe.took c.args.net.now.nodes c.args.self.now c.loop.self _ c.in-Got.field-0 buffer c.arrival.result c.loop.invariant
    reads.0 reads.1 one reads.2 c.try_read.ensures.took c.if-byte-eq10.true c.arrival.ensures

pub returns-in-Got-2 : goal.returns-in-Got-2
returns-in-Got-2 g c =
    let buffer = c.try_read.new.buffer in
    let one : length buffer ≡ 1 = c.try_read.ensures.len in
    let reads : Reads (read.Got c.in-Got.field-0) buffer (g.P.Pipe.gave c.loop.self.pipe) (g.P.Pipe.gave c.try_read.new.self) (g.P.Pipe.counts c.loop.self.pipe) (g.P.Pipe.counts c.try_read.new.self) =
    rw c.in-Got.is at c.try_read.ensures.reads in
    goes-full g.P.Pipe.gave g.P.Pipe.took c.args.net.now.nodes c.args.self.now c.loop.self _ c.in-Got.field-0 buffer c.loop.invariant
    reads.0 reads.1 one reads.2 c.try_read.ensures.took

pub loop-preserved : goal.loop-preserved
loop-preserved g c =
    let buffer = c.try_read.new.buffer in
    let one : length buffer ≡ 1 = c.try_read.ensures.len in
    let reads : Reads (read.Got c.in-Got.field-0) buffer (g.P.Pipe.gave c.loop.self.pipe) (g.P.Pipe.gave c.try_read.new.self) (g.P.Pipe.counts c.loop.self.pipe) (g.P.Pipe.counts c.try_read.new.self) =
    rw c.in-Got.is at c.try_read.ensures.reads in
    let within = c.loop.self.within in
    let other = c.if-self-eq-HELLO.false in
    let room : c.loop.self.count < length c.loop.self.line = omega (arith, within.0, within.1, other) in
    heard-next g.P.Pipe.gave g.P.Pipe.took c.args.self.now c.loop.self _ c.in-Got.field-0 buffer c.loop.invariant
    reads.0 reads.1 one reads.2 c.try_read.ensures.took room refl refl refl
