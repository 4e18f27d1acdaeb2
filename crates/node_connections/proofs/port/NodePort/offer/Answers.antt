use Rattle.std.proofs.Common.{◌∷◌, ◌++◌, true, false, refl, []}
use Rattle.byte_lines.specs.Lines.{newline}
use Rattle.socket_links.specs.frame_codec.Spelling.{spelling}
use Rattle.socket_links.specs.declared.link.Offer.TheVariants as offer
use Rattle.node_connections.proofs.Pushing.{goes-on, offered-on, offers-line, stays-on}
use Rattle.node_connections.proofs.port.NodePort.offer.Goals as goal

pub returns-in-Taken-clause-line : goal.returns-in-Taken-clause-line
returns-in-Taken-clause-line g c =
    let taken = rw c.in-Taken.is at c.offer.ensures in
    let line = spelling c.args.frame.now ++ newline ∷ [] in
    goes-on g.P.Pipe.took line c.args.self.now.link c.offer.new.self c.push_out.new.self.link (offered-on g.P.Pipe.took line c.args.self.now.link c.offer.new.self taken) c.push_out.ensures.line

pub returns-in-Busy-clause-line : goal.returns-in-Busy-clause-line
returns-in-Busy-clause-line g c =
    let busy = rw c.in-Busy.is at c.offer.ensures in
    rw busy.2 (stays-on g.P.Pipe.took c.args.self.now.link)

pub returns-in-Loose-clause-line : goal.returns-in-Loose-clause-line
returns-in-Loose-clause-line g c =
    let loose = rw c.in-Loose.is at c.offer.ensures in
    rw loose.1 (stays-on g.P.Pipe.took c.args.self.now.link)

pub returns-in-Taken-clause-offered : goal.returns-in-Taken-clause-offered
returns-in-Taken-clause-offered g c = offers-line g.P.Pipe.gave g.P.Pipe.took g.P.Pipe.counts _ c.args.self.now c.offer.new.self offer.Taken _ true (rw c.in-Taken.is at c.offer.ensures) (c.push_out.ensures.pushed, refl)

pub returns-in-Busy-clause-offered : goal.returns-in-Busy-clause-offered
returns-in-Busy-clause-offered g c = offers-line g.P.Pipe.gave g.P.Pipe.took g.P.Pipe.counts _ c.args.self.now c.offer.new.self offer.Busy _ false (rw c.in-Busy.is at c.offer.ensures) (refl, refl)

pub returns-in-Loose-clause-offered : goal.returns-in-Loose-clause-offered
returns-in-Loose-clause-offered g c = offers-line g.P.Pipe.gave g.P.Pipe.took g.P.Pipe.counts _ c.args.self.now c.offer.new.self offer.Loose _ false (rw c.in-Loose.is at c.offer.ensures) (refl, refl)
