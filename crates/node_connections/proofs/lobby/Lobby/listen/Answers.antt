use Rattle.std.proofs.Common.{◌≡◌, Some, subst}
use Rattle.slab.specs.Slab.{get}
use Rattle.node_connections.specs.declared.lobby.Arrival.TheVariants as arrival
use Rattle.node_connections.specs.Arrivals.{HasSaid, Listened}
use Rattle.node_connections.proofs.Arrivals.{taken-out}
use Rattle.node_connections.proofs.lobby.Lobby.listen.Goals as goal

pub returns-in_ok-visitor-in-Is-clause-said : goal.returns-in_ok-visitor-in-Is-clause-said
returns-in_ok-visitor-in-Is-clause-said g c =
    let visitors = c.args.self.now.visitors in
    let old = c.in_ok-get_mut.field-0.now in
    let new = c.listen.new.self in
    let out = c.in_ok-visitor-in-Is.visitor in
    let there : Some old ≡ get visitors c.args.place = c.in_ok-get_mut.ensures.value in
    let heard : Listened g.P.Pipe.gave g.P.Pipe.took c.args.net.now.nodes old new (arrival.Is c.in-Is.id) = rw c.in-Is.is at c.listen.ensures in (
      subst (λ v. HasSaid g.P.Pipe.gave g.P.Pipe.took c.args.net.now.nodes v c.in-Is.id out.pipe) there
          (new, taken-out visitors c.args.place old new out there c.in_ok-visitor-in-Is.ensures.value, heard),
      c.try_remove.ensures.updates.changed,
    )
