use Rattle.std.proofs.Common.{arith, ap, refl}
use Rattle.std.specs.Prelude.{slice_get}
use Rattle.node_connections.specs.Hearing.{Wires}
use Rattle.node_connections.proofs.Hearing.{both-join, wired-same, wires-join}
use Rattle.node_loop.proofs.Remembering.{remembers-same}
use Rattle.node_loop.proofs.run.NodeRun.connect_to.Goals as goal

pub call_on-requires : goal.call_on-requires
call_on-requires g c = record {
  node = omega (arith, c.is_neighbour.ensures.node c.if-not-is_neighbour.false, ap (λ site. site.ranges.nodes) c.args.self.now.wired);
  neighbour = c.is_neighbour.ensures.neighbour.0 c.if-not-is_neighbour.false;
}

pub go_on_greeting-requires : goal.go_on_greeting-requires
go_on_greeting-requires g c =
    let self = c.args.self.now in
    let within = c.is_neighbour.ensures.node c.if-not-is_neighbour.false in
    record {
      node = rw c.call_on.ensures.rest.0 (omega (arith, within, ap (λ site. site.ranges.nodes) self.wired));
      neighbour = rw c.call_on.ensures.node (c.is_neighbour.ensures.neighbour.0 c.if-not-is_neighbour.false);
    }

pub returns-then-not-is_neighbour : goal.returns-then-not-is_neighbour
returns-then-not-is_neighbour g c = record {
  node = refl;
  wires = (wired-same c.args.self.now.ports.items c.args.id, λ w other. refl);
  pace = remembers-same c.args.self.now.pace;
  rest = (refl, refl, refl, refl);
}

pub returns : goal.returns
returns g c =
    let called = c.call_on.ensures in
    let greeted = c.go_on_greeting.ensures in
    let at_first = slice_get c.args.self.now.ports.items c.args.id in
    let between = slice_get c.call_on.new.self.ports.items c.args.id in
    let at_last = slice_get c.go_on_greeting.new.self.ports.items c.args.id in
    record {
      node = rw greeted.node called.node;
      wires = (
        both-join Wires Wires Wires wires-join at_first between at_last called.wires.0 greeted.wires.0,
        λ w other. rw (greeted.wires.1 w other) (called.wires.1 w other),
      );
      pace = rw called.pace at greeted.pace;
      rest = (
        rw greeted.rest.0 called.rest.0,
        rw greeted.rest.1 called.rest.1,
        rw greeted.rest.2 called.rest.2,
        rw greeted.rest.3 called.rest.3,
      );
    }
