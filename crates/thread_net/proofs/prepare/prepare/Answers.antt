use Rattle.std.proofs.Common.{rules, sym, refl, subst, ◌≡◌, ◌∙◌}
use Rattle.topology.specs.Network.{IsAcceptedNetwork}
use Rattle.judge.specs.configuration.ConfigurationView.{world_of}
use Rattle.thread_net.specs.Seats.{AreShort}
use Rattle.thread_net.specs.Tables.{AreEmptySeats}
use Rattle.thread_net.proofs.Starting.{short-nodes, all-at-start}
use Rattle.thread_net.proofs.prepare.prepare.Goals as goal

pub furnish-requires-clause-short : goal.furnish-requires-clause-short
furnish-requires-clause-short g c =
    let net = c.args.parts.links.net in
    let accepted : IsAcceptedNetwork net = subst IsAcceptedNetwork c.net.ensures.net c.nodes.ensures.network in
    subst AreShort (sym c.seat_all.ensures.nodes) (short-nodes net c.args.parts.nodes.items accepted.limits.most c.requires.parts.nodes_are)

pub returns-in-Ok-furnish-clause-ready : goal.returns-in-Ok-furnish-clause-ready
returns-in-Ok-furnish-clause-ready g c =
    let w = world_of (record { nodes = c.args.parts.nodes.items; links = c.args.parts.links }) in
    let same = c.furnish.ensures.nodes ∙ c.seat_all.ensures.nodes in
    let start =
    all-at-start c.args.parts.nodes.items c.args.parts.links c.args.turns c.furnish.new.runners.items c.requires.parts.nodes_are same c.in-Ok-furnish.ensures.new c.in-Ok-furnish.ensures.room
    (c.in-Ok-furnish.ensures.furnished w (refl, refl)) in
    let count : c.from-count.result ≡ c.args.parts.links.net.nodes = search rules in
    record {
      runners = start;
      links = (refl, refl);
      spares = refl;
      room = c.requires.parts.room_is;
      seats = subst (λ n. AreEmptySeats n c.in-Ok.seats) count c.in-Ok.ensures.seats;
      nothing = c.in-Ok-furnish.ensures.events.0;
      events = c.in-Ok-furnish.ensures.events.1;
    }
