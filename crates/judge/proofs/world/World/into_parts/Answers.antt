use Rattle.std.proofs.Common.{subst, sym}
use Rattle.judge.specs.Stretch.{HasRoomFor}
use Rattle.judge.proofs.world.World.into_parts.Goals as goal

pub returns-clause-parts : goal.returns-clause-parts
returns-clause-parts g c = record {
  nodes_are = c.into_parts-nodes.ensures.sites;
  room_is = subst (λ links. HasRoomFor links.net c.self.inside.room) (sym c.into_parts-nodes.ensures.links) c.self.invariant;
}
