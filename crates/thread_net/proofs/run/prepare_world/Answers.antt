use Rattle.std.proofs.Common.{subst, sym}
use Rattle.thread_net.specs.Cables.{AreWithin}
use Rattle.thread_net.proofs.run.prepare_world.Goals as goal

pub prepare-requires-clause-within : goal.prepare-requires-clause-within
prepare-requires-clause-within g c =
    subst AreWithin (sym c.into_parts.ensures.links) c.ranges_hold.ensures.capacity
