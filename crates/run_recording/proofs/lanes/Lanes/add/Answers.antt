use Rattle.std.proofs.Common.{◌≡◌, ◌+◌, ◌<◌, arith}
use Rattle.std.proofs.lemmas.Grind.{common_steps}
use Rattle.world.specs.judge.configuration.ConfigurationView.{world_of}
use Rattle.run_recording.proofs.Ends.{ends_full, ends_left}
use Rattle.run_recording.proofs.lanes.Lanes.add.Goals as goal

pub returns-then-self-clause-ends : goal.returns-then-self-clause-ends
returns-then-self-clause-ends g c =
    λ worlds h.
    let now = rw (← c.self.view_is) at h in
    rw c.push_reserved.ensures.items (ends_full (world_of c.args.configuration.now) c.of.result c.if-self.true c.of.ensures now)

pub returns-else-self-clause-ends : goal.returns-else-self-clause-ends
returns-else-self-clause-ends g c =
    λ worlds h.
    let now = rw (← c.self.view_is) at h in
    let room : c.self.inside.left + 1 < c.self.inside.width = grind (arith, common_steps) in
    ends_left (world_of c.args.configuration.now) room now
