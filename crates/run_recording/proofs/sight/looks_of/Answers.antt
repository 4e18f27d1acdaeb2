use Rattle.std.proofs.Common.{◌≡◌, ◌∙◌, ◌<◌, length, arith}
use Rattle.std.proofs.lemmas.Grind.{common_steps}
use Rattle.world.specs.judge.configuration.ConfigurationView.{world_of}
use Rattle.run_recording.specs.Seen.{look_at}
use Rattle.run_recording.proofs.Marking.{written_next, written_all, written-length}
use Rattle.run_recording.proofs.sight.looks_of.Goals as goal

pub loop-v-preserved : goal.loop-v-preserved
loop-v-preserved g c =
    let room : c.loop-v.v < length c.loop-v.looks = grind (arith, common_steps) in (
      λ true. rw c.from.ensures (written_next (look_at (world_of c.args.configuration.now)) c.loop-v.looks c.loop-v.v c.look_at.result room (c.loop-v.invariant.0 true) (c.look_at.ensures true)),
      written-length c.loop-v.looks c.from.result c.look_at.result ∙ c.loop-v.invariant.1,
    )

pub returns : goal.returns
returns g c =
    λ true.
    let end : c.loop-v.v ≡ 64 = omega (arith, c.loop-v-test.false, c.loop-v.auto.v-end) in
    written_all (look_at (world_of c.args.configuration.now)) c.loop-v.looks c.loop-v.v 64 end c.loop-v.invariant.1 (c.loop-v.invariant.0 true)
