use Rattle.std.proofs.Common.{◌≡◌, ◌∙◌, ◌<◌, length, arith}
use Rattle.std.proofs.lemmas.Grind.{common_steps}
use Rattle.world.specs.judge.configuration.ConfigurationView.{world_of}
use Rattle.run_recording.specs.UnderWay.{sent_at}
use Rattle.run_recording.proofs.Marking.{written_next, written_all, written-length}
use Rattle.run_recording.proofs.under_way.under_way_of.Goals as goal

pub loop-place-preserved : goal.loop-place-preserved
loop-place-preserved g c =
    let room : c.loop-place.place < length c.loop-place.under_way = grind (arith, common_steps) in (
      written_next (sent_at (world_of c.args.configuration.now)) c.loop-place.under_way c.loop-place.place c.sent_at.result room c.loop-place.invariant.0 c.sent_at.ensures,
      written-length c.loop-place.under_way c.loop-place.place c.sent_at.result ∙ c.loop-place.invariant.1,
    )

pub returns : goal.returns
returns g c =
    let end : c.loop-place.place ≡ 144 = omega (arith, c.loop-place-test.false, c.loop-place.auto.place-end) in
    written_all (sent_at (world_of c.args.configuration.now)) c.loop-place.under_way c.loop-place.place 144 end c.loop-place.invariant.1 c.loop-place.invariant.0
