use Rattle.std.proofs.Common.{◌≡◌, ◌∙◌, ◌<◌, length, arith}
use Rattle.std.proofs.lemmas.Grind.{common_steps}
use Rattle.run_recording.specs.Seen.{place_at}
use Rattle.run_recording.proofs.Marking.{written_next, written_all, written-length}
use Rattle.run_recording.proofs.sight.places_of.Goals as goal

pub loop-v-preserved : goal.loop-v-preserved
loop-v-preserved g c =
    let room : c.loop-v.v < length c.loop-v.places = grind (arith, common_steps) in (
      rw c.from.ensures (written_next (place_at c.args.net.now) c.loop-v.places c.loop-v.v c.place_at.result room c.loop-v.invariant.0 c.place_at.ensures),
      written-length c.loop-v.places c.from.result c.place_at.result ∙ c.loop-v.invariant.1,
    )

pub returns : goal.returns
returns g c =
    let end : c.loop-v.v ≡ 64 = omega (arith, c.loop-v-test.false, c.loop-v.auto.v-end) in
    written_all (place_at c.args.net.now) c.loop-v.places c.loop-v.v 64 end c.loop-v.invariant.1 c.loop-v.invariant.0
