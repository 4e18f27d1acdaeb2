use Rattle.std.proofs.Common.{◌≡◌, ◌∙◌, ◌<◌, length, arith}
use Rattle.std.proofs.lemmas.Grind.{common_steps}
use Rattle.run_recording.specs.Seen.{edge_at}
use Rattle.run_recording.proofs.Marking.{written_next, written_all, written-length}
use Rattle.run_recording.proofs.sight.edges_of.Goals as goal

pub loop-k-preserved : goal.loop-k-preserved
loop-k-preserved g c =
    let room : c.loop-k.k < length c.loop-k.edges = grind (arith, common_steps) in (
      written_next (edge_at c.args.net.now) c.loop-k.edges c.loop-k.k c.edge_at.result room c.loop-k.invariant.0 c.edge_at.ensures,
      written-length c.loop-k.edges c.loop-k.k c.edge_at.result ∙ c.loop-k.invariant.1,
    )

pub returns : goal.returns
returns g c =
    let end : c.loop-k.k ≡ 256 = omega (arith, c.loop-k-test.false, c.loop-k.auto.k-end) in
    written_all (edge_at c.args.net.now) c.loop-k.edges c.loop-k.k 256 end c.loop-k.invariant.1 c.loop-k.invariant.0
