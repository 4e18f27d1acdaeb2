use Rattle.std.proofs.Common.{refl}
use Rattle.gather_command.specs.Watch.{one_again}
use Rattle.gather_command.proofs.Sights.{again-more}
use Rattle.gather_command.proofs.watch.all_again.Goals as goal

pub loop-place-preserved : goal.loop-place-preserved
loop-place-preserved c =
    again-more one_again c.args.nodes.now c.loop-place.nodes _ c.loop-place.place c.one_again.result _ c.loop-place-test.true
    c.loop-place.invariant c.one_again.ensures refl
