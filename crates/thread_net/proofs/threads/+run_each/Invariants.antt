use Rattle.std.specs.Vec.Iter.{into_iter_len}
use Rattle.thread_net.proofs.threads.+run_each.Given as goal

abbrev pub decreases-run_each : goal.decreases-run_each
decreases-run_each g l = into_iter_len l.runners.now
