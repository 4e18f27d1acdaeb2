-- Small examples of which node a state file is of, and of what is said of it, and ones that fail.
use Rattle.std.proofs.Common.{◌≡◌, ◌≢◌, refl, codes, arith}
use Rattle.std.specs.Fmt.{digits}
use Rattle.node_stopping.specs.Lines.{state_path, runner_line}

names-state : state_path (codes "run") 12 ≡ codes "run/state-12.tkt"
unfolding digits
names-state = refl

names_not-other : state_path (codes "run") 1 ≢ codes "run/state-2.tkt"
unfolding digits
names_not-other = grind arith

says-runner : runner_line (codes "run/state-1.tkt") 1
    ≡ codes "tokentree: run/state-1.tkt: node 1 runs, and writes this file again within half a second; kill it before, or stop it first"
unfolding digits
says-runner = refl
