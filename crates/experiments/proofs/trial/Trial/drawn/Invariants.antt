use Rattle.std.proofs.Common.{◌≡◌, length}
use Rattle.experiments.proofs.trial.Trial.drawn.Given as goal

-- each pass so far has its order
abbrev pub invariant-loop-pass : goal.invariant-loop-pass
invariant-loop-pass l = length l.orders.items ≡ l.pass
