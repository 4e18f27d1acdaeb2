use Rattle.std.proofs.Common.{◌&&◌}
use Rattle.pace.specs.Plans.{port_of, is_tree, is_other, called_port}
use Rattle.pace.proofs.Going.{IsPassed}
use Rattle.pace.proofs.pace.pass_on.Given as goal

abbrev pub invariant-loop-port : goal.invariant-loop-port
invariant-loop-port l =
    IsPassed (λ p. called_port (is_tree l.trees p && is_other l.but p) (port_of l.fn.ports p)) l.fn.ports l.ports l.port
