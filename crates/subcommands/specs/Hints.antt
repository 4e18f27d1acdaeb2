-- What a simulation says on standard error at its end.
use Rattle.std.specs.Prelude.{ℕ, ◌&&◌, ◌==◌, nat_lt, if◌then◌else◌, List, Option, Some, None, codes}
use Rattle.command_parts.specs.world.declared.simulation.Summary.{Summary}

-- the network has no lease, a node lends at the end, and there were fewer sweeps than the proof
-- needs
abbrev pub loan_hint : (lease bound : ℕ) → Summary → Option (List ℕ)
loan_hint lease bound summary =
    if lease == 0 && nat_lt 0 summary.lending && nat_lt summary.sweeps bound then
    Some (codes "a node lends the lock without a lease: no sweep ends until its ticket leaves")
    else None
