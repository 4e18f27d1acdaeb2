use Rattle.std.proofs.Common.{◌≡◌, map, All, None}
use Rattle.std.specs.List.{range_with_len}
use Rattle.process_parts.specs.node_keeping.Steps.{new_keeper}
use Rattle.up_process.proofs.up.all_new.Given as goal

abbrev pub invariant-loop-id : goal.invariant-loop-id
invariant-loop-id g l =
    (map (λ one. one.id) l.kept.items ≡ range_with_len 0 l.id)
    × All (λ one. (one.keeper ≡ new_keeper) × (one.child ≡ None)) l.kept.items
