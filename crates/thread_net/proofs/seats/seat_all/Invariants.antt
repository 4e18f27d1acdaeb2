use Rattle.std.proofs.Common.{◌≡◌, ◌+◌, ◌≤◌, ◌++◌, ℕ, [], All, vec_len, vec_capacity}
use Rattle.std.specs.Vec.Iter.{into_iter_items, into_iter_len}
use Rattle.thread_net.specs.Cables.{rows_of, row, seats_of}
use Rattle.thread_net.specs.Seats.{nodes_of, IsNew}
use Rattle.thread_net.proofs.seats.seat_all.Given as goal

abbrev pub invariant-loop-node : goal.invariant-loop-node
invariant-loop-node g l =
    (vec_len l.runners + into_iter_len l.node-iterator ≤ vec_capacity l.runners)
    × (nodes_of l.runners.items ++ into_iter_items l.node-iterator ≡ l.fn.nodes.items)
    × All IsNew (seats_of l.runners.items)
    × ((x : ℕ) → row (rows_of l.runners.items) x ≡ [])
