use Rattle.std.proofs.Common.{◌≡◌, ◌*◌, ◌^◌, ◌≤◌, All, take, length}
use Rattle.thread_net.specs.Cables.{rows_of, seats_of}
use Rattle.thread_net.specs.Seats.{nodes_of, IsNew, HasRoom, total_room}
use Rattle.thread_net.proofs.seats.reserve_journals.Given as goal

abbrev pub invariant-loop-place : goal.invariant-loop-place
invariant-loop-place g l =
    (length l.runners.items ≡ length l.fn.runners.items)
    × (nodes_of l.runners.items ≡ nodes_of l.fn.runners.items)
    × (rows_of l.runners.items ≡ rows_of l.fn.runners.items)
    × All IsNew (seats_of l.runners.items)
    × All (HasRoom l.fn.turns) (take l.place (seats_of l.runners.items))
    × (l.total ≡ total_room l.fn.turns (take l.place (nodes_of l.fn.runners.items)))
    × (l.total ≤ l.place * (193 * 2 ^ 32))
