use Rattle.std.proofs.Common.{◌≡◌, ℕ, [], length}
use Rattle.judge.specs.run_model.World.{World}
use Rattle.thread_net.specs.Cables.{IsOver, rows_of, row, seats_of}
use Rattle.thread_net.proofs.Cabling.{IsLaid, reach}
use Rattle.thread_net.proofs.cables.cable_all.Given as goal

abbrev pub invariant-loop-one : goal.invariant-loop-one
invariant-loop-one g l =
    (length l.runners.items ≡ length l.fn.runners.items)
    × (seats_of l.runners.items ≡ seats_of l.fn.runners.items)
    × ((w : World) → IsOver w l.links → ((x : ℕ) → row (rows_of l.fn.runners.items) x ≡ []) → IsLaid w (reach l.links.net.nodes l.one l.one) (rows_of l.runners.items))

abbrev pub invariant-loop-other : goal.invariant-loop-other
invariant-loop-other g l =
    (length l.runners.items ≡ length l.fn.runners.items)
    × (seats_of l.runners.items ≡ seats_of l.fn.runners.items)
    × ((w : World) → IsOver w l.links → ((x : ℕ) → row (rows_of l.fn.runners.items) x ≡ []) → IsLaid w (reach l.links.net.nodes l.one l.other) (rows_of l.runners.items))
