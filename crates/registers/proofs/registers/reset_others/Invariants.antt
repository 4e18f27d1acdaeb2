use Rattle.std.proofs.Common.{◌≡◌, ℕ, length, not, ◌&&◌, nat_lt, slice_index_or}
use Rattle.data_link.specs.Port.{PortView}
use Rattle.registers.specs.Registers.{port_or_new}
use Rattle.registers.specs.Rewire.{is_among}
use Rattle.registers.proofs.registers.reset_others.Given as goal

abbrev pub invariant-loop-w : goal.invariant-loop-w
invariant-loop-w l =
    (length l.ports ≡ length l.fn.ports)
    × ((i : ℕ) (d : PortView) → slice_index_or l.ports i d ≡ port_or_new (nat_lt i l.w && not (is_among l.neighbours i)) (slice_index_or l.fn.ports i d))
