use Rattle.std.proofs.Common.{◌≡◌, ℕ, length, not, ◌&&◌, nat_lt, slice_index, if◌then◌else◌}
use Rattle.registers.specs.Rewire.{is_among}
use Rattle.registers.proofs.registers.clear_others.Given as goal

abbrev pub invariant-loop-w : goal.invariant-loop-w
invariant-loop-w l =
    (length l.values ≡ length l.fn.values)
    × ((i : ℕ) → slice_index l.values i ≡ (if nat_lt i l.w && not (is_among l.neighbours i) then 0 else slice_index l.fn.values i))
