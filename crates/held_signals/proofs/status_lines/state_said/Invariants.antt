use Rattle.std.proofs.Common.{◌≡◌, take}
use Rattle.byte_lines.specs.Kept.{StandsAfter}
use Rattle.held_signals.specs.StatusLines.{signal_state, status_entries}
use Rattle.held_signals.proofs.status_lines.state_said.Given as goal

abbrev pub invariant-loop-byte : goal.invariant-loop-byte
invariant-loop-byte l =
    StandsAfter 32 (take l.byte-index l.lines) l.reader
    × (l.state ≡ signal_state (status_entries (take l.byte-index l.lines)))
