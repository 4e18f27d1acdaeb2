-- The lines of `/proc/self/status` that are about signals.
use Rattle.std.specs.Prelude.{ℕ, Bool, ◌==◌, if◌then◌else◌, nat_lt, List, [], ◌∷◌, ◌++◌, map, fold, length, drop, codes}
use Rattle.std.specs.List.{starts_with}
use Rattle.byte_lines.specs.Lines.{whole_lines}
use Rattle.held_signals.specs.Signals.{signals_of, no_signals, both_signals, signals_without}
use Rattle.held_signals.specs.declared.status_lines.StatusEntry.{StatusEntry}
use Rattle.held_signals.specs.declared.status_lines.StatusEntry.TheVariants.{Pending, Blocked, Ignored, Other}
use Rattle.held_signals.specs.declared.signals.Signals.{Signals}
use Rattle.held_signals.specs.declared.status_lines.SignalState.{SignalState}

-- the line begins with this name and a tab; whatever comes after is read as the digits of a mask
abbrev pub is_named : List ℕ → List ℕ → Bool
is_named name line = starts_with (λ a b. a == b) line (name ++ 9 ∷ [])

-- signals that mean nothing to the process
abbrev pub ignored_of : List ℕ → StatusEntry
ignored_of line = if is_named (codes "SigIgn:") line then Ignored (signals_of (drop 8 line)) else Other

-- signals that came to the process and are held back
abbrev pub shared_of : List ℕ → StatusEntry
shared_of line = if is_named (codes "ShdPnd:") line then Pending (signals_of (drop 8 line)) else ignored_of line

-- signals that came to the thread and are held back
abbrev pub pending_of : List ℕ → StatusEntry
pending_of line = if is_named (codes "SigPnd:") line then Pending (signals_of (drop 8 line)) else shared_of line

-- signals that are held back when they come
abbrev pub entry_of : List ℕ → StatusEntry
entry_of line = if is_named (codes "SigBlk:") line then Blocked (signals_of (drop 8 line)) else pending_of line

-- what a line says; one of more than 32 bytes is none of these
abbrev pub status_entry : List ℕ → StatusEntry
status_entry line = if nat_lt 32 (length line) then Other else entry_of line

-- what the bytes say, line by line
abbrev pub status_entries : List ℕ → List StatusEntry
status_entries bytes = map status_entry (whole_lines bytes)

-- what is known after a line
abbrev pub noted : SignalState → StatusEntry → SignalState
noted s (Pending signals) = record s { pending = both_signals s.pending signals }
noted s (Blocked signals) = record s { blocked = both_signals s.blocked signals }
noted s (Ignored signals) = record s { ignored = both_signals s.ignored signals }
noted s Other = s

-- nothing is known
abbrev pub no_state : SignalState
no_state = record { pending = no_signals; blocked = no_signals; ignored = no_signals }

-- what is known after some lines
abbrev pub signal_state : List StatusEntry → SignalState
signal_state entries = fold noted no_state entries

-- the signals that came, are held back, and mean something to the process
abbrev pub heeded : SignalState → Signals
heeded s = signals_without s.ignored s.pending
