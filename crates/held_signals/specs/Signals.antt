-- The signals by which a user or the system asks a program to end, and masks of signals.
use Rattle.std.specs.Prelude.{ℕ, ◌+◌, ◌-◌, ◌/◌, ◌%◌, ◌==◌, Bool, true, false, List, length, ◌&&◌, ◌||◌, Option, Some, None, not, if◌then◌else◌, nat_lt, nat_le}
use Rattle.std.specs.List.{slice_index}
use Rattle.held_signals.specs.declared.signals.Signal.{Signal}
use Rattle.held_signals.specs.declared.signals.Signal.TheVariants.{HangUp, Interrupt, Quit, Terminate}
use Rattle.held_signals.specs.declared.signals.Signals.{Signals}

-- their numbers, by POSIX
abbrev pub signal_number : Signal → ℕ
signal_number HangUp = 1
signal_number Interrupt = 2
signal_number Quit = 3
signal_number Terminate = 15

-- the value of a lower-case hexadecimal digit, and 0 for any other byte
abbrev pub digit_value : ℕ → ℕ
digit_value c =
    if nat_le 48 c && nat_le c 57 then c - 48
    else if nat_le 97 c && nat_le c 102 then c - 97 + 10
    else 0

-- the bit of this weight in the digit that `following` digits follow; the last digit is the lowest
abbrev pub in_mask : List ℕ → ℕ → ℕ → Bool
in_mask digits following weight =
    if nat_lt following (length digits)
    then digit_value (slice_index digits (length digits - following - 1)) / weight % 2 == 1
    else false

-- the bit of a signal has the weight 2 ^ (number - 1): those of 1 to 4 are in the last digit, those
-- of 13 to 16 in the fourth last
abbrev pub signals_of : List ℕ → Signals
signals_of digits = record {
  hang_up = in_mask digits 0 1;
  interrupt = in_mask digits 0 2;
  quit = in_mask digits 0 4;
  terminate = in_mask digits 3 4;
}

abbrev pub no_signals : Signals
no_signals = record { hang_up = false; interrupt = false; quit = false; terminate = false }

abbrev pub both_signals : Signals → Signals → Signals
both_signals a b = record {
  hang_up = a.hang_up || b.hang_up;
  interrupt = a.interrupt || b.interrupt;
  quit = a.quit || b.quit;
  terminate = a.terminate || b.terminate;
}

-- the signals of the second that are not among the first
abbrev pub signals_without : Signals → Signals → Signals
signals_without a b = record {
  hang_up = b.hang_up && not a.hang_up;
  interrupt = b.interrupt && not a.interrupt;
  quit = b.quit && not a.quit;
  terminate = b.terminate && not a.terminate;
}

abbrev pub has_any : Signals → Bool
has_any s = s.hang_up || s.interrupt || s.quit || s.terminate

abbrev pub holds : Signal → Signals → Bool
holds HangUp s = s.hang_up
holds Interrupt s = s.interrupt
holds Quit s = s.quit
holds Terminate s = s.terminate

-- a signal that is there and was not seen, SIGTERM first
abbrev pub first_besides : Signals → Signals → Option Signal
first_besides seen s =
    if s.terminate && not seen.terminate then Some Terminate
    else if s.interrupt && not seen.interrupt then Some Interrupt
    else if s.quit && not seen.quit then Some Quit
    else if s.hang_up && not seen.hang_up then Some HangUp
    else None

abbrev pub including : Signal → Signals → Signals
including HangUp s = record s { hang_up = true }
including Interrupt s = record s { interrupt = true }
including Quit s = record s { quit = true }
including Terminate s = record s { terminate = true }
