-- Which moments a window holds.
use Rattle.std.specs.Prelude.{ℕ, Bool, ◌&&◌, not, nat_lt}
use Rattle.run_recording.specs.declared.window.Window.{Window}

-- a moment is shown if the window holds the number of sweeps that have ended since the start
abbrev pub is_held : Window → ℕ → Bool
is_held window ended = not (nat_lt ended window.from) && not (nat_lt window.to ended)
