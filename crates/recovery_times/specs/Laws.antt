-- The laws of windows.
use Rattle.std.specs.Prelude.{◌≡◌, ◌+◌, ◌≤◌}
use Rattle.recovery_times.specs.declared.premises.Premises.{Premises}
use Rattle.recovery_times.specs.Times.{window_of}

-- a loan that lasts no longer than the time after which a frame is repeated plus the time for which
-- it is on its way leaves the window as it is
abbrev pub ShortLoansCostNothing : Type 0
ShortLoansCostNothing =
    (p : Premises) → p.loan ≤ p.repeat + p.delay → window_of p ≡ window_of (record p { loan = 0 })

-- the one is no faster than the other
pub record IsNoFaster (p q : Premises) : Type 0 where
  pub turn : q.turn ≤ p.turn
  pub delay : q.delay ≤ p.delay
  pub loan : q.loan ≤ p.loan
  pub repeat : q.repeat ≤ p.repeat

-- and has no shorter window
abbrev pub SlowerIsNoSooner : Type 0
SlowerIsNoSooner = (p q : Premises) → IsNoFaster p q → window_of q ≤ window_of p
