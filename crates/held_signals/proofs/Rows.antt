-- Small examples of masks of signals and of the lines that have them, and ones that fail.
use Rattle.std.proofs.Common.{◌≡◌, ◌++◌, true, false, [], ◌∷◌, Some, None, refl, codes}
use Rattle.held_signals.specs.declared.signals.Signal.TheVariants.{Interrupt, Terminate}
use Rattle.held_signals.specs.declared.status_lines.StatusEntry.TheVariants as entry
use Rattle.held_signals.specs.Signals.{signals_of, signals_without, holds, has_any, no_signals, first_besides, including}
use Rattle.held_signals.specs.StatusLines.{status_entry, signal_state, no_state, heeded}

-- SIGINT is the second bit, SIGTERM the fifteenth
has-interrupt : holds Interrupt (signals_of (codes "0000000000000002")) ≡ true
has-interrupt = refl

has-terminate : holds Terminate (signals_of (codes "000000000000400a")) ≡ true
has-terminate = refl

has_not-terminate : holds Terminate (signals_of (codes "ffffffffffffbfff")) ≡ false
has_not-terminate = refl

has-none : has_any (signals_of (codes "fffffffffff8bff8")) ≡ false
has-none = refl

has_not-empty : signals_of [] ≡ no_signals
has_not-empty = refl

-- the lines of a process that holds SIGINT back, which has come
held_back : signal_state (status_entry (codes "SigPnd:" ++ 9 ∷ codes "0000000000000000")
    ∷ status_entry (codes "ShdPnd:" ++ 9 ∷ codes "0000000000000002")
    ∷ status_entry (codes "SigBlk:" ++ 9 ∷ codes "0000000000004006")
    ∷ status_entry (codes "SigIgn:" ++ 9 ∷ codes "0000000000004007") ∷ [])
    ≡ record {
      pending = record { hang_up = false; interrupt = true; quit = false; terminate = false };
      blocked = record { hang_up = false; interrupt = true; quit = true; terminate = true };
      ignored = record { hang_up = true; interrupt = true; quit = true; terminate = true };
    }
held_back = refl

other-line : status_entry (codes "SigPnd: 0000000000000002") ≡ entry.Other
other-line = refl

-- a signal is answered once
fresh : first_besides no_signals (signals_of (codes "4002")) ≡ Some Terminate
fresh = refl

fresh-next : first_besides (including Terminate no_signals) (signals_of (codes "4002")) ≡ Some Interrupt
fresh-next = refl

fresh_not-seen : first_besides (signals_of (codes "4002")) (signals_of (codes "4002")) ≡ None
fresh_not-seen = refl

-- under `nohup` a SIGHUP that is held back means nothing, and a SIGTERM does
heeds-terminate : heeded (record no_state { pending = signals_of (codes "4001"); ignored = signals_of (codes "1") })
    ≡ signals_of (codes "4000")
heeds-terminate = refl

heeds_not-ignored : has_any (heeded (record no_state { pending = signals_of (codes "1"); ignored = signals_of (codes "1") }))
    ≡ false
heeds_not-ignored = refl

without-other : signals_without (signals_of (codes "2")) (signals_of (codes "4")) ≡ signals_of (codes "4")
without-other = refl
