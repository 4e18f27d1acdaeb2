-- What may come stays while nothing has come.
use Rattle.std.proofs.Common.{◌≡◌, ◌∙◌, sym, ap, subst, ℕ, true, false, Option, None, Some, refl, arith}
use Rattle.std.specs.Prelude.{is_some}
use Rattle.held_signals.specs.declared.signals.Signal.{Signal}
use Rattle.held_signals.specs.declared.signals.Signals.{Signals}
use Rattle.held_signals.specs.Signals.{first_besides, holds, including}
use Rattle.lock_client.specs.declared.client.ClientEvent.{ClientEvent}
use Rattle.lock_client.specs.declared.client.ClientEvent.TheVariants as event
use Rattle.lock_command.specs.declared.session.Session.{Session}
use Rattle.lock_command.specs.Coming.{Comes, Stays}
use Rattle.lock_command.specs.Course.{is_past}

module _ {P A B C : Type 0} where
  pub stays_on : (a b c : Session P A B C) → Stays a b → Stays b c → Stays a c
  stays_on a b c s t = (t.0 ∙ s.0, t.1 ∙ s.1, t.2 ∙ s.2, t.3 ∙ s.3, t.4 ∙ s.4, t.5 ∙ s.5)

  -- what comes after a while in which nothing came, comes from what was there before it
  pub comes_later : (e : ClientEvent) (a b c : Session P A B C) → Stays a b → Comes e b c → Comes e a c
  comes_later event.Unserved a b c s came = (sym s.0 ∙ came.0, came.1)
  comes_later (event.Line answer) a b c s came = sym s.1 ∙ came
  comes_later event.Gone a b c s came = (sym s.1 ∙ came.0, came.1)
  comes_later event.GuardGone a b c s came = (sym s.2 ∙ came.0, came.1)
  comes_later event.TimeIsUp a b c s came = (sym (ap is_some s.3) ∙ came.0, came.1)
  comes_later (event.Signal signal) a b c s came =
      (sym s.4 ∙ came.0, subst (λ seen. holds signal seen ≡ false) s.5 came.1, came.2 ∙ ap (including signal) s.5)
  comes_later (event.Ended end) a b c s came = came

pub past_due : (due : Option ℕ) (now : ℕ) → is_past due now ≡ true → is_some due ≡ true
past_due None now e = grind (arith, e)
past_due (Some due) now e = refl

pub unseen : (seen pending : Signals) (signal : Signal) → first_besides seen pending ≡ Some signal → holds signal seen ≡ false
unseen seen pending signal e = grind (arith, e)
