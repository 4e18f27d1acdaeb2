-- Two nodes that each ticked and sent to the other, on threads of their own: one list has both journals, and leads on.
use Rattle.std.proofs.Common.{◌≡◌, ℕ, ◌≤◌, zero, suc, List, [], ◌∷◌, map, refl, arith, inl, inr}
use Rattle.std.proofs.lemmas.Grind.{common_steps}
use Rattle.std.proofs.lemmas.Bool.Decides.{nat_tests}
use Rattle.run_model.specs.World.{World}
use Rattle.run_model.specs.Run.{run}
use Rattle.run_model.specs.declared.event.Event.{Event}
use Rattle.run_model.specs.declared.event.Event.TheVariants.{Send, Tick}
use Rattle.run_model.proofs.RowsTwo.{two_nodes}
use Rattle.weaving.specs.declared.journal.Stamped.{Stamped}
use Rattle.weaving.specs.declared.journal.JournalEntry.{JournalEntry}
use Rattle.weaving.specs.Account.{Note, entry_of, Ticked, Sent, Leads, sent_to, taken_from}
use Rattle.weaving.specs.Woven.{AreRising, IsWoven, Placed, entries_of}
use Rattle.weaving.specs.Matched.{AreMatched, IsLinkMatched}
use Rattle.weaving.proofs.RowsRun.{start, after_tick, untouched}

-- what v sends in its first turn
abbrev pub first_frame : ℕ → ℕ → Stamped
first_frame v u = after_tick v u 2

abbrev pub account : ℕ → List Note
account zero = Ticked 1 ∷ Sent 1 (first_frame 0 1) ∷ []
account (suc zero) = Ticked 1 ∷ Sent 0 (first_frame 1 0) ∷ []
account (suc (suc v)) = []

abbrev pub journal : ℕ → List JournalEntry
journal v = map (entry_of v) (account v)

abbrev pub events : List Event
events = Tick 0 ∷ Tick 1 ∷ Send 0 1 ∷ Send 1 0 ∷ []

abbrev pub last : World
last = run start events

abbrev in_order : List Placed
in_order =
    record { node = 0; entry = record { stamp = 1; event = Tick 0 } } ∷ record { node = 1; entry = record { stamp = 1; event = Tick 1 } }
    ∷ record { node = 0; entry = record { stamp = 2; event = Send 0 1 } } ∷ record { node = 1; entry = record { stamp = 2; event = Send 1 0 } } ∷ []

complete : (v : ℕ) → entries_of v in_order ≡ journal v
complete zero = refl
complete (suc zero) = refl
complete (suc (suc v)) = grind (arith, common_steps)

pub woven : IsWoven journal events
woven = record {
  placed = in_order;
  are_events = refl;
  ordered = (
    (inr (refl, omega arith), (inl (omega arith), (inl (omega arith), tt))),
    ((inl (omega arith), (inl (omega arith), tt)), ((inr (refl, omega arith), tt), (tt, tt))),
  );
  complete = complete;
}

pub rising : (v : ℕ) → AreRising (journal v)
rising zero = ((omega arith, tt), (tt, tt))
rising (suc zero) = ((omega arith, tt), (tt, tt))
rising (suc (suc v)) = tt

leads-each : (v : ℕ) → Leads two_nodes v (start.node v) (account v) (last.node v)
leads-each zero = ((refl, tt, tt), ((0, omega arith, refl), refl, refl))
leads-each (suc zero) = ((refl, tt, tt), ((0, omega arith, refl), refl, refl))
leads-each (suc (suc v)) = (tt, grind (arith, common_steps, nat_tests))

nobody : (v : ℕ) → 2 ≤ v → account v ≡ []
nobody zero few = absurd (omega arith)
nobody (suc zero) few = absurd (omega arith)
nobody (suc (suc v)) few = refl

matched-each : (u v : ℕ) → IsLinkMatched 1 (start.link u v) (sent_to v (account u)) (taken_from u (account v)) (last.link u v)
matched-each zero zero = untouched _ _ _ refl refl refl
matched-each zero (suc zero) = record { kept = refl; taken_later = tt; sent_later = tt }
matched-each zero (suc (suc v)) = untouched _ _ _ (grind (arith, nat_tests)) refl (grind (arith, common_steps, nat_tests))
matched-each (suc zero) zero = record { kept = refl; taken_later = tt; sent_later = tt }
matched-each (suc zero) (suc zero) = untouched _ _ _ refl refl refl
matched-each (suc zero) (suc (suc v)) = untouched _ _ _ (grind (arith, nat_tests)) refl (grind (arith, common_steps, nat_tests))
matched-each (suc (suc u)) zero = untouched _ _ _ refl (grind (arith, nat_tests)) (grind (arith, common_steps, nat_tests))
matched-each (suc (suc u)) (suc zero) = untouched _ _ _ refl (grind (arith, nat_tests)) (grind (arith, common_steps, nat_tests))
matched-each (suc (suc u)) (suc (suc v)) = untouched _ _ _ refl refl (grind (arith, common_steps, nat_tests))

pub matched : AreMatched start account last
matched = record { network = refl; spares = refl; nodes = leads-each; nobody = nobody; links = matched-each }
