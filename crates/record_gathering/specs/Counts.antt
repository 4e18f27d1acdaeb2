-- How much of what was found in records.
use Rattle.std.specs.Prelude.{ℕ, ◌+◌, ◌-◌, ◌^◌, min, Bool, true, false, if◌then◌else◌, ◌||◌, List, fold}
use Rattle.configuration.specs.run_model.declared.event.Event.{Event}
use Rattle.configuration.specs.run_model.declared.event.Event.TheVariants as event
use Rattle.configuration.specs.run_model.declared.event.Harm.{Harm}
use Rattle.configuration.specs.run_model.declared.event.Harm.TheVariants as harm
use Rattle.record_gathering.specs.declared.found.EventCounts.{EventCounts}

-- the count with one more; at its greatest value it stays as it is
abbrev pub one_more : ℕ → ℕ
one_more n = min (n + 1) (2 ^ 64 - 1)

-- one more harm, which may be a frame that nobody sent
abbrev pub with_harm : EventCounts → Harm → EventCounts
with_harm f (harm.Item u v item) = record f { harms = one_more f.harms; forged = one_more f.forged }
with_harm f _ = record f { harms = one_more f.harms }

-- one more event: a loss, a harm, or one of another kind
abbrev pub with_kind : EventCounts → Event → EventCounts
with_kind f (event.Lose u v i) = record f { lost = one_more f.lost }
with_kind f (event.Damage h) = with_harm f h
with_kind f _ = f

abbrev pub with_event : EventCounts → Event → EventCounts
with_event f e = with_kind (record f { events = one_more f.events }) e

-- all of these events, one after the other
abbrev pub with_events : EventCounts → List Event → EventCounts
with_events f es = fold with_event f es

-- a frame or noise is written to a link
abbrev pub is_written : Event → Bool
is_written (event.Damage (harm.Item u v item)) = true
is_written _ = false

abbrev pub any_written : List Event → Bool
any_written es = fold (λ b e. b || is_written e) false es

-- All of these events, which one entry became. If a frame that nobody sent is among them, it is the
-- only one that counts as such, and nothing counts as lost: what was under way is put on its link
-- again.
abbrev pub with_entry : EventCounts → List Event → EventCounts
with_entry f es =
    if any_written es then record (with_events f es) { lost = f.lost; forged = one_more f.forged }
    else with_events f es

abbrev pub nothing : EventCounts
nothing = record { events = 0; harms = 0; lost = 0; forged = 0 }
