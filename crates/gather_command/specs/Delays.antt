-- How long frames were under way: from the instant at which their link accepted them to that at which they
-- were taken, each by the clock of the node that did it.
use Rattle.std.specs.Prelude.{ℕ, ◌+◌, ◌-◌, ◌*◌, max, Option, Some, None, if◌then◌else◌, nat_lt, List, [], ◌∷◌, ◌++◌, length, take, drop, replicate, fold, slice_get, slice_index_or, slice_set}
use Rattle.record_gathering.specs.configuration.run_model.declared.event.Event.{Event}
use Rattle.record_gathering.specs.configuration.run_model.declared.event.Event.TheVariants as event
use Rattle.record_gathering.specs.configuration.run_model.declared.event.Harm.{Harm}
use Rattle.record_gathering.specs.configuration.run_model.declared.event.Harm.TheVariants as harm
use Rattle.record_gathering.specs.Counts.{any_written}

-- the time since an instant, if there was one
abbrev pub since : Option ℕ → ℕ → ℕ
since None instant = 0
since (Some before) instant = instant - before

-- when each item under way on a link was accepted, the oldest first, for each link; and the longest time
-- that one was under way until it was taken
pub record DelaysView : Type 0 where
  pub links : List (List ℕ)
  pub longest : ℕ

-- nothing is under way on any link of 64 nodes
abbrev pub no_delays : DelaysView
no_delays = record { links = replicate 4096 []; longest = 0 }

-- the place of the link from u to v among those of 64 nodes
abbrev pub link_place : ℕ → ℕ → ℕ
link_place u v = u * 64 + v

abbrev pub accepted_on : DelaysView → ℕ → ℕ → List ℕ
accepted_on d u v = slice_index_or d.links (link_place u v) []

abbrev pub with_link : DelaysView → ℕ → ℕ → List ℕ → DelaysView
with_link d u v instants = record d { links = slice_set d.links (link_place u v) instants }

-- one item of a link is gone
abbrev pub without : List ℕ → ℕ → List ℕ
without instants i = if nat_lt i (length instants) then take i instants ++ drop (i + 1) instants else instants

-- the link accepted a frame at an instant; its oldest item was taken at an instant; one of its items is
-- lost
abbrev pub with_sent : DelaysView → ℕ → ℕ → ℕ → DelaysView
with_sent d u v instant = with_link d u v (accepted_on d u v ++ instant ∷ [])

abbrev pub with_taken : DelaysView → ℕ → ℕ → ℕ → DelaysView
with_taken d u v instant =
    record (with_link d u v (without (accepted_on d u v) 0)) {
      longest = max d.longest (since (slice_get (accepted_on d u v) 0) instant);
    }

abbrev pub with_lost : DelaysView → ℕ → ℕ → ℕ → DelaysView
with_lost d u v i = with_link d u v (without (accepted_on d u v) i)

-- an edge came or went: nothing is under way on its two links
abbrev pub with_edge : DelaysView → ℕ → ℕ → DelaysView
with_edge d u v = with_link (with_link d u v []) v u []

abbrev pub delays_after_harm : DelaysView → Harm → DelaysView
delays_after_harm d (harm.Empty u v) = with_link d u v []
delays_after_harm d (harm.Join u v) = with_edge d u v
delays_after_harm d (harm.Part u v) = with_edge d u v
delays_after_harm d _ = d

abbrev pub delays_after_event : ℕ → DelaysView → Event → DelaysView
delays_after_event instant d (event.Send u v) = with_sent d u v instant
delays_after_event instant d (event.Take u v) = with_taken d u v instant
delays_after_event instant d (event.Lose u v i) = with_lost d u v i
delays_after_event instant d (event.Damage h) = delays_after_harm d h
delays_after_event instant d _ = d

-- An entry of this instant became these events. If a frame that nobody sent is among them, nothing
-- changes: what was under way is put on its link again after it.
abbrev pub delays_after : DelaysView → ℕ → List Event → DelaysView
delays_after d instant es = if any_written es then d else fold (delays_after_event instant) d es
