-- What is watched of the nodes while their records are woven: turns, loans, and the stretch of time.
use Rattle.std.specs.Prelude.{ℕ, ◌-◌, min, max, Bool, true, false, if◌then◌else◌, List, Option, Some, None, option_map, slice_index_or, slice_set, nat_lt, fold, map, replicate}
use Rattle.record_gathering.specs.flight_records.Again.{same_node}
use Rattle.record_gathering.specs.flight_records.declared.entry.Entry.{Entry}
use Rattle.record_gathering.specs.flight_records.declared.entry.Noted.{Noted}
use Rattle.record_gathering.specs.flight_records.declared.entry.Noted.TheVariants as noted
use Rattle.record_gathering.specs.flight_records.declared.entry.Deed.{Deed}
use Rattle.record_gathering.specs.flight_records.declared.entry.Deed.TheVariants as deed
use Rattle.record_gathering.specs.flight_records.declared.entry.StatePart.{StatePart}
use Rattle.record_gathering.specs.flight_records.declared.entry.StatePart.TheVariants.{Whole}
use Rattle.record_gathering.specs.Counts.{one_more, with_entry, nothing}
use Rattle.record_gathering.specs.declared.found.EventCounts.{EventCounts}
use Rattle.gather_command.specs.declared.watch.Loan.{Loan}
use Rattle.gather_command.specs.declared.watch.WatchedNode.{WatchedNode}
use Rattle.gather_command.specs.declared.watch.Span.{Span}
use Rattle.gather_command.specs.declared.summary.Lasted.{Lasted}
use Rattle.gather_command.specs.declared.summary.RecordingSummary.{RecordingSummary}
use Rattle.gather_command.specs.Damage.{DamageView, no_damage, with_fields}
use Rattle.gather_command.specs.Weave.{Moment}
use Rattle.gather_command.specs.Delays.{DelaysView, no_delays, delays_after, since}

-- what is watched of each node, and of all: the longest time from one tick of a node to its next one,
-- how many loans began, and the longest one that ended
pub record WatchView : Type 0 where
  pub nodes : List WatchedNode
  pub longest_turn : ℕ
  pub loans : ℕ
  pub longest_loan : Option Lasted

-- nothing is known of a node
abbrev pub unknown : WatchedNode
unknown = record { is_known = false; ticked = None; loan = None }

-- nothing is known of this many nodes
abbrev pub unwatched : ℕ → WatchView
unwatched n = record { nodes = replicate n unknown; longest_turn = 0; loans = 0; longest_loan = None }

abbrev pub watched_of : WatchView → ℕ → WatchedNode
watched_of w v = slice_index_or w.nodes v unknown

-- a node's whole state was noted
abbrev pub with_state : WatchView → ℕ → WatchView
with_state w v = record w { nodes = slice_set w.nodes v (record (watched_of w v) { is_known = true }) }

-- a node ticked at an instant
abbrev pub with_tick : WatchView → ℕ → ℕ → WatchView
with_tick w v instant =
    record w {
      nodes = slice_set w.nodes v (record (watched_of w v) { ticked = Some instant });
      longest_turn = max w.longest_turn (since (watched_of w v).ticked instant);
    }

-- the ticket that a loan is to, and since when
abbrev pub loan_to : Option ℕ → ℕ → Option Loan
loan_to None instant = None
loan_to (Some ticket) instant = Some (record { ticket = ticket; since = instant })

-- the loan of v, if there is one, ended at this instant
abbrev pub ended_loan : ℕ → Option Loan → ℕ → Option Lasted
ended_loan v None instant = None
ended_loan v (Some loan) instant =
    Some (record { node = v; ticket = loan.ticket; time = instant - loan.since })

-- the longer of two loans, either of which may be none; the first if they are equally long
abbrev pub longer : Option Lasted → Option Lasted → Option Lasted
longer None more = more
longer (Some first) None = Some first
longer (Some first) (Some more) = if nat_lt first.time more.time then Some more else Some first

-- the number of loans, with one more if the lock is lent
abbrev pub with_loan : Option ℕ → ℕ → ℕ
with_loan None loans = loans
with_loan (Some ticket) loans = one_more loans

-- at an instant a node lends to this ticket, or to nobody: if that differs from before, the loan before has
-- ended, and a new one begins, if there are such
abbrev pub with_lent : WatchView → ℕ → Option ℕ → ℕ → WatchView
with_lent w v lent instant =
    if same_node (option_map (λ l. l.ticket) (watched_of w v).loan) lent then w
    else record w {
      nodes = slice_set w.nodes v (record (watched_of w v) { loan = loan_to lent instant });
      loans = with_loan lent w.loans;
      longest_loan = longer w.longest_loan (ended_loan v (watched_of w v).loan instant);
    }

-- what is noted is a tick
abbrev pub is_tick_deed : Deed → Bool
is_tick_deed deed.Ticks = true
is_tick_deed _ = false

abbrev pub is_tick : Noted → Bool
is_tick (noted.State p) = false
is_tick (noted.Deed d) = is_tick_deed d

-- what is noted is the end of a whole state
abbrev pub is_whole_part : StatePart → Bool
is_whole_part Whole = true
is_whole_part _ = false

abbrev pub is_whole : Noted → Bool
is_whole (noted.State p) = is_whole_part p
is_whole (noted.Deed d) = false

-- an entry of v's record was woven: the end of a state, or a tick, and perhaps a loan begins or ends
abbrev pub with_end : WatchView → ℕ → Entry → WatchView
with_end w v e = if is_whole e.noted then with_state w v else w

abbrev pub with_turn : WatchView → ℕ → Entry → WatchView
with_turn w v e = if is_tick e.noted then with_tick w v e.instant else w

abbrev pub watched_after : WatchView → ℕ → Entry → Option ℕ → WatchView
watched_after w v e lent = with_lent (with_turn (with_end w v e) v e) v lent e.instant

abbrev pub with_moment : WatchView → Moment → WatchView
with_moment w m = watched_after w m.node m.entry m.lent

-- the span of these instants and one instant more
abbrev pub with_instant : Option Span → ℕ → Option Span
with_instant None instant = Some (record { least = instant; greatest = instant })
with_instant (Some span) instant =
    Some (record { least = min span.least instant; greatest = max span.greatest instant })

-- how long a span is; 0 if there is none
abbrev pub length_of : Option Span → ℕ
length_of None = 0
length_of (Some span) = span.greatest - span.least

-- The fields of a node that differ count as damage once its whole state was noted: before that they only
-- say how the world stood when its record began.
abbrev pub with_differences : WatchView → DamageView → Moment → DamageView
with_differences w d m = if (watched_of w m.node).is_known then with_fields d m.node m.entry.instant m.fields else d

-- all that is seen of the entries that were woven
pub record Seen : Type 0 where
  pub found : EventCounts
  pub damage : DamageView
  pub watch : WatchView
  pub delays : DelaysView
  pub span : Option Span

abbrev pub nothing_seen : ℕ → Seen
nothing_seen n = record { found = nothing; damage = no_damage; watch = unwatched n; delays = no_delays; span = None }

abbrev pub seen_after : Seen → Moment → Seen
seen_after s m = record {
  found = with_entry s.found m.events;
  damage = with_differences s.watch s.damage m;
  watch = with_moment s.watch m;
  delays = delays_after s.delays m.entry.instant m.events;
  span = with_instant s.span m.entry.instant;
}

-- If a list of events begins in the middle, these events set up the world first. Of what was seen before,
-- only this is kept: which nodes' whole states were noted, and when the frames under way were sent. A loan
-- that had begun counts from its node's next entry on. The frames that the events put under way do not count
-- as frames that nobody sent.
abbrev pub one_again : WatchedNode → WatchedNode
one_again n = record { is_known = n.is_known; ticked = None; loan = None }

abbrev pub watched_again : WatchView → WatchView
watched_again w = record { nodes = map one_again w.nodes; longest_turn = 0; loans = 0; longest_loan = None }

abbrev pub seen_again : Seen → EventCounts → Seen
seen_again s found = record {
  found = record found { forged = 0 };
  damage = no_damage;
  watch = watched_again s.watch;
  delays = record s.delays { longest = 0 };
  span = None;
}

-- what a recording of this many nodes shows, in numbers
abbrev pub numbers_of : ℕ → Seen → RecordingSummary
numbers_of n s = record {
  nodes = n;
  stretch = length_of s.span;
  found = s.found;
  differences = s.damage.count;
  longest_turn = s.watch.longest_turn;
  longest_delay = s.delays.longest;
  loans = s.watch.loans;
  longest_loan = s.watch.longest_loan;
}

-- what is seen of this many nodes once these entries were woven
abbrev pub seen_of : ℕ → List Moment → Seen
seen_of n ms = fold seen_after (nothing_seen n) ms

abbrev pub summary_of : ℕ → List Moment → RecordingSummary
summary_of n ms = numbers_of n (seen_of n ms)
