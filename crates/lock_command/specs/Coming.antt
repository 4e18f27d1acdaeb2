-- What the events of a session come from.
use Rattle.std.specs.Prelude.{◌≡◌, true, false, None, is_some}
use Rattle.held_signals.specs.Signals.{holds, including}
use Rattle.lock_client.specs.declared.client.ClientEvent.{ClientEvent}
use Rattle.lock_client.specs.declared.client.ClientEvent.TheVariants as event
use Rattle.lock_command.specs.declared.session.Session.{Session}
use Rattle.lock_command.specs.Working.{is_running}

-- Each event has a source, and whatever ends is reported once: a line comes from a connection, the end of a connection or of a
-- guard from one that is gone afterwards, the end of a time from one that was set, and a held signal from one that was not seen
-- before. Once a command has ended, none runs.
abbrev pub Comes : {P A B C : Type 0} → ClientEvent → Session P A B C → Session P A B C → Type 0
Comes event.Unserved old new = (old.is_unserved ≡ true) × (new.is_unserved ≡ false)
Comes (event.Line answer) old new = is_some old.desk ≡ true
Comes event.Gone old new = (is_some old.desk ≡ true) × (new.desk ≡ None)
Comes event.GuardGone old new = (is_some old.guard ≡ true) × (new.guard ≡ None)
Comes event.TimeIsUp old new = (is_some old.course.due ≡ true) × (new.course.due ≡ None)
Comes (event.Signal signal) old new = (old.holds_signals_back ≡ true) × (holds signal old.seen ≡ false) × (new.seen ≡ including signal old.seen)
Comes (event.Ended end) old new = is_running new.work ≡ false

-- nothing has come: whatever may come still may
abbrev pub Stays : {P A B C : Type 0} → Session P A B C → Session P A B C → Type 0
Stays old new =
    (new.is_unserved ≡ old.is_unserved) × (is_some new.desk ≡ is_some old.desk) × (is_some new.guard ≡ is_some old.guard)
    × (new.course.due ≡ old.course.due) × (new.holds_signals_back ≡ old.holds_signals_back) × (new.seen ≡ old.seen)
