-- What a node on its own thread must do if it can.
use Rattle.std.specs.Prelude.{◌≡◌, ℕ, ◌+◌, ◌<◌, ◌≤◌, min, IsTrue, List, [], All, map, length}
use Rattle.topology.specs.Network.{are_joined}
use Rattle.run_model.specs.World.{World}
use Rattle.run_model.specs.Step.{has_room}
use Rattle.run_model.specs.declared.event.Event.{Event}
use Rattle.weaving.specs.Account.{Note, entry_of, sent_to, taken_from}
use Rattle.node_runner.specs.declared.runner.Runner.{Runner}
use Rattle.node_runner.specs.Stamps.{last_stamp, last_place}
use Rattle.node_runner.specs.Runner.{IsNoted}
use Rattle.node_runner.specs.FirstTurn.{IsFirstTurn}

-- the notes of v as events
abbrev pub events_of : ℕ → List Note → List Event
events_of v notes = map (λ d. (entry_of v d).event) notes

-- no link holds more than its capacity
abbrev pub IsWithin : World → Type 0
IsWithin w = (u v : ℕ) → IsTrue (are_joined w.net.edges u v) → length (w.link u v) ≤ w.net.capacity

-- If the link to u had room in the world that the run began with, nothing was sent over it so far,
-- and the clock is not at its end, then something is noted.
abbrev pub IsSendDue : {A : Type 0} → ℕ → Runner A → List Note → Type 0
IsSendDue u r notes =
    (w : World) (v : ℕ) (past : List Note)
    → IsNoted w v past r → IsTrue (has_room w v u) → sent_to u past ≡ [] → r.clock < last_stamp → 0 < length notes

-- If the link from u held more items in that world than were taken so far, then something is
-- noted.
abbrev pub IsTakeDue : {A : Type 0} → ℕ → Runner A → List Note → Type 0
IsTakeDue u r notes =
    (w : World) (v : ℕ) (past : List Note)
    → IsNoted w v past r → IsWithin w → length (taken_from u past) < length (w.link u v) → 0 < length notes

-- once the clock is past the stamps of places, it rises by at most this much
abbrev pub IsSlow : {A : Type 0} → ℕ → Runner A → Runner A → Type 0
IsSlow steps old new = (bound : ℕ) → last_place ≤ bound → old.clock ≤ bound → new.clock ≤ bound + steps

-- These notes have a send to each of these neighbours whose link had room and was not used so far;
-- the clock is that of a first turn.
abbrev pub AreSendsDue : {A : Type 0} → List ℕ → Runner A → List Note → Type 0
AreSendsDue us r notes =
    (w : World) (v : ℕ) (past : List Note)
    → IsNoted w v past r → ((u : ℕ) → sent_to u past ≡ []) → r.clock ≤ last_place + 1 → length r.ports.items ≤ 64
    → All (λ u. IsTrue (has_room w v u) → 0 < length (sent_to u notes)) us

-- From each of these neighbours, if nothing was taken so far, these notes take at least as many
-- items as there were on the link, or two if there were more.
abbrev pub AreTakesDue : {A : Type 0} → List ℕ → Runner A → List Note → Type 0
AreTakesDue us r notes =
    (w : World) (v : ℕ) (past : List Note)
    → IsNoted w v past r → IsWithin w → ((u : ℕ) → taken_from u past ≡ [])
    → All (λ u. min 2 (length (w.link u v)) ≤ length (taken_from u notes)) us

-- At the start of a run, these notes begin with a whole first turn.
abbrev pub BeginsWhole : {A : Type 0} → Runner A → List Note → Type 0
BeginsWhole r notes =
    r.clock ≡ 0 → length r.ports.items ≤ 64
    → (w : World) (v : ℕ) → IsNoted w v [] r → IsWithin w → IsFirstTurn w v (events_of v notes)
