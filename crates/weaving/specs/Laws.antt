-- The laws of weaving.
use Rattle.std.specs.Prelude.{◌≡◌, ℕ, ◌<◌, IsTrue, List, [], ◌∷◌, length, None}
use Rattle.run_model.specs.World.{World, IsWorldInRange}
use Rattle.run_model.specs.Step.{refusal, step, has_room}
use Rattle.run_model.specs.Run.{run}
use Rattle.run_model.specs.declared.event.Event.{Event}
use Rattle.run_model.specs.declared.event.Event.TheVariants.{Send, Take, Lose, Tick, Ask, Leave, Damage}
use Rattle.weaving.specs.declared.journal.JournalEntry.{JournalEntry}
use Rattle.weaving.specs.Woven.{IsWoven}
use Rattle.weaving.specs.Account.{Note}
use Rattle.weaving.specs.Matched.{AreMatched, AreOf}

-- the event is a tick, a send to a link that has room, or a take of an item that is there
abbrev pub HasEffect : World → Event → Type 0
HasEffect w (Tick v) = Unit {0}
HasEffect w (Send u v) = IsTrue (has_room w u v)
HasEffect w (Take u v) = 0 < length (w.link u v)
HasEffect w (Lose u v i) = ⊥
HasEffect w (Ask v t) = ⊥
HasEffect w (Leave v t) = ⊥
HasEffect w (Damage h) = ⊥

-- every event of the list has an effect, and none is refused
abbrev pub GoesThrough : World → List Event → Type 0
GoesThrough w [] = Unit {0}
GoesThrough w (e ∷ es) = (refusal w e ≡ None) × HasEffect w e × GoesThrough (step w e) es

-- the woven list of matching journals is a run from one world to the other: no event is refused,
-- no send meets a full link, and no take an empty one
abbrev pub WovenIsRun : Type 0
WovenIsRun =
    (w last : World) (account : ℕ → List Note) (journal : ℕ → List JournalEntry) (events : List Event)
    → IsWorldInRange w → AreMatched w account last → AreOf account journal → IsWoven journal events
    → (run w events ≡ last) × GoesThrough w events

-- journals have only one woven list
abbrev pub OneWovenList : Type 0
OneWovenList =
    (journal : ℕ → List JournalEntry) (xs ys : List Event) → IsWoven journal xs → IsWoven journal ys
    → xs ≡ ys
