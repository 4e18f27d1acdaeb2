-- How a list of events goes through.
use Rattle.std.specs.Prelude.{◌≡◌, ◌<◌, IsTrue, List, [], ◌∷◌, length, None, not}
use Rattle.lock_desk.specs.Desk.{ask_fault, is_stranger}
use Rattle.run_model.specs.World.{World}
use Rattle.run_model.specs.Step.{refusal, step, has_room, desk_fault, unless}
use Rattle.run_model.specs.declared.event.Event.{Event}
use Rattle.run_model.specs.declared.event.Event.TheVariants.{Send, Take, Lose, Tick, Ask, Leave, Damage}
use Rattle.run_model.specs.declared.event.EventFault.TheVariants.{Stranger}

-- Only an ask or a leave may be refused, and only by the desk; a send finds room, and a take an
-- item; and the event is no damage.
abbrev pub IsDone : World → Event → Type 0
IsDone w (Tick v) = refusal w (Tick v) ≡ None
IsDone w (Send u v) = (refusal w (Send u v) ≡ None) × IsTrue (has_room w u v)
IsDone w (Take u v) = (refusal w (Take u v) ≡ None) × (0 < length (w.link u v))
IsDone w (Lose u v i) = refusal w (Lose u v i) ≡ None
IsDone w (Ask v t) = refusal w (Ask v t) ≡ desk_fault (ask_fault t (w.node v).desk)
IsDone w (Leave v t) =
    refusal w (Leave v t) ≡ unless (not (is_stranger t (w.node v).desk)) Stranger
IsDone w (Damage h) = ⊥

-- this holds of every event of the list when it happens
abbrev pub GoesThrough : World → List Event → Type 0
GoesThrough w [] = Unit {0}
GoesThrough w (e ∷ es) = IsDone w e × GoesThrough (step w e) es
