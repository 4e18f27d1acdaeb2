-- The nodes that the privilege visits, and the desks that it passes.
use Rattle.std.specs.Prelude.{◌≡◌, ◌≢◌, ℕ, zero, suc, ◌+◌, ◌-◌, ◌*◌, ◌<◌, ◌⊎◌, List, [], ◌∷◌, ◌++◌, length}
use Rattle.std.specs.Prelude.{Bool, true, false, ◌==◌, ◌&&◌, ◌||◌, IsTrue, IsFalse}
use Rattle.tree_convergence.specs.lock_desk.Act.{desk_act}
use Rattle.tree_convergence.specs.lock_desk.Desk.{waits, borrows}
use Rattle.tree_convergence.specs.lock_desk.declared.act.DeskAct.TheVariants.{Lost}
use Rattle.topology.specs.Eccentricity.{sharp_of}
use Rattle.run_model.specs.World.{World, IsWorldInRange}
use Rattle.run_model.specs.Step.{step}
use Rattle.run_model.specs.Run.{run, is_damage, IsUndamaged}
use Rattle.run_model.specs.Privilege.{is_lending}
use Rattle.run_model.specs.Sweep.{Sweeps}
use Rattle.run_model.specs.Visited.{is_privileged_once}
use Rattle.run_model.specs.declared.event.Event.{Event}
use Rattle.run_model.specs.declared.event.Event.TheVariants.{Leave}
use Rattle.convergence.specs.Legitimate.{IsLegitimate}

-- from a legitimate world, each node is privileged at some moment of any 16(n - 1) sweeps
abbrev pub LegitimateVisits : Type 0
LegitimateVisits =
    (w : World) (es : List Event) (v : ℕ) → IsWorldInRange w → IsUndamaged w es → IsLegitimate w
    → v < w.net.nodes
    → Sweeps w (16 * (w.net.nodes - 1)) es → IsTrue (is_privileged_once w es v)

-- the run comes to a legitimate world, and then, or at a later moment of the run, v is privileged
abbrev pub IsVisitedOnceLegitimate : World → List Event → ℕ → Type 0
IsVisitedOnceLegitimate w es v =
    (first : List Event) × (rest : List Event) × (es ≡ first ++ rest)
    × IsLegitimate (run w first) × IsTrue (is_privileged_once (run w first) rest v)

-- from any world, over this many sweeps the world becomes legitimate, and each node is privileged then
-- or later
abbrev pub EachStateVisits : Type 0
EachStateVisits =
    (w : World) (es : List Event) (v : ℕ) → IsWorldInRange w → IsUndamaged w es → v < w.net.nodes
    → Sweeps w (sharp_of w.net + 16 * (w.net.nodes - 1)) es → IsVisitedOnceLegitimate w es v

-- If a machine of v moves while a ticket waits at its desk, the desk is marked as having served,
-- which damage may have written, or a loan ends in that very event,
abbrev pub MovesPassServed : Type 0
MovesPassServed =
    (w : World) (e : Event) (v t : ℕ) → is_damage w e ≡ false
    → ((step w e).node v).value t ≢ (w.node v).value t
    → 0 < length (w.node v).desk.waiting
    → ((w.node v).desk.served ≡ true)
    ⊎ ((ticket : ℕ) × (desk_act (w.node v).desk ((step w e).node v).desk ≡ Lost ticket))

-- and in any case the desk then lends to nobody and is not marked as having served.
abbrev pub MovesClearDesks : Type 0
MovesClearDesks =
    (w : World) (e : Event) (v t : ℕ) → is_damage w e ≡ false
    → ((step w e).node v).value t ≢ (w.node v).value t
    → IsFalse (is_lending (step w e) v) × (((step w e).node v).desk.served ≡ false)

-- the ticket is at that place of the list; the first place is 0
abbrev pub IsAtPlace : ℕ → ℕ → List ℕ → Type 0
IsAtPlace t i [] = ⊥
IsAtPlace t zero (x ∷ xs) = x ≡ t
IsAtPlace t (suc i) (x ∷ xs) = IsAtPlace t i xs

-- the lock is lent to the ticket at v at some moment of a run, including its start and its end
abbrev pub is_lent_once : World → List Event → ℕ → ℕ → Bool
is_lent_once w [] v t = borrows (w.node v).desk t
is_lent_once w (e ∷ es) v t = borrows (w.node v).desk t || is_lent_once (step w e) es v t

-- the event is that the ticket leaves at v
abbrev pub is_leave : Event → ℕ → ℕ → Bool
is_leave (Leave u s) v t = (u == v) && (s == t)
is_leave _ v t = false

-- the ticket leaves at v while it waits there
abbrev pub gives_up : World → List Event → ℕ → ℕ → Bool
gives_up w [] v t = false
gives_up w (e ∷ es) v t = (is_leave e v t && waits (w.node v).desk t) || gives_up (step w e) es v t

-- Service: a ticket at place i of a desk's list that does not leave while it waits is lent the
-- lock within 8(n - 1)(i + 2) sweeps.
abbrev pub WaitingAreServed : Type 0
WaitingAreServed =
    (w : World) (es : List Event) (v t i : ℕ) → IsWorldInRange w → IsUndamaged w es → IsLegitimate w
    → v < w.net.nodes
    → IsAtPlace t i (w.node v).desk.waiting → IsFalse (gives_up w es v t)
    → Sweeps w (8 * (w.net.nodes - 1) * (i + 2)) es → IsTrue (is_lent_once w es v t)
