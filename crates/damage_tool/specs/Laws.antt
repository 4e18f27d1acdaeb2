-- What holds of the harms that a scramble draws.
use Rattle.std.specs.Prelude.{◌≡◌, ℕ, ◌<◌, false, List, [], ◌∷◌, None}
use Rattle.rand_pcg.specs.Lcg.{Lcg}
use Rattle.run_model.specs.lock_desk.Desk.{waits}
use Rattle.run_model.specs.World.{World, IsWorldInRange}
use Rattle.run_model.specs.Step.{refusal, step}
use Rattle.run_model.specs.Run.{run}
use Rattle.run_model.specs.declared.event.Event.{Event}
use Rattle.damage_tool.specs.Draws.{draw}
use Rattle.damage_tool.specs.Harms.{draw_world}

-- no event of the list is refused, if they happen one after the other
abbrev pub AreAccepted : World → List Event → Type 0
AreAccepted w [] = Unit {0}
AreAccepted w (e ∷ es) = (refusal w e ≡ None) × AreAccepted (step w e) es

-- the ticket waits at no node; so it is for every ticket if no client waits
abbrev pub WaitsNowhere : World → ℕ → Type 0
WaitsNowhere w t = (v : ℕ) → v < w.net.nodes → waits (w.node v).desk t ≡ false

-- Whatever is drawn, each harm is accepted, and so in range, in every world in which the ticket
-- 65535 waits nowhere: it is the only one that a scramble lends to.
abbrev pub ScrambleIsAccepted : Type 0
ScrambleIsAccepted =
    (w : World) (g : Lcg) → IsWorldInRange w → WaitsNowhere w 65535
    → AreAccepted w (draw_world w.net g).0

-- and at the end of the harms the network is the same
abbrev pub ScrambleKeepsNetwork : Type 0
ScrambleKeepsNetwork =
    (w : World) (g : Lcg) → IsWorldInRange w → WaitsNowhere w 65535
    → (run w (draw_world w.net g).0).net ≡ w.net

-- a draw from k numbers is below k
abbrev pub DrawsAreBelow : Type 0
DrawsAreBelow = (k : ℕ) (g : Lcg) → 0 < k → (draw k g).0 < k
