-- The events of a measured run: stretch after stretch what its scheduler says, and after each
-- stretch whoever has the lock gives it back.
use Rattle.std.specs.Prelude.{◌≡◌, ◌≤◌, ◌⊎◌, ℕ, ◌+◌, ◌*◌, zero, suc, false, nat_lt, if◌then◌else◌, List, [], ◌∷◌, ◌++◌, length, Option, None, Some}
use Rattle.std.specs.List.{flat_map, range_with_len}
use Rattle.rand_pcg.specs.Lcg.{Lcg}
use Rattle.topology.specs.Network.{Network}
use Rattle.topology.specs.Eccentricity.{sharp_of}
use Rattle.run_model.specs.World.{World}
use Rattle.run_model.specs.Run.{run}
use Rattle.run_model.specs.declared.event.Event.{Event}
use Rattle.run_model.specs.declared.event.Event.TheVariants.{Leave}
use Rattle.schedules.specs.Rounds.{round}
use Rattle.schedules.specs.Random.{draw_step}
use Rattle.schedules.specs.Slow.{slow_link, slow_node, slow_round}
use Rattle.schedules.specs.declared.random.Chances.{Chances}
use Rattle.experiments.specs.declared.measured_run.Scheduler.{Scheduler}
use Rattle.experiments.specs.declared.measured_run.Scheduler.TheVariants.{Rounds, Random, SlowLink, SlowNode}

-- ticks, sends and takes alone: no item is lost, and no client comes
abbrev pub plain : Chances
plain = record { loss = 0; clients = false }

-- the first n steps that a generator draws, and the generator after them
abbrev pub plain_steps : Network → ℕ → Lcg → List Event × Lcg
plain_steps net zero g = ([], g)
plain_steps net (suc n) g =
    let before = plain_steps net n g in
    let drawn = draw_step net plain before.1 in
    (before.0 ++ drawn.0 ∷ [], drawn.1)

-- The stretch after n others, and the generator after it: a round; or as many steps as there are
-- nodes, plus four for each edge; or round n with the slow link, or the slow node, that the
-- generator's next words name. Rounds draw nothing, so that is the same link or node in each of
-- them.
abbrev pub stretch_of : Scheduler → Network → ℕ → Lcg → List Event × Lcg
stretch_of Rounds net n g = (round net, g)
stretch_of Random net n g = plain_steps net (net.nodes + 4 * length net.edges) g
stretch_of (SlowLink share) net n g = (slow_round net (slow_link net g) share n, g)
stretch_of (SlowNode share) net n g = (slow_round net (slow_node net g) share n, g)

-- the ticket that a node lends to; none if there is no such node
abbrev pub lent_at : World → ℕ → Option ℕ
lent_at w v = if nat_lt v w.net.nodes then (w.node v).desk.lent else None

-- a ticket, if there is one, leaves at a node
abbrev pub leave_of : ℕ → Option ℕ → List Event
leave_of v None = []
leave_of v (Some ticket) = Leave v ticket ∷ []

-- whoever has the lock at a node gives it back
abbrev pub leave_at : World → ℕ → List Event
leave_at w v = leave_of v (lent_at w v)

-- whoever has the lock gives it back, node after node
abbrev pub leaves : World → List Event
leaves w = flat_map (leave_at w) (range_with_len 0 w.net.nodes)

-- the first n stretches of a run from a world on, each with the leaves after it, and the generator
-- after them
abbrev pub stretches : Scheduler → Network → World → Lcg → ℕ → List Event × Lcg
stretches scheduler net w g zero = ([], g)
stretches scheduler net w g (suc n) =
    let before = stretches scheduler net w g n in
    let stretch = stretch_of scheduler net n before.1 in
    let events = before.0 ++ stretch.0 in
    (events ++ leaves (run w events), stretch.1)

-- at its end a run has had at least as many sweeps as the sharper bound says, or 1000 stretches for
-- each of them
abbrev pub HasEnough : Network → ℕ → ℕ → Type 0
HasEnough net seen count = (sharp_of net ≤ seen) ⊎ (count ≡ sharp_of net * 1000)
